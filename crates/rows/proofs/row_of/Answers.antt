-- The RM and the number are copied to the front and the other fields stored behind them, and so all read back.
use Rattle.std.proofs.Common.{◌≡◌, ◌≤◌, length, rules}
use Rattle.rules.specs.declared.Enlistment.{Enlistment}
use Rattle.rules.specs.Sizes.{largest_number}
use Rattle.rows.proofs.Spelling.{row_stored, row_read}
use Rattle.rows.proofs.row_of.Goals as goal

pub returns : goal.returns
returns c =
    let e : Enlistment = c.args.e in
    let long : length e.rm.0 ≡ 16 = search rules in
    let small : e.number ≤ largest_number = search rules in
    rw (c.copy_from_slice.ensures.after, c.copy_from_slice-2.ensures.after, c.low_of.ensures, row_stored e long) (row_read e long small)
