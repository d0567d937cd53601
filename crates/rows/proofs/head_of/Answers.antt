-- The identifier is copied to the front and the state stored behind it, and so both read back.
use Rattle.std.proofs.Common.{◌≡◌, refl, [], ◌∷◌, length, rules}
use native.Mathlib.Omega.{arith}
use Rattle.std.proofs.lemmas.List.{take_at, set-append_right, get_or-append_right}
use Rattle.rules.specs.declared.Transaction.{Transaction}
use Rattle.rows.specs.Memory.{transaction_in}
use Rattle.rows.proofs.head_of.Goals as goal

pub returns : goal.returns
unfolding transaction_in
returns c =
    let x : Transaction = c.args.x in
    let long : length x.id.0 ≡ 16 = search rules in
    rw (
      c.copy_from_slice.ensures.after,
      set-append_right x.id.0 (0 ∷ []) 16 16 x.state long (omega arith),
      take_at x.id.0 _ 16 long,
      get_or-append_right x.id.0 (x.state ∷ []) 16 16 0 long (omega arith),
    ) refl
