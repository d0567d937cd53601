-- Place p is index p - 1; place 0 and those past the end take nothing.
use Prim.Native.Nat.{◌-◌}
use native.Mathlib.Omega.{arith}
use mathlib.Core.List.{map}
use lib.ListN.{length-map}
use lib.Seq.{set_out}
use borrow.Author.Tests.{eq-eqb, ne_eqb}
use Rattle.lists.proofs.Places.{change_is}
use Rattle.rules.specs.Table.{no_enlistment}
use Rattle.rows.specs.Memory.{enlistment_in}
use Rattle.rows.proofs.Mapped.{map_set}
use Rattle.lent_places.proofs.put_enlistment.Goals as goal

pub returns-then-p-eq0 : goal.returns-then-p-eq0
returns-then-p-eq0 c = rw (change_is (λ y. c.args.e) c.args.p no_enlistment, eq-eqb _ _ c.if-p-eq0.true)

pub returns-then-there : goal.returns-then-there
returns-then-there c =
    rw (change_is (λ y. c.args.e) c.args.p no_enlistment, ne_eqb _ _ c.if-p-eq0.false, map_set, c.row_of.ensures)

pub returns-else-there : goal.returns-else-there
returns-else-there c =
    let rows = c.args.rows.now in
    rw (
      change_is (λ y. c.args.e) c.args.p no_enlistment,
      ne_eqb _ _ c.if-p-eq0.false,
      set_out (map enlistment_in rows) (c.args.p - 1) c.args.e
          (omega (arith, length-map rows enlistment_in, c.told-rows, c.if-there.false)),
    )
