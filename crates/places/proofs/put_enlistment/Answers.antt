-- Place p is index p - 1; place 0 and those past the end take nothing.
use Prim.Native.Nat.{◌-◌}
use native.Mathlib.Omega.{arith}
use mathlib.Core.Path.{◌≡◌}
use lib.ListN.{length}
use lib.Seq.{set_out}
use borrow.Author.Tests.{eq-eqb, ne_eqb}
use Rattle.lists.proofs.Loops.{long}
use Rattle.lists.proofs.Places.{change_is}
use Rattle.rules.specs.Table.{no_enlistment}
use Rattle.places.proofs.put_enlistment.Goals as goal

pub returns-then-p-eq0 : goal.returns-then-p-eq0
returns-then-p-eq0 c = rw (change_is (λ y. c.args.e) c.args.p no_enlistment, eq-eqb _ _ c.if-p-eq0.true)

pub returns-then-k-lt-ENLISTMENTS : goal.returns-then-k-lt-ENLISTMENTS
returns-then-k-lt-ENLISTMENTS c = rw (change_is (λ y. c.args.e) c.args.p no_enlistment, ne_eqb _ _ c.if-p-eq0.false)

pub returns : goal.returns
returns c = let h : length c.args.table.enlistments ≡ 128 = search long in rw (change_is (λ y. c.args.e) c.args.p no_enlistment, ne_eqb _ _ c.if-p-eq0.false, set_out c.args.table.enlistments (c.args.p - 1) c.args.e (omega arith))
