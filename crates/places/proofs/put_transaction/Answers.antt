-- Place p is index p - 1; place 0 and those past the end take nothing.
use Prim.Native.Nat.{◌-◌}
use native.Mathlib.Omega.{arith}
use mathlib.Core.Path.{◌≡◌}
use lib.ListN.{length}
use lib.Seq.{set_out}
use borrow.Author.Tests.{eq-eqb, ne_eqb}
use Rattle.lists.proofs.Loops.{long}
use Rattle.lists.proofs.Places.{change_is}
use Rattle.rules.specs.Table.{no_transaction, change_transaction}
use Rattle.places.proofs.put_transaction.Goals as goal

pub returns-then-p-eq0 : goal.returns-then-p-eq0
unfolding change_transaction
returns-then-p-eq0 c = rw (change_is (λ y. c.args.x) c.args.p no_transaction, eq-eqb _ _ c.if-p-eq0.true)

pub returns-then-k-lt-TRANSACTIONS : goal.returns-then-k-lt-TRANSACTIONS
unfolding change_transaction
returns-then-k-lt-TRANSACTIONS c = rw (change_is (λ y. c.args.x) c.args.p no_transaction, ne_eqb _ _ c.if-p-eq0.false)

pub returns : goal.returns
unfolding change_transaction
returns c = let h : length c.args.table.transactions ≡ 32 = search long in rw (change_is (λ y. c.args.x) c.args.p no_transaction, ne_eqb _ _ c.if-p-eq0.false, set_out c.args.table.transactions (c.args.p - 1) c.args.x (omega arith))
