-- Place p is index p - 1; place 0 and those past the end are none.
use Prim.Native.Nat.{◌-◌}
use native.Mathlib.Omega.{arith}
use mathlib.Core.Path.{◌≡◌}
use lib.ListN.{length, get_or-eq_default}
use borrow.Author.Tests.{eq-eqb, ne_eqb}
use Rattle.lists.proofs.Loops.{long, get_or_any}
use Rattle.lists.proofs.Places.{at_is}
use Rattle.rules.specs.Table.{no_transaction}
use Rattle.places.proofs.transaction_at.Goals as goal

pub returns-then-p-eq0 : goal.returns-then-p-eq0
returns-then-p-eq0 c = rw (at_is, eq-eqb _ _ c.if-p-eq0.true) c.no_transaction.ensures

pub returns-then-k-lt-TRANSACTIONS : goal.returns-then-k-lt-TRANSACTIONS
returns-then-k-lt-TRANSACTIONS c = let h : length c.args.table.transactions ≡ 32 = search long in rw (at_is, ne_eqb _ _ c.if-p-eq0.false) (get_or_any c.args.table.transactions (c.args.p - 1) _ no_transaction (omega arith))

pub returns : goal.returns
returns c = let h : length c.args.table.transactions ≡ 32 = search long in rw (at_is, ne_eqb _ _ c.if-p-eq0.false, get_or-eq_default c.args.table.transactions no_transaction {n = c.args.p - 1} (omega arith)) c.no_transaction-2.ensures
