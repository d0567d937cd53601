-- Place p is index p - 1; place 0 and those past the end are none.
use Prim.Native.Nat.{◌-◌}
use native.Mathlib.Omega.{arith}
use mathlib.Core.List.{[], map}
use lib.ListN.{length-map, get_or-eq_default}
use borrow.Author.Tests.{eq-eqb, ne_eqb}
use Rattle.lists.proofs.Places.{at_is}
use Rattle.rules.specs.Table.{no_transaction}
use Rattle.rows.specs.Memory.{transaction_in}
use Rattle.rows.proofs.Mapped.{stands}
use Rattle.lent_places.proofs.transaction_at.Goals as goal

pub returns-then-p-eq0 : goal.returns-then-p-eq0
returns-then-p-eq0 c = rw (at_is, eq-eqb _ _ c.if-p-eq0.true) c.no_transaction.ensures

pub returns-then-k-lt-TRANSACTIONS : goal.returns-then-k-lt-TRANSACTIONS
returns-then-k-lt-TRANSACTIONS c =
    let heads = c.args.heads.now in let k = c.args.p - 1 in
    rw (at_is, ne_eqb _ _ c.if-p-eq0.false)
    (stands transaction_in heads k [] no_transaction (omega (arith, c.told-heads, c.if-k-lt-TRANSACTIONS.true))
    c.transaction_in.ensures)

pub returns : goal.returns
returns c =
    let heads = c.args.heads.now in let k = c.args.p - 1 in
    rw (
      at_is,
      ne_eqb _ _ c.if-p-eq0.false,
      get_or-eq_default (map transaction_in heads) no_transaction {n = k}
          (omega (arith, length-map heads transaction_in, c.told-heads, c.if-k-lt-TRANSACTIONS.false)),
    ) c.no_transaction-2.ensures
