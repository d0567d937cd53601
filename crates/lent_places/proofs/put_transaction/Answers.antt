-- Place p is index p - 1; place 0 and those past the end take nothing.
use Prim.Native.Nat.{◌-◌}
use native.Mathlib.Omega.{arith}
use mathlib.Core.List.{map}
use lib.ListN.{length-map}
use lib.Seq.{set_out}
use borrow.Author.Tests.{eq-eqb, ne_eqb}
use Rattle.lists.proofs.Places.{change_is}
use Rattle.rules.specs.Table.{no_transaction}
use Rattle.rows.specs.Memory.{transaction_in}
use Rattle.rows.proofs.Mapped.{map_set}
use Rattle.lent_places.proofs.put_transaction.Goals as goal

pub returns-then-p-eq0 : goal.returns-then-p-eq0
returns-then-p-eq0 c = rw (change_is (λ y. c.args.x) c.args.p no_transaction, eq-eqb _ _ c.if-p-eq0.true)

pub returns-then-k-lt-TRANSACTIONS : goal.returns-then-k-lt-TRANSACTIONS
returns-then-k-lt-TRANSACTIONS c =
    rw (change_is (λ y. c.args.x) c.args.p no_transaction, ne_eqb _ _ c.if-p-eq0.false, map_set, c.head_of.ensures)

pub returns-else-k-lt-TRANSACTIONS : goal.returns-else-k-lt-TRANSACTIONS
returns-else-k-lt-TRANSACTIONS c =
    let heads = c.args.heads.now in
    rw (
      change_is (λ y. c.args.x) c.args.p no_transaction,
      ne_eqb _ _ c.if-p-eq0.false,
      set_out (map transaction_in heads) (c.args.p - 1) c.args.x
          (omega (arith, length-map heads transaction_in, c.told-heads, c.if-k-lt-TRANSACTIONS.false)),
    )
