-- What is put back into the memory is put into its table: each list of the table is what the memory's means, and the transaction alone stands at its own place.
use Prim.Native.Nat.{ℕ}
use mathlib.Core.Path.{◌≡◌}
use mathlib.Core.List.{List, map}
use Rattle.lists.specs.Places.{change_at}
use Rattle.rules.specs.Table.{held_by}
use Rattle.holdings.specs.declared.Holding.{Holding}
use Rattle.holdings.specs.Holdings.{alone, Placed}
use Rattle.holdings.specs.Within.{refill, within}
use Rattle.holdings.proofs.Laws.{alone_at}
use Rattle.rows.specs.Memory.{transaction_in, enlistment_in, table_in}

pub put_within : (heads rows heads' rows' : List (List ℕ)) (capacity used : ℕ) (h : Holding) → Placed h.place
    → map transaction_in heads' ≡ change_at h.place (λ x. h.transaction) (map transaction_in heads) → map enlistment_in rows' ≡ refill (held_by h.place) h.enlistments (map enlistment_in rows)
    → table_in heads' rows' capacity h.used ≡ within (table_in heads rows capacity used) h.place (alone h)
unfolding alone
put_within heads rows heads' rows' capacity used h placed e f = rw (e, f, alone_at h placed)
