-- What is sorted stands in order, since numbers are ordered and identifiers too, bytes compared from the first.
use mathlib.Core.List.{List}
use Rattle.lists.specs.Sorting.{sort_by}
use Rattle.lists.proofs.Sorting.{Sorted, sorted_sort, orders_by, orders_numbers}
use Rattle.rules.specs.declared.Enlistment.{Enlistment}
use Rattle.rules.specs.declared.Table.{Table}
use Rattle.rules.specs.Table.{id_at}
use Rattle.rules.specs.Signals.{by_number}
use Rattle.rules.specs.Events.{by_identifier, finished}
use Rattle.rules.specs.Listing.{live_places}
use Rattle.rules.proofs.Identifiers.{orders_bytes}

-- "enlistments by ascending number"
pub by_number_ascends : (es : List Enlistment) → Sorted by_number (sort_by by_number es)
by_number_ascends es = sorted_sort (orders_by (λ (e : Enlistment). e.number) orders_numbers) es

-- "several in one event go by ascending identifier"
pub finished_ascends : (tb : Table) → Sorted (by_identifier tb) (finished tb)
unfolding finished
finished_ascends tb = sorted_sort (orders_by (λ p. id_at p tb) orders_bytes) _

-- "one per live transaction, by ascending identifier"
pub listing_ascends : (tb : Table) → Sorted (by_identifier tb) (live_places tb)
unfolding live_places
listing_ascends tb = sorted_sort (orders_by (λ p. id_at p tb) orders_bytes) _
