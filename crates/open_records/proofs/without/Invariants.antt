-- Each place that is passed is kept, or was the transaction's, so that the places that are left, behind those kept, give the whole.
use Rattle.lists.proofs.Loops.{Ahead}
use Rattle.open_records.specs.Opening.{starts_of, none_open, kept_from}
use Rattle.open_records.proofs.without.Given as goal

abbrev pub invariant-loop-at : goal.invariant-loop-at
invariant-loop-at l = Ahead (kept_from l.log l.id l.left) (starts_of l.fn.records) (kept_from l.log l.id none_open (starts_of l.fn.records)) l.at-index
