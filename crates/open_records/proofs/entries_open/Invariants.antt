-- Each record adds as many as its second byte says, so that the sum so far and the entries that are left are all.
use Rattle.open_records.specs.Opening.{opens_of}
use Rattle.open_records.proofs.Rows.{Summed}
use Rattle.open_records.proofs.entries_open.Given as goal

abbrev pub invariant-loop-at : goal.invariant-loop-at
invariant-loop-at l = Summed (opens_of l.log l.fn.records) l.sum l.at-index
