-- Each entry goes behind the one before it, so that the entries that are left give the whole.
use Rattle.log_reader.specs.Reading.{entries_at}
use Rattle.reopening.proofs.Building.{Entering}
use Rattle.reopening.proofs.put_entries.Given as goal

abbrev pub invariant-loop-j : goal.invariant-loop-j
invariant-loop-j l = Entering l.p (entries_at l.log l.at) l.k l.initial.table l.table l.j
