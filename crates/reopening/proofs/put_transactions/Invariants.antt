-- Each record's transaction goes behind the one before it, so that the records that are left give the whole.
use Rattle.open_records.specs.Opening.{opens_of}
use Rattle.reopening.proofs.Building.{Naming}
use Rattle.reopening.proofs.put_transactions.Given as goal

abbrev pub invariant-loop-i : goal.invariant-loop-i
invariant-loop-i l = Naming (opens_of l.log l.fn.records) l.initial.table l.table l.i
