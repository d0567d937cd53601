-- The entries of a record go behind those before them, so that the records that are left, from that place on, give the whole.
use Rattle.open_records.specs.Opening.{opens_of}
use Rattle.reopening.proofs.Building.{Enlisting}
use Rattle.reopening.proofs.put_enlistments.Given as goal

abbrev pub invariant-loop-i : goal.invariant-loop-i
invariant-loop-i l = Enlisting (opens_of l.log l.fn.records) l.initial.table l.table l.k l.i
