-- Each entry is stored behind the one before it, so that those that are left give the whole.
use lib.ListN.{length}
use Rattle.log_writer.proofs.Stores.{Entered}
use Rattle.log_writer.proofs.put_entries.Given as goal

abbrev pub invariant-loop-i : goal.invariant-loop-i
invariant-loop-i l = Entered (length l.entries) l.entries l.initial.log l.at l.log l.i
