-- Each byte is stored behind the one before it, so that those that are left give the whole.
use lib.ListN.{length}
use Rattle.lists.proofs.Stores.{Stored}
use Rattle.log_writer.proofs.put_bytes.Given as goal

abbrev pub invariant-loop-i : goal.invariant-loop-i
invariant-loop-i l = Stored (length l.bytes) l.bytes l.initial.log l.at l.log l.i
