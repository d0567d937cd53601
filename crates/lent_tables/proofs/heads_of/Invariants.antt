-- Each is stored in its own place.
use Rattle.rows.specs.Memory.{transaction_in}
use Rattle.rows.proofs.Mapped.{Written}
use Rattle.lent_tables.proofs.heads_of.Given as goal

abbrev pub invariant-loop-i : goal.invariant-loop-i
invariant-loop-i l = Written transaction_in 32 l.x-items l.heads l.i
