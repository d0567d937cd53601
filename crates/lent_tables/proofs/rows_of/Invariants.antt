-- Each is stored in its own place.
use Rattle.rows.specs.Memory.{enlistment_in}
use Rattle.rows.proofs.Mapped.{Written}
use Rattle.lent_tables.proofs.rows_of.Given as goal

abbrev pub invariant-loop-i : goal.invariant-loop-i
invariant-loop-i l = Written enlistment_in 128 l.e-items l.rows l.i
