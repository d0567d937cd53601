-- Each is read from its own place.
use mathlib.Core.List.{map}
use Rattle.lists.proofs.Loops.{Filled}
use Rattle.rows.specs.Memory.{enlistment_in}
use Rattle.lent_tables.proofs.enlistments_in.Given as goal

abbrev pub invariant-loop-i : goal.invariant-loop-i
invariant-loop-i l = Filled (λ k. map enlistment_in) 128 l.rows l.enlistments l.i
