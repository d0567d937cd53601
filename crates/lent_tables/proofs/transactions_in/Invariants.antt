-- Each is read from its own place.
use mathlib.Core.List.{map}
use Rattle.lists.proofs.Loops.{Filled}
use Rattle.rows.specs.Memory.{transaction_in}
use Rattle.lent_tables.proofs.transactions_in.Given as goal

abbrev pub invariant-loop-i : goal.invariant-loop-i
invariant-loop-i l = Filled (λ k. map transaction_in) 32 l.heads l.transactions l.i
