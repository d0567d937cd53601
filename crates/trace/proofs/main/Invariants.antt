-- Between two blocks the program stands where the bytes that it has read lead from its start, and nothing waits: each turn keeps that, and counts down.
use Rattle.trace.proofs.Reached.{Reached}
use Rattle.trace.proofs.main.Given as goal

abbrev pub invariant-loop : goal.invariant-loop
invariant-loop l = Reached l.s l.heads l.rows l.log l.line l.output
