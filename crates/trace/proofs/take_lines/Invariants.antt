-- Each turn takes some of the block. The loop ends where the block does, or where no room is left, which is not before the first turn.
use Prim.Native.Nat.{◌-◌}
use lib.ListN.{length}
use Rattle.trace.proofs.Turns.{Taking}
use Rattle.trace.proofs.take_lines.Given as goal

abbrev pub invariant-loop-s : goal.invariant-loop-s
invariant-loop-s l = Taking l.initial.heads l.initial.rows l.block l.initial.log l.initial.line l.initial.output l.initial.s l.heads l.rows l.log l.line l.output l.s

abbrev pub decreases-loop-s : goal.decreases-loop-s
decreases-loop-s l = length l.block - l.s.taken
