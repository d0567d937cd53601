-- Each turn goes past the end of a line; the log stays within the memory.
use Prim.Native.Nat.{◌≤◌, ◌+◌, ◌-◌}
use mathlib.Core.Path.{◌≡◌}
use lib.ListN.{length}
use Rattle.traces_main.proofs.run.Given as goal

abbrev pub invariant-loop-at : goal.invariant-loop-at
invariant-loop-at l = (l.s.capacity ≤ 4096) × (length l.memory ≡ 4096) × (l.at ≤ length l.text + 1)

abbrev pub decreases-loop-at : goal.decreases-loop-at
decreases-loop-at l = length l.text + 1 - l.at
