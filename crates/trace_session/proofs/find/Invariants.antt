-- None of those passed is the byte, so that its index is as far on as they are many.
use Prim.Native.Nat.{◌+◌, ◌≤◌}
use mathlib.Core.Path.{◌≡◌}
use Rattle.trace_session.specs.Bytes.{index_of, slice}
use Rattle.trace_session.proofs.find.Given as goal

abbrev pub invariant-loop-i : goal.invariant-loop-i
invariant-loop-i l = record {
  above : l.from ≤ l.i;
  within : l.i ≤ l.to;
  same : l.from + index_of l.byte (slice l.from l.to l.block) ≡ l.i + index_of l.byte (slice l.i l.to l.block);
}
