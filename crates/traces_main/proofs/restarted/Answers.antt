-- The log's capacity is within the memory, so that this part of it is there.
use native.Mathlib.Omega.{arith}
use lib.ListN.{length-take}
use Rattle.traces_main.proofs.restarted.Goals as goal

pub slice_bounds-restart-end-2 : goal.slice_bounds-restart-end-2
slice_bounds-restart-end-2 c = simp length-take (omega arith)
