-- What waits is within the output's memory, and only the count of it and the output's answer are set.
use native.Mathlib.Omega.{arith}
use lib.ListN.{length-take}
use Rattle.trace.proofs.Turns.{flushed_writes}
use Rattle.trace.proofs.flush.Goals as goal

pub slice_bounds-write_all-end : goal.slice_bounds-write_all-end
slice_bounds-write_all-end c = simp length-take (omega arith)

pub returns : goal.returns
returns c = flushed_writes c.flushed.ensures
