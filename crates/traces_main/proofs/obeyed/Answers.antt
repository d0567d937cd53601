-- The log's capacity is within the memory, and the size that `obey` gives within the buffer, so that both parts are there.
use native.Mathlib.Omega.{arith}
use mathlib.Core.Path.{ap}
use lib.ListN.{length, length-take}
use lib.Seq.{length-sets}
use Rattle.traces_main.proofs.obeyed.Goals as goal

pub slice_bounds-obey-end-2 : goal.slice_bounds-obey-end-2
slice_bounds-obey-end-2 c = simp length-take (omega arith)

pub slice_bounds-buffer-end : goal.slice_bounds-buffer-end
slice_bounds-buffer-end c = omega (arith, c.obey-o.ensures.within, simp length-sets at (ap length c.obey-o.ensures.bytes))

pub slice_bounds-write_all-end : goal.slice_bounds-write_all-end
slice_bounds-write_all-end c = simp length-take (omega (arith, c.obey-o.ensures.within, simp length-sets at (ap length c.obey-o.ensures.bytes)))
