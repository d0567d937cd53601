-- `write_line` gives a size within the buffer, so that so much of it is there to be written.
use native.Mathlib.Omega.{arith}
use mathlib.Core.Path.{ap}
use lib.ListN.{length, length-take}
use lib.Seq.{length-sets}
use Rattle.traces_main.proofs.print_restart.Goals as goal

pub slice_bounds-buffer-end : goal.slice_bounds-buffer-end
slice_bounds-buffer-end c = omega (arith, simp length-sets at (ap length c.write_line-size.ensures.bytes))

pub slice_bounds-write_all-end : goal.slice_bounds-write_all-end
slice_bounds-write_all-end c = simp length-take (omega (arith, simp length-sets at (ap length c.write_line-size.ensures.bytes)))
