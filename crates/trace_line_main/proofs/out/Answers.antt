-- What was written is a part of the buffer, which a store leaves as long as it was.
use native.Mathlib.Omega.{arith}
use mathlib.Core.Path.{ap, sym}
use lib.ListN.{length}
use lib.Seq.{length-sets, length-take-le}
use Rattle.trace_line_main.proofs.out.Goals as goal

pub slice_bounds-buffer-end : goal.slice_bounds-buffer-end
slice_bounds-buffer-end c = omega (arith, simp length-sets at (ap length c.write_line-n.ensures.bytes))

pub slice_bounds-write_all-end : goal.slice_bounds-write_all-end
slice_bounds-write_all-end c = sym (length-take-le _ _ (omega (arith, simp length-sets at (ap length c.write_line-n.ensures.bytes))))
