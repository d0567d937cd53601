-- What was written is a part of the buffer, which a store leaves as long as it was.
use native.Mathlib.Omega.{arith}
use mathlib.Core.Path.{ap, sym}
use lib.ListN.{length}
use lib.Seq.{length-sets, length-take-le}
use Rattle.state_table_main.proofs.writer.outcome.Goals as goal

pub slice_bounds-line-end : goal.slice_bounds-line-end
slice_bounds-line-end c = omega (arith, simp length-sets at (ap length c.write_line-n.ensures.bytes))

pub slice_bounds-text-length : goal.slice_bounds-text-length
slice_bounds-text-length c = sym (length-take-le _ _ (omega (arith, simp length-sets at (ap length c.write_line-n.ensures.bytes))))
