-- A part that is no longer than the vector is as long as it says.
use native.Mathlib.Omega.{arith}
use mathlib.Core.Path.{sym}
use lib.Seq.{length-take-le}
use Rattle.messages_main.proofs.branching_part.Goals as goal

pub slice_bounds-show-end : goal.slice_bounds-show-end
slice_bounds-show-end c = sym (length-take-le _ _ (omega arith))
