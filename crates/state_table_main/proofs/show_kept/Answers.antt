-- What is kept is within the line, so that this part of it is there.
use native.Mathlib.Omega.{arith}
use mathlib.Core.Path.{sym}
use lib.Seq.{length-take-le}
use Rattle.state_table_main.proofs.show_kept.Goals as goal

pub slice_bounds-show-end : goal.slice_bounds-show-end
slice_bounds-show-end c = sym (length-take-le _ _ (omega arith))
