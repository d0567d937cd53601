-- The lent length was tested against the log, so that this part of it is there.
use native.Mathlib.Omega.{arith}
use mathlib.Core.Path.{sym}
use lib.Seq.{length-take-le}
use Rattle.state_table_main.proofs.stepped.Goals as goal

pub slice_bounds-step-end-2 : goal.slice_bounds-step-end-2
slice_bounds-step-end-2 c = sym (length-take-le _ _ (omega arith))
