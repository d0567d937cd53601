-- The part of the log that is lent is no longer than the log, and so as long as it says.
use Prim.Native.Nat.{◌≤◌}
use native.Mathlib.Omega.{arith}
use mathlib.Core.Path.{sym}
use lib.ListN.{length}
use lib.Seq.{length-take-le}
use Rattle.restart_main.proofs.shown.outcome.Goals as goal

pub slice_bounds-restart-end-2 : goal.slice_bounds-restart-end-2
slice_bounds-restart-end-2 c = sym (length-take-le _ _ (let h : c.args.capacity ≤ length c.args.log.now = omega arith in h))
