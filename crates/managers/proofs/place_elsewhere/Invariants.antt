-- The places are tested in their order: as long as none was met that passes, the first place is among those that are left.
use Rattle.lists.proofs.Loops.{Sought}
use mathlib.Core.Bool.{not, ◌&&◌}
use Rattle.rules.specs.EnlistmentState.{failed_to_notify}
use Rattle.rules.specs.Table.{is_in}
use Rattle.rules.specs.Events.{is_undone}
use Rattle.managers.proofs.place_elsewhere.Given as goal

abbrev pub invariant-loop-i : goal.invariant-loop-i
invariant-loop-i l = Sought (λ e. is_undone l.rm e && not (is_in failed_to_notify e)) 128 l.e-items l.i
