-- The places are tested in their order: as long as none was met that passes, what is left has the same first.
use mathlib.Core.Bool.{◌&&◌}
use Rattle.lists.specs.Lists.{first_or}
use Rattle.lists.proofs.Loops.{Looked}
use Rattle.rules.specs.Table.{no_enlistment, held_by}
use Rattle.rules.specs.Events.{is_undone}
use Rattle.managers.proofs.undone.Given as goal

abbrev pub invariant-loop-e : goal.invariant-loop-e
invariant-loop-e l = Looked (λ k. first_or no_enlistment (λ e. held_by l.fn.h.place e && is_undone l.rm e)) 16 l.e-items l.e-index
