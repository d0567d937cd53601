-- The places are tested in their order: as long as none was met that passes, what is left has the same first.
use mathlib.Core.Path.{refl, sym, ◌∙◌}
use Rattle.lists.specs.Lists.{first_or}
use Rattle.lists.proofs.Loops.{long, first_filter, look_start, look_next, look_stop, look_done}
use Rattle.rules.specs.Table.{held}
use Rattle.passes.proofs.Laws.{nowhere}
use Rattle.holdings.specs.Holdings.{alone}
use Rattle.managers.proofs.undone.Goals as goal

pub loop-e-init : goal.loop-e-init
unfolding first_or
loop-e-init c = look_start (search long)

pub returns-then-is_undone_held : goal.returns-then-is_undone_held
unfolding alone held first_or
returns-then-is_undone_held c = rw first_filter (look_stop nowhere c.loop-e.invariant c.loop-e-test.true (λ xs. rw (sym c.is_undone_held.ensures ∙ c.if-is_undone_held.true)))

pub loop-e-preserved : goal.loop-e-preserved
unfolding first_or
loop-e-preserved c = look_next nowhere c.loop-e.invariant c.loop-e-test.true (λ xs. rw (sym c.is_undone_held.ensures ∙ c.if-is_undone_held.false))

pub returns : goal.returns
unfolding alone held first_or
returns c = rw (c.no_enlistment.ensures, first_filter) (look_done c.loop-e.invariant c.loop-e-test.false refl)
