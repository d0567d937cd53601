-- One of phase zero is held if and only if their count is not 0, so that the code takes the branch of the definition.
use mathlib.Core.Path.{sym, ap, ◌∙◌}
use mathlib.Core.Bool.{not}
use lib.Dec.{eqb}
use borrow.Author.Tests.{eq-eqb, ne_eqb}
use Rattle.lists.proofs.Loops.{any_count}
use Rattle.rules.specs.Table.{is_phase_zero}
use Rattle.rules.specs.Events.{follow}
use Rattle.passes.specs.Census.{census_of}
use Rattle.accepting.proofs.Laws.{quiet_gives}
use Rattle.accepting.proofs.phase_one_if_ready.Goals as goal

pub returns-then-census-eq0 : goal.returns-then-census-eq0
unfolding follow census_of
returns-then-census-eq0 c = rw (any_count is_phase_zero, sym (ap (λ m. not (eqb m.phase_zero 0)) c.count-census.ensures) ∙ ap not (eq-eqb _ _ c.if-census-eq0.true)) c.start_phase_one.ensures

pub returns-else-census-eq0 : goal.returns-else-census-eq0
unfolding follow census_of
returns-else-census-eq0 c = rw (any_count is_phase_zero, sym (ap (λ m. not (eqb m.phase_zero 0)) c.count-census.ensures) ∙ ap not (ne_eqb _ _ c.if-census-eq0.false)) (quiet_gives c.args.h c.quietly.ensures _)
