-- None is held if the count is 0, and all are marked if as many are marked as are held, so that the code takes the branch of the definition.
use mathlib.Core.Path.{sym, ap, ◌∙◌}
use mathlib.Core.Bool.{◌&&◌}
use lib.Dec.{eqb}
use borrow.Author.Tests.{eq-eqb, ne_eqb}
use Rattle.lists.proofs.Loops.{all_count}
use Rattle.rules.specs.Table.{is_marked}
use Rattle.rules.specs.Events.{end_committed, start_phase_one}
use Rattle.passes.specs.Census.{census_of}
use Rattle.deciding.proofs.start_phase_one.Goals as goal

pub returns-then-census-eq0 : goal.returns-then-census-eq0
unfolding start_phase_one end_committed census_of
returns-then-census-eq0 c = rw (sym (ap (λ m. eqb m.held 0) c.count-census.ensures) ∙ eq-eqb _ _ c.if-census-eq0.true) c.end_with.ensures

pub returns-then-is_single : goal.returns-then-is_single
unfolding start_phase_one end_committed census_of
returns-then-is_single c = rw (sym (ap (λ m. eqb m.held 0) c.count-census.ensures) ∙ ne_eqb _ _ c.if-census-eq0.false, all_count is_marked, sym (ap (λ m. eqb m.held 1 && eqb m.marked m.held) c.count-census.ensures) ∙ (sym c.is_single.ensures ∙ c.if-is_single.true)) (c.all_go.ensures _)

pub returns-else-is_single : goal.returns-else-is_single
unfolding start_phase_one end_committed census_of
returns-else-is_single c = rw (sym (ap (λ m. eqb m.held 0) c.count-census.ensures) ∙ ne_eqb _ _ c.if-census-eq0.false, all_count is_marked, sym (ap (λ m. eqb m.held 1 && eqb m.marked m.held) c.count-census.ensures) ∙ (sym c.is_single.ensures ∙ c.if-is_single.false)) (c.all_go-else-is_single.ensures _)
