-- One of phase zero is held if and only if their count is not 0, so that the code takes the branch of the definition.
use mathlib.Core.Path.{sym, ap, ◌∙◌}
use mathlib.Core.Bool.{not}
use lib.Dec.{eqb}
use borrow.Author.Tests.{eq-eqb, ne_eqb}
use Rattle.std.proofs.Common.{rules}
use Rattle.lists.proofs.Loops.{any_count}
use Rattle.rules.specs.Table.{is_phase_zero}
use Rattle.rules.specs.Events.{zeroed_of, commit_of}
use Rattle.passes.specs.Census.{census_of}
use Rattle.endings.proofs.Laws.{going_gives}
use Rattle.deciding.proofs.commit.Goals as goal

pub returns-then-census-eq0 : goal.returns-then-census-eq0
unfolding commit_of census_of
returns-then-census-eq0 c = rw (any_count is_phase_zero, sym (ap (λ m. not (eqb m.phase_zero 0)) c.count-census.ensures) ∙ ap not (eq-eqb _ _ c.if-census-eq0.true)) c.start_phase_one.ensures

pub returns : goal.returns
unfolding commit_of census_of
returns c = rw (any_count is_phase_zero, sym (ap (λ m. not (eqb m.phase_zero 0)) c.count-census.ensures) ∙ ap not (ne_eqb _ _ c.if-census-eq0.false)) (going_gives _ _ c.args.h (c.change_and_go.ensures zeroed_of (λ x r k. search rules)) _ (c.to_each.ensures.row is_phase_zero (λ x r k. search rules)) _)
