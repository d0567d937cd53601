-- A count is 0 if and only if none is such, so that the code takes the branch of the definition, in its order.
use mathlib.Core.Path.{sym, ap, ◌∙◌}
use lib.Dec.{eqb}
use borrow.Author.Tests.{eq-eqb, ne_eqb}
use Rattle.lists.proofs.Loops.{any_count}
use Rattle.lists.proofs.Tests.{count_filter}
use Rattle.rules.specs.Table.{held, is_durable}
use Rattle.rules.specs.Events.{lacks_room, end_committed, decide_of}
use Rattle.passes.specs.Census.{census_of}
use Rattle.holdings.specs.Holdings.{alone}
use Rattle.deciding.proofs.decide.Goals as goal

pub returns-then-census-eq0 : goal.returns-then-census-eq0
unfolding decide_of end_committed census_of
returns-then-census-eq0 c = rw (sym (ap (λ m. eqb m.held 0) c.count-census.ensures) ∙ eq-eqb _ _ c.if-census-eq0.true) c.end_with.ensures

pub returns-then-census-eq0-2 : goal.returns-then-census-eq0-2
unfolding decide_of end_committed census_of
returns-then-census-eq0-2 c = rw (sym (ap (λ m. eqb m.held 0) c.count-census.ensures) ∙ ne_eqb _ _ c.if-census-eq0.false, any_count is_durable, sym (ap (λ m. eqb m.durable 0) c.count-census.ensures) ∙ eq-eqb _ _ c.if-census-eq0-2.true) (c.commit_unlogged.ensures _)

pub returns-then-lacks_room : goal.returns-then-lacks_room
unfolding decide_of end_committed census_of
returns-then-lacks_room c = rw (sym (ap (λ m. eqb m.held 0) c.count-census.ensures) ∙ ne_eqb _ _ c.if-census-eq0.false, any_count is_durable, sym (ap (λ m. eqb m.durable 0) c.count-census.ensures) ∙ ne_eqb _ _ c.if-census-eq0-2.false, ← count_filter is_durable (held c.args.h.place (alone c.args.h)), sym (ap (λ m. lacks_room m.durable (alone c.args.h)) c.count-census.ensures) ∙ (sym c.lacks_room.ensures ∙ c.if-lacks_room.true)) c.abort.ensures

pub returns-else-lacks_room : goal.returns-else-lacks_room
unfolding decide_of end_committed census_of
returns-else-lacks_room c = rw (sym (ap (λ m. eqb m.held 0) c.count-census.ensures) ∙ ne_eqb _ _ c.if-census-eq0.false, any_count is_durable, sym (ap (λ m. eqb m.durable 0) c.count-census.ensures) ∙ ne_eqb _ _ c.if-census-eq0-2.false, ← count_filter is_durable (held c.args.h.place (alone c.args.h)), sym (ap (λ m. lacks_room m.durable (alone c.args.h)) c.count-census.ensures) ∙ (sym c.lacks_room.ensures ∙ c.if-lacks_room.false)) c.commit_logged.ensures
