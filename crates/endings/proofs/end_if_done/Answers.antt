-- All are Done where the counts are the same.
use mathlib.Core.Path.{refl, sym, ap, ◌∙◌}
use lib.Dec.{eqb}
use borrow.Author.Tests.{eq-eqb, ne_eqb}
use Rattle.lists.proofs.Loops.{all_count}
use Rattle.rules.specs.Table.{is_done}
use Rattle.rules.specs.Events.{end_if_done}
use Rattle.passes.specs.Census.{census_of}
use Rattle.endings.proofs.end_if_done.Goals as goal

pub returns-then-census : goal.returns-then-census
unfolding end_if_done census_of
returns-then-census c = rw (all_count is_done, sym (ap (λ m. eqb m.done m.held) c.count-census.ensures) ∙ eq-eqb _ _ c.if-census.true) c.end.ensures.0

pub returns-else-census : goal.returns-else-census
unfolding end_if_done census_of
returns-else-census c = rw (all_count is_done, sym (ap (λ m. eqb m.done m.held) c.count-census.ensures) ∙ ne_eqb _ _ c.if-census.false) (record { table = refl; place = refl; log = refl })
