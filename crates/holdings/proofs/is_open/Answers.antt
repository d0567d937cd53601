-- One is durable if and only if the count of the durable is not 0, which the code asks of a Committing transaction alone, as the definition does.
use mathlib.Core.Path.{◌≡◌, ap}
use mathlib.Core.Bool.{true, not}
use borrow.Author.Tests.{eq-eqb}
use lib.Dec.{eqb}
use Rattle.lists.proofs.Loops.{any_count}
use Rattle.rules.specs.Table.{is_durable}
use Rattle.passes.specs.Census.{census_of}
use Rattle.holdings.proofs.is_open.Goals as goal

pub returns-then-h-eq-COMMITTING : goal.returns-then-h-eq-COMMITTING
unfolding census_of
returns-then-h-eq-COMMITTING c = let t : eqb c.args.h.transaction.state 5 ≡ true = eq-eqb _ _ c.if-h-eq-COMMITTING.true in rw (t, any_count is_durable) (ap (λ c. not (eqb c.durable 0)) c.count-c.ensures)
