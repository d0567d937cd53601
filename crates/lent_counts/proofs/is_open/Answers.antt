-- One that is held and durable is a durable one among the held.
use borrow.Author.Tests.{eq-eqb}
use Rattle.lists.proofs.Loops.{any_filter}
use Rattle.rules.specs.Table.{held_by, is_durable}
use Rattle.lent_counts.proofs.is_open.Goals as goal

pub returns-then-state-eq-COMMITTING : goal.returns-then-state-eq-COMMITTING
returns-then-state-eq-COMMITTING c =
    rw (eq-eqb _ _ c.if-state-eq-COMMITTING.true, any_filter is_durable (held_by c.args.p)) c.has_durable.ensures
