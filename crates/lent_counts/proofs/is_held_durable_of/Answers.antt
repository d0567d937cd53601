-- The RM stands in the row, and is looked at only if the row is held and durable.
use Rattle.std.proofs.Common.{sym, ◌∙◌}
use Rattle.lists.proofs.Tests.{true_and}
use Rattle.rules.proofs.Identifiers.{pointwise_same}
use Rattle.rules.specs.Table.{held_by, is_durable}
use Rattle.rows.specs.Memory.{enlistment_in}
use Rattle.lent_counts.proofs.is_held_durable_of.Goals as goal

pub returns-then-is_held_durable : goal.returns-then-is_held_durable
unfolding enlistment_in
returns-then-is_held_durable c =
    let e = enlistment_in c.args.row in
    let q = true_and (held_by c.args.p e) (is_durable e) (sym c.is_held_durable.ensures ∙ c.if-is_held_durable.true) in
    rw (q.0, q.1, ← c.identifier_in.ensures, ← pointwise_same) c.eq.ensures
