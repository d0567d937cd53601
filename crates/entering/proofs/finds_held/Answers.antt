-- Whether the number is held is told by the one that is found.
use Rattle.rules.specs.Table.{held, numbered}
use Rattle.refusals.proofs.Laws.{held_has}
use Rattle.rows.specs.Memory.{table_in}
use Rattle.entering.proofs.finds_held.Goals as goal

pub returns : goal.returns
unfolding held numbered
returns c = λ heads capacity used z. rw (held_has c.args.n (table_in heads c.args.rows.now capacity used) z, ← c.numbered-e.ensures, ← c.has_durable_of-second.ensures, ← c.kind_of.ensures) c.is_already_held.ensures
