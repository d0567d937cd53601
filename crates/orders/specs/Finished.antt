-- Which transactions end by a re-enlistment.
use Rattle.std.specs.Prelude.{ℕ, Bool, ◌&&◌, eqb}
use Rattle.lists.specs.Lists.{all}
use Rattle.rules.specs.declared.Table.{Table}
use Rattle.rules.specs.declared.Transaction.{Transaction}
use Rattle.rules.specs.TransactionState as transaction
use Rattle.rules.specs.Table.{held, is_done}

-- whether the transaction x at place p ends by a re-enlistment
abbrev pub is_finished : Table → ℕ → Transaction → Bool
is_finished tb p x = eqb x.state transaction.committing && all is_done (held p tb)
