-- `trace_run::put_table` meets its contract: the transactions and the enlistments are put each into its own memory.
use borrow.Author.Rules.{rules}
use Rattle.trace_run.proofs.Laws.{holds}
use Rattle.trace_run.proofs.put_table.Goals as goal

pub returns : goal.returns
returns c = holds (search rules, c.heads_of.ensures) (search rules, c.rows_of.ensures)
