-- Where the word can be read, its identifier is what was read of it; where not, the line can't be read.
use mathlib.Core.Path.{◌∙◌}
use Rattle.trace_commands.proofs.Commands.{identifier_unread, identifier_read}
use Rattle.trace_commands.proofs.of_transaction.Goals as goal

pub returns-in_err-tx : goal.returns-in_err-tx
returns-in_err-tx c = c.from_residual.ensures ∙ rw (identifier_unread c.args.t.now c.in_err-tx.ensures)

pub returns : goal.returns
returns c = let r = identifier_read c.args.t.now c.in_ok-tx.tx c.in_ok-tx.ensures in rw (c.stepping.ensures, r.0, r.1)
