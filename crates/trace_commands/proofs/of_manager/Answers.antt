-- Where the word can be read, its identifier is what was read of it; where not, the line can't be read.
use mathlib.Core.Path.{◌∙◌}
use Rattle.trace_commands.proofs.Commands.{identifier_unread, identifier_read}
use Rattle.trace_commands.proofs.of_manager.Goals as goal

pub returns-in_err-rm : goal.returns-in_err-rm
returns-in_err-rm c = c.from_residual.ensures ∙ rw (identifier_unread c.args.r.now c.in_err-rm.ensures)

pub returns : goal.returns
returns c = let r = identifier_read c.args.r.now c.in_ok-rm.rm c.in_ok-rm.ensures in rw (c.stepping.ensures, r.0, r.1)
