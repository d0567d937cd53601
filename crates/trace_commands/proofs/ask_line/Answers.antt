-- Where both words can be read, the identifiers are what was read of them; else the line can't be read.
use mathlib.Core.Path.{◌∙◌}
use Rattle.trace_commands.proofs.Commands.{identifier_unread, identifier_read}
use Rattle.trace_commands.proofs.ask_line.Goals as goal

pub returns-in_err-tx : goal.returns-in_err-tx
returns-in_err-tx c = c.from_residual.ensures ∙ rw (identifier_unread c.args.t.now c.in_err-tx.ensures)

pub returns-in_err-rm : goal.returns-in_err-rm
returns-in_err-rm c =
    let named = identifier_read c.args.t.now c.in_ok-tx.tx c.in_ok-tx.ensures in
    c.from_residual-in_err-rm.ensures ∙ rw (named.0, identifier_unread c.args.r.now c.in_err-rm.ensures)

pub returns : goal.returns
returns c =
    let named = identifier_read c.args.t.now c.in_ok-tx.tx c.in_ok-tx.ensures in
    let asking = identifier_read c.args.r.now c.in_ok-rm.rm c.in_ok-rm.ensures in
    rw (c.stepping.ensures, named.0, named.1, asking.0, asking.1)
