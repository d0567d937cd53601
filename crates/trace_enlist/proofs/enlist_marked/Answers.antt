-- Where all four words can be read, the parts are what was read of them; else the line can't be read.
use mathlib.Core.Path.{◌∙◌}
use Rattle.trace_commands.proofs.Commands.{identifier_unread, identifier_read, number_unread, number_read}
use Rattle.trace_enlist.proofs.enlist_marked.Goals as goal

pub returns-in_err-kind : goal.returns-in_err-kind
returns-in_err-kind c = c.from_residual.ensures ∙ rw (← c.in_err-kind.ensures)

pub returns-in_err-tx : goal.returns-in_err-tx
returns-in_err-tx c =
    let unread = identifier_unread c.args.t.now c.in_err-tx.ensures in
    c.from_residual-in_err-tx.ensures ∙ rw (← c.in_ok-kind.ensures, unread)

pub returns-in_err-number : goal.returns-in_err-number
returns-in_err-number c =
    let named = identifier_read c.args.t.now c.in_ok-tx.tx c.in_ok-tx.ensures in
    let unread = number_unread c.args.n.now c.in_err-number.ensures in
    c.from_residual-in_err-number.ensures ∙ rw (← c.in_ok-kind.ensures, named.0, unread)

pub returns-in_err-rm : goal.returns-in_err-rm
returns-in_err-rm c =
    let named = identifier_read c.args.t.now c.in_ok-tx.tx c.in_ok-tx.ensures in
    let number = number_read c.args.n.now c.in_ok-number.number c.in_ok-number.ensures in
    let unread = identifier_unread c.args.r.now c.in_err-rm.ensures in
    c.from_residual-in_err-rm.ensures ∙ rw (← c.in_ok-kind.ensures, named.0, number.0, unread)

pub returns : goal.returns
returns c =
    let named = identifier_read c.args.t.now c.in_ok-tx.tx c.in_ok-tx.ensures in
    let number = number_read c.args.n.now c.in_ok-number.number c.in_ok-number.ensures in
    let enlisting = identifier_read c.args.r.now c.in_ok-rm.rm c.in_ok-rm.ensures in
    rw (← c.in_ok-kind.ensures, c.stepping.ensures, named.0, named.1, number.0, number.1, enlisting.0, enlisting.1)
