-- Where the word can be read, its number is what was read of it; where not, the line can't be read.
use Rattle.trace_commands.proofs.Commands.{number_unread, number_read}
use Rattle.trace_commands.proofs.of_number.Goals as goal

pub returns-in_err-number : goal.returns-in_err-number
returns-in_err-number g c = rw c.from_residual.ensures (number_unread c.args.n.now c.in_err-number.ensures)

pub returns : goal.returns
returns g c =
    let r = number_read c.args.n.now c.in_ok-number.number c.in_ok-number.ensures in
    (r.0, (c.act.result, rw r.1 at c.act.ensures, c.stepping.ensures))
