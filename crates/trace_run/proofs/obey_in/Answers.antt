-- `trace_run::obey_in` meets its contract: the line is read as the definition reads it, and each kind of command, or none,
-- is obeyed as the definition says. A step leaves the table sound just where it was.
use mathlib.Core.Path.{◌≡◌}
use Rattle.std.specs.Prelude.{Some}
use Rattle.rules.specs.declared.Command.TheVariants as command
use Rattle.rules.specs.Trace.{command_of, traced_of}
use Rattle.trace_run.proofs.Laws.{unreadable_obeys}
use Rattle.trace_run.proofs.Typed.{typed_command}
use Rattle.trace_run.proofs.Known.{known_again}
use Rattle.trace_run.proofs.obey_in.Goals as goal

pub returns-in-None : goal.returns-in-None
unfolding traced_of
returns-in-None c = rw (← c.in-None.ensures) (unreadable_obeys (c.told-heads, c.told-rows, c.requires) c.obey_unreadable.ensures)

pub returns-in-Some-Restart : goal.returns-in-Some-Restart
unfolding traced_of
returns-in-Some-Restart c =
    let is = c.in-Some-Restart in
    let read : Some command.Restart ≡ command_of c.args.line.now = cc (c.read_line.ensures, is.is, is.field-0-is) in
    let r = c.obey_restart.ensures in (rw (← read) (r.0 _), r.1)

pub returns-in-Some-Step : goal.returns-in-Some-Step
unfolding traced_of
returns-in-Some-Step c =
    let is = c.in-Some-Step in
    let read : Some (command.Step is.event) ≡ command_of c.args.line.now = cc (c.read_line.ensures, is.is, is.field-0-is) in
    let s = c.obey_step.ensures in (
      rw (← read) s.0,
      known_again _ is.event _ (typed_command c.args.line.now is.event read) c.requires s.0 s.1,
    )
