-- The event that is shown of a line: beside a restart, and beside a line that can't be read, a Begin that names nothing.
use Rattle.std.specs.Prelude.{Option, Some, None}
use Rattle.rules.specs.declared.Event.{Event}
use Rattle.rules.specs.declared.Act.TheVariants as act
use Rattle.rules.specs.declared.Command.{Command}
use Rattle.rules.specs.declared.Command.TheVariants as command
use Rattle.rules.specs.Identifiers.{zero_id}

abbrev pub event_shown : Option Command → Event
event_shown (Some (command.Step e)) = e
event_shown c = record { tx = record { 0 = zero_id }; rm = record { 0 = zero_id }; act = act.Begin }
