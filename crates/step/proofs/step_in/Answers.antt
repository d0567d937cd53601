-- The first two checks refuse it, or the table is sound and the log as long as it says, which is all that the event's own function asks for.
use mathlib.Core.Path.{refl, sym}
use mathlib.Core.Bool.{true}
use mathlib.Core.List.{[], ◌∷◌}
use lib.ListN.{length}
use Rattle.rules.specs.RefusalNumber.{refusal_number}
use Rattle.rules.specs.Events.{accepted_of}
use Rattle.rules.specs.Refusals.{check, first_of}
use Rattle.rules.proofs.RefusalNumbers.{no_refusal_accepted}
use Rattle.refusals.proofs.Events.{first_refuses, first_passes}
use Rattle.rows.specs.Memory.{table_in}
use Rattle.entering.proofs.Done.{refused_does}
use Rattle.step.proofs.step_in.Goals as goal

pub returns-in_err-first : goal.returns-in_err-first
unfolding first_of
returns-in_err-first c =
    let tb = table_in c.args.heads.now c.args.rows.now c.args.capacity c.args.used in
    let why = c.in_err-first.field-0.0 in
    refused_does c.args.heads.now c.args.rows.now c.args.capacity c.args.used (check true (refusal_number why) ∷ []) (accepted_of tb c.args.event c.args.log.now) c.args.log.now why _ c.from_residual.ensures.1 refl
    c.args.event (sym (first_refuses tb (length c.args.log.now) c.requires c.in_err-first.ensures c.args.event (no_refusal_accepted why))) refl

pub on_event-requires : goal.on_event-requires
on_event-requires c = first_passes (table_in c.args.heads.now c.args.rows.now c.args.capacity c.args.used) (length c.args.log.now) c.requires c.in_ok-first.ensures refl
