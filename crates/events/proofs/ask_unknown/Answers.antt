-- Nothing stands at place 0, so its state is over.
use mathlib.Core.Path.{refl, sym, ◌∙◌, ap}
use mathlib.Core.Bool.{true}
use Rattle.lists.proofs.Tests.{no_clash}
use Rattle.rules.specs.Table.{place_named}
use Rattle.rules.specs.Signals.{row_of}
use Rattle.rules.specs.Events.{ask_of}
use Rattle.rules.specs.Checks.{ask_checks}
use Rattle.refusals.proofs.Found.{ask_found}
use Rattle.rows.specs.Memory.{table_in}
use Rattle.entering.proofs.Done.{refused_does, done_does}
use Rattle.events.proofs.Asking.{unknown_state, unknown_asked}
use Rattle.events.proofs.ask_unknown.Goals as goal

pub returns-in_err-ask : goal.returns-in_err-ask
returns-in_err-ask c =
    λ heads rows capacity log z. let tb = table_in heads rows capacity c.args.used in
    refused_does heads rows capacity c.args.used (ask_checks tb c.args.id c.args.rm) (ask_of (place_named c.args.id tb) c.args.rm tb log) log _ _ c.from_residual.ensures.1
    (ask_found tb c.args.id c.args.rm {lacks = true} c.in_err-ask.ensures (sym (unknown_state (place_named c.args.id tb) tb z)) (λ o. no_clash true refl o))

pub returns : goal.returns
returns c =
    λ heads rows capacity log z. let tb = table_in heads rows capacity c.args.used in
    let u = unknown_asked (place_named c.args.id tb) c.args.rm tb log z in
    done_does heads rows capacity c.args.used (ask_checks tb c.args.id c.args.rm) (ask_of (place_named c.args.id tb) c.args.rm tb log) log
    (ask_found tb c.args.id c.args.rm {lacks = true} c.in_ok-ask.ensures (sym (unknown_state (place_named c.args.id tb) tb z)) (λ o. no_clash true refl o))
    (ap (λ o. o.table) (sym u)) (c.to_one-signals.ensures ∙ ap (λ o. row_of o.signals) (sym u)) (ap (λ o. o.log) (sym u))
