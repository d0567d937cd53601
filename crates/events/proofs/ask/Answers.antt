-- Refused by its checks, the memory is as it was; else the transaction that is named is taken out, asked alone and put back. What it lacks alone it lacks in the table.
use mathlib.Core.Path.{sym, ◌∙◌, ap}
use mathlib.Core.List.{[]}
use Rattle.rules.specs.Table.{place_named}
use Rattle.rules.specs.Events.{ask_of}
use Rattle.rules.proofs.Local.{ask_through}
use Rattle.rules.specs.Checks.{ask_checks}
use Rattle.refusals.proofs.Found.{ask_found}
use Rattle.holdings.proofs.Within.{passes_through}
use Rattle.rows.specs.Memory.{table_in}
use Rattle.entering.proofs.Done.{refused_does}
use Rattle.events.proofs.Takes.{takes_ready, takes_few, takes_does}
use Rattle.events.proofs.Asking.{known_takes, asked_state, asked_lacks}
use Rattle.events.proofs.ask.Goals as goal

pub returns-then-named-eq0 : goal.returns-then-named-eq0
returns-then-named-eq0 c = λ log. c.ask_unknown.ensures c.args.heads.now c.args.rows.now c.args.capacity log (sym c.place_named-named.ensures ∙ c.if-named-eq0.true)

pub take_out-h-requires : goal.take_out-h-requires
take_out-h-requires c = (known_takes c.args.heads.now c.args.rows.now c.args.capacity c.args.used c.told-heads c.args.id c.args.rm c.requires c.place_named-named.ensures c.if-named-eq0.false).few

pub ask-done-requires : goal.ask-done-requires
ask-done-requires c = (takes_ready c.args.heads.now c.args.rows.now c.args.capacity c.args.used c.told-heads (known_takes c.args.heads.now c.args.rows.now c.args.capacity c.args.used c.told-heads c.args.id c.args.rm c.requires c.place_named-named.ensures c.if-named-eq0.false) (c.take_out-h.ensures c.args.capacity)).0

pub put_back-requires : goal.put_back-requires
put_back-requires c = takes_few c.args.heads.now c.args.rows.now c.args.capacity c.args.used c.told-heads (known_takes c.args.heads.now c.args.rows.now c.args.capacity c.args.used c.told-heads c.args.id c.args.rm c.requires c.place_named-named.ensures c.if-named-eq0.false) (c.take_out-h.ensures c.args.capacity) c.ask-done.result (c.ask-done.ensures []).place

pub returns-in_err-ask : goal.returns-in_err-ask
returns-in_err-ask c =
    λ log. let tb = table_in c.args.heads.now c.args.rows.now c.args.capacity c.args.used in
    refused_does c.args.heads.now c.args.rows.now c.args.capacity c.args.used (ask_checks tb c.args.id c.args.rm) (ask_of (place_named c.args.id tb) c.args.rm tb log) log _ _ c.from_residual.ensures.1
    (ask_found tb c.args.id c.args.rm c.in_err-ask.ensures (asked_state c.args.heads.now c.args.rows.now c.args.capacity c.args.used c.told-heads c.args.id c.args.rm c.place_named-named.ensures (c.take_out-h.ensures c.args.capacity))
    (λ o. asked_lacks c.args.heads.now c.args.rows.now c.args.capacity c.args.used c.told-heads c.args.id c.args.rm (known_takes c.args.heads.now c.args.rows.now c.args.capacity c.args.used c.told-heads c.args.id c.args.rm c.requires c.place_named-named.ensures c.if-named-eq0.false) c.place_named-named.ensures (c.take_out-h.ensures c.args.capacity) c.undone-e.ensures))

pub returns : goal.returns
returns c =
    λ log. let tb = table_in c.args.heads.now c.args.rows.now c.args.capacity c.args.used in
    takes_does c.args.heads.now c.args.rows.now c.args.capacity c.args.used c.told-heads (known_takes c.args.heads.now c.args.rows.now c.args.capacity c.args.used c.told-heads c.args.id c.args.rm c.requires c.place_named-named.ensures c.if-named-eq0.false) (c.take_out-h.ensures c.args.capacity)
    (ask_checks tb c.args.id c.args.rm) (λ p t. ask_of p c.args.rm t log) log (ap (λ p. ask_of p c.args.rm tb log) (sym c.place_named-named.ensures))
    (ask_found tb c.args.id c.args.rm c.in_ok-ask.ensures (asked_state c.args.heads.now c.args.rows.now c.args.capacity c.args.used c.told-heads c.args.id c.args.rm c.place_named-named.ensures (c.take_out-h.ensures c.args.capacity))
    (λ o. asked_lacks c.args.heads.now c.args.rows.now c.args.capacity c.args.used c.told-heads c.args.id c.args.rm (known_takes c.args.heads.now c.args.rows.now c.args.capacity c.args.used c.told-heads c.args.id c.args.rm c.requires c.place_named-named.ensures c.if-named-eq0.false) c.place_named-named.ensures (c.take_out-h.ensures c.args.capacity) c.undone-e.ensures))
    (λ there f. ask_through (passes_through tb _ there) c.args.rm _ log f) (c.ask-done.ensures log) c.put_back.ensures
