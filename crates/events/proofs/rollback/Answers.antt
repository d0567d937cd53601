-- Refused by its checks, the memory is as it was; else the transaction that is named is taken out, changed alone and put back.
use mathlib.Core.Path.{sym, ap}
use Rattle.rules.specs.Table.{place_named}
use Rattle.rules.specs.Events.{abort_of}
use Rattle.rules.proofs.Local.{abort_through}
use Rattle.rules.specs.Checks as checks
use Rattle.rules.specs.Checks.{rollback_checks}
use Rattle.refusals.proofs.Found.{state_found}
use Rattle.holdings.proofs.Within.{passes_through}
use Rattle.rows.specs.Memory.{table_in}
use Rattle.entering.proofs.Done.{refused_does}
use Rattle.events.proofs.Takes.{named_takes, takes_ready, takes_few, takes_does}
use Rattle.events.proofs.rollback.Goals as goal

pub returns-in_err-rollback : goal.returns-in_err-rollback
returns-in_err-rollback c =
    let tb = table_in c.args.heads.now c.args.rows.now c.args.capacity c.args.used in
    refused_does c.args.heads.now c.args.rows.now c.args.capacity c.args.used (rollback_checks tb c.args.id) (abort_of (place_named c.args.id tb) tb c.args.log.now) c.args.log.now _ _ c.from_residual.ensures.1
    (state_found tb (checks.rollback c.args.id) c.args.id c.in_err-rollback.ensures c.place_named-named.ensures (ap (λ x. x.state) c.transaction_at-x.ensures))

pub take_out-h-requires : goal.take_out-h-requires
take_out-h-requires c = (named_takes c.args.heads.now c.args.rows.now c.args.capacity c.args.used c.told-heads c.args.id _ _ c.requires.0 c.place_named-named.ensures c.in_ok-rollback.ensures).few

pub abort-done-requires : goal.abort-done-requires
abort-done-requires c = takes_ready c.args.heads.now c.args.rows.now c.args.capacity c.args.used c.told-heads (named_takes c.args.heads.now c.args.rows.now c.args.capacity c.args.used c.told-heads c.args.id _ _ c.requires.0 c.place_named-named.ensures c.in_ok-rollback.ensures) (c.take_out-h.ensures c.args.capacity)

pub put_back-requires : goal.put_back-requires
put_back-requires c = takes_few c.args.heads.now c.args.rows.now c.args.capacity c.args.used c.told-heads (named_takes c.args.heads.now c.args.rows.now c.args.capacity c.args.used c.told-heads c.args.id _ _ c.requires.0 c.place_named-named.ensures c.in_ok-rollback.ensures) (c.take_out-h.ensures c.args.capacity) c.abort-done.result c.abort-done.ensures.place

pub returns : goal.returns
returns c =
    let tb = table_in c.args.heads.now c.args.rows.now c.args.capacity c.args.used in
    takes_does c.args.heads.now c.args.rows.now c.args.capacity c.args.used c.told-heads (named_takes c.args.heads.now c.args.rows.now c.args.capacity c.args.used c.told-heads c.args.id _ _ c.requires.0 c.place_named-named.ensures c.in_ok-rollback.ensures) (c.take_out-h.ensures c.args.capacity)
    (rollback_checks tb c.args.id) (λ p t. abort_of p t c.args.log.now) c.args.log.now (ap (λ p. abort_of p tb c.args.log.now) (sym c.place_named-named.ensures))
    (state_found tb (checks.rollback c.args.id) c.args.id c.in_ok-rollback.ensures c.place_named-named.ensures (ap (λ x. x.state) c.transaction_at-x.ensures))
    (λ there f. abort_through (passes_through tb _ there) _ c.args.log.now f) c.abort-done.ensures c.put_back.ensures
