-- Refused by its checks, the memory is as it was; else the lowest empty place is the one that is found.
use mathlib.Core.Path.{refl, ◌∙◌, ap}
use mathlib.Core.Bool.{cond}
use mathlib.Core.List.{[], ◌∷◌}
use Rattle.rules.specs.declared.Name.TheVariants as name
use Rattle.rules.specs.Table.{state_at}
use Rattle.rules.specs.Signals.{row_of, signal}
use Rattle.rules.specs.Events.{kind_of, zero_at_once, enlist_of}
use Rattle.refusals.proofs.Found.{enlist_found}
use Rattle.rows.specs.Memory.{table_in}
use Rattle.entering.proofs.Done.{refused_does, done_does}
use Rattle.entering.proofs.Entered.{enlisted_in}
use Rattle.entering.proofs.enlist.Goals as goal

pub returns-in_err-enlist : goal.returns-in_err-enlist
returns-in_err-enlist c =
    λ log. let tb = table_in c.args.heads.now c.args.rows.now c.args.capacity c.args.used in
    refused_does c.args.heads.now c.args.rows.now c.args.capacity c.args.used _ _ log _ _ c.from_residual.ensures.1
    (enlist_found tb c.args.id c.args.rm c.args.n (kind_of c.args.kind) c.in_err-enlist.ensures c.place_named-named.ensures (ap (λ x. x.state) c.transaction_at-x.ensures)
    (c.finds_held-already.ensures c.args.heads.now c.args.capacity c.args.used) (c.finds_full-full.ensures c.args.heads.now c.args.capacity c.args.used))

pub returns : goal.returns
unfolding enlist_of
returns c =
    λ log. let tb = table_in c.args.heads.now c.args.rows.now c.args.capacity c.args.used in
    let named = c.place_named-named.ensures in
    let state = ap (λ x. x.state) c.transaction_at-x.ensures in
    done_does c.args.heads.now c.args.rows.now c.args.capacity c.args.used _ _ log
    (enlist_found tb c.args.id c.args.rm c.args.n (kind_of c.args.kind) c.in_ok-enlist.ensures named state
    (c.finds_held-already.ensures c.args.heads.now c.args.capacity c.args.used) (c.finds_full-full.ensures c.args.heads.now c.args.capacity c.args.used))
    (enlisted_in c.args.heads.now c.args.rows.now c.args.capacity c.args.used c.args.id log c.args.n c.args.rm c.args.kind c.args.mark named state c.entry-entry.ensures.0 c.place_vacant-vacant.ensures c.put_enlistment.ensures)
    (c.entry-entry.ensures.1 ∙ ap (λ j. row_of (cond (zero_at_once c.args.kind j) (signal name.Zero c.args.n ∷ []) [])) (state ∙ ap (λ p. state_at p tb) named)) refl
