-- Refused by its checks, the memory is as it was; else the one that holds it is taken out, changed alone and put back.
use mathlib.Core.Path.{refl, sym, ap}
use Rattle.rules.specs.Table.{numbered, held}
use Rattle.rules.specs.Events.{reaction_of, react, reacted_of}
use Rattle.rules.proofs.Local.{react_through}
use Rattle.rules.specs.Checks.{about_one_checks}
use Rattle.refusals.proofs.Found.{about_one_found}
use Rattle.holdings.proofs.Within.{passes_through}
use Rattle.rows.specs.Memory.{table_in}
use Rattle.entering.proofs.Done.{refused_does}
use Rattle.events.proofs.Takes.{takes_ready, takes_few, takes_does}
use Rattle.events.proofs.Roomy.{about_takes, enough, roomy, room_is, room_out}
use Rattle.events.proofs.about_one.Goals as goal

pub returns-in_err-about_one : goal.returns-in_err-about_one
unfolding numbered reacted_of held
returns-in_err-about_one c =
    let tb = table_in c.args.heads.now c.args.rows.now c.args.capacity c.args.used in
    refused_does c.args.heads.now c.args.rows.now c.args.capacity c.args.used (about_one_checks tb c.args.n c.args.act) (reacted_of c.args.n c.args.act tb c.args.log.now) c.args.log.now _ _ c.from_residual.ensures.1
    (about_one_found tb c.args.n c.args.act c.in_err-about_one.ensures c.numbered-e.ensures)

pub take_out-h-requires : goal.take_out-h-requires
unfolding numbered reacted_of held
take_out-h-requires c =
    let tb = table_in c.args.heads.now c.args.rows.now c.args.capacity c.args.used in
    (about_takes c.args.heads.now c.args.rows.now c.args.capacity c.args.used c.told-heads c.args.n c.args.act c.requires.0 c.numbered-e.ensures (about_one_found tb c.args.n c.args.act c.in_ok-about_one.ensures c.numbered-e.ensures)).few

pub with_room-g-requires : goal.with_room-g-requires
unfolding numbered reacted_of held
with_room-g-requires c = enough (table_in c.args.heads.now c.args.rows.now c.args.capacity c.args.used) c.open_count-opened.result c.requires.0 (c.open_count-opened.ensures.0 c.args.capacity c.args.used)

pub reacted-done-requires : goal.reacted-done-requires
unfolding numbered reacted_of held
reacted-done-requires c =
    let tb = table_in c.args.heads.now c.args.rows.now c.args.capacity c.args.used in
    takes_ready c.args.heads.now c.args.rows.now c.args.capacity c.args.used c.told-heads (about_takes c.args.heads.now c.args.rows.now c.args.capacity c.args.used c.told-heads c.args.n c.args.act c.requires.0 c.numbered-e.ensures (about_one_found tb c.args.n c.args.act c.in_ok-about_one.ensures c.numbered-e.ensures)) (room_out c.args.capacity c.open_count-opened.result tb c.with_room-g.ensures (c.take_out-h.ensures c.args.capacity))

pub put_back-requires : goal.put_back-requires
unfolding numbered reacted_of held
put_back-requires c =
    let tb = table_in c.args.heads.now c.args.rows.now c.args.capacity c.args.used in
    takes_few c.args.heads.now c.args.rows.now c.args.capacity c.args.used c.told-heads (about_takes c.args.heads.now c.args.rows.now c.args.capacity c.args.used c.told-heads c.args.n c.args.act c.requires.0 c.numbered-e.ensures (about_one_found tb c.args.n c.args.act c.in_ok-about_one.ensures c.numbered-e.ensures)) (room_out c.args.capacity c.open_count-opened.result tb c.with_room-g.ensures (c.take_out-h.ensures c.args.capacity)) c.reacted-done.result c.reacted-done.ensures.place

pub returns : goal.returns
unfolding numbered reacted_of held
returns c =
    let tb = table_in c.args.heads.now c.args.rows.now c.args.capacity c.args.used in
    let x = c.numbered-e.result in
    let k = about_takes c.args.heads.now c.args.rows.now c.args.capacity c.args.used c.told-heads c.args.n c.args.act c.requires.0 c.numbered-e.ensures (about_one_found tb c.args.n c.args.act c.in_ok-about_one.ensures c.numbered-e.ensures) in
    takes_does c.args.heads.now c.args.rows.now c.args.capacity c.args.used c.told-heads k (room_out c.args.capacity c.open_count-opened.result tb c.with_room-g.ensures (c.take_out-h.ensures c.args.capacity)) (about_one_checks tb c.args.n c.args.act) (λ p t. react (reaction_of x.kind x.state c.args.act) p c.args.n t c.args.log.now) c.args.log.now
    (ap (λ y. react (reaction_of y.kind y.state c.args.act) y.holder c.args.n tb c.args.log.now) (sym c.numbered-e.ensures))
    (about_one_found tb c.args.n c.args.act c.in_ok-about_one.ensures c.numbered-e.ensures)
    (λ there f. react_through (passes_through tb x.holder there) (reaction_of x.kind x.state c.args.act) c.args.n _ c.args.log.now f
    (roomy x.holder _ tb k.low k.high k.few there (room_is x.holder 0 tb k.low k.high k.few there c.open_count-opened.result (c.open_count-opened.ensures.0 c.args.capacity c.args.used) (enough tb _ c.requires.0 refl))))
    c.reacted-done.ensures c.put_back.ensures
