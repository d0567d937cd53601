-- The signals are read off the holding before it changes, and what ends is what the change leaves, as in the definition.
use Rattle.std.proofs.Common.{rules}
use Rattle.rules.specs.Events.{hears_abort, aborted_of, abort_of}
use Rattle.endings.proofs.Laws.{going_ready, going_leaves}
use Rattle.endings.proofs.abort.Goals as goal

pub end_if_done-requires : goal.end_if_done-requires
end_if_done-requires c = going_ready _ _ c.args.h (c.change_and_go-aborting.ensures aborted_of (λ x r k. search rules)) c.requires

pub returns : goal.returns
unfolding abort_of
returns c =
    let l = going_leaves _ _ c.args.h (c.change_and_go-aborting.ensures aborted_of (λ x r k. search rules)) c.args.log.now c.end_if_done.ensures in
    record { table = l.table; place = l.place; signals = c.to_each_and_app-signals.ensures hears_abort (λ x r k. search rules); log = l.log }
