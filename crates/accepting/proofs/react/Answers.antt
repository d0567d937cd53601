-- The definition, too, goes by which reaction it is: each case makes the change that it names there, and then follows it up.
use Rattle.std.proofs.Common.{rules}
use Rattle.rules.specs.Table.{freed, in_state, on_number}
use Rattle.rules.specs.Events.{react}
use Rattle.accepting.proofs.Laws.{quiet_gives, changed_ready, changed_follows}
use Rattle.accepting.proofs.react.Goals as goal

pub follow-requires : goal.follow-requires
follow-requires c = changed_ready _ c.args.h (c.change-after.ensures (on_number c.args.n freed) (λ x r k. search rules)) c.requires

pub follow-requires-in-Becomes : goal.follow-requires-in-Becomes
follow-requires-in-Becomes c = changed_ready _ c.args.h (c.change-after-in-Becomes.ensures (on_number c.args.n (in_state c.in-Becomes.state)) (λ x r k. search rules)) c.requires

pub returns-in-Refused : goal.returns-in-Refused
unfolding react
returns-in-Refused c = rw c.in-Refused.is (quiet_gives c.args.h c.quietly.ensures _)

pub returns-in-Freed : goal.returns-in-Freed
unfolding react
returns-in-Freed c = rw c.in-Freed.is (changed_follows _ c.args.h (c.change-after.ensures (on_number c.args.n freed) (λ x r k. search rules)) _ c.args.log.now c.follow.ensures)

pub returns-in-Becomes : goal.returns-in-Becomes
unfolding react
returns-in-Becomes c = rw c.in-Becomes.is (changed_follows _ c.args.h (c.change-after-in-Becomes.ensures (on_number c.args.n (in_state c.in-Becomes.state)) (λ x r k. search rules)) _ c.args.log.now c.follow-in-Becomes.ensures)
