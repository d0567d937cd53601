-- The definition, too, goes by which follow-up it is, and each case calls what it names there.
use Rattle.rules.specs.Events.{follow}
use Rattle.accepting.proofs.Laws.{quiet_gives}
use Rattle.accepting.proofs.follow.Goals as goal

pub returns-in-Nothing : goal.returns-in-Nothing
unfolding follow
returns-in-Nothing c = rw c.in-Nothing.is (quiet_gives c.args.h c.quietly.ensures _)

pub returns-in-StartPhaseOne : goal.returns-in-StartPhaseOne
unfolding follow
returns-in-StartPhaseOne c = rw c.in-StartPhaseOne.is c.phase_one_if_ready.ensures

pub returns-in-Decide : goal.returns-in-Decide
unfolding follow
returns-in-Decide c = rw c.in-Decide.is c.decide_if_ready.ensures

pub returns-in-End : goal.returns-in-End
unfolding follow
returns-in-End c = rw c.in-End.is c.end_quietly.ensures

pub returns-in-Abort : goal.returns-in-Abort
unfolding follow
returns-in-Abort c = rw c.in-Abort.is c.abort.ensures

pub returns-in-EndWith : goal.returns-in-EndWith
unfolding follow
returns-in-EndWith c = rw c.in-EndWith.is c.end_with.ensures
