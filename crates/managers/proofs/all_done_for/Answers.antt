-- Each turn puts what the definition makes of one enlistment.
use Rattle.lists.proofs.Loops.{long}
use Rattle.rules.specs.Events.{done_for}
use Rattle.holdings.proofs.Passed.{put_next}
use Rattle.managers.proofs.all_done_for.Goals as goal

pub loop-e-preserved : goal.loop-e-preserved
loop-e-preserved c = put_next (done_for c.args.rm) _ (search long) c.loop-e-test.true c.loop-e.invariant _ c.done_for.ensures
