-- The signals are read off the holding before it changes, and nothing is written, so that any log stays.
use Rattle.endings.proofs.Laws.{going_gives}
use Rattle.deciding.proofs.commit_unlogged.Goals as goal

pub returns : goal.returns
returns c = going_gives _ _ c.args.h c.committing.ensures _ c.commit_signals.ensures
