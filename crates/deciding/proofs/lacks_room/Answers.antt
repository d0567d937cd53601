-- Alone it is the one that can be open, so that the open ones are counted by one test.
use Rattle.rules.specs.Events.{lacks_room}
use Rattle.holdings.specs.Holdings.{alone}
use Rattle.deciding.proofs.Laws.{open_alone}
use Rattle.deciding.proofs.lacks_room.Goals as goal

pub returns : goal.returns
unfolding alone lacks_room
returns c = rw (c.saturating_sub.ensures, ← open_alone c.args.h c.is_open.ensures c.more-open.ensures c.requires)
