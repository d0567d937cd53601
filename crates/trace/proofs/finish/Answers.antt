-- A line of which something is kept is answered, and without one nothing is left to do.
use Rattle.trace.proofs.Finished.{finish_nothing, finish_last}
use Rattle.trace.proofs.finish.Goals as goal

pub returns-then-s-eq0 : goal.returns-then-s-eq0
returns-then-s-eq0 c = finish_nothing c.requires c.if-s-eq0.true

pub returns : goal.returns
returns c = finish_last c.requires c.if-s-eq0.false c.answer.ensures
