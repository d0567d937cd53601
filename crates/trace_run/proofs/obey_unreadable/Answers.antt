-- The definition, too, answers 16 with no signal and leaves table and log, so that the line that is written is its line.
use Rattle.trace_run.proofs.obey_unreadable.Goals as goal

pub returns : goal.returns
returns c = rw c.to_none-none.ensures at c.answered.ensures
