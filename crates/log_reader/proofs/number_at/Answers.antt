-- The number stands behind the manager of its entry.
use Rattle.log_reader.specs.Reading.{number_at}
use Rattle.log_reader.proofs.number_at.Goals as goal

pub returns : goal.returns
unfolding number_at
returns c = c.number_from.ensures
