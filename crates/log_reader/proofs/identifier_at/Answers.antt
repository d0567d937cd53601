-- The identifier stands behind the first two bytes.
use Rattle.log_reader.specs.Reading.{identifier_at}
use Rattle.log_reader.proofs.identifier_at.Goals as goal

pub returns : goal.returns
unfolding identifier_at
returns c = c.identifier_from.ensures
