-- Entry j begins behind the record's fixed part and j entries.
use Rattle.log_reader.specs.Reading.{manager_at}
use Rattle.log_reader.proofs.manager_at.Goals as goal

pub returns : goal.returns
unfolding manager_at
returns c = c.identifier_from.ensures
