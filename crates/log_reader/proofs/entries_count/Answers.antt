-- The number of entries is the second byte.
use Rattle.log_reader.specs.Reading.{entries_count}
use Rattle.log_reader.proofs.entries_count.Goals as goal

pub returns : goal.returns
unfolding entries_count
returns c = c.byte.ensures
