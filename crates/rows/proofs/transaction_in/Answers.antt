-- The identifier stands in front of the state.
use Rattle.rows.specs.Memory.{transaction_in}
use Rattle.rows.proofs.transaction_in.Goals as goal

pub returns : goal.returns
unfolding transaction_in
returns c = rw (← c.identifier_in.ensures)
