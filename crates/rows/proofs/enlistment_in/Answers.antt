-- Each field is read where it stands.
use Rattle.rows.specs.Memory.{enlistment_in}
use Rattle.rows.proofs.enlistment_in.Goals as goal

pub returns : goal.returns
unfolding enlistment_in
returns c = rw (← c.identifier_in.ensures, ← c.number_in.ensures)
