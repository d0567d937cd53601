-- Both arrays repeat one place, and that one is empty.
use Rattle.places.proofs.empty.Goals as goal

pub returns : goal.returns
returns c = simp (← c.no_transaction.ensures, ← c.no_enlistment.ensures)
