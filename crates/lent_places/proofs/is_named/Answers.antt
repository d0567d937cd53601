-- A free place fails the definition's first test; of a live one the 16 bytes of the head are its identifier.
use borrow.Author.Tests.{ne_eqb}
use Rattle.rules.proofs.Identifiers.{pointwise_same}
use Rattle.rows.specs.Memory.{transaction_in}
use Rattle.lent_places.proofs.is_named.Goals as goal

pub returns-then-live : goal.returns-then-live
unfolding transaction_in
returns-then-live c = rw (ne_eqb _ _ c.if-live.true, ← c.identifier_in.ensures, ← pointwise_same) c.eq.ensures

pub returns-else-live : goal.returns-else-live
unfolding transaction_in
returns-else-live c = rw c.if-live.false
