-- A row has its holder and its kind in the bytes that the code compares.
use borrow.Author.Tests.{eq-eqb, ne_eqb}
use Rattle.rows.specs.Memory.{enlistment_in}
use Rattle.lent_counts.proofs.is_held_durable.Goals as goal

pub returns-then-row-p : goal.returns-then-row-p
unfolding enlistment_in
returns-then-row-p c = rw (eq-eqb _ _ c.if-row-p.true)

pub returns-else-row-p : goal.returns-else-row-p
unfolding enlistment_in
returns-else-row-p c = rw (ne_eqb _ _ c.if-row-p.false)
