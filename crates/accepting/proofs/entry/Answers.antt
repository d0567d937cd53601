-- The code asks what the definition asks, whether phase zero is under way, and in both cases fills in the same fields.
use mathlib.Core.Path.{refl, sym, ◌∙◌}
use Rattle.rules.specs.Events.{new_enlistment}
use Rattle.accepting.proofs.entry.Goals as goal
use Rattle.accepting.proofs.entry.Goals.{then-is_zero_at_once, else-is_zero_at_once}

pub returns : goal.returns
unfolding new_enlistment
returns c = elim c.if-is_zero_at_once.branch [
  | then-is_zero_at_once w ↦ rw (w.first-is, sym c.is_zero_at_once.ensures ∙ w.if-is_zero_at_once.true, c.kind_of.ensures, c.mark_of.ensures) (refl, w.to_one.ensures)
  | else-is_zero_at_once w ↦ rw (w.first-is, sym c.is_zero_at_once.ensures ∙ w.if-is_zero_at_once.false, c.kind_of.ensures, c.mark_of.ensures) (refl, w.to_none.ensures)
]
