-- Each turn puts what `on_held` makes of one enlistment: what the closure gives if it is held, and else itself.
use mathlib.Core.Path.{◌∙◌}
use borrow.Author.Tests.{eq-eqb, ne_eqb}
use Rattle.lists.proofs.Loops.{long}
use Rattle.rules.specs.Table.{on_held}
use Rattle.holdings.proofs.Passed.{put_next, held_changes, other_stays}
use Rattle.holdings.proofs.change.Goals as goal
use Rattle.holdings.proofs.change.Goals.{then-e-h, else-e-h}

pub loop-e-preserved : goal.loop-e-preserved
loop-e-preserved g c = λ f says. elim c.if-e-h.branch [
  | then-e-h w ↦ w.e-items-is ∙ put_next (on_held c.args.h.place f) _ (search long) c.loop-e-test.true (c.loop-e.invariant f says) _ (held_changes c.args.h.place f (eq-eqb _ _ w.if-e-h.true) (says _ _ w.becomes.ensures))
  | else-e-h w ↦ w.e-items-is ∙ put_next (on_held c.args.h.place f) _ (search long) c.loop-e-test.true (c.loop-e.invariant f says) _ (other_stays c.args.h.place f (ne_eqb _ _ w.if-e-h.false))
]
