-- Between two blocks the program stands where the bytes that it has read lead from its start, and nothing waits: each turn keeps that, and counts down.
use borrow.Author.Rules.{rules}
use Rattle.std.proofs.lemmas.Bool.{not-false}
use Rattle.trace.proofs.Reached.{reached_start, reached_again}
use Rattle.trace.proofs.main.Goals as goal

pub loop-init : goal.loop-init
loop-init c = reached_start c.started-s.ensures (search rules) (search rules) (search rules)

pub loop-preserved : goal.loop-preserved
loop-preserved c = reached_again c.loop.invariant c.take_block-s.ensures (not-false _ c.if-not-s.false) (search rules)
