-- No manager that is passed stands behind its place again, so that the entries that are left say what all say.
use mathlib.Core.Path.{refl}
use Rattle.lists.specs.Lists.{differ}
use Rattle.lists.proofs.Loops.{ahead_done}
use Rattle.entries.proofs.Rows.{differ_next, differ_stop, entry_next, entries_over}
use Rattle.entries.proofs.managers_differ.Goals as goal

pub loop-j-init : goal.loop-j-init
unfolding differ
loop-j-init c = record { same = refl }

pub returns-then-again : goal.returns-then-again
unfolding differ
returns-then-again c = differ_stop c.loop-j.invariant (entry_next _ _ _ c.entries_count-j-end.ensures c.loop-j-test.true) c.manager_at-rm.ensures c.has_manager-again.ensures c.if-again.true

pub loop-j-preserved : goal.loop-j-preserved
unfolding differ
loop-j-preserved c = differ_next c.loop-j.invariant (entry_next _ _ _ c.entries_count-j-end.ensures c.loop-j-test.true) c.manager_at-rm.ensures c.has_manager-again.ensures c.if-again.false

pub returns : goal.returns
unfolding differ
returns c = ahead_done c.loop-j.invariant (entries_over _ _ _ c.entries_count-j-end.ensures c.loop-j-test.false) refl
