-- The numbers that are passed ascend to the last, so that the entries that are left, from that number on, say what all say.
use native.Mathlib.Omega.{arith}
use mathlib.Core.Path.{refl}
use borrow.Author.Tests.{lt-ltb, le-ltb}
use Rattle.lists.proofs.Loops.{ahead_next, ahead_stop, ahead_done}
use Rattle.rules.specs.Restart.{ascend_from}
use Rattle.entries.proofs.Rows.{entry_next, entries_over}
use Rattle.entries.proofs.numbers_ascend.Goals as goal

pub loop-j-init : goal.loop-j-init
unfolding ascend_from
loop-j-init c = record { same = refl }

pub loop-j-preserved : goal.loop-j-preserved
unfolding ascend_from
loop-j-preserved c = ahead_next c.loop-j.invariant (entry_next _ _ _ c.entries_count-j-end.ensures c.loop-j-test.true) (rw (← c.number_at-number.ensures, lt-ltb c.loop-j.last c.number_at-number.result (omega arith)))

pub returns-then-not-above : goal.returns-then-not-above
unfolding ascend_from
returns-then-not-above c = ahead_stop c.loop-j.invariant (entry_next _ _ _ c.entries_count-j-end.ensures c.loop-j-test.true) (rw (← c.number_at-number.ensures, le-ltb c.loop-j.last c.number_at-number.result (omega arith)))

pub returns : goal.returns
unfolding ascend_from
returns c = ahead_done c.loop-j.invariant (entries_over _ _ _ c.entries_count-j-end.ensures c.loop-j-test.false) refl
