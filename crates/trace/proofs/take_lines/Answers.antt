-- Each turn takes some of the block. The loop ends where the block does, or where no room is left, which is not before the first turn.
use native.Mathlib.Omega.{arith}
use borrow.Author.Rules.{rules}
use Rattle.trace.proofs.Turns.{taking_start, taking_again, taking_done, enough_room, no_room}
use Rattle.trace.proofs.take_lines.Goals as goal

pub loop-s-init : goal.loop-s-init
loop-s-init c = taking_start c.requires.0.fits c.requires.1

pub returns-then-not-has_room : goal.returns-then-not-has_room
returns-then-not-has_room c = taking_done c.loop-s.invariant (λ h e. omega (arith, c.requires.0.free, no_room c.loop-s.s c.has_room.ensures c.if-not-has_room.true))

pub take_line-s-requires : goal.take_line-s-requires
take_line-s-requires c = (record { fits = c.loop-s.invariant.fits; free = enough_room c.loop-s.s c.has_room.ensures c.if-not-has_room.false }, c.loop-s.invariant.within)

pub loop-s-smaller : goal.loop-s-smaller
loop-s-smaller c = omega (arith, c.take_line-s.ensures.some c.loop-s-test.true)

pub loop-s-preserved : goal.loop-s-preserved
loop-s-preserved c = taking_again c.loop-s.invariant c.loop-s-test.true (search rules) c.take_line-s.ensures

pub returns : goal.returns
returns c = taking_done c.loop-s.invariant (λ h e. omega (arith, c.loop-s-test.false))
