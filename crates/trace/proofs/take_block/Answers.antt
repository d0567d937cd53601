-- Each turn takes some of the block and writes what it printed, so that the next turn has room.
use native.Mathlib.Omega.{arith}
use mathlib.Core.Path.{refl}
use borrow.Author.Rules.{rules}
use Rattle.std.proofs.lemmas.Bool.{not-true}
use Rattle.trace.proofs.Turns.{running_start, running_again, running_done, running_failed}
use Rattle.trace.proofs.take_block.Goals as goal

pub loop-s-init : goal.loop-s-init
loop-s-init c = let p = c.requires in running_start (record { sound = p.0.sound; long_heads = p.0.long_heads; long_rows = p.0.long_rows; kept = p.0.kept; waiting = p.0.waiting; line_long = p.0.line_long; output_long = p.0.output_long }) p.1 refl

pub take_lines-next-requires : goal.take_lines-next-requires
take_lines-next-requires c = let l = c.loop-s.invariant in (record { fits = l.fits; free = omega (arith, l.none) }, l.within)

pub flush-s-requires : goal.flush-s-requires
flush-s-requires c = let t = c.take_lines-next.ensures.fits in omega (arith, t.waiting, t.output_long)

pub loop-s-smaller : goal.loop-s-smaller
loop-s-smaller c = omega (arith, c.flush-s.ensures.taken, c.take_lines-next.ensures.some c.loop-s-test.true)

pub loop-s-preserved : goal.loop-s-preserved
loop-s-preserved c = running_again c.loop-s.invariant (search rules) c.take_lines-next.ensures c.flush-s.ensures

pub returns-then-not-s : goal.returns-then-not-s
returns-then-not-s c = running_failed (running_again c.loop-s.invariant (search rules) c.take_lines-next.ensures c.flush-s.ensures) (not-true _ c.if-not-s.true)

pub returns : goal.returns
returns c = running_done c.loop-s.invariant c.loop-s-test.false refl refl refl refl
