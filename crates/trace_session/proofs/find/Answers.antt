-- The byte is found here, or one byte further on than what is left begins; and there is none in a part that has ended.
use native.Mathlib.Omega.{arith}
use mathlib.Core.Path.{◌≡◌}
use Rattle.trace_session.proofs.Finding.{index_here, index_on, index_over}
use Rattle.trace_session.proofs.find.Goals as goal

pub returns-then-block-i : goal.returns-then-block-i
returns-then-block-i c =
    let z = index_here c.args.byte c.args.to c.args.block.now c.requires.1 c.loop-i.i c.loop-i-test.true c.if-block-i.true in
    (omega (arith, z, c.loop-i.invariant.same), c.loop-i.invariant.within)

pub loop-i-preserved : goal.loop-i-preserved
loop-i-preserved c =
    let z = index_on c.args.byte c.args.to c.args.block.now c.requires.1 c.loop-i.i c.loop-i-test.true c.if-block-i.false in
    record { above = omega arith; within = omega arith; same = omega (arith, z, c.loop-i.invariant.same) }

pub returns : goal.returns
returns c =
    let e : c.loop-i.i ≡ c.args.to = omega arith in
    let z = index_over c.args.byte c.args.to c.args.block.now c.requires.1 in
    (omega (arith, rw e at c.loop-i.invariant.same, z), omega arith)
