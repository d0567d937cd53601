-- The output line stands at the start of the buffer, so that as much of it, stored behind what waits, is the line printed.
use native.Mathlib.Omega.{arith}
use mathlib.Core.Path.{refl}
use lib.ListN.{length-take}
use borrow.Author.Rules.{rules}
use Rattle.trace.proofs.Answered.{output_long, answer_stands}
use Rattle.trace.proofs.answer.Goals as goal

pub slice_bounds-obey_in-end : goal.slice_bounds-obey_in-end
slice_bounds-obey_in-end c = simp length-take (omega arith)

pub slice_bounds-buffer-end : goal.slice_bounds-buffer-end
slice_bounds-buffer-end c = omega (arith, output_long c.obey_in-o.ensures.0 (search rules))

pub slice_bounds-put_text-end : goal.slice_bounds-put_text-end
slice_bounds-put_text-end c = simp length-take (omega (arith, output_long c.obey_in-o.ensures.0 (search rules)))

pub put_text-waiting-requires : goal.put_text-waiting-requires
put_text-waiting-requires c = simp length-take (omega (arith, c.obey_in-o.ensures.0.within))

pub returns : goal.returns
returns c = answer_stands c.requires refl c.obey_in-o.ensures.0 c.obey_in-o.ensures.1 c.put_text-waiting.ensures
