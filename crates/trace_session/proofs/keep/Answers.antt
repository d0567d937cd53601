-- What is stored behind the line is as much of the new bytes as there is room for.
use native.Mathlib.Omega.{arith}
use lib.ListN.{length-take}
use Rattle.trace_session.proofs.Memory.{keeps_room}
use Rattle.trace_session.proofs.keep.Goals as goal

pub slice_bounds-put_text-end : goal.slice_bounds-put_text-end
slice_bounds-put_text-end c = simp length-take (omega arith)

pub put_text-requires : goal.put_text-requires
put_text-requires c = simp length-take (omega arith)

pub returns : goal.returns
returns c = keeps_room c.put_text.ensures c.min-n.ensures
