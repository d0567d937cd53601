-- The first space ends the name, since no name has one.
use native.Mathlib.Omega.{arith}
use mathlib.Core.Path.{sym}
use lib.Seq.{length-take-le}
use Rattle.trace_parts.proofs.Puts.{name_most_lem, name_taken}
use Rattle.trace_parts.proofs.put_name.Goals as goal

pub slice_bounds-padded-end : goal.slice_bounds-padded-end
slice_bounds-padded-end c = omega (arith, (name_taken _ c.padded_name-padded.ensures c.word_end-n.ensures).0)

pub slice_bounds-put_text-end-2 : goal.slice_bounds-put_text-end-2
slice_bounds-put_text-end-2 c = sym (length-take-le _ _ (omega (arith, (name_taken _ c.padded_name-padded.ensures c.word_end-n.ensures).0)))

pub put_text-requires : goal.put_text-requires
put_text-requires c =
    let (n, e) = name_taken _ c.padded_name-padded.ensures c.word_end-n.ensures in
    rw e (omega (arith, name_most_lem c.args.name))

pub returns : goal.returns
returns c =
    let (n, e) = name_taken _ c.padded_name-padded.ensures c.word_end-n.ensures in
    rw e at c.put_text.ensures
