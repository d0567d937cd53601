-- A space, a name of at most 16 bytes, a colon and a number of at most ten digits, one behind another.
use native.Mathlib.Omega.{arith}
use Rattle.rules.specs.Trace.{space, colon}
use Rattle.trace_parts.specs.Puts.{signal_text}
use Rattle.trace_parts.proofs.Puts.{put_both, put_byte, name_most_lem}
use Rattle.trace_parts.proofs.put_signal.Goals as goal

pub bounds-buffer-named : goal.bounds-buffer-named
unfolding signal_text
bounds-buffer-named c = omega (arith, name_most_lem c.args.signal.name)

pub overflow_add-named : goal.overflow_add-named
unfolding signal_text
overflow_add-named c = omega (arith, name_most_lem c.args.signal.name)

pub put_number-requires : goal.put_number-requires
unfolding signal_text
put_number-requires c = omega (arith, name_most_lem c.args.signal.name)

pub returns : goal.returns
unfolding signal_text
returns c = put_both (put_both (put_byte space) c.put_name-named.ensures) (put_both (put_byte colon) c.put_number.ensures)
