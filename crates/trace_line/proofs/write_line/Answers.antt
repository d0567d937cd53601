-- The parts behind one another are the line, and each ends before the buffer does: 17 bytes at most for the three numbers, and 28 for each signal.
use Prim.Native.Nat.{ℕ, ◌+◌, ◌≤◌}
use native.Mathlib.Omega.{arith}
use Rattle.lists.proofs.Loops.{long}
use lib.ListN.{length}
use Rattle.rules.specs.Sizes.{signals_most}
use Rattle.rules.specs.Trace.{digits}
use Rattle.trace_parts.specs.Puts.{digits_most}
use Rattle.trace_parts.proofs.Digits.{few_digits, most_digits}
use Rattle.trace_line.proofs.Lines.{taken_most, line_written}
use Rattle.trace_line.proofs.write_line.Goals as goal

-- the first three numbers take at most 15 bytes, and the spaces between them 2
headed : (used count : ℕ) {first : ℕ} → first ≤ 3 → count ≤ signals_most → first + length (digits digits_most used) + length (digits digits_most count) ≤ 15
headed used count h n = omega (arith, most_digits digits_most used, few_digits digits_most 1 count (omega arith))

pub bounds-buffer-first : goal.bounds-buffer-first
bounds-buffer-first c = omega (arith, few_digits digits_most 2 c.args.refusal (omega arith))

pub overflow_add-first : goal.overflow_add-first
overflow_add-first c = omega (arith, few_digits digits_most 2 c.args.refusal (omega arith))

pub put_number-second-requires : goal.put_number-second-requires
put_number-second-requires c = omega (arith, few_digits digits_most 2 c.args.refusal (omega arith))

pub bounds-buffer-second : goal.bounds-buffer-second
bounds-buffer-second c = omega (arith, few_digits digits_most 2 c.args.refusal (omega arith), most_digits digits_most c.args.used)

pub overflow_add-second : goal.overflow_add-second
overflow_add-second c = omega (arith, few_digits digits_most 2 c.args.refusal (omega arith), most_digits digits_most c.args.used)

pub put_number-third-requires : goal.put_number-third-requires
put_number-third-requires c = omega (arith, few_digits digits_most 2 c.args.refusal (omega arith), most_digits digits_most c.args.used)

pub put_signals-end-requires : goal.put_signals-end-requires
put_signals-end-requires c =
    let n : c.signal_count-count.result ≤ signals_most = omega arith in
    (n, omega (arith, headed c.args.used c.signal_count-count.result (few_digits digits_most 2 c.args.refusal (omega arith)) n))

pub bounds-buffer-end : goal.bounds-buffer-end
bounds-buffer-end c =
    let n : c.signal_count-count.result ≤ signals_most = omega arith in
    omega (arith, headed c.args.used c.signal_count-count.result (few_digits digits_most 2 c.args.refusal (omega arith)) n, taken_most c.signal_count-count.result c.args.signals.items)

pub overflow_add-result : goal.overflow_add-result
overflow_add-result c =
    let n : c.signal_count-count.result ≤ signals_most = omega arith in
    omega (arith, headed c.args.used c.signal_count-count.result (few_digits digits_most 2 c.args.refusal (omega arith)) n, taken_most c.signal_count-count.result c.args.signals.items)

pub returns : goal.returns
returns c =
    line_written c.args.signals (search long) (omega arith) c.signal_count-count.ensures
    c.put_number-first.ensures c.put_number-second.ensures c.put_number-third.ensures c.put_signals-end.ensures
