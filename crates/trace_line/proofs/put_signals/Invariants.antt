-- The signals that were written, and one more behind them, are the next signals written.
use Rattle.trace_line.proofs.Signals.{Sending}
use Rattle.trace_line.proofs.put_signals.Given as goal

abbrev pub invariant-loop-i : goal.invariant-loop-i
invariant-loop-i l = Sending l.n l.items l.initial.buffer l.from l.buffer l.at l.i
