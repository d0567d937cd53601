-- The signals that were written, and one more behind them, are the next signals written.
use borrow.Author.Rules.{rules}
use Rattle.lists.proofs.Loops.{long}
use Rattle.trace_line.proofs.Signals.{sending_start, sending_again, sending_done}
use Rattle.rules.specs.Signals.{no_signal}
use Rattle.trace_line.proofs.put_signals.Goals as goal

pub loop-i-init : goal.loop-i-init
loop-i-init c = sending_start (search long)

pub loop-i-preserved : goal.loop-i-preserved
loop-i-preserved c = sending_again no_signal c.loop-i.invariant c.loop-i-test.true (search rules) c.put_signal-at.ensures

pub returns : goal.returns
returns c = sending_done c.loop-i.invariant c.loop-i-test.false
