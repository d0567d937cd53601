-- What is left of the word extends the value so far to that of the whole, and a byte that can't extend it ends all.
use mathlib.Core.Path.{◌∙◌}
use Rattle.trace_words.proofs.Words.{extended_again, extended_no_more, extended_done}
use Rattle.trace_words.proofs.value_of.Goals as goal

pub loop-b-preserved : goal.loop-b-preserved
loop-b-preserved c = extended_again c.loop-b.n c.loop-b.invariant c.in_ok-n.n c.loop-b-test.true c.in_ok-n.ensures

pub returns-in_err-n : goal.returns-in_err-n
returns-in_err-n c =
    c.from_residual.ensures ∙ extended_no_more c.loop-b.n c.loop-b.invariant c.loop-b-test.true c.in_err-n.ensures

pub returns : goal.returns
returns c = extended_done c.loop-b.n c.loop-b.invariant c.loop-b-test.false
