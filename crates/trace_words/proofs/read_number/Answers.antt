-- A word of one byte has no leading zero, and a longer one has it if its first byte is a zero.
use mathlib.Core.Path.{◌∙◌}
use Rattle.trace_words.proofs.Words.{no_word, leading_zero, no_leading_zero}
use Rattle.trace_words.proofs.read_number.Goals as goal

pub returns-in_err-leading : goal.returns-in_err-leading
returns-in_err-leading c = c.from_residual.ensures ∙ no_word c.args.w.now c.in_err-leading.ensures.value

pub returns-then-w-gt1 : goal.returns-then-w-gt1
returns-then-w-gt1 c = leading_zero c.args.w.now c.in_ok-leading.ensures.value c.if-leading.true c.if-w-gt1.true

pub returns : goal.returns
returns c = c.value_of.ensures ∙ no_leading_zero c.args.w.now c.in_ok-leading.ensures.value c.else-leading.either
