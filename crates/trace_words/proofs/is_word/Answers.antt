-- The library's equality of two slices is the definition's, byte by byte.
use mathlib.Core.Path.{◌∙◌}
use Rattle.rules.proofs.Identifiers.{pointwise_same}
use Rattle.trace_words.proofs.is_word.Goals as goal

pub returns : goal.returns
returns c = c.eq.ensures ∙ pointwise_same c.args.w.now c.args.text.now
