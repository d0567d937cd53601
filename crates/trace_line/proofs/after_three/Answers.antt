-- The words of the rest are its first word and those behind the space, or the rest itself if it has no space.
use native.Mathlib.Omega.{arith}
use lib.Seq.{length-take-le}
use mathlib.Core.Path.{refl, sym}
use mathlib.Core.List.{◌∷◌}
use Rattle.rules.specs.Trace.{words_read}
use Rattle.trace_words.proofs.Words.{more_words, last_word}
use Rattle.trace_line.proofs.after_three.Goals as goal

pub slice_bounds-after_four-end : goal.slice_bounds-after_four-end
unfolding words_read
slice_bounds-after_four-end c = sym (length-take-le _ _ (omega arith))

pub returns-then-e-rest : goal.returns-then-e-rest
unfolding words_read
returns-then-e-rest c = more_words (λ ws. words_read (c.args.w.now ∷ c.args.a.now ∷ c.args.b.now ∷ ws)) c.args.rest.now c.word_end-e.ensures c.if-e-rest.true c.after_four.ensures

pub returns-else-e-rest : goal.returns-else-e-rest
unfolding words_read
returns-else-e-rest c = last_word (λ ws. words_read (c.args.w.now ∷ c.args.a.now ∷ c.args.b.now ∷ ws)) c.args.rest.now c.word_end-e.ensures c.if-e-rest.false refl
