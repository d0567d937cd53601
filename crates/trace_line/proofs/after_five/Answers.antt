-- A space in the rest makes a seventh word, and no command has one; without a space the rest is the sixth.
use lib.ListN.{take}
use mathlib.Core.Path.{refl}
use mathlib.Core.List.{◌∷◌}
use Rattle.rules.specs.Trace.{words_read}
use Rattle.trace_words.proofs.Words.{more_words, last_word, some_words}
use Rattle.trace_line.proofs.after_five.Goals as goal

pub returns-then-e-rest : goal.returns-then-e-rest
unfolding words_read
returns-then-e-rest c =
    more_words (λ ws. words_read (c.args.w.now ∷ c.args.a.now ∷ c.args.b.now ∷ c.args.c.now ∷ c.args.d.now ∷ ws)) c.args.rest.now c.word_end-e.ensures c.if-e-rest.true
    (some_words (λ ws. words_read (c.args.w.now ∷ c.args.a.now ∷ c.args.b.now ∷ c.args.c.now ∷ c.args.d.now ∷ take c.word_end-e.result c.args.rest.now ∷ ws)) (λ w ws. refl) _)

pub returns-else-e-rest : goal.returns-else-e-rest
unfolding words_read
returns-else-e-rest c = last_word (λ ws. words_read (c.args.w.now ∷ c.args.a.now ∷ c.args.b.now ∷ c.args.c.now ∷ c.args.d.now ∷ ws)) c.args.rest.now c.word_end-e.ensures c.if-e-rest.false c.six_words.ensures
