-- What is left of the word extends the value so far to the value of the whole.
use Rattle.trace_words.proofs.Words.{Extended}
use Rattle.trace_words.proofs.value_of.Given as goal

abbrev pub invariant-loop-b : goal.invariant-loop-b
invariant-loop-b l = Extended l.w l.n l.b-index
