-- A line that is too long can't be read; else its words are its first and those behind the space, or the line itself.
use borrow.Author.Tests.{le-leb, lt-leb}
use native.Mathlib.Omega.{arith}
use mathlib.Core.Path.{sym}
use lib.Seq.{length-take-le}
use Rattle.rules.specs.Trace.{command_of, words_read}
use Rattle.trace_words.proofs.Words.{more_words, last_word}
use Rattle.trace_line.proofs.read_line.Goals as goal

pub returns-then-line-gt-LINE : goal.returns-then-line-gt-LINE
unfolding command_of
returns-then-line-gt-LINE c = rw (lt-leb _ _ c.if-line-gt-LINE.true)

pub slice_bounds-after_one-end : goal.slice_bounds-after_one-end
unfolding command_of
slice_bounds-after_one-end c = sym (length-take-le _ _ (omega arith))

pub returns-then-e-line : goal.returns-then-e-line
unfolding command_of
returns-then-e-line c = rw (le-leb _ _ c.if-line-gt-LINE.false) (more_words words_read c.args.line.now c.word_end-e.ensures c.if-e-line.true c.after_one.ensures)

pub returns-else-e-line : goal.returns-else-e-line
unfolding command_of
returns-else-e-line c = rw (le-leb _ _ c.if-line-gt-LINE.false) (last_word words_read c.args.line.now c.word_end-e.ensures c.if-e-line.false c.one_word.ensures)
