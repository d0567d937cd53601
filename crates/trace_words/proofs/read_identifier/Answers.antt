-- A word names an identifier if it is a number of at most 255, which stands last of its 16 bytes.
use mathlib.Core.Path.{◌∙◌, sym}
use Rattle.trace_words.proofs.Words.{as_byte, identifier_is}
use Rattle.trace_words.proofs.read_identifier.Goals as goal

pub returns-in_err-read_number : goal.returns-in_err-read_number
returns-in_err-read_number c =
    c.from_residual.ensures ∙ rw (← identifier_is c.args.w.now, ← c.in_err-read_number.ensures)

pub returns-in_err-bytes : goal.returns-in_err-bytes
returns-in_err-bytes c =
    let large = as_byte c.try_from.result _ c.try_from.ensures (sym c.in_err-bytes.was ∙ c.ok.ensures.value) in
    c.from_residual-in_err-bytes.ensures ∙ rw (← identifier_is c.args.w.now, ← c.in_ok-read_number.ensures, ← large)

pub returns : goal.returns
returns c =
    let small = as_byte c.try_from.result _ c.try_from.ensures (sym c.in_ok-bytes.was ∙ c.ok.ensures.value) in
    rw (← identifier_is c.args.w.now, ← c.in_ok-read_number.ensures, ← small)
