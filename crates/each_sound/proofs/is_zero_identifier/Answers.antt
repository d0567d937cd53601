-- Sixteen bytes that are zero are the zero identifier, and sixteen others are an identifier.
use mathlib.Core.Path.{◌∙◌, ap}
use mathlib.Core.Bool.{not}
use borrow.Author.Rules.{rules}
use Rattle.each_sound.proofs.Laws.{zero_same, identifier_is}
use Rattle.each_sound.proofs.is_zero_identifier.Goals as goal

pub returns : goal.returns
returns c = (c.is_zero.ensures ∙ zero_same _ (search rules), ap not c.is_zero.ensures ∙ identifier_is _ (search rules))
