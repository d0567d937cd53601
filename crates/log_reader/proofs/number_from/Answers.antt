-- The four bytes stand one behind the other, each read by its own sum.
use mathlib.Core.Path.{◌∙◌}
use Rattle.log_reader.proofs.Places.{four_bytes}
use Rattle.log_reader.proofs.number_from.Goals as goal

pub returns : goal.returns
returns c = c.number_of.ensures ∙ four_bytes _ _ _ c.byte-a.ensures c.byte-b.ensures c.byte-c.ensures c.byte-d.ensures
