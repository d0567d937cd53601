-- The library's test of two arrays, byte by byte, is the definition's.
use Rattle.std.proofs.Common.{◌∙◌}
use Rattle.rules.proofs.Identifiers.{pointwise_same}
use Rattle.identifiers.proofs.same.Goals as goal

pub returns : goal.returns
returns c = c.eq.ensures ∙ pointwise_same c.args.a c.args.b
