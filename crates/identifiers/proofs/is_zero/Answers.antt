-- Each byte is compared with a zero, as in the definition.
use Rattle.std.proofs.Common.{◌≡◌, ◌∙◌, length, rules}
use Rattle.rules.proofs.Identifiers.{pointwise_zero}
use Rattle.identifiers.proofs.is_zero.Goals as goal

pub returns : goal.returns
returns c = let long : length c.args.a ≡ 16 = search rules in c.eq.ensures ∙ rw long at (pointwise_zero c.args.a)
