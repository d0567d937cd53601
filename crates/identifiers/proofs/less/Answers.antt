-- The first bytes that differ decide, in the library's order and in the definition.
use Rattle.rules.proofs.Identifiers.{lexicographic_less}
use Rattle.identifiers.proofs.less.Goals as goal

pub returns : goal.returns
returns c = lexicographic_less c.args.a c.args.b _ c.lt.ensures
