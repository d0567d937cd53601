-- The test of each head is the definition's.
use Rattle.std.proofs.Common.{rules}
use borrow.Author.Tests.{tests}
use Rattle.std.proofs.lemmas.Iterator.{YieldsList-from_slice}
use Rattle.std.proofs.lemmas.Iterator.Search.{position_from_yields_List}
use Rattle.lists.proofs.Chains.{place_at_position}
use Rattle.rules.specs.Table.{is_named}
use Rattle.rows.specs.Memory.{transaction_in}
use Rattle.lent_places.proofs.place_named.Goals as goal

pub returns : goal.returns
returns c = place_at_position (is_named c.args.id) transaction_in c.args.heads.now
    (position_from_yields_List (λ head. is_named c.args.id (transaction_in head)) _ _ _ c.position.ensures.ran
    (YieldsList-from_slice c.args.heads.now cc) (λ x b q k. search (rules, tests)))
    c.place_at.ensures
