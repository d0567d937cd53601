-- The state that is looked at stands in the head at byte 16.
use Rattle.std.proofs.Common.{rules}
use borrow.Author.Tests.{tests}
use Rattle.std.proofs.lemmas.Iterator.{YieldsList-from_slice}
use Rattle.std.proofs.lemmas.Iterator.Search.{position_from_yields_List}
use Rattle.lists.proofs.Chains.{place_at_position}
use Rattle.rules.specs.Table.{is_free}
use Rattle.rows.specs.Memory.{transaction_in}
use Rattle.lent_places.proofs.place_free.Goals as goal

pub returns : goal.returns
unfolding transaction_in
returns c = place_at_position is_free transaction_in c.args.heads.now
    (position_from_yields_List _ _ _ _ c.position.ensures.ran
    (YieldsList-from_slice c.args.heads.now cc) (λ x b q k. search (rules, tests)))
    c.place_at.ensures
