-- The holder that is looked at stands in the row at byte 20.
use Rattle.std.proofs.Common.{rules}
use borrow.Author.Tests.{tests}
use Rattle.std.proofs.lemmas.Iterator.{YieldsList-from_slice}
use Rattle.std.proofs.lemmas.Iterator.Search.{position_from_yields_List}
use Rattle.lists.proofs.Chains.{place_at_position}
use Rattle.rules.specs.Table.{is_vacant}
use Rattle.rows.specs.Memory.{enlistment_in}
use Rattle.lent_places.proofs.place_vacant.Goals as goal

pub returns : goal.returns
unfolding enlistment_in
returns c = place_at_position is_vacant enlistment_in c.args.rows.now
    (position_from_yields_List _ _ _ _ c.position.ensures.ran
    (YieldsList-from_slice c.args.rows.now cc) (λ x b q k. search (rules, tests)))
    c.place_at.ensures
