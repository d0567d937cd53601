-- The first that has the number is the first that is found.
use Rattle.std.proofs.Common.{rules}
use borrow.Author.Tests.{tests}
use Rattle.std.proofs.lemmas.Iterator.{YieldsList-from_slice}
use Rattle.std.proofs.lemmas.Iterator.Search.{find_from_yields_List}
use Rattle.lists.proofs.Chains.{first_at_find}
use Rattle.rules.specs.Table.{is_numbered, no_enlistment}
use Rattle.rows.specs.Memory.{enlistment_in}
use Rattle.lent_places.proofs.numbered.Goals as goal

pub returns : goal.returns
unfolding enlistment_in
returns c = first_at_find (is_numbered c.args.n) enlistment_in no_enlistment c.args.rows.now
    (find_from_yields_List _ _ _ _ c.find-found.ensures.ran
    (YieldsList-from_slice c.args.rows.now cc) (λ x b q k. search (rules, tests)))
    (search rules)
