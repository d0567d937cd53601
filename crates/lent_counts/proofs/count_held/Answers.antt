-- Those that are left are the held ones, no more than there are places.
use Rattle.std.proofs.Common.{◌≡◌, ◌∙◌, length, map, arith, rules}
use lib.ListN.{length-map}
use borrow.Author.Tests.{tests}
use Rattle.std.proofs.lemmas.Iterator.{YieldsList-from_slice}
use Rattle.std.proofs.lemmas.Iterator.Consumers.{YieldsList-from_filter, count_from_yields_List}
use Rattle.lists.specs.Lists.{filter}
use Rattle.lists.proofs.Chains.{length_listed}
use Rattle.lists.proofs.Tests.{length_filter}
use Rattle.rules.specs.Table.{held_by}
use Rattle.rows.specs.Memory.{enlistment_in}
use Rattle.lent_counts.proofs.count_held.Goals as goal

pub returns : goal.returns
unfolding enlistment_in
returns c =
    let mine = held_by c.args.p in let rows = c.args.rows.now in
    let q : c.count.result ≡ length (filter mine (map enlistment_in rows)) =
    count_from_yields_List c.filter.result c.count.result c.count.ensures.ran
    (YieldsList-from_filter _ (λ row. mine (enlistment_in row)) (YieldsList-from_slice rows cc)
    c.filter.ensures.closure (λ x b q k. search (rules, tests)))
    ∙ length_listed mine enlistment_in rows in
    (q, omega (arith, q, length_filter mine (map enlistment_in rows), length-map rows enlistment_in, c.told-rows))
