-- The test of each row is the definition's.
use Rattle.std.proofs.Common.{◌∙◌, ◌&&◌, rules}
use borrow.Author.Tests.{tests}
use Rattle.std.proofs.lemmas.Iterator.{YieldsList-from_slice}
use Rattle.std.proofs.lemmas.Iterator.Search.{any_from_yields_List}
use Rattle.lists.proofs.Chains.{any_listed}
use Rattle.rules.specs.Table.{held_by, is_durable}
use Rattle.rows.specs.Memory.{enlistment_in}
use Rattle.lent_counts.proofs.has_durable.Goals as goal

pub returns : goal.returns
returns c =
    any_from_yields_List (λ row. held_by c.args.p (enlistment_in row) && is_durable (enlistment_in row)) _ _ _
    c.any.ensures.ran
    (YieldsList-from_slice c.args.rows.now cc) (λ x b q k. search (rules, tests))
    ∙ any_listed (λ e. held_by c.args.p e && is_durable e) enlistment_in c.args.rows.now
