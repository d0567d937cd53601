-- The test of each row is the definition's two.
use Rattle.std.proofs.Common.{◌∙◌, ◌&&◌, rules}
use borrow.Author.Tests.{tests}
use Rattle.std.proofs.lemmas.Iterator.{YieldsList-from_slice}
use Rattle.std.proofs.lemmas.Iterator.Search.{any_from_yields_List}
use Rattle.lists.proofs.Chains.{any_listed}
use Rattle.lists.proofs.Loops.{any_filter}
use Rattle.rules.specs.Table.{held_by, is_durable_of}
use Rattle.rows.specs.Memory.{enlistment_in}
use Rattle.lent_counts.proofs.has_durable_of.Goals as goal

pub returns : goal.returns
returns c = rw (any_filter (is_durable_of c.args.rm) (held_by c.args.p))
    (any_from_yields_List (λ row. held_by c.args.p (enlistment_in row) && is_durable_of c.args.rm (enlistment_in row)) _ _ _
    c.any.ensures.ran
    (YieldsList-from_slice c.args.rows.now cc) (λ x b q k. search (rules, tests))
    ∙ any_listed (λ e. held_by c.args.p e && is_durable_of c.args.rm e) enlistment_in c.args.rows.now)
