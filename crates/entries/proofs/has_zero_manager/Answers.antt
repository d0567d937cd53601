-- One of the managers that are read is zero.
use native.Mathlib.Omega.{arith}
use Rattle.std.proofs.Common.{rules, ◌≡◌}
use borrow.Author.Tests.{tests}
use mathlib.Core.Path.{refl, ◌∙◌}
use Rattle.std.proofs.lemmas.Iterator.{YieldsList-from_range}
use Rattle.std.proofs.lemmas.Iterator.Search.{any_from_yields_List}
use Rattle.std.specs.List.{list_any, range_with_len}
use Rattle.rules.specs.Identifiers.{is_zero}
use Rattle.log_reader.specs.Reading.{manager_at}
use Rattle.entries.proofs.Rows.{any_read}
use Rattle.entries.proofs.has_zero_manager.Goals as goal

pub returns : goal.returns
returns c =
    let e : c.any.result ≡ list_any (λ j. is_zero (manager_at c.args.log.now c.args.at j)) (range_with_len 0 c.entries_count-count.result) =
    any_from_yields_List (λ j. is_zero (manager_at c.args.log.now c.args.at j)) _ _ c.any.result c.any.ensures.ran (YieldsList-from_range 0 _ c.entries_count-count.result refl (omega arith)) (λ x b q k. search (rules, tests)) in
    e ∙ any_read (λ e. is_zero e.rm) _ _ c.entries_count-count.ensures
