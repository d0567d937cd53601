-- One of the managers that are read from the first on is this.
use Rattle.std.proofs.Common.{rules, ◌≡◌, ◌-◌}
use borrow.Author.Tests.{tests}
use mathlib.Core.Path.{refl, ◌∙◌}
use Rattle.std.proofs.lemmas.Iterator.{YieldsList-from_range}
use Rattle.std.proofs.lemmas.Iterator.Search.{any_from_yields_List}
use Rattle.std.specs.List.{list_any, range_with_len}
use Rattle.rules.specs.Identifiers.{same_bytes}
use Rattle.log_reader.specs.Reading.{manager_at}
use Rattle.entries.proofs.Rows.{any_behind}
use Rattle.entries.proofs.has_manager.Goals as goal

pub returns : goal.returns
returns c =
    let e : c.any.result ≡ list_any (λ j. same_bytes (manager_at c.args.log.now c.args.at j) c.args.rm) (range_with_len c.args.from (c.entries_count-count.result - c.args.from)) =
    any_from_yields_List (λ j. same_bytes (manager_at c.args.log.now c.args.at j) c.args.rm) _ _ c.any.result c.any.ensures.ran (YieldsList-from_range c.args.from _ (c.entries_count-count.result - c.args.from) refl refl) (λ x b q k. search (rules, tests)) in
    e ∙ any_behind (λ e. same_bytes e.rm c.args.rm) _ _ _ c.entries_count-count.ensures
