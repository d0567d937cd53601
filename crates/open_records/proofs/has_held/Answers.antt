-- One of the numbers that are read is held in an open record.
use Rattle.std.proofs.Common.{rules, ◌≡◌}
use native.Mathlib.Omega.{arith}
use borrow.Author.Tests.{tests}
use mathlib.Core.Path.{refl, ◌∙◌}
use lib.Dec.{eqb}
use Rattle.std.proofs.lemmas.Iterator.{YieldsList-from_range}
use Rattle.std.proofs.lemmas.Iterator.Search.{any_from_yields_List}
use Rattle.std.specs.List.{list_any, range_with_len}
use Rattle.lists.specs.Lists.{any}
use Rattle.rules.specs.Restart.{entries_open}
use Rattle.log_reader.specs.Reading.{number_at}
use Rattle.entries.proofs.Rows.{any_read}
use Rattle.open_records.specs.Opening.{opens_of}
use Rattle.open_records.proofs.has_held.Goals as goal

pub returns : goal.returns
returns c =
    let e : c.any.result ≡ list_any (λ j. any (λ d. eqb d.number (number_at c.args.log.now c.args.at j)) (entries_open (opens_of c.args.log.now c.args.records))) (range_with_len 0 c.entries_count-count.result) =
    any_from_yields_List (λ j. any (λ d. eqb d.number (number_at c.args.log.now c.args.at j)) (entries_open (opens_of c.args.log.now c.args.records))) _ _ c.any.result c.any.ensures.ran
    (YieldsList-from_range 0 _ c.entries_count-count.result refl (omega arith)) (λ x b q k. search (rules, tests)) in
    e ∙ any_read (λ e. any (λ d. eqb d.number e.number) (entries_open (opens_of c.args.log.now c.args.records))) _ _ c.entries_count-count.ensures
