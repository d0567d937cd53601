-- An entry of all open records is an entry of one of them.
use Rattle.std.proofs.Common.{rules, ◌≡◌}
use borrow.Author.Tests.{tests}
use mathlib.Core.Path.{◌∙◌, sym}
use lib.Dec.{eqb}
use Rattle.std.proofs.lemmas.Iterator.{YieldsList-from_slice}
use Rattle.std.proofs.lemmas.Iterator.Search.{any_from_yields_List}
use Rattle.std.specs.List.{list_any}
use Rattle.lists.specs.Lists.{any}
use Rattle.log_reader.specs.Reading.{entries_at}
use Rattle.open_records.specs.Opening.{starts_of}
use Rattle.open_records.proofs.Rows.{any_starts, any_entries}
use Rattle.open_records.proofs.is_held.Goals as goal

pub returns : goal.returns
returns c =
    let e : c.any.result ≡ list_any (λ p. any (λ d. eqb d.number c.args.number) (entries_at c.args.log.now p)) (starts_of c.args.records) =
    any_from_yields_List (λ p. any (λ d. eqb d.number c.args.number) (entries_at c.args.log.now p)) _ _ c.any.result c.any.ensures.ran (YieldsList-from_slice (starts_of c.args.records) cc) (λ x b q k. search (rules, tests)) in
    e ∙ any_starts (λ o. any (λ d. eqb d.number c.args.number) o.entries) _ _ ∙ sym (any_entries _ _)
