-- One of the places is that of a record of this transaction.
use Rattle.std.proofs.Common.{rules, ◌≡◌}
use borrow.Author.Tests.{tests}
use mathlib.Core.Path.{◌∙◌}
use Rattle.std.proofs.lemmas.Iterator.{YieldsList-from_slice}
use Rattle.std.proofs.lemmas.Iterator.Search.{any_from_yields_List}
use Rattle.std.specs.List.{list_any}
use Rattle.rules.specs.Identifiers.{same_bytes}
use Rattle.rules.specs.Restart.{is_open_as}
use Rattle.log_reader.specs.Reading.{identifier_at}
use Rattle.open_records.specs.Opening.{starts_of}
use Rattle.open_records.proofs.Rows.{any_starts}
use Rattle.open_records.proofs.is_open.Goals as goal

pub returns : goal.returns
returns c =
    let e : c.any.result ≡ list_any (λ p. same_bytes (identifier_at c.args.log.now p) c.args.id) (starts_of c.args.records) =
    any_from_yields_List (λ p. same_bytes (identifier_at c.args.log.now p) c.args.id) _ _ c.any.result c.any.ensures.ran (YieldsList-from_slice (starts_of c.args.records) cc) (λ x b q k. search (rules, tests)) in
    e ∙ any_starts (is_open_as c.args.id) _ _
