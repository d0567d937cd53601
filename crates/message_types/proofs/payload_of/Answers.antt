-- `find` gives the first row that fits, and the table has the definition's rows.
use Rattle.std.proofs.Common.{◌≡◌, rules, eqb}
use borrow.Author.Tests.{tests}
use Rattle.std.specs.List.{find}
use Rattle.std.specs.Option.{option_map}
use Rattle.std.proofs.lemmas.Iterator.{YieldsList-from_slice}
use Rattle.std.proofs.lemmas.Iterator.Search.{find_from_yields_List}
use Rattle.message_types.proofs.Rows.{Row, table, found, is_found}
use Rattle.message_types.proofs.payload_of.Goals as goal

pub returns : goal.returns
returns c =
    let first : option_map (λ x. x.now) c.find.result ≡ find (λ (r : Row). eqb r.kind c.args.kind) table =
    find_from_yields_List (λ (r : Row). eqb r.kind c.args.kind) _ _ c.find.result c.find.ensures.ran (YieldsList-from_slice table cc) (λ x b q k. search (rules, tests)) in
    let e : c.map.result ≡ found c.args.kind = search (rules, first) in
    rw e (is_found c.args.kind)
