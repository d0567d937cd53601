-- Log and header have the same byte at each place below n.
use native.Mathlib.Omega.{arith}
use Rattle.std.proofs.Common.{rules, ◌≡◌}
use borrow.Author.Tests.{tests}
use mathlib.Core.Path.{refl, ◌∙◌}
use Rattle.std.proofs.lemmas.Iterator.{YieldsList-from_range}
use Rattle.std.proofs.lemmas.Iterator.Search.{all_from_yields_List}
use lib.Dec.{eqb}
use lib.ListN.{get_or}
use Rattle.std.specs.List.{list_all, range_with_len}
use Rattle.rules.specs.Log.{header}
use Rattle.log_header.proofs.Headers.{bytes_same}
use Rattle.log_header.proofs.begins_header.Goals as goal

pub returns : goal.returns
returns c =
    let e : c.all.result ≡ list_all (λ i. eqb (get_or c.args.log.now i 0) (get_or header i 0)) (range_with_len 0 c.args.n) =
    all_from_yields_List (λ i. eqb (get_or c.args.log.now i 0) (get_or header i 0)) _ _ c.all.result c.all.ensures.ran (YieldsList-from_range 0 _ c.args.n refl (omega arith)) (λ x b q k. search (rules, tests)) in
    e ∙ bytes_same _ _ _ _
