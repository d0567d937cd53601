-- The library's first place of a space, and the length where there is none, is the definition's.
use mathlib.Core.Path.{◌∙◌}
use lib.Dec.{eqb}
use borrow.Author.Rules.{rules}
use Rattle.std.proofs.Common.{tests}
use Rattle.std.proofs.lemmas.Iterator.{YieldsList-from_slice}
use Rattle.std.proofs.lemmas.Iterator.Search.{position_from_yields_List}
use Rattle.rules.specs.Trace.{space}
use Rattle.trace_words.proofs.Words.{word_end_found}
use Rattle.trace_words.proofs.word_end.Goals as goal

pub returns : goal.returns
returns c =
    let yields = YieldsList-from_slice c.args.s.now c.iter.ensures.rest in
    c.unwrap_or.ensures ∙ word_end_found c.args.s.now
    (position_from_yields_List (λ b. eqb b space) _ _ c.position.result c.position.ensures.ran yields
    (λ x b q k. search (rules, tests)))
