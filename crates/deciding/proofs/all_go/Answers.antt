-- All are those that pass a test that each passes.
use mathlib.Core.Path.{refl, ap, ◌∙◌}
use mathlib.Core.Bool.{true}
use Rattle.std.proofs.Common.{rules}
use Rattle.lists.proofs.Tests.{filter_all}
use Rattle.rules.specs.Table.{held, in_state}
use Rattle.rules.specs.Signals.{to_each, row_of}
use Rattle.holdings.specs.Holdings.{alone}
use Rattle.endings.proofs.Laws.{going_gives}
use Rattle.deciding.proofs.all_go.Goals as goal

pub returns : goal.returns
returns c = going_gives _ _ c.args.h (c.change_and_go.ensures (in_state c.args.each) (λ x r k. search rules)) _ (c.to_each.ensures.row (λ e. true) (λ x r k. search rules) ∙ ap (λ hs. row_of (to_each c.args.name hs)) (filter_all (λ e. true) (held c.args.h.place (alone c.args.h)) (λ e m. refl)))
