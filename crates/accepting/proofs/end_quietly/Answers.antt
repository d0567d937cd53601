-- An ending sends no signal, so that the empty row is the definition's.
use mathlib.Core.Path.{ap, ◌∙◌}
use Rattle.rules.specs.Events.{follow}
use Rattle.rules.proofs.Count.{end_if_done_quiet}
use Rattle.holdings.specs.Holdings.{alone}
use Rattle.accepting.proofs.end_quietly.Goals as goal

pub returns : goal.returns
unfolding follow
returns c =
    record {
      table = ap (λ a. alone a.holding) c.quietly.ensures ∙ c.end_if_done.ensures.table;
      place = ap (λ a. a.holding.place) c.quietly.ensures ∙ c.end_if_done.ensures.place;
      signals = rw (end_if_done_quiet c.args.h.place (alone c.args.h) c.args.log.now) (ap (λ a. a.signals) c.quietly.ensures);
      log = c.end_if_done.ensures.log;
    }
