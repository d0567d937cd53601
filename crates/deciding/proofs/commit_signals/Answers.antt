-- The definition speaks to those that are prepared and then to the application, which is what the call is asked for.
use Rattle.std.proofs.Common.{rules}
use Rattle.rules.specs.EnlistmentState.{prepared}
use Rattle.rules.specs.Table.{is_in}
use Rattle.rules.specs.Events.{commit_signals}
use Rattle.deciding.proofs.commit_signals.Goals as goal

pub returns : goal.returns
unfolding commit_signals
returns c = c.to_each_and_app.ensures (is_in prepared) (λ x r k. search rules)
