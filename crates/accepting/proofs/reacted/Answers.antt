-- The reaction that is looked up is that of the definition, so that what it does is what the definition does.
use Rattle.accepting.proofs.reacted.Goals as goal

pub returns : goal.returns
returns c = rw (← c.reaction.ensures) c.react.ensures
