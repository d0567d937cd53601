-- The test decides between the message and the refusal, as the definition does.
use Rattle.std.proofs.Common.{sym, ◌∙◌}
use Rattle.rules.specs.Messages.{read_of}
use Rattle.messages.proofs.read_message.Goals as goal

pub message_in-requires : goal.message_in-requires
message_in-requires c = sym c.is_message.ensures ∙ c.if-not-is_message.false

pub returns-then-not-is_message : goal.returns-then-not-is_message
unfolding read_of
returns-then-not-is_message c = rw (sym c.is_message.ensures ∙ c.if-not-is_message.true)

pub returns : goal.returns
unfolding read_of
returns c = rw (sym c.is_message.ensures ∙ c.if-not-is_message.false, c.message_in.ensures)
