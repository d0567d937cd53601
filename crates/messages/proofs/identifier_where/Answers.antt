-- The test decides between the bytes and zeros, as the definition does.
use Rattle.messages.proofs.identifier_where.Goals as goal

pub identifier_at-requires : goal.identifier_at-requires
identifier_at-requires c = c.requires c.if-there.true

pub returns-then-there : goal.returns-then-there
returns-then-there c = rw c.if-there.true c.identifier_at.ensures

pub returns-else-there : goal.returns-else-there
returns-else-there c = rw c.if-there.false
