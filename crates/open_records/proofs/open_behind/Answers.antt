-- The first byte says which of the two a record does: it puts its place behind the others, or takes its transaction's away.
use Rattle.open_records.specs.Opening.{open_behind}
use Rattle.open_records.proofs.open_behind.Goals as goal

pub returns-then-commit : goal.returns-then-commit
unfolding open_behind
returns-then-commit c = rw (← c.is_commit-commit.ensures, c.if-commit.true) c.with_start.ensures

pub returns : goal.returns
unfolding open_behind
returns c = rw (← c.is_commit-commit.ensures, c.if-commit.false, ← c.identifier_at-id.ensures) c.without.ensures
