-- The first byte is the tag.
use native.Mathlib.Nat.{add-zero}
use Rattle.log_reader.specs.Reading.{is_commit_at}
use Rattle.log_reader.proofs.is_commit.Goals as goal

pub returns : goal.returns
unfolding is_commit_at
returns c = simp (c.byte.ensures, add-zero)
