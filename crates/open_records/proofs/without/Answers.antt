-- Each place that is passed is kept, or was the transaction's, so that the places that are left, behind those kept, give the whole.
use mathlib.Core.Path.{refl}
use Rattle.lists.proofs.Loops.{ahead_next, ahead_done}
use Rattle.open_records.specs.Opening.{kept_from}
use Rattle.open_records.proofs.Rows.{start_next, starts_over}
use Rattle.open_records.proofs.without.Goals as goal

pub loop-at-preserved : goal.loop-at-preserved
unfolding kept_from
loop-at-preserved c = ahead_next c.loop-at.invariant (start_next c.args.records _ c.starts-at-items.ensures.0 c.loop-at-test.true) (rw c.keep_unless-left.ensures)

pub returns : goal.returns
unfolding kept_from
returns c = ahead_done c.loop-at.invariant (starts_over c.args.records _ c.starts-at-items.ensures.0 c.loop-at-test.false) refl
