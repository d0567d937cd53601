-- Each record adds as many as its second byte says, so that the sum so far and the entries that are left are all.
use native.Mathlib.Omega.{arith}
use borrow.Author.Rules.{rules}
use Rattle.open_records.proofs.Rows.{summed_next, summed_done, open_next, opens_over}
use Rattle.open_records.proofs.entries_open.Goals as goal

pub loop-at-preserved : goal.loop-at-preserved
loop-at-preserved c = summed_next _ _ c.loop-at.invariant (omega arith) (open_next c.args.records _ c.starts-at-items.ensures.0 _ c.loop-at-test.true) c.entries_count.ensures (search rules)

pub returns : goal.returns
returns c = summed_done c.loop-at.invariant (opens_over c.args.records _ c.starts-at-items.ensures.0 _ c.loop-at-test.false)
