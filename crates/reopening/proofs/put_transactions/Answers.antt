-- Each record's transaction goes behind the one before it, so that the records that are left give the whole.
use Rattle.open_records.proofs.Rows.{open_next, opens_over}
use Rattle.reopening.proofs.Building.{naming_start, naming_again, naming_done}
use Rattle.reopening.proofs.put_transactions.Goals as goal

pub loop-i-init : goal.loop-i-init
loop-i-init c = naming_start

pub loop-i-preserved : goal.loop-i-preserved
loop-i-preserved c = naming_again c.loop-i.invariant (open_next c.args.records _ c.starts-at-items.ensures.0 _ c.loop-i-test.true) c.transaction_of.ensures

pub returns : goal.returns
returns c = naming_done c.loop-i.invariant (opens_over c.args.records _ c.starts-at-items.ensures.0 _ c.loop-i-test.false)
