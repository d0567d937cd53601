-- As many places are in use as are counted, so that the test of the code is that of the definition.
use borrow.Author.Tests.{lt-ltb, le-ltb}
use Rattle.open_records.specs.Opening.{with_start}
use Rattle.open_records.proofs.with_start.Goals as goal

pub returns-then-n-lt-TRANSACTIONS : goal.returns-then-n-lt-TRANSACTIONS
unfolding with_start
returns-then-n-lt-TRANSACTIONS c = rw (← c.count_of-n.ensures.0, lt-ltb _ _ c.if-n-lt-TRANSACTIONS.true)

pub returns : goal.returns
unfolding with_start
returns c = rw (← c.count_of-n.ensures.0, le-ltb _ _ c.if-n-lt-TRANSACTIONS.false)
