-- Each is stored in its own place.
use Rattle.lists.proofs.Loops.{long}
use Rattle.rows.proofs.Mapped.{write_start, write_again, write_done}
use Rattle.lent_tables.proofs.rows_of.Goals as goal

pub loop-i-init : goal.loop-i-init
loop-i-init c = write_start (search long) c.told-rows

pub loop-i-preserved : goal.loop-i-preserved
loop-i-preserved c = write_again _ c.loop-i.invariant c.loop-i-test.true c.row_of.ensures

pub returns : goal.returns
returns c = (write_done c.loop-i.invariant c.loop-i-test.false).1
