-- Each byte is stored behind the one before it, so that those that are left give the whole.
use mathlib.Core.Path.{refl}
use Rattle.lists.proofs.Stores.{store_start, store_again, store_done}
use Rattle.log_writer.proofs.put_bytes.Goals as goal

pub loop-i-init : goal.loop-i-init
loop-i-init c = store_start refl

pub loop-i-preserved : goal.loop-i-preserved
loop-i-preserved c = store_again c.loop-i.invariant c.loop-i-test.true c.put.ensures

pub shape_of-log : goal.shape_of-log
shape_of-log c = c.loop-i.invariant.size

pub returns : goal.returns
returns c = store_done c.loop-i.invariant c.loop-i-test.false
