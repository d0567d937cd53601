-- Each entry is stored behind the one before it, so that those that are left give the whole.
use mathlib.Core.Path.{refl}
use Rattle.log_writer.proofs.Stores.{enter_start, enter_again, enter_done}
use Rattle.log_writer.proofs.put_entries.Goals as goal

pub loop-i-init : goal.loop-i-init
loop-i-init c = enter_start refl

pub loop-i-preserved : goal.loop-i-preserved
loop-i-preserved c = enter_again _ c.loop-i.invariant c.loop-i-test.true refl c.put_entry.ensures.0 c.put_entry.ensures.1

pub shape_of-log : goal.shape_of-log
shape_of-log c = c.loop-i.invariant.size

pub returns : goal.returns
returns c = enter_done c.loop-i.invariant c.loop-i-test.false
