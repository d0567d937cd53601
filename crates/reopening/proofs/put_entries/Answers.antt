-- Each entry goes behind the one before it, so that the entries that are left give the whole.
use Rattle.entries.proofs.Rows.{entry_next, entries_over}
use Rattle.reopening.proofs.Building.{entering_start, entering_again, entering_done}
use Rattle.reopening.proofs.put_entries.Goals as goal

pub loop-j-init : goal.loop-j-init
loop-j-init c = entering_start

pub loop-j-preserved : goal.loop-j-preserved
loop-j-preserved c = entering_again c.loop-j.invariant (entry_next _ _ _ c.entries_count-j-end.ensures c.loop-j-test.true) c.enlistment_of-e.ensures c.put_enlistment-table.ensures

pub returns : goal.returns
returns c = entering_done c.loop-j.invariant (entries_over _ _ _ c.entries_count-j-end.ensures c.loop-j-test.false)
