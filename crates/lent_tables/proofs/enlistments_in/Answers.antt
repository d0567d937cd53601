-- Each is read from its own place.
use mathlib.Core.Path.{refl}
use mathlib.Core.List.{[]}
use Rattle.lists.proofs.Loops.{fill_start, fill_map, fill_done}
use Rattle.rows.specs.Memory.{enlistment_in}
use Rattle.lent_tables.proofs.enlistments_in.Goals as goal

pub loop-i-init : goal.loop-i-init
loop-i-init c = fill_start c.told-rows refl

pub loop-i-preserved : goal.loop-i-preserved
loop-i-preserved c = fill_map enlistment_in [] c.loop-i.invariant c.loop-i-test.true c.enlistment_in.ensures

pub returns : goal.returns
returns c = fill_done c.loop-i.invariant c.loop-i-test.false refl
