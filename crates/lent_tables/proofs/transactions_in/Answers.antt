-- Each is read from its own place.
use mathlib.Core.Path.{refl}
use mathlib.Core.List.{[]}
use Rattle.lists.proofs.Loops.{fill_start, fill_map, fill_done}
use Rattle.rows.specs.Memory.{transaction_in}
use Rattle.lent_tables.proofs.transactions_in.Goals as goal

pub loop-i-init : goal.loop-i-init
loop-i-init c = fill_start c.told-heads refl

pub loop-i-preserved : goal.loop-i-preserved
loop-i-preserved c = fill_map transaction_in [] c.loop-i.invariant c.loop-i-test.true c.transaction_in.ensures

pub returns : goal.returns
returns c = fill_done c.loop-i.invariant c.loop-i-test.false refl
