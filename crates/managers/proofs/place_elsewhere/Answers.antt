-- The places are tested in their order: as long as none was met that passes, the first place is among those that are left.
use Rattle.lists.proofs.Loops.{long, look_start, seek_miss, seek_hit, seek_done}
use Rattle.managers.proofs.place_elsewhere.Goals as goal

pub loop-i-init : goal.loop-i-init
loop-i-init c = look_start (search long)

pub returns-then-is_elsewhere : goal.returns-then-is_elsewhere
returns-then-is_elsewhere c = seek_hit _ _ c.loop-i.invariant c.loop-i-test.true c.is_elsewhere.ensures c.if-is_elsewhere.true

pub loop-i-preserved : goal.loop-i-preserved
loop-i-preserved c = seek_miss _ _ c.loop-i.invariant c.loop-i-test.true c.is_elsewhere.ensures c.if-is_elsewhere.false

pub returns : goal.returns
returns c = seek_done _ c.loop-i.invariant c.loop-i-test.false
