-- What is left to read, judged with the records that are open so far, gives the whole, and each turn reads on.
use Prim.Native.Nat.{◌-◌}
use Rattle.read_records.proofs.Judging.{Reading}
use Rattle.read_records.proofs.read_records.Given as goal

abbrev pub invariant-loop-size : goal.invariant-loop-size
invariant-loop-size l = Reading l.log l.stored l.records l.at

abbrev pub decreases-loop-size : goal.decreases-loop-size
decreases-loop-size l = l.stored - l.at
