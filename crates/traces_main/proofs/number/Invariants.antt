-- `extended` stays within the memory at each digit.
use Prim.Native.Nat.{◌≤◌}
use Rattle.traces_main.proofs.number.Given as goal

abbrev pub invariant-loop-digit : goal.invariant-loop-digit
invariant-loop-digit l = l.n ≤ 4096
