-- The places passed hold what the definition makes of each, and the others what they held.
use Rattle.std.proofs.Common.{◌≡◌, ◌++◌, take, drop, map}
use Rattle.rules.specs.Events.{done_for}
use Rattle.managers.proofs.all_done_for.Given as goal

abbrev pub invariant-loop-e : goal.invariant-loop-e
invariant-loop-e l = l.e-items ≡ map (done_for l.rm) (take l.e-index l.initial.e-items) ++ drop l.e-index l.initial.e-items
