-- What the first so many places hold is changed, if it is held; the others are as they were.
use Rattle.std.proofs.Common.{◌≡◌, ◌++◌, take, drop, map}
use Rattle.rules.specs.declared.Enlistment.{Enlistment}
use Rattle.rules.specs.Table.{on_held}
use Rattle.passes.specs.Computes.{Computes}
use Rattle.holdings.proofs.change.Given as goal

abbrev pub invariant-loop-e : goal.invariant-loop-e
invariant-loop-e g l =
    (f : Enlistment → Enlistment) → Computes (goal.F-post g l.becomes) f
    → l.e-items ≡ map (on_held l.h.place f) (take l.e-index l.initial.e-items) ++ drop l.e-index l.initial.e-items
