-- Two answers that meet the contract of `restart` are equal, and so are the logs that they leave: the contract says what both are.
use Prim.Native.Nat.{ℕ}
use mathlib.Core.Path.{◌≡◌, sym, ◌∙◌}
use mathlib.Core.List.{List}
use Rattle.rules.specs.declared.Restarted.{Restarted}
use Rattle.rules.specs.Restart.{IsRestart}

pub restart_determined : (log : List ℕ) (stored : ℕ) {r s : Restarted} {after other : List ℕ}
    → IsRestart log stored r after → IsRestart log stored s other
    → (r ≡ s) × (after ≡ other)
restart_determined log stored p q = (p.0 ∙ sym q.0, p.1 ∙ sym q.1)
