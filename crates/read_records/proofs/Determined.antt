-- What is given equals the definition's readings.
use Prim.Native.Nat.{ℕ}
use mathlib.Core.Path.{◌≡◌, sym, ◌∙◌}
use mathlib.Core.List.{List}
use Rattle.std.specs.Prelude.{Result}
use Rattle.rules.specs.declared.Refusal.{Refusal}
use Rattle.read_records.specs.declared.Readings.{Readings}
use Rattle.read_records.specs.Readback.{Read}

pub read_determined : (log : List ℕ) (stored : ℕ) {r s : Result Readings Refusal} → Read log stored r → Read log stored s → r ≡ s
read_determined log stored p q = p.gives ∙ sym q.gives
