-- Two answers that meet the contract of a public function are equal: each contract says what the answer and what is lent are, by an equation.
use Prim.Native.Nat.{ℕ}
use mathlib.Core.Path.{◌≡◌, sym, ◌∙◌}
use Rattle.rules.specs.declared.Table.{Table}
use Rattle.rules.specs.declared.Dispenser.{Dispenser}
use Rattle.rules.specs.declared.Taken.{Taken}
use Rattle.rules.specs.Dispenser.{taken_of, dispenser_of}

pub take_step_determined : (d : Dispenser) {r s : Taken} → r ≡ taken_of d → s ≡ taken_of d → r ≡ s
take_step_determined d p q = p ∙ sym q

pub take_number_determined : (d : Dispenser) {r s : ℕ} {x y : Dispenser} → (r ≡ (taken_of d).number) × (x ≡ (taken_of d).dispenser) → (s ≡ (taken_of d).number) × (y ≡ (taken_of d).dispenser)
    → (r ≡ s) × (x ≡ y)
take_number_determined d p q = (p.0 ∙ sym q.0, p.1 ∙ sym q.1)

pub dispenser_after_determined : (tb : Table) {r s : Dispenser} → r ≡ dispenser_of tb → s ≡ dispenser_of tb → r ≡ s
dispenser_after_determined tb p q = p ∙ sym q
