-- Two answers that equal the same value are equal: so the results of a contract that is an equation coincide, and lent memory that it gives is one more such result.
-- The contract of `step_in` says what the memory means; that it determines the bytes is `step_in_determined` in entering/proofs, beside that contract.
use Prim.Native.Nat.{ℕ}
use mathlib.Core.Path.{◌≡◌, sym, ◌∙◌, ap}
use mathlib.Core.Bool.{Bool}
use mathlib.Core.List.{List}
use Rattle.std.specs.Prelude.{Result, Ok, Err}
use Rattle.rules.specs.declared.Table.{Table}
use Rattle.rules.specs.declared.Event.{Event}
use Rattle.rules.specs.declared.Refusal.{Refusal}
use Rattle.rules.specs.declared.Stepped.{Stepped}
use Rattle.rules.specs.Table.{fresh_of}
use Rattle.rules.specs.Sound.{sound_of}
use Rattle.rules.specs.Step.{IsStep, stepped_of}
use Rattle.rules.proofs.RefusalNumbers.{no_refusal_accepted, same_refusal}

pub equal_determined : {A : Type 0} {x r s : A} → r ≡ x → s ≡ x → r ≡ s
equal_determined p q = p ∙ sym q

-- what the contract says besides, a bound that a caller needs, takes nothing away
pub besides_determined : {A B C : Type 0} {x r s : A} → (r ≡ x) × B → (s ≡ x) × C → r ≡ s
besides_determined (p, _) (q, _) = equal_determined p q

-- an answer, and lent memory
pub lent_determined : {A B : Type 0} {x r s : A} {y after later : B} → (r ≡ x) × (after ≡ y) → (s ≡ x) × (later ≡ y) → (r ≡ s) × (after ≡ later)
lent_determined (p, q) (u, v) = (equal_determined p u, equal_determined q v)

-- ── what a host calls ───────────────────────────────────────────────────────────────────────────────────────────

pub fresh_determined : (capacity : ℕ) {r s : Table} → r ≡ fresh_of capacity → s ≡ fresh_of capacity → r ≡ s
fresh_determined capacity = equal_determined

pub is_sound_determined : (tb : Table) {r s : Bool} → r ≡ sound_of tb → s ≡ sound_of tb → r ≡ s
is_sound_determined tb = equal_determined

-- an answer is determined by what it is in the paper's terms
same_stepped : (tb : Table) (r s : Result Stepped Refusal) → stepped_of tb r ≡ stepped_of tb s → r ≡ s
same_stepped tb (Ok a) (Ok b) q = λ i. Ok (record { table = (q i).table; signals = (q i).signals })
same_stepped tb (Ok a) (Err t) q = absurd (no_refusal_accepted t (sym (ap (λ x. x.refusal) q)))
same_stepped tb (Err t) (Ok b) q = absurd (no_refusal_accepted t (ap (λ x. x.refusal) q))
same_stepped tb (Err t) (Err u) q = ap (λ x. Err x) (same_refusal t u (ap (λ x. x.refusal) q))

pub step_determined : (tb : Table) (e : Event) (log : List ℕ) {r s : Result Stepped Refusal} {after later : List ℕ}
    → IsStep tb e log (stepped_of tb r) after → IsStep tb e log (stepped_of tb s) later → (r ≡ s) × (after ≡ later)
step_determined tb e log {r} {s} p q = let (a, l) = lent_determined p q in (same_stepped tb r s a, l)
