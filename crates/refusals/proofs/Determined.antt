-- Two answers that meet a contract of this crate are one: the number tells whether there is a refusal, and which.
use Prim.Native.Nat.{ℕ}
use mathlib.Core.Path.{◌≡◌, refl, sym, ◌∙◌, ap}
use Rattle.std.specs.Prelude.{Result, Ok, Err}
use Rattle.rules.specs.declared.Refusal.{Refusal}
use Rattle.rules.specs.RefusalNumber.{answer_number}
use Rattle.rules.proofs.RefusalNumbers.{no_refusal_accepted, same_refusal}

same_answer : (r s : Result (Unit {0}) Refusal) → answer_number r ≡ answer_number s → r ≡ s
same_answer (Ok x) (Ok y) q = refl
same_answer (Ok x) (Err t) q = absurd (no_refusal_accepted t (sym q))
same_answer (Err t) (Ok x) q = absurd (no_refusal_accepted t q)
same_answer (Err t) (Err u) q = ap Err (same_refusal t u q)

pub refusal_determined : {n : ℕ} {r s : Result (Unit {0}) Refusal} → answer_number r ≡ n → answer_number s ≡ n → r ≡ s
refusal_determined {n} {r} {s} p q = same_answer r s (p ∙ sym q)
