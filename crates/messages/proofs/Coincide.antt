-- Two answers that meet a promise are equal, and so is the memory that they leave: each is what the definition gives. This holds of the paper's
-- values, and of the results that have them.
use Rattle.std.proofs.Common.{◌≡◌, ℕ, List, Result, Ok, Err, sym, ◌∙◌, ap}
use Rattle.rules.specs.declared.Message.{Message}
use Rattle.rules.specs.declared.Refusal.{Refusal}
use Rattle.rules.specs.Messages.{Read, Written, read_answer, written_answer}
use Rattle.rules.proofs.RefusalNumbers.{no_refusal_accepted, same_refusal}
use Rattle.messages.specs.Promises.{IsReading, IsWriting}

pub readings_coincide : (bytes : List ℕ) {r s : Read} → IsReading bytes r → IsReading bytes s → r ≡ s
readings_coincide bytes p q = p ∙ sym q

pub writings_coincide : (m : Message) (before : List ℕ) {r s : Written} {after other : List ℕ}
    → IsWriting m before r after → IsWriting m before s other → (r ≡ s) × (after ≡ other)
writings_coincide m before p q = (p.0 ∙ sym q.0, p.1 ∙ sym q.1)

-- ── of results ──────────────────────────────────────────────────────────────────────────────────────────────────

read_answers_differ : (r s : Result Message Refusal) → read_answer r ≡ read_answer s → r ≡ s
read_answers_differ (Ok m) (Ok n) e = ap (λ a. Ok a.message) e
read_answers_differ (Ok m) (Err y) e = absurd (no_refusal_accepted y (sym (ap (λ a. a.refusal) e)))
read_answers_differ (Err x) (Ok n) e = absurd (no_refusal_accepted x (ap (λ a. a.refusal) e))
read_answers_differ (Err x) (Err y) e = ap (λ z. Err z) (same_refusal x y (ap (λ a. a.refusal) e))

written_answers_differ : (r s : Result ℕ Refusal) → written_answer r ≡ written_answer s → r ≡ s
written_answers_differ (Ok m) (Ok n) e = ap (λ a. Ok a.length) e
written_answers_differ (Ok m) (Err y) e = absurd (no_refusal_accepted y (sym (ap (λ a. a.refusal) e)))
written_answers_differ (Err x) (Ok n) e = absurd (no_refusal_accepted x (ap (λ a. a.refusal) e))
written_answers_differ (Err x) (Err y) e = ap (λ z. Err z) (same_refusal x y (ap (λ a. a.refusal) e))

pub read_results_coincide : (bytes : List ℕ) {r s : Result Message Refusal} → IsReading bytes (read_answer r) → IsReading bytes (read_answer s) → r ≡ s
read_results_coincide bytes {r} {s} p q = read_answers_differ r s (readings_coincide bytes p q)

pub written_results_coincide : (m : Message) (before : List ℕ) {r s : Result ℕ Refusal} {after other : List ℕ}
    → IsWriting m before (written_answer r) after → IsWriting m before (written_answer s) other → (r ≡ s) × (after ≡ other)
written_results_coincide m before {r} {s} p q = let (a, b) = writings_coincide m before p q in (written_answers_differ r s a, b)
