-- Two answers that meet the contract of a public function are equal, and so are the rows that they leave: each contract says what they are, by an equation.
use Prim.Native.Nat.{ℕ}
use mathlib.Core.Path.{◌≡◌, sym, ◌∙◌, ap}
use Rattle.std.specs.Prelude.{Result, Ok, Err}
use mathlib.Core.List.{List}
use lib.ListN.{get_or}
use Rattle.rules.specs.declared.Table.{Table}
use Rattle.rules.specs.declared.Row.{Row}
use Rattle.rules.specs.declared.Refusal.{Refusal}
use Rattle.rules.specs.Listing.{Listed, row_at, rows_of, list_of, listed_of, listed_as}
use Rattle.rules.proofs.RefusalNumbers.{no_refusal_accepted, same_refusal}
use Rattle.listing.specs.Plans.{plan_of}

pub row_at_determined : (tb : Table) (k : ℕ) {r s : Row} → r ≡ get_or (rows_of tb) k (row_at tb 0) → s ≡ get_or (rows_of tb) k (row_at tb 0) → r ≡ s
row_at_determined tb k p q = p ∙ sym q

-- the number of an answer tells which it is, and the count tells the rest
same_answer : (r s : Result ℕ Refusal) → listed_as r ≡ listed_as s → r ≡ s
same_answer (Ok n) (Ok m) e = ap (λ (l : Listed). Ok l.count) e
same_answer (Ok n) (Err r) e = absurd (no_refusal_accepted r (sym (ap (λ (l : Listed). l.refusal) e)))
same_answer (Err r) (Ok n) e = absurd (no_refusal_accepted r (ap (λ (l : Listed). l.refusal) e))
same_answer (Err r) (Err s) e = ap Err (same_refusal r s (ap (λ (l : Listed). l.refusal) e))

pub plan_determined : (tb : Table) (room : ℕ) {r s : Result ℕ Refusal} → listed_as r ≡ plan_of tb room → listed_as s ≡ plan_of tb room → r ≡ s
plan_determined tb room p q = same_answer _ _ (p ∙ sym q)

pub list_determined : (tb : Table) (rows : List Row) {r s : Result ℕ Refusal} {after other : List Row}
    → (listed_as r ≡ listed_of (list_of tb rows)) × (after ≡ (list_of tb rows).rows) → (listed_as s ≡ listed_of (list_of tb rows)) × (other ≡ (list_of tb rows).rows) → (r ≡ s) × (after ≡ other)
list_determined tb rows p q = (same_answer _ _ (p.0 ∙ sym q.0), p.1 ∙ sym q.1)
