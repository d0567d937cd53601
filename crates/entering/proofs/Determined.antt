-- The contract of a step in lent memory determines its answer, the memory's bytes and the log: each equals the definition's, and the bytes are those that mean its table.
-- `Does` promises this of every event with these checks and this outcome. Begin and Enlist are themselves such events, on a log of the table's capacity, so that the promise is not empty.
use Prim.Native.Nat.{ℕ}
use mathlib.Core.Path.{◌≡◌, refl, sym, ◌∙◌, ap}
use mathlib.Core.List.{List}
use lib.ListN.{length, replicate, length-replicate}
use Rattle.std.specs.Prelude.{Result, Ok, Err}
use Rattle.rules.specs.declared.Table.{Table}
use Rattle.rules.specs.declared.Refusal.{Refusal}
use Rattle.rules.specs.declared.Event.{Event}
use Rattle.rules.specs.declared.Act.{Act}
use Rattle.rules.specs.declared.Act.TheVariants as act
use Rattle.rules.specs.declared.Kind.{Kind}
use Rattle.rules.specs.declared.Mark.{Mark}
use Rattle.rules.specs.Identifiers.{Id, zero_id}
use Rattle.rules.specs.Table.{place_named}
use Rattle.rules.specs.Events.{Outcome, kind_of, acted, accepted_of, begin_of, enlist_of}
use Rattle.rules.specs.Refusals.{Check, first_of, refusal_of}
use Rattle.rules.specs.Checks.{begin_checks, enlist_checks}
use Rattle.refusals.proofs.Events.{event_refusal}
use Rattle.rules.proofs.RefusalNumbers.{no_refusal_accepted, same_refusal}
use Rattle.rows.specs.Memory.{table_in, OfBytes}
use Rattle.rows.proofs.Determined.{table_determined}
use Rattle.entering.specs.declared.Answer.{Answer}
use Rattle.entering.specs.StepIn.{answered, IsStepIn, Fine, Does}

-- an answer is determined by what it is in the paper's terms
same_answer : (used : ℕ) (r s : Result Answer Refusal) → answered used r ≡ answered used s → r ≡ s
same_answer used (Ok a) (Ok b) q = λ i. Ok (record { signals = (q i).signals; used = (q i).used })
same_answer used (Ok a) (Err t) q = absurd (no_refusal_accepted t (sym (ap (λ x. x.refusal) q)))
same_answer used (Err t) (Ok b) q = absurd (no_refusal_accepted t (ap (λ x. x.refusal) q))
same_answer used (Err t) (Err u) q = ap (λ x. Err x) (same_refusal t u (ap (λ x. x.refusal) q))

module _ {heads rows heads' rows' : List (List ℕ)} {after later : List ℕ} {r s : Result Answer Refusal} (b : OfBytes heads rows) (b' : OfBytes heads' rows') where
  pub step_in_determined : (tb : Table) (e : Event) (log : List ℕ) → IsStepIn tb e log (answered tb.used r) heads rows after → IsStepIn tb e log (answered tb.used s) heads' rows' later
      → (r ≡ s) × (heads ≡ heads') × (rows ≡ rows') × (after ≡ later)
  step_in_determined tb e log p q =
      let same : table_in heads rows tb.capacity (answered tb.used r).used ≡ table_in heads' rows' tb.capacity (answered tb.used s).used = p.table ∙ sym q.table in
      let (h, w) = table_determined b b' same in
      (same_answer tb.used r s (λ i. record { signals = (p.signals ∙ sym q.signals) i; used = (same i).used; refusal = (p.refusal ∙ sym q.refusal) i }), h, w, p.log ∙ sym q.log)

  pub does_determined : (tb : Table) (e : Event) (log : List ℕ) (cs : List Check) {o : Outcome} → refusal_of tb e (length log) ≡ first_of cs → accepted_of tb e log ≡ o
      → Does cs o tb log (answered tb.used r) heads rows after → Does cs o tb log (answered tb.used s) heads' rows' later → (r ≡ s) × (heads ≡ heads') × (rows ≡ rows') × (after ≡ later)
  does_determined tb e log cs c d p q = step_in_determined tb e log (p e c d) (q e c d)

-- these two take no log, and promise of any that it is left alone
module _ (heads rows : List (List ℕ)) (capacity used : ℕ) (id : Id) (fine : Fine heads rows capacity used) where
  abbrev tb : Table
  tb = table_in heads rows capacity used

  abbrev any_log : List ℕ
  any_log = replicate capacity 0

  abbrev about : Id → Act → Event
  about rm a = record { tx = record { 0 = id }; rm = record { 0 = rm }; act = a }

  pub begin_determined : {heads' heads'' : List (List ℕ)} {r s : Result Answer Refusal} → OfBytes heads' rows → OfBytes heads'' rows
      → ((log : List ℕ) → Does (begin_checks tb id) (begin_of id tb log) tb log (answered used r) heads' rows log) → ((log : List ℕ) → Does (begin_checks tb id) (begin_of id tb log) tb log (answered used s) heads'' rows log)
      → (r ≡ s) × (heads' ≡ heads'')
  unfolding acted
  begin_determined b b' p q =
      let e = about zero_id act.Begin in
      let (a, h, _, _) = does_determined b b' tb e any_log (begin_checks tb id) (event_refusal tb e (length any_log) fine (length-replicate capacity 0) _ refl) refl (p any_log) (q any_log) in
      (a, h)

  pub enlist_determined : (n : ℕ) (rm : Id) (kind : Kind) (mark : Mark) {rows' rows'' : List (List ℕ)} {r s : Result Answer Refusal} → OfBytes heads rows' → OfBytes heads rows''
      → ((log : List ℕ) → Does (enlist_checks tb id rm n (kind_of kind)) (enlist_of (place_named id tb) n rm kind mark tb log) tb log (answered used r) heads rows' log)
      → ((log : List ℕ) → Does (enlist_checks tb id rm n (kind_of kind)) (enlist_of (place_named id tb) n rm kind mark tb log) tb log (answered used s) heads rows'' log)
      → (r ≡ s) × (rows' ≡ rows'')
  unfolding acted
  enlist_determined n rm kind mark b b' p q =
      let e = about rm (act.Enlist n kind mark) in
      let (a, _, w, _) = does_determined b b' tb e any_log (enlist_checks tb id rm n (kind_of kind)) (event_refusal tb e (length any_log) fine (length-replicate capacity 0) _ refl) refl (p any_log) (q any_log) in
      (a, w)
