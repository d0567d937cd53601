-- The step in memory that means a table is the step of the table, whose capacity stays; and a refused step gives back the table that it was given.
use Prim.Native.Nat.{ℕ}
use mathlib.Core.Path.{◌≡◌, sym, ap, ◌∙◌}
use mathlib.Core.List.{List}
use Rattle.std.specs.Prelude.{Result, Ok, Err, IsErrAnd}
use Rattle.rules.specs.declared.Table.{Table}
use Rattle.rules.specs.declared.Event.{Event}
use Rattle.rules.specs.declared.Refusal.{Refusal}
use Rattle.rules.specs.declared.Stepped.{Stepped}
use Rattle.rules.specs.RefusalNumber.{refusal_number}
use Rattle.rules.specs.Step.{IsStep, answer_of, stepped_of}
use Rattle.rules.proofs.RefusalNumbers.{no_refusal_accepted}
use Rattle.rules.proofs.Refused.{refused_step_lem}
use Rattle.rows.specs.Memory.{table_in}
use Rattle.entering.specs.declared.Answer.{Answer}
use Rattle.entering.specs.StepIn.{IsStepIn, answered}

pub whole_step : {tb t : Table} {e : Event} {before after : List ℕ} {a : Answer} {heads rows : List (List ℕ)}
    → IsStepIn tb e before (answered tb.used (Ok a)) heads rows after → t ≡ table_in heads rows tb.capacity a.used
    → IsStep tb e before (stepped_of tb (Ok (record { table = t; signals = a.signals }))) after
whole_step s q = (λ i. record { table = (q ∙ s.table) i; signals = s.signals i; refusal = s.refusal i }, s.log)

-- x is what the `?` returns of the refusal
pub whole_refused : {tb : Table} {e : Event} {before after : List ℕ} (r : Refusal) {heads rows : List (List ℕ)} (x : Result Stepped Refusal) → IsErrAnd x (λ s. s ≡ r)
    → IsStepIn tb e before (answered tb.used (Err r)) heads rows after → IsStep tb e before (stepped_of tb x) after
whole_refused r (Ok s) same p = absurd same
whole_refused {tb} {e} {before} r (Err s) same p =
    let q = refused_step_lem tb e before (refusal_number r) (sym p.refusal) (no_refusal_accepted r) in
    (ap (λ t. stepped_of tb (Err t)) same ∙ ap answer_of (sym q), p.log)
