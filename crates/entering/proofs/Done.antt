-- What a step leaves in memory is what the definition gives: refused, the memory is as it was; done, it means the outcome's table.
use Prim.Native.Nat.{ℕ}
use mathlib.Core.Path.{◌≡◌, sym, ◌∙◌, ap}
use mathlib.Core.List.{List}
use Rattle.std.specs.Prelude.{Result, Ok, Err, IsErrAnd}
use Rattle.rules.specs.declared.Refusal.{Refusal}
use Rattle.rules.specs.RefusalNumber.{accepted, refusal_number}
use Rattle.rules.specs.Signals.{row_of}
use Rattle.rules.specs.Events.{Outcome}
use Rattle.rules.specs.Refusals.{Check, first_of}
use Rattle.rules.proofs.RefusalNumbers.{no_refusal_accepted}
use Rattle.rules.proofs.Refused.{step_done, step_refused}
use Rattle.rows.specs.Memory.{table_in}
use Rattle.entering.specs.declared.Answer.{Answer}
use Rattle.entering.specs.StepIn.{Does, answered}

module _ (heads rows : List (List ℕ)) (capacity used : ℕ) (cs : List Check) (o : Outcome) (log : List ℕ) where
  -- x is what the `?` returns of the refusal
  pub refused_does : (r : Refusal) (x : Result Answer Refusal) → IsErrAnd x (λ s. s ≡ r) → refusal_number r ≡ first_of cs
      → Does cs o (table_in heads rows capacity used) log (answered used x) heads rows log
  refused_does r (Ok a) e q = absurd e
  refused_does r (Err s) same q = λ e c d.
      let n : refusal_number s ≡ first_of cs = ap refusal_number same ∙ q in
      let k = step_refused (table_in heads rows capacity used) e log (λ t. no_refusal_accepted s (n ∙ sym c ∙ t)) in
      record {
        table = rw k;
        signals = rw k;
        refusal = rw k (n ∙ sym c);
        log = rw k;
      }

  pub done_does : {a : Answer} {heads' rows' : List (List ℕ)} {after : List ℕ} → accepted ≡ first_of cs
      → table_in heads' rows' capacity a.used ≡ o.table → a.signals ≡ row_of o.signals → after ≡ o.log
      → Does cs o (table_in heads rows capacity used) log (answered used (Ok a)) heads' rows' after
  done_does q t s l = λ e c d.
      let k = step_done (table_in heads rows capacity used) e log (c ∙ sym q) in
      record {
        table = rw (k, d) t;
        signals = rw (k, d) s;
        refusal = rw k;
        log = rw (k, d) l;
      }
