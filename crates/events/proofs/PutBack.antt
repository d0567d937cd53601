-- Where a transaction was put back, the memory means the outcome on it alone, put within the table, which is the outcome.
use Prim.Native.Nat.{ℕ, ◌≤◌}
use native.Mathlib.Omega.{arith}
use mathlib.Core.Path.{◌≡◌, sym, ◌∙◌, ap}
use mathlib.Core.List.{List}
use Rattle.std.specs.Prelude.{Ok}
use Rattle.rules.specs.RefusalNumber.{accepted}
use Rattle.rules.specs.Sizes.{transaction_places}
use Rattle.rules.specs.Signals.{row_of}
use Rattle.rules.specs.Events.{Outcome}
use Rattle.rules.specs.Refusals.{Check, first_of}
use Rattle.rules.proofs.Local.{through}
use Rattle.holdings.specs.Holdings.{alone}
use Rattle.holdings.specs.Within.{within}
use Rattle.endings.specs.declared.Accepted.{Accepted}
use Rattle.endings.specs.Gives.{Gives}
use Rattle.rows.specs.Memory.{table_in}
use Rattle.lent_tables.proofs.Within.{put_within}
use Rattle.entering.specs.declared.Answer.{Answer}
use Rattle.entering.specs.StepIn.{Does, answered}
use Rattle.entering.proofs.Done.{done_does}
use Rattle.events.specs.PutsBack.{PutsBack}

-- o is the outcome on the transaction alone
pub put_does : (heads rows : List (List ℕ)) (capacity used : ℕ) (cs : List Check) (o whole : Outcome) (log : List ℕ) {p : ℕ} {d : Accepted} {r : Answer} {heads' rows' : List (List ℕ)} {after : List ℕ}
    → 1 ≤ p → p ≤ transaction_places → accepted ≡ first_of cs → whole ≡ through (within (table_in heads rows capacity used) p) o
    → Gives p o d after → PutsBack heads rows d r heads' rows' → Does cs whole (table_in heads rows capacity used) log (answered used (Ok r)) heads' rows' after
put_does heads rows capacity used cs o whole log {p} {d} {r} {heads'} {rows'} {after} low high q w g b =
    done_does heads rows capacity used cs whole log q
    (rw b.answer (put_within heads rows heads' rows' capacity used d.holding (omega (arith, low, g.place), omega (arith, high, g.place)) b.transactions b.enlistments
    ∙ ap (λ k. within (table_in heads rows capacity used) k (alone d.holding)) g.place
    ∙ ap (within (table_in heads rows capacity used) p) g.table
    ∙ ap (λ x. x.table) (sym w)))
    (ap (λ a. a.signals) b.answer ∙ g.signals ∙ ap (λ x. row_of x.signals) (sym w))
    (g.log ∙ ap (λ x. x.log) (sym w))
