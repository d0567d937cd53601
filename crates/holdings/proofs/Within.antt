-- A table into which a transaction and what it holds are put shows of them what they show alone, and a change of them passes through.
use Prim.Native.Nat.{ℕ, ◌≤◌}
use native.Mathlib.Omega.{arith}
use mathlib.Core.Path.{◌≡◌, refl, sym, ◌∙◌, ap, subst}
use mathlib.Core.Bool.{false}
use mathlib.Core.List.{◌++◌, append-nil}
use lib.ListN.{length, take, drop, length-map, take-append-drop}
use Rattle.lists.specs.Lists.{filter, count}
use Rattle.lists.specs.Members.{Each}
use Rattle.lists.specs.Places.{change_at}
use Rattle.lists.proofs.Tests.{filter_append, filter_none, each_map}
use Rattle.lists.proofs.Places.{IsPlace, at_change_same, length_change}
use Rattle.lists.proofs.Loops.{drop_map}
use Rattle.rules.specs.declared.Transaction.{Transaction}
use Rattle.rules.specs.declared.Enlistment.{Enlistment}
use Rattle.rules.specs.declared.Table.{Table}
use Rattle.rules.specs.Table.{no_transaction, transaction_at, held_by, held, on_held, change_held, change_transaction, use_more}
use Rattle.rules.proofs.Local.{Through}
use Rattle.holdings.specs.Within.{refill, within}
use Rattle.holdings.proofs.Laws.{change_twice}
use Rattle.holdings.proofs.Refill.{filter_refill, map_refill}

-- t has as many places as are held in tb, and nothing of p in the others
pub record Fits (tb : Table) (p : ℕ) (t : Table) : Type 0 where
  pub there : IsPlace t.transactions p
  pub enough : count (held_by p) tb.enlistments ≤ length t.enlistments
  pub none : Each (λ e. held_by p e ≡ false) (drop (count (held_by p) tb.enlistments) t.enlistments)

module _ (tb : Table) (p : ℕ) (there : IsPlace tb.transactions p) where
  same_transaction : (t : Table) → transaction_at p (within tb p t) ≡ transaction_at p t
  same_transaction t = at_change_same (λ x. transaction_at p t) no_transaction tb.transactions there

  same_held : (t : Table) → Fits tb p t → held p (within tb p t) ≡ held p t
  unfolding held
  same_held t h =
      let n : ℕ = count (held_by p) tb.enlistments in
      filter_refill (held_by p) 0 t.enlistments tb.enlistments (omega (arith, h.enough))
      ∙ sym (append-nil _)
      ∙ ap (λ l. filter (held_by p) (take n t.enlistments) ++ l) (sym (filter_none (held_by p) _ h.none))
      ∙ sym (filter_append (held_by p) (take n t.enlistments) (drop n t.enlistments))
      ∙ ap (filter (held_by p)) (take-append-drop n t.enlistments)

  unheld : (f : Enlistment → Enlistment) (e : Enlistment) → held_by p e ≡ false → on_held p f e ≡ e
  unheld f e q = rw q

  changed : (f : Enlistment → Enlistment) (t : Table) → Fits tb p t → change_held p f (within tb p t) ≡ within tb p (change_held p f t)
  unfolding change_held
  changed f t h = ap (λ es. record { transactions = change_at p (λ x. transaction_at p t) tb.transactions; enlistments = es; capacity = tb.capacity; used = t.used })
      (map_refill (held_by p) (on_held p f) (unheld f) 0 t.enlistments tb.enlistments (omega (arith, h.enough)))

  moved : (f : Transaction → Transaction) (t : Table) → Fits tb p t → change_transaction p f (within tb p t) ≡ within tb p (change_transaction p f t)
  unfolding change_transaction
  moved f t h = ap (λ xs. record { transactions = xs; enlistments = refill (held_by p) t.enlistments tb.enlistments; capacity = tb.capacity; used = t.used })
      (change_twice f (λ x. transaction_at p t) 1 p tb.transactions ∙ ap (λ y. change_at p (λ x. y) tb.transactions) (sym (at_change_same f no_transaction t.transactions h.there)))

  changed_fits : (f : Enlistment → Enlistment) (t : Table) → Fits tb p t → Fits tb p (change_held p f t)
  unfolding change_held
  changed_fits f t h = record {
    there = h.there;
    enough = omega (arith, h.enough, length-map t.enlistments (on_held p f));
    none = subst (Each (λ e. held_by p e ≡ false)) (sym (drop_map (on_held p f) n t.enlistments)) (each_map (on_held p f) (λ e. held_by p e ≡ false) (drop n t.enlistments) (λ e m. ap (held_by p) (unheld f e (h.none e m)) ∙ h.none e m));
  }
    where
      n : ℕ
      n = count (held_by p) tb.enlistments

  moved_fits : (f : Transaction → Transaction) (t : Table) → Fits tb p t → Fits tb p (change_transaction p f t)
  unfolding change_transaction
  moved_fits f t h = record { there = record { low = h.there.low; high = omega (arith, h.there.high, length_change f 1 p t.transactions) }; enough = h.enough; none = h.none }

  pub passes_through : Through p (within tb p) (Fits tb p)
  unfolding use_more
  passes_through = record {
    same_transaction = λ t h. same_transaction t;
    same_held = same_held;
    same_used = λ t. refl;
    changed = changed;
    moved = moved;
    grown = λ n t. refl;
    changed_fits = changed_fits;
    moved_fits = moved_fits;
  }
