-- What a change at one place leaves alone: every other transaction and all that it holds. So the count of open ones changes by that place alone.
use Prim.Native.Nat.{ℕ, ◌+◌, ◌*◌, ◌≤◌}
use native.Mathlib.Omega.{arith}
use mathlib.Core.Path.{◌≡◌, refl, sym, ◌∙◌, ap, subst}
use mathlib.Core.Bool.{Bool, true, false, false≢true}
use mathlib.Core.List.{List, [], ◌∷◌, map}
use lib.ListN.{length}
use lib.Dec.{eqb}
use borrow.Author.Tests.{eqb-true, eqb-false, ne_eqb}
use Rattle.lists.specs.Lists.{any, filter}
use Rattle.lists.specs.Members.{Each, Some}
use Rattle.lists.specs.Places.{put_lowest}
use Rattle.lists.proofs.Tests.{by_test, no_clash, is_true, true_and, and_true, none_each, each_none, each_head, each_rest}
use Rattle.lists.proofs.Places.{IsPlace, at_below, length_change, length_put, filter_put}
use Rattle.rules.specs.declared.Transaction.{Transaction}
use Rattle.rules.specs.declared.Enlistment.{Enlistment}
use Rattle.rules.specs.declared.Table.{Table}
use Rattle.rules.specs.Sizes.{record_size}
use Rattle.rules.specs.TransactionState as transaction
use Rattle.rules.specs.Table.{no_transaction, is_free, is_durable, is_vacant, held_by, held, transaction_at, state_at, freed, ended, on_held, change_held, change_transaction, emptied, use_more, with_transactions, with_enlistments}
use Rattle.rules.specs.Sound.{is_open, open_places, open_count, Live, Held}
use Rattle.rules.proofs.Frames.{of_held, in_held, at_other, held_came, held_own}
use Rattle.rules.proofs.Along.{many_but_one, one_if}
use Rattle.rules.proofs.Kept.{Kept, Keeping, stays, moves, goes, keeping_key, kept_map, kept_end, at_emptied, live_place, live_some}
use Rattle.rules.proofs.Put.{free_place, at_others, vacant_by}

-- From tb to tb' only the transaction at place p changes, and what it holds.
pub record Only (p : ℕ) (tb tb' : Table) : Type 0 where
  pub transactions : (q : ℕ) → (q ≡ p → ⊥) → transaction_at q tb' ≡ transaction_at q tb
  pub enlistments : (q : ℕ) → (q ≡ p → ⊥) → (q ≡ 0 → ⊥) → held q tb' ≡ held q tb
  pub as_many : length tb'.transactions ≡ length tb.transactions
  pub same_capacity : tb'.capacity ≡ tb.capacity

pub only_same : (p : ℕ) (tb : Table) → Only p tb tb
only_same p tb = record { transactions = λ q n. refl; enlistments = λ q n z. refl; as_many = refl; same_capacity = refl }

pub only_then : {p : ℕ} {a b c : Table} → Only p a b → Only p b c → Only p a c
only_then r s = record {
  transactions = λ q n. s.transactions q n ∙ r.transactions q n;
  enlistments = λ q n z. s.enlistments q n z ∙ r.enlistments q n z;
  as_many = s.as_many ∙ r.as_many;
  same_capacity = s.same_capacity ∙ r.same_capacity;
}

-- ── the verbs ───────────────────────────────────────────────────────────────────────────────────────────────────

-- a change of held enlistments
abbrev pub KeepsHeld : (Enlistment → Enlistment) → Type 0
KeepsHeld f = (e : Enlistment) → Held e → Keeping e (f e)

pub filter_map_same : {A : Type 0} (t : A → Bool) (g : A → A) (xs : List A) → Each (λ x. (t (g x) ≡ t x) × (t x ≡ true → g x ≡ x)) xs → filter t (map g xs) ≡ filter t xs
unfolding filter
filter_map_same t g [] h = refl
filter_map_same t g (x ∷ xs) h = by_test (t x)
    (λ e. rw ((each_head h).0, e, (each_head h).1 e, filter_map_same t g xs (each_rest h)))
    (λ e. rw ((each_head h).0, e, filter_map_same t g xs (each_rest h)))

module _ (p : ℕ) (f : Enlistment → Enlistment) (tb : Table) (some : p ≡ 0 → ⊥) (keeps : KeepsHeld f) where
  not_by : (q : ℕ) → (q ≡ p → ⊥) → (q ≡ 0 → ⊥) → (e e' : Enlistment) → e.holder ≡ p → Keeping e e' → held_by q e' ≡ false
  not_by q n z e e' h (stays c) = ne_eqb e'.holder q (λ d. n (sym d ∙ ap (λ x. x.holder) c ∙ h))
  not_by q n z e e' h (moves l s c) = ne_eqb e'.holder q (λ d. n (sym d ∙ ap (λ x. x.holder) c ∙ h))
  not_by q n z e e' h (goes c) = ne_eqb e'.holder q (λ d. z (sym d ∙ ap (λ x. x.holder) c))

  pub only_held : Only p tb (change_held p f tb)
  unfolding change_held held
  only_held = record {
    transactions = λ q n. refl;
    enlistments = λ q n z. filter_map_same (held_by q) (on_held p f) tb.enlistments (λ e m. by_test (held_by p e)
        (λ t. let h : e.holder ≡ p = eqb-true e.holder p t in
        let o : held_by q e ≡ false = ne_eqb e.holder q (λ d. n (sym d ∙ h)) in
        rw (t, o) (not_by q n z e (f e) h (keeps e (λ c. some (sym h ∙ c))), λ c. absurd (false≢true c)))
        (λ t. rw t (refl, λ c. refl)));
    as_many = refl;
    same_capacity = refl;
  }

  pub kept_held : Kept tb → Kept (change_held p f tb)
  unfolding change_held
  kept_held k = kept_map (on_held p f) k (λ e m. by_test (held_by p e)
      (λ t. rw t (keeps e (λ c. some (sym (eqb-true e.holder p t) ∙ c))))
      (λ t. rw t (stays refl)))

pub only_transaction : (p : ℕ) (f : Transaction → Transaction) (tb : Table) → Only p tb (change_transaction p f tb)
unfolding change_transaction held
only_transaction p f tb = record {
  transactions = at_other p f tb;
  enlistments = λ q n z. refl;
  as_many = length_change f 1 p tb.transactions;
  same_capacity = refl;
}

pub only_use : (p n : ℕ) (tb : Table) → Only p tb (use_more n tb)
unfolding use_more held
only_use p n tb = record { transactions = λ q m. refl; enlistments = λ q m z. refl; as_many = refl; same_capacity = refl }

pub only_begin : (x : Transaction) (tb : Table) → any is_free tb.transactions ≡ true → Only (free_place tb) tb (with_transactions (put_lowest is_free x tb.transactions) tb)
unfolding held
only_begin x tb some = record {
  transactions = λ q n. at_others x tb some q n;
  enlistments = λ q n z. refl;
  as_many = length_put is_free x tb.transactions;
  same_capacity = refl;
}

pub only_enlist : (e : Enlistment) (tb : Table) → Only e.holder tb (with_enlistments (put_lowest is_vacant e tb.enlistments) tb)
unfolding held
only_enlist e tb = record {
  transactions = λ q n. refl;
  enlistments = λ q n z. filter_put is_vacant e (held_by q) tb.enlistments (ne_eqb e.holder q (λ c. n (sym c))) (λ y m t. vacant_by q z y t);
  as_many = refl;
  same_capacity = refl;
}

-- ── what stands at the place itself ─────────────────────────────────────────────────────────────────────────────

pub at_emptied_place : (p : ℕ) (tb : Table) → transaction_at p (emptied p tb) ≡ no_transaction
unfolding change_transaction change_held
at_emptied_place p tb = at_emptied no_transaction p tb.transactions

pub at_changed : (p q : ℕ) (f : Enlistment → Enlistment) (tb : Table) → transaction_at q (change_held p f tb) ≡ transaction_at q tb
unfolding change_held
at_changed p q f tb = refl

pub used_held : (p : ℕ) (f : Enlistment → Enlistment) (tb : Table) → (change_held p f tb).used ≡ tb.used
unfolding change_held
used_held p f tb = refl

pub used_transaction : (p : ℕ) (f : Transaction → Transaction) (tb : Table) → (change_transaction p f tb).used ≡ tb.used
unfolding change_transaction
used_transaction p f tb = refl

module _ (p : ℕ) (f : Enlistment → Enlistment) (tb : Table) where
  -- each that is held afterwards is made of one that was held
  pub each_changed : (P : Enlistment → Type 0) → Each (λ e. (f e).holder ≡ p → P (f e)) (held p tb) → Each P (held p (change_held p f tb))
  each_changed P h x m =
      let o = held_came p f tb m in
      subst P (sym o.holds) (h o.it o.there (ap (λ y. y.holder) (sym o.holds) ∙ (of_held p (change_held p f tb) m).1))

  pub some_changed : {P : Enlistment → Type 0} → Some (λ e. ((f e).holder ≡ p) × P (f e)) (held p tb) → Some P (held p (change_held p f tb))
  some_changed {P} s = held_own (λ e. ((f e).holder ≡ p) × P (f e)) P p f tb (λ e m q. (q.1, q.0 ∙ sym (of_held p tb m).1)) s

-- ── ending ──────────────────────────────────────────────────────────────────────────────────────────────────────

pub frees : KeepsHeld freed
frees e h = goes refl

pub only_emptied : (p : ℕ) (tb : Table) → (p ≡ 0 → ⊥) → Only p tb (emptied p tb)
only_emptied p tb n = only_then (only_held p freed tb n frees) (only_transaction p ended (change_held p freed tb))

pub kept_emptied : (p : ℕ) (tb : Table) → (p ≡ 0 → ⊥) → Kept tb → Kept (emptied p tb)
kept_emptied p tb n k = kept_end p (kept_held p freed tb n frees k) free
  where
    free : Each (λ e. e.holder ≡ p → ⊥) (change_held p freed tb).enlistments
    free e m h = each_changed p freed tb (λ e. ⊥) (λ e m h. n (sym h)) e (in_held p (change_held p freed tb) m h)

-- ── open ────────────────────────────────────────────────────────────────────────────────────────────────────────

abbrev pub open_at : ℕ → Table → Bool
open_at p tb = is_open (state_at p tb) (held p tb)

pub open_changes : (p : ℕ) (tb tb' : Table) → Only p tb tb' → IsPlace tb.transactions p → open_count tb' + one_if (open_at p tb) ≡ open_count tb + one_if (open_at p tb')
unfolding open_places
open_changes p tb tb' o i = many_but_one (λ q x. is_open x.state (held q tb)) (λ q x. is_open x.state (held q tb')) no_transaction p tb.transactions tb'.transactions
    (sym o.as_many) i.low i.high
    (λ q n. by_test (eqb q 0)
    (λ e. rw (eqb-true q 0 e, at_below no_transaction 1 0 tb.transactions (omega arith), at_below no_transaction 1 0 tb'.transactions (omega arith)))
    (λ e. rw (o.transactions q n, o.enlistments q n (eqb-false q 0 e))))

pub open_use : (n : ℕ) (tb : Table) → open_count (use_more n tb) ≡ open_count tb
unfolding open_places use_more held
open_use n tb = refl

-- "used + 18 × open ≤ capacity"
abbrev pub Room : Table → Type 0
Room tb = tb.used + record_size * open_count tb ≤ tb.capacity

-- nothing is written, and nothing opened
pub room_kept : (p : ℕ) (tb tb' : Table) → Only p tb tb' → IsPlace tb.transactions p → tb'.used ≡ tb.used → (open_at p tb' ≡ true → open_at p tb ≡ true) → Room tb → Room tb'
room_kept p tb tb' o i u h r = by_test (open_at p tb')
    (λ t. let c : open_count tb' + 1 ≡ open_count tb + 1 = rw (t, h t) at (open_changes p tb tb' o i) in omega (arith, o.same_capacity, u, r, c))
    (λ t. let c : open_count tb' + one_if (open_at p tb) ≡ open_count tb + 0 = rw t at (open_changes p tb tb' o i) in omega (arith, o.same_capacity, u, r, c))

-- a change of what is held, which opens nothing
pub room_held : (p : ℕ) (f : Enlistment → Enlistment) (tb : Table) → Live (transaction_at p tb) → KeepsHeld f → Room tb → Room (change_held p f tb)
room_held p f tb l keeps = room_kept p tb (change_held p f tb) (only_held p f tb n keeps) (live_place p tb l) (used_held p f tb) opened
  where
    n : p ≡ 0 → ⊥
    n = live_some p tb l

    closed : any is_durable (held p tb) ≡ false → any is_durable (held p (change_held p f tb)) ≡ false
    closed c = each_none is_durable _ (each_changed p f tb (λ e. is_durable e ≡ false) (λ e m h.
        rw (keeping_key (keeps e (λ q. n (sym (of_held p tb m).1 ∙ q))) (λ q. n (sym h ∙ q))).kind (none_each is_durable (held p tb) c e m)))

    opened : open_at p (change_held p f tb) ≡ true → open_at p tb ≡ true
    opened t =
        let (c, d) = true_and (eqb (state_at p (change_held p f tb)) transaction.committing) (any is_durable (held p (change_held p f tb))) t in
        and_true (subst (λ x. eqb x.state transaction.committing ≡ true) (at_changed p p f tb) c) (is_true _ (λ q. no_clash _ d (closed q)))
