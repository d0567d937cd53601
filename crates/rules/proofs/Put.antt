-- A new entry in the lowest empty place keeps what every change keeps: all others stand where they stood, and it is like none of them.
use Prim.Native.Nat.{ℕ, ◌<◌}
use native.Mathlib.Omega.{arith}
use mathlib.Core.Path.{◌≡◌, sym, ◌∙◌, subst}
use mathlib.Core.Logic.{inl}
use mathlib.Core.Bool.{Bool, true, false, ◌&&◌}
use mathlib.Core.List.{List, []}
use lib.ListN.{length}
use lib.Dec.{eqb}
use borrow.Author.Tests.{eqb-true, eqb-false, ne_eqb}
use Rattle.lists.specs.Lists.{any}
use Rattle.lists.specs.Members.{Each, ◌∈◌}
use Rattle.lists.specs.Places.{at, place_of, put_lowest}
use Rattle.lists.proofs.Tests.{by_test, by_either, is_false, true_and, true_not, of_filter, filter_filter, filter_none, and_false}
use Rattle.lists.proofs.Places.{IsFirst, place_first, put_is, of_put, filter_put, at_change_same, at_change_other}
use Rattle.rules.specs.declared.Transaction.{Transaction}
use Rattle.rules.specs.declared.Enlistment.{Enlistment}
use Rattle.rules.specs.declared.Table.{Table}
use Rattle.rules.specs.Sizes.{held_most}
use Rattle.rules.specs.Marks as mark
use Rattle.rules.specs.Table.{no_transaction, is_live, is_free, is_held, is_vacant, is_durable, held_by, held, transaction_at, with_transactions, with_enlistments}
use Rattle.rules.specs.Sound.{PhaseZero, Durable, Live, Held, Identifier, Number, Known}
use Rattle.rules.proofs.Along.{put_apart, put_few}
use Rattle.rules.proofs.Kept.{Kept, live_some, true_live, true_held}
use Rattle.rules.proofs.Frames.{of_held}

-- where no transaction is live, nothing is held
held_nothing : (q : ℕ) (tb : Table) → Kept tb → (q ≡ 0 → ⊥) → (transaction_at q tb).state ≡ 0 → held q tb ≡ []
unfolding held
held_nothing q tb k n z = filter_none (held_by q) tb.enlistments (λ e m. is_false (held_by q e) (λ t.
    let h : e.holder ≡ q = eqb-true e.holder q t in
    k.holders_live e m (λ c. n (sym h ∙ c)) (rw h z)))

-- and where one is, what it holds is held
pub member_held : (q : ℕ) (tb : Table) → (q ≡ 0 → ⊥) → {e : Enlistment} → e ∈ held q tb → Held e
member_held q tb n m z = n (sym (of_held q tb m).1 ∙ z)

-- a list and one more, which stands in its lowest empty place
put_each : {A : Type 0} {P : A → Type 0} (empty : A → Bool) (x : A) (xs : List A) → P x → Each P xs → Each P (put_lowest empty x xs)
put_each {P = P} empty x xs p h y m = by_either (λ e. subst P (sym e) p) (λ q. h y q) (of_put empty x xs m)

-- ── a transaction ───────────────────────────────────────────────────────────────────────────────────────────────

-- the place that the next transaction takes
abbrev pub free_place : Table → ℕ
free_place tb = place_of is_free tb.transactions

module _ (x : Transaction) (tb : Table) (some : any is_free tb.transactions ≡ true) where
  first : IsFirst is_free no_transaction tb.transactions (free_place tb)
  first = place_first is_free no_transaction tb.transactions some

  pub at_new : at no_transaction (free_place tb) (put_lowest is_free x tb.transactions) ≡ x
  at_new = rw (put_is is_free x tb.transactions) (at_change_same (λ y. x) no_transaction tb.transactions first.is_place)

  pub at_others : (q : ℕ) → (q ≡ free_place tb → ⊥) → at no_transaction q (put_lowest is_free x tb.transactions) ≡ transaction_at q tb
  at_others q n = rw (put_is is_free x tb.transactions) (at_change_other (λ y. x) (free_place tb) q no_transaction tb.transactions n)

  -- it holds nothing yet
  pub new_holds_nothing : Kept tb → held (free_place tb) tb ≡ []
  new_holds_nothing k = held_nothing (free_place tb) tb k (λ z. omega (arith, z, first.is_place.low)) (eqb-true _ 0 first.passes)

  pub kept_begin : Kept tb → Live x → Identifier x.id.0 → Each (λ y. Live y → x.id.0 ≡ y.id.0 → ⊥) tb.transactions
      → Kept (with_transactions (put_lowest is_free x tb.transactions) tb)
  unfolding held
  kept_begin k l i new = record {
    enlistments = k.enlistments;
    transactions = record {
      named = put_each is_free x tb.transactions (record { identifier = λ m. i; empty = λ m. absurd (l m) }) k.transactions.named;
      differ = put_apart is_free x is_live (λ y e. true_not e) tb.transactions
          (λ y m t. let o = of_filter is_live tb.transactions m in (new y o.0 (true_live y o.1), λ e. new y o.0 (true_live y o.1) (sym e)))
          k.transactions.differ;
    };
    holders_live = λ e m h. by_test (eqb e.holder (free_place tb))
        (λ c. rw (eqb-true e.holder (free_place tb) c, at_new) l)
        (λ c. rw (at_others e.holder (eqb-false e.holder (free_place tb) c)) (k.holders_live e m h));
    few = λ q m. by_test (eqb q (free_place tb))
        (λ c. rw (eqb-true q (free_place tb) c, new_holds_nothing k) (omega arith))
        (λ c. k.few q (rw (at_others q (eqb-false q (free_place tb) c)) at m));
    header_used = k.header_used;
    capacity_small = k.capacity_small;
  }

-- ── an enlistment ───────────────────────────────────────────────────────────────────────────────────────────────

-- what it has to be
pub record New (e : Enlistment) (tb : Table) : Type 0 where
  pub kind : Known e
  pub rm : Identifier e.rm.0
  pub number : Number e.number
  pub live : Live (transaction_at e.holder tb)
  pub is_held_lem : Held e
  pub unmarked : PhaseZero e → e.mark ≡ mark.unmarked
  pub room : length (held e.holder tb) < held_most
  pub not_numbered : Each (λ f. Held f → e.number ≡ f.number → ⊥) tb.enlistments
  pub no_second : Each (λ f. Held f → Durable e → Durable f → e.holder ≡ f.holder → e.rm.0 ≡ f.rm.0 → ⊥) tb.enlistments

-- an empty place is no transaction's
pub vacant_by : (p : ℕ) → (p ≡ 0 → ⊥) → (y : Enlistment) → is_vacant y ≡ true → held_by p y ≡ false
vacant_by p n y t = ne_eqb y.holder p (λ e. n (sym e ∙ eqb-true y.holder 0 t))

pub kept_enlist : (e : Enlistment) (tb : Table) → Kept tb → New e tb → Kept (with_enlistments (put_lowest is_vacant e tb.enlistments) tb)
unfolding held
kept_enlist e tb k n = record {
  enlistments = record {
    proper = put_each is_vacant e tb.enlistments (record { kind = λ h. n.kind; manager = λ h. n.rm; number = λ h. n.number; unmarked = λ h. n.unmarked; empty = λ z. absurd (n.is_held_lem z) }) k.enlistments.proper;
    numbers_differ = put_apart is_vacant e is_held (λ y t. true_not t) tb.enlistments
        (λ y m t. let o = of_filter is_held tb.enlistments m in (n.not_numbered y o.0 (true_held y o.1), λ c. n.not_numbered y o.0 (true_held y o.1) (sym c)))
        k.enlistments.numbers_differ;
    managers_differ = rw filter_filter (put_apart is_vacant e (λ f. is_held f && is_durable f) (λ y t. and_false _ _ (inl (true_not t))) tb.enlistments
        (λ y m t. let o = of_filter (λ f. is_held f && is_durable f) tb.enlistments m in
        let b : (is_held y ≡ true) × (is_durable y ≡ true) = true_and _ _ o.1 in
        let d : Durable e = eqb-true e.kind _ (true_and (is_held e) (is_durable e) t).1 in
        let c = n.no_second y o.0 (true_held y b.0) d (eqb-true y.kind _ b.1) in
        (λ q. c q.0 q.1, λ q. c (sym q.0) (sym q.1)))
        (rw filter_filter at k.enlistments.managers_differ));
  };
  transactions = k.transactions;
  holders_live = put_each is_vacant e tb.enlistments (λ h. n.live) k.holders_live;
  few = λ p l. by_test (eqb e.holder p)
      (λ c. let q : e.holder ≡ p = eqb-true e.holder p c in
      let r : length (held p tb) < held_most = subst (λ z. length (held z tb) < held_most) q n.room in
      omega (arith, r, put_few is_vacant e (held_by p) (vacant_by p (live_some p tb l)) tb.enlistments))
      (λ c. rw (filter_put is_vacant e (held_by p) tb.enlistments c (λ y m t. vacant_by p (live_some p tb l) y t)) (k.few p l));
  header_used = k.header_used;
  capacity_small = k.capacity_small;
}
