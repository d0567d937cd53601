-- What the verbs of a table leave alone: a change at the place p is none at any other place, and of a name that does not stand at p
-- nothing is seen. Each law looks place by place.
use Prim.Native.Nat.{ℕ, ◌+◌, ◌≤◌}
use native.Mathlib.Omega.{arith}
use mathlib.Core.Path.{◌≡◌, refl, sym, ◌∙◌, ap}
use mathlib.Core.Logic.{◌⊎◌, inl, inr}
use mathlib.Core.Bool.{true, false, cond, false≢true}
use mathlib.Core.List.Memᴰ
use mathlib.Core.List.{List, [], ◌∷◌, ◌++◌, map}
use lib.Dec.{eqb}
use lib.ListN.{length, take, drop, length-append}
use lib.Seq.{take_at, length-take-le, length-sets, sets-eq}
use borrow.Author.Tests.{eqb-true, eqb-false, eq-eqb, ne_eqb}
use Rattle.lists.specs.Members.{◌∈◌, Some}
use Rattle.lists.specs.Lists.{filter}
use Rattle.lists.specs.Places.{at}
use Rattle.lists.proofs.Tests.{by_test, no_clash, is_false, true_and, in_filter, of_filter, in_map, of_map, none_each, some_any, by_either}
use Rattle.lists.proofs.Places.{IsPlace, IsFirst, at_member, length_change, at_change_same, at_change_other, place_first, first_place, place_none, place_some, place_or_nothing}
use Rattle.rules.specs.declared.Transaction.{Transaction}
use Rattle.rules.specs.declared.Enlistment.{Enlistment}
use Rattle.rules.specs.declared.Table.{Table}
use Rattle.rules.specs.Identifiers.{Id, same_bytes}
use Rattle.rules.specs.Table.{no_transaction, is_live, is_named, place_named, transaction_at, state_at, held_by, held, on_held, change_held, change_transaction, go_to, in_transaction_state, ended}
use Rattle.rules.specs.Log.{written}
use Rattle.rules.proofs.Identifiers.{same_refl, same_equal}

-- ── what the transaction at a place holds ───────────────────────────────────────────────────────────────────────

pub of_held : (p : ℕ) (tb : Table) {x : Enlistment} → x ∈ held p tb → (x ∈ tb.enlistments) × (x.holder ≡ p)
unfolding held
of_held p tb {x} m = let w : (x ∈ tb.enlistments) × (held_by p x ≡ true) = of_filter (held_by p) tb.enlistments m in (w.0, eqb-true x.holder p w.1)

pub in_held : (p : ℕ) (tb : Table) {x : Enlistment} → x ∈ tb.enlistments → x.holder ≡ p → x ∈ held p tb
unfolding held
in_held p tb {x} m e = in_filter (held_by p) tb.enlistments m (eq-eqb x.holder p e)

-- a change leaves an enlistment with its transaction, or empties its place
abbrev pub Keeps : (Enlistment → Enlistment) → Type 0
Keeps f = (e : Enlistment) → ((f e).holder ≡ e.holder) ⊎ ((f e).holder ≡ 0)

held_other_list : (p q : ℕ) (f : Enlistment → Enlistment) → Keeps f → (q ≡ p → ⊥) → (q ≡ 0 → ⊥) → (es : List Enlistment) → filter (held_by q) (map (on_held p f) es) ≡ filter (held_by q) es
unfolding filter
held_other_list p q f k d z [] = refl
held_other_list p q f k d z (e ∷ es) = by_test (held_by p e)
    (λ b. rw (b, ne_eqb (f e).holder q (gone (eqb-true e.holder p b) (k e)), ne_eqb e.holder q (λ h. d (sym h ∙ eqb-true e.holder p b))) (held_other_list p q f k d z es))
    (λ b. rw b (ap (λ l. cond (held_by q e) (e ∷ l) l) (held_other_list p q f k d z es)))
  where
    gone : e.holder ≡ p → ((f e).holder ≡ e.holder) ⊎ ((f e).holder ≡ 0) → (f e).holder ≡ q → ⊥
    gone h (inl a) b = d (sym b ∙ a ∙ h)
    gone h (inr a) b = z (sym b ∙ a)

pub held_other : (p q : ℕ) (f : Enlistment → Enlistment) (tb : Table) → Keeps f → (q ≡ p → ⊥) → (q ≡ 0 → ⊥) → held q (change_held p f tb) ≡ held q tb
unfolding held change_held
held_other p q f tb k d z = held_other_list p q f k d z tb.enlistments

-- what it holds afterwards came from what it held
pub held_came : (p : ℕ) (f : Enlistment → Enlistment) (tb : Table) {x : Enlistment} → x ∈ held p (change_held p f tb) → Some (λ e. x ≡ f e) (held p tb)
unfolding held change_held
held_came p f tb {x} m = go (of_map (on_held p f) tb.enlistments w.0)
  where
    w : (x ∈ map (on_held p f) tb.enlistments) × (held_by p x ≡ true)
    w = of_filter (held_by p) (map (on_held p f) tb.enlistments) m

    go : Some (λ e. on_held p f e ≡ x) tb.enlistments → Some (λ e. x ≡ f e) (filter (held_by p) tb.enlistments)
    go s = by_test (held_by p s.it)
        (λ b. record { it = s.it; there = in_filter (held_by p) tb.enlistments s.there b; holds = sym (rw b at s.holds) })
        (λ b. no_clash (held_by p x) w.1 (ap (held_by p) (sym (rw b at s.holds)) ∙ b))

-- and what it held, it holds as f made it
pub held_own : (P Q : Enlistment → Type 0) (p : ℕ) (f : Enlistment → Enlistment) (tb : Table)
    → ((e : Enlistment) → e ∈ held p tb → P e → Q (f e) × ((f e).holder ≡ e.holder)) → Some P (held p tb) → Some Q (held p (change_held p f tb))
unfolding held change_held
held_own P Q p f tb g h = record {
  it = f h.it;
  there = in_filter (held_by p) (map (on_held p f) tb.enlistments) (Memᴰ.cast (sym on) (in_map (on_held p f) was.0)) (rw (g h.it h.there h.holds).1 was.1);
  holds = (g h.it h.there h.holds).0;
}
  where
    was : (h.it ∈ tb.enlistments) × (held_by p h.it ≡ true)
    was = of_filter (held_by p) tb.enlistments h.there

    on : on_held p f h.it ≡ f h.it
    on = rw was.1 refl

held_shorter_list : (p : ℕ) (f : Enlistment → Enlistment) (es : List Enlistment) → length (filter (held_by p) (map (on_held p f) es)) ≤ length (filter (held_by p) es)
unfolding filter
held_shorter_list p f [] = omega arith
held_shorter_list p f (e ∷ es) = let ih : length (filter (held_by p) (map (on_held p f) es)) ≤ length (filter (held_by p) es) = held_shorter_list p f es in
    by_test (held_by p e)
    (λ b. by_test (held_by p (f e)) (λ c. rw (b, c) (omega arith)) (λ c. rw (b, c) (omega arith)))
    (λ b. rw (b, b) ih)

pub held_shorter : (p : ℕ) (f : Enlistment → Enlistment) (tb : Table) → length (held p (change_held p f tb)) ≤ length (held p tb)
unfolding held change_held
held_shorter p f tb = held_shorter_list p f tb.enlistments

pub held_transaction : (p q : ℕ) (f : Transaction → Transaction) (tb : Table) → held q (change_transaction p f tb) ≡ held q tb
unfolding held change_transaction
held_transaction p q f tb = refl

-- ── a name at a place ───────────────────────────────────────────────────────────────────────────────────────────

by_place : {C : Type 0} (p : ℕ) (xs : List Transaction) → (IsPlace xs p → C) → (at no_transaction p xs ≡ no_transaction → C) → C
by_place p xs f g = by_either f g (place_or_nothing no_transaction p xs)

pub named_is : (t : Id) (x : Transaction) → is_named t x ≡ true → (is_live x ≡ true) × (x.id.0 ≡ t)
named_is t x e = ((true_and (is_live x) (same_bytes x.id.0 t) e).0, same_equal x.id.0 t (true_and (is_live x) (same_bytes x.id.0 t) e).1)

pub is_named_lem : (x : Transaction) → is_live x ≡ true → is_named x.id.0 x ≡ true
is_named_lem x l = rw l (same_refl x.id.0)

-- two names do not stand at one place
pub named_other : (t u : Id) (x : Transaction) → is_named t x ≡ true → (u ≡ t → ⊥) → is_named u x ≡ false
named_other t u x e d = is_false (is_named u x) (λ q. d (sym (named_is u x q).1 ∙ (named_is t x e).1))

pub named_place : (t : Id) (p : ℕ) (tb : Table) → is_named t (transaction_at p tb) ≡ true → IsPlace tb.transactions p
named_place t p tb e = by_place p tb.transactions (λ h. h) (λ q. absurd (false≢true (ap (is_named t) (sym q) ∙ e)))

pub not_zero : {xs : List Transaction} {p : ℕ} → IsPlace xs p → p ≡ 0 → ⊥
not_zero h z = omega (arith, h.low)

-- t is live at p, and nowhere else
pub record Stands (t : Id) (p : ℕ) (tb : Table) : Type 0 where
  pub here : is_named t (transaction_at p tb) ≡ true
  pub alone : (q : ℕ) → is_named t (transaction_at q tb) ≡ true → q ≡ p

-- t is not live
pub record Absent (t : Id) (tb : Table) : Type 0 where
  pub nowhere : (q : ℕ) → is_named t (transaction_at q tb) ≡ false

pub stands_place : (t : Id) (p : ℕ) (tb : Table) → Stands t p tb → place_named t tb ≡ p
stands_place t p tb s = s.alone (place_named t tb) (place_first (is_named t) no_transaction tb.transactions
    (some_any (is_named t) tb.transactions (record { it = transaction_at p tb; there = at_member no_transaction tb.transactions (named_place t p tb s.here); holds = s.here }))).passes

pub named_found : (t : Id) (tb : Table) → (place_named t tb ≡ 0 → ⊥) → is_named t (transaction_at (place_named t tb) tb) ≡ true
named_found t tb n = (place_first (is_named t) no_transaction tb.transactions (place_some (is_named t) tb.transactions n)).passes

pub absent_place : (t : Id) (tb : Table) → Absent t tb → place_named t tb ≡ 0
absent_place t tb a = by_test (eqb (place_named t tb) 0)
    (λ e. eqb-true (place_named t tb) 0 e)
    (λ e. no_clash (is_named t (transaction_at (place_named t tb) tb)) (named_found t tb (eqb-false (place_named t tb) 0 e)) (a.nowhere (place_named t tb)))

pub none_absent : (t : Id) (tb : Table) → place_named t tb ≡ 0 → Absent t tb
none_absent t tb e = record {
  nowhere = λ q. by_place q tb.transactions
      (λ h. none_each (is_named t) tb.transactions (place_none (is_named t) tb.transactions e) (transaction_at q tb) (at_member no_transaction tb.transactions h))
      (λ z. ap (is_named t) z);
}

-- ── another name is found where it was ──────────────────────────────────────────────────────────────────────────

-- tables in which u is named at the same places
pub same_place : (u : Id) (tb tb' : Table) → length tb'.transactions ≡ length tb.transactions
    → ((q : ℕ) → is_named u (transaction_at q tb') ≡ is_named u (transaction_at q tb)) → place_named u tb' ≡ place_named u tb
same_place u tb tb' l s = by_test (eqb (place_named u tb) 0)
    (λ e. absent_place u tb' (record { nowhere = λ q. s q ∙ (none_absent u tb (eqb-true (place_named u tb) 0 e)).nowhere q }) ∙ sym (eqb-true (place_named u tb) 0 e))
    (λ e. go (place_first (is_named u) no_transaction tb.transactions (place_some (is_named u) tb.transactions (eqb-false (place_named u tb) 0 e))))
  where
    go : IsFirst (is_named u) no_transaction tb.transactions (place_named u tb) → place_named u tb' ≡ place_named u tb
    go f = first_place (is_named u) no_transaction tb'.transactions (place_named u tb) (record {
      is_place = record { low = f.is_place.low; high = rw l f.is_place.high };
      passes = s (place_named u tb) ∙ f.passes;
      first = λ q a b. s q ∙ f.first q a b;
    })

module _ (p : ℕ) (f : Transaction → Transaction) (tb : Table) where
  pub at_own : IsPlace tb.transactions p → transaction_at p (change_transaction p f tb) ≡ f (transaction_at p tb)
  unfolding change_transaction
  at_own h = at_change_same f no_transaction tb.transactions h

  pub at_other : (q : ℕ) → (q ≡ p → ⊥) → transaction_at q (change_transaction p f tb) ≡ transaction_at q tb
  unfolding change_transaction
  at_other q n = at_change_other f p q no_transaction tb.transactions n

  as_many : length (change_transaction p f tb).transactions ≡ length tb.transactions
  unfolding change_transaction
  as_many = length_change f 1 p tb.transactions

  -- at p stands what f made of what stood there; where there is no such place, nothing
  pub at_changed : {C : Type 0} → (transaction_at p (change_transaction p f tb) ≡ f (transaction_at p tb) → C) → (transaction_at p (change_transaction p f tb) ≡ no_transaction → C) → C
  at_changed g = by_place p (change_transaction p f tb).transactions (λ i. g (at_own (record { low = i.low; high = omega (arith, i.high, as_many) })))

-- ── a transaction goes to another state ─────────────────────────────────────────────────────────────────────────

module _ (t : Id) (p s : ℕ) (tb : Table) (at : Stands t p tb) where
  pub state_goes : state_at p (go_to p s tb) ≡ s
  state_goes = ap (λ (x : Transaction). x.state) (at_own p (in_transaction_state s) tb (named_place t p tb at.here))

  pub stands_goes : (s ≡ 0 → ⊥) → Stands t p (go_to p s tb)
  stands_goes n = record { here = rw (at_own p (in_transaction_state s) tb (named_place t p tb at.here), ne_eqb s 0 n, (named_is t (transaction_at p tb) at.here).1) (same_refl t); alone = alone }
    where
      alone : (q : ℕ) → is_named t (transaction_at q (go_to p s tb)) ≡ true → q ≡ p
      alone q e = by_test (eqb q p) (λ c. eqb-true q p c) (λ c. at.alone q (ap (is_named t) (sym (at_other p (in_transaction_state s) tb q (eqb-false q p c))) ∙ e))

  pub other_goes : (u : Id) → (u ≡ t → ⊥) → is_named u (in_transaction_state s (transaction_at p tb)) ≡ false
  other_goes u d = is_false (is_named u (in_transaction_state s (transaction_at p tb))) (λ q. d (sym (named_is u (in_transaction_state s (transaction_at p tb)) q).1 ∙ (named_is t (transaction_at p tb) at.here).1))

-- ── a transaction ends ──────────────────────────────────────────────────────────────────────────────────────────

pub absent_ended : (t : Id) (p : ℕ) (tb : Table) → ((q : ℕ) → is_named t (transaction_at q tb) ≡ true → q ≡ p) → Absent t (change_transaction p ended tb)
absent_ended t p tb alone = record {
  nowhere = λ q. by_test (eqb q p)
      (λ e. rw (eqb-true q p e) (at_changed p ended tb (λ c. ap (is_named t) c) (λ c. ap (is_named t) c)))
      (λ e. is_false (is_named t (transaction_at q (change_transaction p ended tb))) (λ n. eqb-false q p e (alone q (ap (is_named t) (sym (at_other p ended tb q (eqb-false q p e))) ∙ n))));
}

-- ── the log ─────────────────────────────────────────────────────────────────────────────────────────────────────

-- what is written where it fits stands behind what was there
pub written_used : (start : ℕ) (bs log : List ℕ) → start + length bs ≤ length log → take (start + length bs) (written start bs log) ≡ take start log ++ bs
unfolding written
written_used start bs log h = ap (take (start + length bs)) (sets-eq bs log start h) ∙ take_at (take start log ++ bs) (drop (start + length bs) log) (start + length bs) size
  where
    size : length (take start log ++ bs) ≡ start + length bs
    size = length-append (take start log) bs ∙ ap (λ n. n + length bs) (length-take-le start log (omega arith))

pub length_written : (start : ℕ) (bs log : List ℕ) → length (written start bs log) ≡ length log
unfolding written
length_written start bs log = length-sets log start bs
