-- A change does one of three things at a place: nothing, another state, or it empties the place. So it keeps all that makes a table sound but the
-- table of states and the room in the log: what is asked of an entry does not speak of its state, and of an empty place nothing is asked.
use Prim.Native.Nat.{ℕ, ◌≤◌}
use native.Mathlib.Omega.{arith}
use mathlib.Core.Path.{◌≡◌, refl, sym, ◌∙◌, ap, subst}
use mathlib.Core.Bool.{true, ◌&&◌, Bool, cond}
use mathlib.Core.List.{List, map}
use lib.Dec.{eqb}
use borrow.Author.Tests.{eqb-true, eqb-false, ne_eqb, not-true}
use Rattle.lists.specs.Lists.{filter}
use Rattle.lists.specs.Members.{Each, Apart}
use Rattle.lists.specs.Places.{at, change_at}
use Rattle.lists.proofs.Tests.{by_test, by_either, no_clash, true_and, and_true, false_not, filter_filter, by_cond, by_cases}
use Rattle.lists.proofs.Places.{IsPlace, place_or_nothing, length_change, at_change_same, at_change_other}
use Rattle.rules.specs.declared.Transaction.{Transaction}
use Rattle.rules.specs.declared.Enlistment.{Enlistment}
use Rattle.rules.specs.declared.Table.{Table}
use Rattle.rules.specs.Sizes.{header_size, largest_capacity}
use Rattle.rules.specs.Marks as mark
use Rattle.rules.specs.Table.{no_transaction, no_enlistment, is_live, is_held, is_durable, held_by, held, transaction_at, in_state, in_transaction_state, ended, with_transactions, with_enlistments, change_transaction, go_to, use_more}
use Rattle.rules.specs.Sound.{PhaseZero, Live, Held, Identifier, Number, Sound, Known, SameIdentifier, SameNumber, SameManager, HoldersLive, FewHeld}
use Rattle.rules.proofs.Along.{Along, along_each, along_map, along_change, along_few, along_apart}

-- what soundness asks of an enlistment by itself, and of a transaction
pub record Proper (e : Enlistment) : Type 0 where
  pub kind : Held e → Known e
  pub manager : Held e → Identifier e.rm.0
  pub number : Held e → Number e.number
  pub unmarked : Held e → PhaseZero e → e.mark ≡ mark.unmarked
  pub empty : e.holder ≡ 0 → e ≡ no_enlistment

pub record Named (x : Transaction) : Type 0 where
  pub identifier : Live x → Identifier x.id.0
  pub empty : x.state ≡ 0 → x ≡ no_transaction

pub record KeptEnlistments (es : List Enlistment) : Type 0 where
  pub proper : Each Proper es
  pub numbers_differ : Apart SameNumber (filter is_held es)
  pub managers_differ : Apart SameManager (filter is_durable (filter is_held es))

pub record KeptTransactions (xs : List Transaction) : Type 0 where
  pub named : Each Named xs
  pub differ : Apart SameIdentifier (filter is_live xs)

-- the sentences of Sound, but for states and room
pub record Kept (tb : Table) : Type 0 where
  pub enlistments : KeptEnlistments tb.enlistments
  pub transactions : KeptTransactions tb.transactions
  pub holders_live : HoldersLive tb
  pub few : FewHeld tb
  pub header_used : header_size ≤ tb.used
  pub capacity_small : tb.capacity ≤ largest_capacity

pub sound_kept : {tb : Table} → Sound tb → Kept tb
sound_kept s = record {
  enlistments = record {
    proper = λ e m. record { kind = s.kinds e m; manager = s.manager_identifiers e m; number = s.numbers e m; unmarked = s.phase_zero_unmarked e m; empty = s.empty_enlistments e m };
    numbers_differ = s.numbers_differ;
    managers_differ = s.managers_differ;
  };
  transactions = record { named = λ x m. record { identifier = s.transaction_identifiers x m; empty = s.empty_transactions x m }; differ = s.transactions_differ };
  holders_live = s.holders_live;
  few = s.few;
  header_used = s.header_used;
  capacity_small = s.capacity_small;
}

-- ── a live transaction stands at a place ────────────────────────────────────────────────────────────────────────

-- an emptied place is empty
pub at_emptied : {A : Type 0} (d : A) (p : ℕ) (xs : List A) → at d p (change_at p (λ x. d) xs) ≡ d
at_emptied d p xs = by_either
    (λ i. at_change_same (λ x. d) d xs (record { low = i.low; high = omega (arith, i.high, length_change (λ x. d) 1 p xs) }))
    (λ e. e)
    (place_or_nothing d p (change_at p (λ x. d) xs))

pub live_place : (p : ℕ) (tb : Table) → Live (transaction_at p tb) → IsPlace tb.transactions p
live_place p tb h = by_either (λ i. i) (λ e. absurd (h (ap (λ x. x.state) e))) (place_or_nothing no_transaction p tb.transactions)

pub live_some : (p : ℕ) (tb : Table) → Live (transaction_at p tb) → p ≡ 0 → ⊥
live_some p tb h z = omega (arith, (live_place p tb h).low)

pub live_true : (x : Transaction) → Live x → is_live x ≡ true
live_true x h = false_not (ne_eqb x.state 0 h)

pub true_live : (x : Transaction) → is_live x ≡ true → Live x
true_live x e = eqb-false x.state 0 (not-true _ e)

pub held_true : (e : Enlistment) → Held e → is_held e ≡ true
held_true e h = false_not (ne_eqb e.holder 0 h)

pub true_held : (e : Enlistment) → is_held e ≡ true → Held e
true_held e t = eqb-false e.holder 0 (not-true _ t)

-- what the transaction at a place holds is held
pub by_held : (p : ℕ) → (p ≡ 0 → ⊥) → (e : Enlistment) → held_by p e ≡ true → is_held e ≡ true
by_held p n e t = held_true e (λ z. n (sym (eqb-true e.holder p t) ∙ z))

-- ── enlistments ─────────────────────────────────────────────────────────────────────────────────────────────────

-- what a change makes of an enlistment
pub data Keeping (e e' : Enlistment) : Type 0 where
  stays : e' ≡ e → Keeping e e'
  moves : Held e → (s : ℕ) → e' ≡ in_state s e → Keeping e e'
  goes : e' ≡ no_enlistment → Keeping e e'

-- either another state, or as it was
pub keeping_either : {e x : Enlistment} (b : Bool) (s : ℕ) → (b ≡ true → Held e) → Keeping e x → Keeping e (cond b (in_state s e) x)
keeping_either {e} {x} b s h k = by_cases (Keeping e) b (in_state s e) x (λ t. moves (h t) s refl) (λ t. k)

pub keeping_holds : {P : Enlistment → Type 0} → P no_enlistment → ((e : Enlistment) (s : ℕ) → Held e → P e → P (in_state s e)) → (e e' : Enlistment) → Keeping e e' → P e → P e'
keeping_holds {P} z k e e' (stays q) h = subst P (sym q) h
keeping_holds {P} z k e e' (moves l s q) h = subst P (sym q) (k e s l h)
keeping_holds {P} z k e e' (goes q) h = subst P (sym q) z

-- one that is still held differs in its state alone
pub record SameKey (e e' : Enlistment) : Type 0 where
  pub holder : e'.holder ≡ e.holder
  pub rm : e'.rm ≡ e.rm
  pub number : e'.number ≡ e.number
  pub kind : e'.kind ≡ e.kind
  pub mark : e'.mark ≡ e.mark

pub key_same : (e : Enlistment) → SameKey e e
key_same e = record { holder = refl; rm = refl; number = refl; kind = refl; mark = refl }

pub key_either : {e x : Enlistment} (b : Bool) (s : ℕ) → SameKey e x → SameKey e (cond b (in_state s e) x)
key_either {e} b s k = by_cond (SameKey e) b (record { holder = refl; rm = refl; number = refl; kind = refl; mark = refl }) k

pub keeping_key : {e e' : Enlistment} → Keeping e e' → Held e' → SameKey e e'
keeping_key (stays q) h = record { holder = ap (λ x. x.holder) q; rm = ap (λ x. x.rm) q; number = ap (λ x. x.number) q; kind = ap (λ x. x.kind) q; mark = ap (λ x. x.mark) q }
keeping_key (moves l s q) h = record { holder = ap (λ x. x.holder) q; rm = ap (λ x. x.rm) q; number = ap (λ x. x.number) q; kind = ap (λ x. x.kind) q; mark = ap (λ x. x.mark) q }
keeping_key (goes q) h = absurd (h (ap (λ x. x.holder) q))

keeping_held : (e e' : Enlistment) → Keeping e e' → is_held e' ≡ true → is_held e ≡ true
keeping_held e e' k t = rw (keeping_key k (true_held e' t)).holder at t

-- held by the transaction at a place
pub keeping_by : (p : ℕ) → (p ≡ 0 → ⊥) → (e e' : Enlistment) → Keeping e e' → held_by p e' ≡ true → held_by p e ≡ true
keeping_by p n e e' k t = let h : e'.holder ≡ p = eqb-true e'.holder p t in rw (keeping_key k (λ z. n (sym h ∙ z))).holder at t

keeping_durable : (e e' : Enlistment) → Keeping e e' → (is_held e' && is_durable e') ≡ true → (is_held e && is_durable e) ≡ true
keeping_durable e e' k t =
    let (h, d) = true_and (is_held e') (is_durable e') t in
    and_true (keeping_held e e' k h) (rw (keeping_key k (true_held e' h)).kind at d)

no_proper : Proper no_enlistment
no_proper = record { kind = λ n. absurd (n refl); manager = λ n. absurd (n refl); number = λ n. absurd (n refl); unmarked = λ n. absurd (n refl); empty = λ n. refl }

kept_enlistments : {es es' : List Enlistment} → Along Keeping es es' → KeptEnlistments es → KeptEnlistments es'
kept_enlistments r k = record {
  proper = along_each (keeping_holds no_proper (λ e s l q. record { kind = q.kind; manager = q.manager; number = q.number; unmarked = q.unmarked; empty = λ n. absurd (l n) })) r k.proper;
  numbers_differ = along_apart is_held keeping_held
      (λ x x' y y' s s' t t' q. sym (keeping_key s (true_held y t)).number ∙ q ∙ (keeping_key s' (true_held y' t')).number) r k.numbers_differ;
  managers_differ = rw filter_filter (along_apart (λ e. is_held e && is_durable e) keeping_durable
      (λ x x' y y' s s' t t' q.
      let a = keeping_key s (true_held y (true_and _ _ t).0) in
      let b = keeping_key s' (true_held y' (true_and _ _ t').0) in
      (sym a.holder ∙ q.0 ∙ b.holder, ap (λ i. i.0) (sym a.rm) ∙ q.1 ∙ ap (λ i. i.0) b.rm))
      r (rw filter_filter at k.managers_differ));
}

pub kept_map : {tb : Table} (g : Enlistment → Enlistment) → Kept tb → Each (λ e. Keeping e (g e)) tb.enlistments → Kept (with_enlistments (map g tb.enlistments) tb)
unfolding held
kept_map {tb} g k h =
    let r : Along Keeping tb.enlistments (map g tb.enlistments) = along_map g tb.enlistments h in
    record {
      enlistments = kept_enlistments r k.enlistments;
      transactions = k.transactions;
      holders_live = along_each (keeping_holds (λ n. absurd (n refl)) (λ e s l q. q)) r k.holders_live;
      few = λ p l. omega (arith, k.few p l, along_few (held_by p) (keeping_by p (live_some p tb l)) r);
      header_used = k.header_used;
      capacity_small = k.capacity_small;
    }

-- ── transactions ────────────────────────────────────────────────────────────────────────────────────────────────

-- what a change makes of a transaction
pub data Turning (x x' : Transaction) : Type 0 where
  remains : x' ≡ x → Turning x x'
  turns : Live x → (s : ℕ) → (s ≡ 0 → ⊥) → x' ≡ in_transaction_state s x → Turning x x'
  ends : x' ≡ no_transaction → Turning x x'

turning_holds : {P : Transaction → Type 0} → P no_transaction → ((x : Transaction) (s : ℕ) → Live x → (s ≡ 0 → ⊥) → P x → P (in_transaction_state s x)) → (x x' : Transaction) → Turning x x' → P x → P x'
turning_holds {P} z k x x' (remains q) h = subst P (sym q) h
turning_holds {P} z k x x' (turns l s n q) h = subst P (sym q) (k x s l n h)
turning_holds {P} z k x x' (ends q) h = subst P (sym q) z

turning_key : (x x' : Transaction) → Turning x x' → is_live x' ≡ true → (is_live x ≡ true) × (x'.id ≡ x.id)
turning_key x x' (remains q) t = (rw q at t, ap (λ y. y.id) q)
turning_key x x' (turns l s n q) t = (live_true x l, ap (λ y. y.id) q)
turning_key x x' (ends q) t = no_clash (is_live x') t (ap is_live q)

pub kept_transactions : {tb : Table} {xs : List Transaction} → Kept tb → Along Turning tb.transactions xs
    → ((q : ℕ) → Live (at no_transaction q xs) → Live (transaction_at q tb))
    → Each (λ e. Held e → Live (at no_transaction e.holder xs)) tb.enlistments
    → Kept (with_transactions xs tb)
unfolding held
kept_transactions {tb} {xs} k r back live = record {
  enlistments = k.enlistments;
  transactions = record {
    named = along_each (turning_holds (record { identifier = λ n. absurd (n refl); empty = λ n. refl }) (λ x s l n h. record { identifier = λ m. h.identifier l; empty = λ m. absurd (n m) })) r k.transactions.named;
    differ = along_apart is_live (λ x y s t. (turning_key x y s t).0)
        (λ x x' y y' s s' t t' q. ap (λ i. i.0) (sym (turning_key x y s t).1) ∙ q ∙ ap (λ i. i.0) (turning_key x' y' s' t').1) r k.transactions.differ;
  };
  holders_live = live;
  few = λ p l. k.few p (back p l);
  header_used = k.header_used;
  capacity_small = k.capacity_small;
}

-- another state
pub kept_state : {tb : Table} (p s : ℕ) → (s ≡ 0 → ⊥) → Kept tb → Live (transaction_at p tb) → Kept (go_to p s tb)
unfolding change_transaction
kept_state {tb} p s n k l = kept_transactions k
    (along_change (in_transaction_state s) p no_transaction tb.transactions (λ x. remains refl) (turns l s n refl))
    (λ q m. by_test (eqb q p)
    (λ e. rw (eqb-true q p e) l)
    (λ e. rw (at_change_other (in_transaction_state s) p q no_transaction tb.transactions (eqb-false q p e)) at m))
    (λ e m h. by_test (eqb e.holder p)
    (λ c. rw (eqb-true e.holder p c, at_change_same (in_transaction_state s) no_transaction tb.transactions (live_place p tb l)) n)
    (λ c. rw (at_change_other (in_transaction_state s) p e.holder no_transaction tb.transactions (eqb-false e.holder p c)) (k.holders_live e m h)))

-- an end: it holds nothing any more
pub kept_end : {tb : Table} (p : ℕ) → Kept tb → Each (λ e. e.holder ≡ p → ⊥) tb.enlistments → Kept (change_transaction p ended tb)
unfolding change_transaction
kept_end {tb} p k free = kept_transactions k
    (along_change ended p no_transaction tb.transactions (λ x. remains refl) (ends refl))
    (λ q m. by_test (eqb q p)
    (λ e. absurd (m (rw (eqb-true q p e) (ap (λ x. x.state) (at_emptied no_transaction p tb.transactions)))))
    (λ e. rw (at_change_other ended p q no_transaction tb.transactions (eqb-false q p e)) at m))
    (λ e m h. rw (at_change_other ended p e.holder no_transaction tb.transactions (free e m)) (k.holders_live e m h))

pub kept_use : {tb : Table} (n : ℕ) → Kept tb → Kept (use_more n tb)
unfolding use_more held
kept_use n k = record {
  enlistments = k.enlistments;
  transactions = k.transactions;
  holders_live = k.holders_live;
  few = k.few;
  header_used = omega (arith, k.header_used);
  capacity_small = k.capacity_small;
}
