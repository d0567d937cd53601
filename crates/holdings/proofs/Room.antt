-- The holding has as much room in the log as the table has beside the forget records of the other open ones: putting it back opens no other.
use Prim.Native.Nat.{ℕ, zero, suc, ◌+◌, ◌*◌, ◌-◌, ◌≤◌}
use native.Mathlib.Omega.{arith}
use mathlib.Core.Path.{◌≡◌, refl, sym, ◌∙◌, ap}
use mathlib.Core.Logic.{◌⊎◌}
use mathlib.Core.Bool.{false, cond}
use mathlib.Core.List.{List, [], ◌∷◌}
use lib.Dec.{ltb}
use lib.ListN.{get_or}
use borrow.Author.Tests.{eqb-true, ne_eqb, ltb-true, lt-ltb}
use Rattle.lists.specs.Lists.{filter}
use Rattle.lists.specs.Members.{Each}
use Rattle.lists.specs.Places.{at_from}
use Rattle.lists.proofs.Tests.{by_test, by_either, same_test, each_nothing, each_head, each_rest}
use Rattle.lists.proofs.Places.{IsPlace, at_change_same, at_change_other, length_change}
use Rattle.rules.specs.declared.Enlistment.{Enlistment}
use Rattle.rules.specs.declared.Table.{Table}
use Rattle.rules.specs.Sizes.{record_size}
use Rattle.rules.specs.Table.{no_transaction, no_enlistment, transaction_at, state_at, held_by, held}
use Rattle.rules.specs.Sound.{is_open, open_places, open_count}
use Rattle.rules.specs.Log.{commit_size, forget_size}
use Rattle.rules.specs.Events.{lacks_room}
use Rattle.rules.proofs.Along.{one_if}
use Rattle.rules.proofs.Local.{Through}
use Rattle.rules.proofs.Only.{Only, open_at, open_changes}
use Rattle.holdings.specs.declared.Holding.{Holding}
use Rattle.holdings.specs.Holdings.{alone, Placed}
use Rattle.holdings.specs.Within.{refill_from, within}
use Rattle.holdings.proofs.Laws.{alone_at}
use Rattle.holdings.proofs.Alone.{one_open}
use Rattle.holdings.proofs.Within.{Fits, passes_through}

-- m more bytes a record, for m records more
as_much : (capacity capacity' used n k k' m : ℕ) → capacity ≡ capacity' + record_size * m → k ≡ k' + m
    → ltb (capacity - used) (commit_size n + forget_size * (1 + k)) ≡ ltb (capacity' - used) (commit_size n + forget_size * (1 + k'))
as_much capacity capacity' used n k k' m c e = same_test _ _
    (λ t. lt-ltb (capacity' - used) (commit_size n + forget_size * (1 + k')) (omega (arith, ltb-true (capacity - used) (commit_size n + forget_size * (1 + k)) t)))
    (λ t. lt-ltb (capacity - used) (commit_size n + forget_size * (1 + k)) (omega (arith, ltb-true (capacity' - used) (commit_size n + forget_size * (1 + k')) t)))

-- each is held by p, or by none
abbrev pub Owned : ℕ → Table → Type 0
Owned p t = Each (λ e. (e.holder ≡ p) ⊎ (e.holder ≡ 0)) t.enlistments

held_refill : (p q : ℕ) → (q ≡ p → ⊥) → (q ≡ 0 → ⊥) → (k : ℕ) (hs xs : List Enlistment) → ((i : ℕ) → held_by q (get_or hs i no_enlistment) ≡ false) → filter (held_by q) (refill_from (held_by p) k hs xs) ≡ filter (held_by q) xs
unfolding refill_from filter
held_refill p q n z k hs [] h = refl
held_refill p q n z k hs (x ∷ xs) h = by_test (held_by p x)
    (λ t. rw (t, h k, ne_eqb x.holder q (λ e. n (sym e ∙ eqb-true x.holder p t))) (held_refill p q n z (suc k) hs xs h))
    (λ t. rw t (ap (λ l. cond (held_by q x) (x ∷ l) l) (held_refill p q n z k hs xs h)))

owned_at : (p q : ℕ) → (q ≡ p → ⊥) → (q ≡ 0 → ⊥) → (es : List Enlistment) → Each (λ e. (e.holder ≡ p) ⊎ (e.holder ≡ 0)) es → (i : ℕ) → held_by q (get_or es i no_enlistment) ≡ false
owned_at p q n z [] o i = ne_eqb 0 q (λ e. z (sym e))
owned_at p q n z (x ∷ es) o zero = by_either (λ e. ne_eqb x.holder q (λ d. n (sym d ∙ e))) (λ e. ne_eqb x.holder q (λ d. z (sym d ∙ e))) (each_head o)
owned_at p q n z (x ∷ es) o (suc i) = owned_at p q n z es (each_rest o) i

module _ (tb : Table) (p : ℕ) (there : IsPlace tb.transactions p) where
  not_others : (t : Table) → Owned p t → (q : ℕ) → (q ≡ p → ⊥) → (q ≡ 0 → ⊥) → (i : ℕ) → held_by q (get_or t.enlistments i no_enlistment) ≡ false
  not_others t o q n z i = owned_at p q n z t.enlistments o i

  only : (t : Table) → Owned p t → Only p tb (within tb p t)
  unfolding held
  only t o = record {
    transactions = λ q n. at_change_other (λ x. transaction_at p t) p q no_transaction tb.transactions n;
    enlistments = λ q n z. held_refill p q n z 0 t.enlistments tb.enlistments (not_others t o q n z);
    as_many = length_change (λ x. transaction_at p t) 1 p tb.transactions;
    same_capacity = refl;
  }

  open_within : (t : Table) → Owned p t → open_count (within tb p t) + one_if (open_at p tb) ≡ open_count tb + one_if (open_at p (within tb p t))
  open_within t o = open_changes p tb (within tb p t) (only t o) there

  -- of a table in which nothing stands at p
  abbrev nothing : Table
  nothing = record { transactions = []; enlistments = []; capacity = 0; used = 0 }

  some_open : one_if (open_at p tb) ≤ open_count tb
  unfolding at_from
  some_open =
      let z : open_at p (within tb p nothing) ≡ false = ap (λ x. is_open x.state (held p (within tb p nothing))) (at_change_same (λ x. no_transaction) no_transaction tb.transactions there) in
      omega (arith, rw z at (open_within nothing (each_nothing _)))

  module _ (h : Holding) (placed : Placed h.place) (is : h.place ≡ p) (fits : Fits tb p (alone h)) (o : Owned p (alone h)) where
    open_there : open_at p (within tb p (alone h)) ≡ is_open h.transaction.state (held h.place (alone h))
    open_there = λ i. is_open (state i) (same_held i)
      where
        v : Through p (within tb p) (Fits tb p)
        v = passes_through tb p there

        same_held : held p (within tb p (alone h)) ≡ held h.place (alone h)
        same_held = v.same_held (alone h) fits ∙ ap (λ k. held k (alone h)) (sym is)

        state : state_at p (within tb p (alone h)) ≡ h.transaction.state
        state = ap (λ x. x.state) (v.same_transaction (alone h) fits ∙ ap (λ k. transaction_at k (alone h)) (sym is) ∙ alone_at h placed)

    -- the room of the holding is that of the table beside the other open ones
    pub same_room : tb.capacity ≡ h.capacity + record_size * (open_count tb - one_if (open_at p tb)) → (n : ℕ) → lacks_room n (within tb p (alone h)) ≡ lacks_room n (alone h)
    unfolding lacks_room alone open_places
    same_room c n =
        let a : open_count (within tb p (alone h)) + one_if (open_at p tb) ≡ open_count tb + one_if (open_at p (within tb p (alone h))) = open_within (alone h) o in
        let b : one_if (open_at p (within tb p (alone h))) ≡ open_count (alone h) = ap one_if open_there ∙ sym (one_open h placed) in
        as_much tb.capacity h.capacity h.used n (open_count (within tb p (alone h))) (open_count (alone h)) (open_count tb - one_if (open_at p tb)) c (omega (arith, a, b, some_open))
