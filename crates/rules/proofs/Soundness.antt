-- The test of soundness passes where the sentences of the paper hold, and nowhere else: each of its tests says one of them.
use Prim.Native.Nat.{ℕ, ◌+◌, ◌*◌, ◌≤◌}
use native.Mathlib.Omega.{arith}
use mathlib.Core.Path.{◌≡◌, sym, ap}
use mathlib.Core.Logic.{◌⊎◌, inl, inr}
use mathlib.Core.Bool.{Bool, true, not, ◌||◌, false≢true}
use mathlib.Core.List.{List}
use lib.Dec.{eqb, leb}
use lib.ListN.{length}
use borrow.Author.Tests.{eqb-true, eq-eqb, not-true}
use Rattle.lists.specs.Lists.{all, filter, differ}
use Rattle.lists.specs.Members.{Each, Some, Apart}
use Rattle.lists.specs.Places.{each_place}
use Rattle.lists.proofs.Tests.{by_test, by_either, true_and, and_true, false_not, every_at, holding_every, that_is_all, ◌also◌}
use Rattle.lists.proofs.Places.{place_or_nothing, each_at, at_each}
use Rattle.lists.proofs.Says.{Says, says_always, says_equal, says_most, says_both, says_either, says_not, says_unless, says_as, says_cond, says_all, says_any, says_of, says_apart}
use Rattle.rules.specs.declared.Transaction.{Transaction}
use Rattle.rules.specs.declared.Enlistment.{Enlistment}
use Rattle.rules.specs.declared.Table.{Table}
use Rattle.rules.specs.Sizes.{held_most, identifier_size, largest_number, header_size, record_size, largest_capacity}
use Rattle.rules.specs.Identifiers.{Id, zero_id, is_zero, same_bytes}
use Rattle.rules.specs.Kinds as kind
use Rattle.rules.specs.Marks as mark
use Rattle.rules.specs.TransactionState as transaction
use Rattle.rules.specs.EnlistmentState as enlistment
use Rattle.rules.specs.Table.{no_transaction, no_enlistment, is_live, is_free, is_held, is_vacant, held, transaction_at, state_at, is_phase_zero, is_durable, is_marked, is_in}
use Rattle.rules.specs.Sound.{may_hold, must_hold, holds_well, live_ones, held_ones, is_known, is_identifier, is_number, same_identifier, same_number, same_manager, is_zero_transaction, is_zero_enlistment, open_count, sound_of, In, PhaseZero, Durable, HoldsWell, Live, Held, Identifier, Number, Sound, Known, SameIdentifier, SameNumber, SameManager, HoldersLive, FewHeld}
use Rattle.rules.proofs.Identifiers.{same_equal, equal_same, nonzero_identifier, identifier_nonzero}

-- ── the table of states ─────────────────────────────────────────────────────────────────────────────────────────

says_in : (s : ℕ) (e : Enlistment) → Says (is_in s e) (In s e)
says_in s e = says_equal e.state s

says_phase_zero : (e : Enlistment) → Says (is_phase_zero e) (PhaseZero e)
says_phase_zero e = says_equal e.kind kind.phase_zero

says_durable : (e : Enlistment) → Says (is_durable e) (Durable e)
says_durable e = says_equal e.kind kind.durable

module _ {P Q R : Type 0} where
  to_right : (P ⊎ Q) ⊎ R → P ⊎ (Q ⊎ R)
  to_right (inl (inl p)) = inl p
  to_right (inl (inr q)) = inr (inl q)
  to_right (inr r) = inr (inr r)

  to_left : P ⊎ (Q ⊎ R) → (P ⊎ Q) ⊎ R
  to_left (inl p) = inl (inl p)
  to_left (inr (inl q)) = inl (inr q)
  to_left (inr (inr r)) = inr r

  -- "one of three"
  says_three : {a b c : Bool} → Says a P → Says b Q → Says c R → Says (a || b || c) (P ⊎ (Q ⊎ R))
  says_three p q r = says_as to_right to_left (says_either (says_either p q) r)

-- the lines, each with what it says of each enlistment and of one
module _ (hs : List Enlistment) where
  line_active : Says (holds_well transaction.active hs) (Each (In enlistment.active) hs × Unit {0})
  unfolding may_hold must_hold
  line_active = says_both (says_all (says_in enlistment.active) hs) says_always

  line_phase_zero : Says (holds_well transaction.phase_zero hs) (Each (λ e. (PhaseZero e × In enlistment.zero e) ⊎ ((PhaseZero e → ⊥) × In enlistment.active e)) hs × Some PhaseZero hs)
  unfolding may_hold must_hold
  line_phase_zero = says_both (says_all (λ e. says_cond (says_phase_zero e) (says_in enlistment.zero e) (says_in enlistment.active e)) hs) (says_any says_phase_zero hs)

  line_phase_one : Says (holds_well transaction.phase_one hs)
      (Each (λ e. (PhaseZero e → ⊥) × (In enlistment.preparing e ⊎ (In enlistment.prepared e ⊎ (In enlistment.prepared_lost e × Durable e)))) hs × Some (In enlistment.preparing) hs)
  unfolding may_hold must_hold
  line_phase_one = says_both
      (says_all (λ e. says_both (says_not (says_phase_zero e)) (says_three (says_in enlistment.preparing e) (says_in enlistment.prepared e) (says_both (says_in enlistment.prepared_lost e) (says_durable e)))) hs)
      (says_any (says_in enlistment.preparing) hs)

  line_single_phase : Says (holds_well transaction.single_phase hs) (Each (λ e. ((PhaseZero e → ⊥) × (e.mark ≡ mark.marked)) × In enlistment.one_phase e) hs × (length hs ≡ 1))
  unfolding may_hold must_hold
  line_single_phase = says_both
      (says_all (λ e. says_both (says_both (says_not (says_phase_zero e)) (says_equal e.mark mark.marked)) (says_in enlistment.one_phase e)) hs)
      (says_equal (length hs) 1)

  line_committing : Says (holds_well transaction.committing hs)
      (Each (λ e. (PhaseZero e → ⊥) × (In enlistment.told_commit e ⊎ ((In enlistment.failed_to_notify e × Durable e) ⊎ In enlistment.done e))) hs × Some (λ e. In enlistment.done e → ⊥) hs)
  unfolding may_hold must_hold
  line_committing = says_both
      (says_all (λ e. says_both (says_not (says_phase_zero e)) (says_three (says_in enlistment.told_commit e) (says_both (says_in enlistment.failed_to_notify e) (says_durable e)) (says_in enlistment.done e))) hs)
      (says_any (λ e. says_not (says_in enlistment.done e)) hs)

  line_aborting : Says (holds_well transaction.aborting hs) (Each (λ e. In enlistment.told_abort e ⊎ In enlistment.done e) hs × Some (In enlistment.told_abort) hs)
  unfolding may_hold must_hold
  line_aborting = says_both
      (says_all (λ e. says_either (says_in enlistment.told_abort e) (says_in enlistment.done e)) hs)
      (says_any (says_in enlistment.told_abort) hs)

well_holds : (s : ℕ) (hs : List Enlistment) → HoldsWell s hs → holds_well s hs ≡ true
well_holds s hs (HoldsWell.active e h) = rw e ((line_active hs).back (h, tt))
well_holds s hs (HoldsWell.phase_zero e h o) = rw e ((line_phase_zero hs).back (h, o))
well_holds s hs (HoldsWell.phase_one e n h o) = rw e ((line_phase_one hs).back (λ x m. (n x m, h x m), o))
well_holds s hs (HoldsWell.single_phase e l h) = rw e ((line_single_phase hs).back (λ x m. let (n, y, i) = h x m in ((n, y), i), l))
well_holds s hs (HoldsWell.committing e n h o) = rw e ((line_committing hs).back (λ x m. (n x m, h x m), o))
well_holds s hs (HoldsWell.aborting e h o) = rw e ((line_aborting hs).back (h, o))

holds_well_lem : (s : ℕ) (hs : List Enlistment) → holds_well s hs ≡ true → HoldsWell s hs
unfolding must_hold
holds_well_lem s hs h = by_test (eqb s transaction.active)
    (λ e. let q = eqb-true s transaction.active e in let l = (line_active hs).out (rw q at h) in HoldsWell.active q l.0)
    (λ a. by_test (eqb s transaction.phase_zero)
    (λ e. let q = eqb-true s transaction.phase_zero e in let l = (line_phase_zero hs).out (rw q at h) in HoldsWell.phase_zero q l.0 l.1)
    (λ b. by_test (eqb s transaction.phase_one)
    (λ e. let q = eqb-true s transaction.phase_one e in let l = (line_phase_one hs).out (rw q at h) in HoldsWell.phase_one q (λ x m. (l.0 x m).0) (λ x m. (l.0 x m).1) l.1)
    (λ c. by_test (eqb s transaction.single_phase)
    (λ e. let q = eqb-true s transaction.single_phase e in let l = (line_single_phase hs).out (rw q at h) in
    HoldsWell.single_phase q l.1 (λ x m. let ((n, y), i) = l.0 x m in (n, y, i)))
    (λ d. by_test (eqb s transaction.committing)
    (λ e. let q = eqb-true s transaction.committing e in let l = (line_committing hs).out (rw q at h) in HoldsWell.committing q (λ x m. (l.0 x m).0) (λ x m. (l.0 x m).1) l.1)
    (λ f. by_test (eqb s transaction.aborting)
    (λ e. let q = eqb-true s transaction.aborting e in let l = (line_aborting hs).out (rw q at h) in HoldsWell.aborting q l.0 l.1)
    -- there is no other state
    (λ g. absurd (false≢true (rw (a, b, c, d, f, g) at (true_and (all (may_hold s) hs) (must_hold s hs) h).1))))))))

says_well : (s : ℕ) (hs : List Enlistment) → Says (holds_well s hs) (HoldsWell s hs)
says_well s hs = record { out = holds_well_lem s hs; back = well_holds s hs }

-- ── places ──────────────────────────────────────────────────────────────────────────────────────────────────────

says_free : (x : Transaction) → Says (is_free x) (x.state ≡ 0)
says_free x = says_equal x.state 0

says_live : (x : Transaction) → Says (is_live x) (Live x)
says_live x = says_not (says_free x)

says_vacant : (e : Enlistment) → Says (is_vacant e) (e.holder ≡ 0)
says_vacant e = says_equal e.holder 0

says_held : (e : Enlistment) → Says (is_held e) (Held e)
says_held e = says_not (says_vacant e)

-- what is tested at each place that is not free, is said of each place with a live transaction: at any other number there is none
module _ (tb : Table) (f : ℕ → Transaction → Bool) {P : ℕ → Type 0} (p : (n : ℕ) → Says (f n (transaction_at n tb)) (P n)) where
  says_places : Says (each_place (λ n x. is_free x || f n x) tb.transactions) ((n : ℕ) → Live (transaction_at n tb) → P n)
  says_places = record {
    out = λ e n l. by_either
        (λ i. (one n).out (each_at _ no_transaction tb.transactions e i) l)
        (λ q. absurd (l (ap (λ (x : Transaction). x.state) q)))
        (place_or_nothing no_transaction n tb.transactions);
    back = λ h. at_each _ no_transaction tb.transactions (λ n i. (one n).back (h n));
  }
    where
      one : (n : ℕ) → Says (is_free (transaction_at n tb) || f n (transaction_at n tb)) (Live (transaction_at n tb) → P n)
      one n = says_unless (says_free (transaction_at n tb)) (p n)

-- ── identifiers, and places that are empty ──────────────────────────────────────────────────────────────────────

says_same : (a b : Id) → Says (same_bytes a b) (a ≡ b)
says_same a b = record { out = same_equal a b; back = equal_same a b }

-- the other way round, as the tests name them
says_equal_back : (m n : ℕ) → Says (eqb n m) (m ≡ n)
says_equal_back m n = says_as sym sym (says_equal n m)

says_same_back : (a b : Id) → Says (same_bytes b a) (a ≡ b)
says_same_back a b = says_as sym sym (says_same b a)

says_identifier : (t : Id) → Says (is_identifier t) (Identifier t)
says_identifier t = record {
  out = λ e. let (l, n) = true_and _ _ e in nonzero_identifier t (eqb-true (length t) identifier_size l) (not-true (is_zero t) n);
  back = λ h. and_true (eq-eqb (length t) identifier_size h.0) (false_not (identifier_nonzero t h));
}

says_number : (n : ℕ) → Says (is_number n) (Number n)
says_number n = says_both (says_not (says_equal n 0)) (says_most n largest_number)

says_known : (e : Enlistment) → Says (is_known e) (Known e)
says_known e = says_both (says_three (says_phase_zero e) (says_equal e.kind kind.volatile) (says_durable e)) (says_most e.mark mark.marked)

says_zero_transaction : (x : Transaction) → Says (is_zero_transaction x) (x ≡ no_transaction)
says_zero_transaction x = says_as
    (λ h i. record { id = record { 0 = h.1 i }; state = h.0 i })
    (λ q. (ap (λ (x : Transaction). x.state) q, ap (λ (x : Transaction). x.id.0) q))
    (says_both (says_equal x.state 0) (says_same x.id.0 zero_id))

says_zero_enlistment : (e : Enlistment) → Says (is_zero_enlistment e) (e ≡ no_enlistment)
says_zero_enlistment e = says_as
    (λ h i. let (((((o, r), n), k), m), s) = h in record { holder = o i; rm = record { 0 = r i }; number = n i; kind = k i; mark = m i; state = s i })
    (λ q. (((((ap (λ (e : Enlistment). e.holder) q, ap (λ (e : Enlistment). e.rm.0) q), ap (λ (e : Enlistment). e.number) q), ap (λ (e : Enlistment). e.kind) q), ap (λ (e : Enlistment). e.mark) q), ap (λ (e : Enlistment). e.state) q))
    (says_both (says_both (says_both (says_both (says_both
    (says_equal e.holder 0) (says_same e.rm.0 zero_id)) (says_equal e.number 0)) (says_equal e.kind 0)) (says_equal e.mark 0)) (says_equal e.state 0))

-- ── the sentences, in their order ───────────────────────────────────────────────────────────────────────────────

module _ (tb : Table) where
  says_states : Says (each_place (λ p x. is_free x || holds_well x.state (held p tb)) tb.transactions) ((p : ℕ) → Live (transaction_at p tb) → HoldsWell (state_at p tb) (held p tb))
  says_states = says_places tb (λ p x. holds_well x.state (held p tb)) (λ p. says_well (state_at p tb) (held p tb))

  says_kinds : Says (all is_known (held_ones tb)) (Each (λ e. Held e → Known e) tb.enlistments)
  says_kinds = says_of says_held tb.enlistments (says_all says_known (held_ones tb))

  says_transaction_identifiers : Says (all (λ x. is_identifier x.id.0) (live_ones tb)) (Each (λ x. Live x → Identifier x.id.0) tb.transactions)
  says_transaction_identifiers = says_of says_live tb.transactions (says_all (λ x. says_identifier x.id.0) (live_ones tb))

  says_manager_identifiers : Says (all (λ e. is_identifier e.rm.0) (held_ones tb)) (Each (λ e. Held e → Identifier e.rm.0) tb.enlistments)
  says_manager_identifiers = says_of says_held tb.enlistments (says_all (λ e. says_identifier e.rm.0) (held_ones tb))

  says_numbers : Says (all (λ e. is_number e.number) (held_ones tb)) (Each (λ e. Held e → Number e.number) tb.enlistments)
  says_numbers = says_of says_held tb.enlistments (says_all (λ e. says_number e.number) (held_ones tb))

  says_transactions_differ : Says (differ same_identifier (live_ones tb)) (Apart SameIdentifier (live_ones tb))
  says_transactions_differ = says_apart (λ x y. says_same_back x.id.0 y.id.0) (live_ones tb)

  says_numbers_differ : Says (differ same_number (held_ones tb)) (Apart SameNumber (held_ones tb))
  says_numbers_differ = says_apart (λ e f. says_equal_back e.number f.number) (held_ones tb)

  says_holders_live : Says (all (λ e. is_live (transaction_at e.holder tb)) (held_ones tb)) (HoldersLive tb)
  says_holders_live = says_of says_held tb.enlistments (says_all (λ e. says_live (transaction_at e.holder tb)) (held_ones tb))

  says_managers_differ : Says (differ same_manager (filter is_durable (held_ones tb))) (Apart SameManager (filter is_durable (held_ones tb)))
  says_managers_differ = says_apart (λ e f. says_both (says_equal_back e.holder f.holder) (says_same_back e.rm.0 f.rm.0)) (filter is_durable (held_ones tb))

  says_few : Says (each_place (λ p x. is_free x || leb (length (held p tb)) held_most) tb.transactions) (FewHeld tb)
  says_few = says_places tb (λ p x. leb (length (held p tb)) held_most) (λ p. says_most (length (held p tb)) held_most)

  says_phase_zero_unmarked : Says (all (λ e. not (is_marked e)) (filter is_phase_zero (held_ones tb))) (Each (λ e. Held e → PhaseZero e → e.mark ≡ mark.marked → ⊥) tb.enlistments)
  says_phase_zero_unmarked = says_of says_held tb.enlistments (says_of says_phase_zero (held_ones tb)
      (says_all (λ e. says_not (says_equal e.mark mark.marked)) (filter is_phase_zero (held_ones tb))))

  says_empty_transactions : Says (all is_zero_transaction (filter is_free tb.transactions)) (Each (λ x. x.state ≡ 0 → x ≡ no_transaction) tb.transactions)
  says_empty_transactions = says_of says_free tb.transactions (says_all says_zero_transaction (filter is_free tb.transactions))

  says_empty_enlistments : Says (all is_zero_enlistment (filter is_vacant tb.enlistments)) (Each (λ e. e.holder ≡ 0 → e ≡ no_enlistment) tb.enlistments)
  says_empty_enlistments = says_of says_vacant tb.enlistments (says_all says_zero_enlistment (filter is_vacant tb.enlistments))

pub sound_sentences : (tb : Table) → sound_of tb ≡ true → Sound tb
unfolding sound_of
sound_sentences tb e =
    let kinds = (says_kinds tb).out (every_at _ 1 e) in
    let unmarked = (says_phase_zero_unmarked tb).out (every_at _ 10 e) in
    record {
      states = (says_states tb).out (every_at _ 0 e);
      kinds = kinds;
      transaction_identifiers = (says_transaction_identifiers tb).out (every_at _ 2 e);
      manager_identifiers = (says_manager_identifiers tb).out (every_at _ 3 e);
      numbers = (says_numbers tb).out (every_at _ 4 e);
      transactions_differ = (says_transactions_differ tb).out (every_at _ 5 e);
      numbers_differ = (says_numbers_differ tb).out (every_at _ 6 e);
      holders_live = (says_holders_live tb).out (every_at _ 7 e);
      managers_differ = (says_managers_differ tb).out (every_at _ 8 e);
      few = (says_few tb).out (every_at _ 9 e);
      phase_zero_unmarked = λ x m h p. zero_mark x.mark (kinds x m h).1 (unmarked x m h p);
      empty_transactions = (says_empty_transactions tb).out (every_at _ 11 e);
      empty_enlistments = (says_empty_enlistments tb).out (every_at _ 12 e);
      header_used = (says_most header_size tb.used).out (every_at _ 13 e);
      room = (says_most (tb.used + record_size * open_count tb) tb.capacity).out (every_at _ 14 e);
      capacity_small = (says_most tb.capacity largest_capacity).out (every_at _ 15 e);
    }
  where
    zero_mark : (m : ℕ) → m ≤ mark.marked → (m ≡ mark.marked → ⊥) → m ≡ mark.unmarked
    zero_mark m l n = omega arith

pub sentences_sound : (tb : Table) → Sound tb → sound_of tb ≡ true
unfolding sound_of
sentences_sound tb s = holding_every (
    (says_states tb).back s.states
    also (says_kinds tb).back s.kinds
    also (says_transaction_identifiers tb).back s.transaction_identifiers
    also (says_manager_identifiers tb).back s.manager_identifiers
    also (says_numbers tb).back s.numbers
    also (says_transactions_differ tb).back s.transactions_differ
    also (says_numbers_differ tb).back s.numbers_differ
    also (says_holders_live tb).back s.holders_live
    also (says_managers_differ tb).back s.managers_differ
    also (says_few tb).back s.few
    also (says_phase_zero_unmarked tb).back (λ x m h p y. not_both x.mark (s.phase_zero_unmarked x m h p) y)
    also (says_empty_transactions tb).back s.empty_transactions
    also (says_empty_enlistments tb).back s.empty_enlistments
    also (says_most header_size tb.used).back s.header_used
    also (says_most (tb.used + record_size * open_count tb) tb.capacity).back s.room
    also (says_most tb.capacity largest_capacity).back s.capacity_small
    also that_is_all)
  where
    not_both : (m : ℕ) → m ≡ mark.unmarked → m ≡ mark.marked → ⊥
    not_both m p q = omega arith
