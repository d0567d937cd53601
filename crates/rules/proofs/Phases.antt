-- Commit, start phase one and decide: each leaves the transaction as the table of states says, since it gives all that is held the same state.
use Prim.Native.Nat.{ℕ, ◌+◌, ◌*◌, ◌-◌, ◌≤◌}
use native.Mathlib.Omega.{arith}
use mathlib.Core.Path.{◌≡◌, refl, sym, ◌∙◌, ap}
use mathlib.Core.Logic.{◌⊎◌, inl, inr}
use mathlib.Core.Bool.{true, false, ◌&&◌}
use mathlib.Core.List.Memᴰ
use mathlib.Core.List.{List, [], ◌∷◌, map}
use lib.ListN.{length, length-map, length-append}
use lib.Dec.{eqb}
use borrow.Author.Tests.{eqb-true, eqb-false, eq-eqb, ne_eqb, ltb-false, not-true}
use Rattle.lists.specs.Lists.{all, any, none, filter}
use Rattle.lists.specs.Members.{◌∈◌, Each, Some}
use Rattle.lists.specs.Sorting.{sort_by}
use Rattle.lists.proofs.Tests.{by_test, true_and, all_each, any_some, none_each, each_none, of_filter, each_map, filter_map}
use Rattle.lists.proofs.Sorting.{length_sort, of_sort}
use Rattle.rules.specs.declared.Enlistment.{Enlistment}
use Rattle.rules.specs.declared.Table.{Table}
use Rattle.rules.specs.Sizes.{record_size, identifier_size}
use Rattle.rules.specs.TransactionState as transaction
use Rattle.rules.specs.EnlistmentState as enlistment
use Rattle.rules.specs.Table.{is_phase_zero, is_durable, is_marked, is_in, held_by, held, transaction_at, id_at, in_state, on_held, change_held}
use Rattle.rules.specs.Sound.{is_open, open_count, In, PhaseZero, Durable, HoldsWell, Live}
use Rattle.rules.specs.Signals.{by_number}
use Rattle.rules.specs.Log.{Entry, record_bytes, commit_size}
use Rattle.rules.specs.Events.{append, entry_of, commit_record, lacks_room, committed_of, end_committed, decide_of, start_phase_one, zeroed_of, commit_of}
use Rattle.rules.proofs.Frames.{of_held}
use Rattle.rules.proofs.Kept.{Kept, stays, moves, live_some, SameKey, key_same, key_either, keeping_either}
use Rattle.rules.proofs.Only.{KeepsHeld, each_changed, some_changed}
use Rattle.rules.proofs.Records.{entries_length}
use Rattle.rules.proofs.Parts.{Part, id_length, end_part, moved_part, written_part, Abortable, abort_part}

-- ── one state for all ───────────────────────────────────────────────────────────────────────────────────────────

pub goes_to : (s : ℕ) → KeepsHeld (in_state s)
goes_to s e h = moves h s refl

held_long : (p s : ℕ) (tb : Table) → length (held p (change_held p (in_state s) tb)) ≡ length (held p tb)
unfolding held change_held
held_long p s tb = ap length (filter_map (on_held p (in_state s)) (held_by p) (λ e. ap (λ z. eqb z p) (key_either (held_by p e) s (key_same e)).holder) tb.enlistments) ∙ length-map (filter (held_by p) tb.enlistments) (on_held p (in_state s))

some_of : {A : Type 0} (xs : List A) → (length xs ≡ 0 → ⊥) → Some (λ x. x ∈ xs) xs
some_of [] n = absurd (n refl)
some_of (x ∷ xs) n = record { it = x; there = Memᴰ.head refl; holds = Memᴰ.head refl }

-- ── Start phase one ─────────────────────────────────────────────────────────────────────────────────────────────

module _ (p : ℕ) (tb : Table) (log : List ℕ) (k : Kept tb) (l : Live (transaction_at p tb)) where
  pub start_part : Each (λ e. PhaseZero e → ⊥) (held p tb) → Part p tb (start_phase_one p tb log).table
  unfolding start_phase_one end_committed
  start_part h = by_test (eqb (length (held p tb)) 0)
      (λ t. rw t (end_part p tb log k l))
      (λ t. rw t (by_test (eqb (length (held p tb)) 1 && all is_marked (held p tb))
      (λ c. rw c (moved_part p transaction.single_phase (in_state enlistment.one_phase) tb k l (goes_to enlistment.one_phase) (λ z. omega arith) refl (single (true_and _ _ c))))
      (λ c. rw c (moved_part p transaction.phase_one (in_state enlistment.preparing) tb k l (goes_to enlistment.preparing) (λ z. omega arith) refl (preparing (eqb-false _ 0 t))))))
    where
      single : (eqb (length (held p tb)) 1 ≡ true) × (all is_marked (held p tb) ≡ true) → HoldsWell transaction.single_phase (held p (change_held p (in_state enlistment.one_phase) tb))
      single c = HoldsWell.single_phase refl
          (held_long p enlistment.one_phase tb ∙ eqb-true _ 1 c.0)
          (each_changed p (in_state enlistment.one_phase) tb _ (λ e m q. (h e m, eqb-true _ _ (all_each is_marked (held p tb) c.1 e m), refl)))

      preparing : (length (held p tb) ≡ 0 → ⊥) → HoldsWell transaction.phase_one (held p (change_held p (in_state enlistment.preparing) tb))
      preparing n =
          let s = some_of (held p tb) n in
          HoldsWell.phase_one refl
          (each_changed p (in_state enlistment.preparing) tb (λ e. PhaseZero e → ⊥) (λ e m q. h e m))
          (each_changed p (in_state enlistment.preparing) tb _ (λ e m q. inl refl))
          (some_changed p (in_state enlistment.preparing) tb (record { it = s.it; there = s.there; holds = ((of_held p tb s.there).1, refl) }))

-- ── Commit ──────────────────────────────────────────────────────────────────────────────────────────────────────

pub zeroes : KeepsHeld zeroed_of
zeroes e h = keeping_either (is_phase_zero e) enlistment.zero (λ t. h) (stays refl)

-- how an enlistment stands in Phase Zero
abbrev pub Zeroing : Enlistment → Type 0
Zeroing e = (PhaseZero e × In enlistment.zero e) ⊎ ((PhaseZero e → ⊥) × In enlistment.active e)

zeroed : (e : Enlistment) → In enlistment.active e → Zeroing (zeroed_of e)
zeroed e a = by_test (is_phase_zero e)
    (λ t. rw t (inl (eqb-true _ _ t, refl)))
    (λ t. rw t (inr (eqb-false _ _ t, a)))

pub zeroed_key : (e : Enlistment) → SameKey e (zeroed_of e)
zeroed_key e = key_either (is_phase_zero e) enlistment.zero (key_same e)

module _ (p : ℕ) (tb : Table) (log : List ℕ) (k : Kept tb) (l : Live (transaction_at p tb)) where
  pub commit_part : Each (In enlistment.active) (held p tb) → Part p tb (commit_of p tb log).table
  unfolding commit_of
  commit_part h = by_test (any is_phase_zero (held p tb))
      (λ t. rw t (moved_part p transaction.phase_zero zeroed_of tb k l zeroes (λ z. omega arith) refl (phase_zero (any_some is_phase_zero (held p tb) t))))
      (λ t. rw t (start_part p tb log k l (λ e m. eqb-false _ _ (none_each is_phase_zero (held p tb) t e m))))
    where
      phase_zero : Some (λ e. is_phase_zero e ≡ true) (held p tb) → HoldsWell transaction.phase_zero (held p (change_held p zeroed_of tb))
      phase_zero s = HoldsWell.phase_zero refl
          (each_changed p zeroed_of tb Zeroing (λ e m q. zeroed e (h e m)))
          (some_changed p zeroed_of tb (record {
            it = s.it;
            there = s.there;
            holds = ((zeroed_key s.it).holder ∙ (of_held p tb s.there).1, (zeroed_key s.it).kind ∙ eqb-true _ _ s.holds);
          }))

-- ── Decide ──────────────────────────────────────────────────────────────────────────────────────────────────────

pub commits : KeepsHeld committed_of
unfolding committed_of
commits e h = keeping_either (is_in enlistment.prepared e) enlistment.told_commit (λ t. h) (keeping_either (is_in enlistment.prepared_lost e) enlistment.failed_to_notify (λ t. h) (stays refl))

pub committed_key : (e : Enlistment) → SameKey e (committed_of e)
unfolding committed_of
committed_key e = key_either (is_in enlistment.prepared e) enlistment.told_commit (key_either (is_in enlistment.prepared_lost e) enlistment.failed_to_notify (key_same e))

-- once no one is Preparing
abbrev pub Voted : Enlistment → Type 0
Voted e = In enlistment.prepared e ⊎ (In enlistment.prepared_lost e × Durable e)

pub voted_abortable : (e : Enlistment) → Voted e → Abortable e
voted_abortable e (inl q) = inl (omega arith, omega arith)
voted_abortable e (inr q) = inr (inl q.0)

-- how an enlistment stands in Committing
abbrev pub Committed : Enlistment → Type 0
Committed e = In enlistment.told_commit e ⊎ ((In enlistment.failed_to_notify e × Durable e) ⊎ In enlistment.done e)

committed : (e : Enlistment) → Voted e → Committed (committed_of e) × (In enlistment.done (committed_of e) → ⊥)
unfolding committed_of
committed e (inl q) = rw (eq-eqb e.state enlistment.prepared q) (inl refl, λ c. omega arith)
committed e (inr q) = rw (ne_eqb e.state enlistment.prepared (λ c. omega arith), eq-eqb e.state enlistment.prepared_lost q.0) (inr (inl (refl, q.1)), λ c. omega arith)

module _ (p : ℕ) (tb : Table) (k : Kept tb) (l : Live (transaction_at p tb)) where
  record_length : length (record_bytes (commit_record (id_at p tb) (held p tb))) ≡ commit_size (length (filter is_durable (held p tb)))
  unfolding commit_record record_bytes
  record_length = simp length-append (omega (arith, id_length p tb k l, entries_length entries each, many))
    where
      entries : List Entry
      entries = map entry_of (sort_by by_number (filter is_durable (held p tb)))

      each : Each (λ e. length e.rm ≡ identifier_size) entries
      each = each_map entry_of (λ e. length e.rm ≡ identifier_size) (sort_by by_number (filter is_durable (held p tb)))
          (λ e m. let (i, h) = of_held p tb (of_filter is_durable (held p tb) (of_sort by_number _ m)).0 in
          ((k.enlistments.proper e i).manager (λ z. live_some p tb l (sym h ∙ z))).0)

      many : length entries ≡ length (filter is_durable (held p tb))
      many = length-map (sort_by by_number (filter is_durable (held p tb))) entry_of ∙ length_sort by_number (filter is_durable (held p tb))

  pub decide_part : (log : List ℕ) → Each (λ e. PhaseZero e → ⊥) (held p tb) → Each Voted (held p tb) → Part p tb (decide_of p tb log).table
  unfolding decide_of end_committed lacks_room append
  decide_part log h v = by_test (eqb (length (held p tb)) 0)
      (λ t. rw t (end_part p tb log k l))
      (λ t. rw t (by_test (none is_durable (held p tb))
      (λ c. rw c (moved_part p transaction.committing committed_of tb k l commits (λ z. omega arith) (closed (not-true _ c)) (committing (eqb-false _ 0 t))))
      (λ c. rw c (by_test (lacks_room (length (filter is_durable (held p tb))) tb)
      (λ d. rw d (abort_part p tb log k l (λ e m. voted_abortable e (v e m))))
      (λ d. rw d (written_part p transaction.committing committed_of tb k l commits _ (λ z. omega arith) (fits (ltb-false _ _ d)) (committing (eqb-false _ 0 t))))))))
    where
      closed : any is_durable (held p tb) ≡ false → is_open transaction.committing (held p (change_held p committed_of tb)) ≡ false
      closed c = each_none is_durable _ (each_changed p committed_of tb (λ e. is_durable e ≡ false) (λ e m q. rw (committed_key e).kind (none_each is_durable (held p tb) c e m)))

      committing : (length (held p tb) ≡ 0 → ⊥) → HoldsWell transaction.committing (held p (change_held p committed_of tb))
      committing n =
          let s = some_of (held p tb) n in
          HoldsWell.committing refl
          (each_changed p committed_of tb (λ e. PhaseZero e → ⊥) (λ e m q c. h e m (sym (committed_key e).kind ∙ c)))
          (each_changed p committed_of tb Committed (λ e m q. (committed e (v e m)).0))
          (some_changed p committed_of tb (record { it = s.it; there = s.there; holds = ((committed_key s.it).holder ∙ (of_held p tb s.there).1, (committed s.it (v s.it s.there)).1) }))

      fits : commit_size (length (filter is_durable (held p tb))) + record_size * (1 + open_count tb) ≤ tb.capacity - tb.used
          → tb.used + length (record_bytes (commit_record (id_at p tb) (held p tb))) + record_size * (1 + open_count tb) ≤ tb.capacity
      fits f = omega (arith, f, record_length)
