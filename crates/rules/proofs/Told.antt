-- Ask and Re-enlisted: an enlistment in 8 becomes 7, or Done. A transaction in Committing may hold all three, so that it stays well until all are Done, and then
-- it ends.
use Prim.Native.Nat.{ℕ}
use native.Mathlib.Omega.{arith}
use mathlib.Core.Path.{◌≡◌, refl, sym, ◌∙◌, ap, subst}
use mathlib.Core.Logic.{inl, inr}
use mathlib.Core.Bool.{true, false, ◌&&◌}
use mathlib.Core.List.Memᴰ
use mathlib.Core.List.{List, [], ◌∷◌, map}
use lib.Dec.{eqb}
use borrow.Author.Tests.{eqb-true, eq-eqb, ne_eqb}
use Rattle.lists.specs.Lists.{all, any}
use Rattle.lists.specs.Members.{◌∈◌, Each, Some}
use Rattle.lists.proofs.Tests.{by_test, by_either, is_false, true_and, and_true, and_false, all_each, each_head, each_rest, filter_map, map_same, any_map, each_map, by_cond}
use Rattle.lists.proofs.Places.{IsPlace, of_places, in_places}
use Rattle.lists.proofs.Sorting.{in_sort, of_sort}
use Rattle.rules.specs.declared.Enlistment.{Enlistment}
use Rattle.rules.specs.declared.Table.{Table}
use Rattle.rules.specs.TransactionState as transaction
use Rattle.rules.specs.EnlistmentState as enlistment
use Rattle.rules.specs.Identifiers.{Id}
use Rattle.rules.specs.Table.{no_transaction, durable_kind, is_durable, is_durable_of, is_in, is_done, held_by, held, transaction_at, state_at, change_held, with_enlistments}
use Rattle.rules.specs.Sound.{is_open, open_places, In, PhaseZero, HoldsWell, Live, Sound}
use Rattle.rules.specs.Events.{end_of, is_undone, is_over, told_again, ask_of, done_for, by_identifier, finished, end_each, reenlisted_of}
use Rattle.rules.proofs.Frames.{of_held}
use Rattle.rules.proofs.Along.{as_many}
use Rattle.rules.proofs.Kept.{Kept, sound_kept, Keeping, stays, kept_map, live_place, live_some, SameKey, key_same, key_either, keeping_either}
use Rattle.rules.proofs.Only.{KeepsHeld, only_held, kept_held, at_changed, each_changed, some_changed, room_held, Room}
use Rattle.rules.proofs.Parts.{Part, end_at, end_over, some_undone, part_same, places_kept}
use Rattle.rules.proofs.Phases.{Committed}
use Rattle.rules.proofs.Reacting.{zeroing_range, voting_range, aborted_range}

-- ── Ask ─────────────────────────────────────────────────────────────────────────────────────────────────────────

pub in_committing : {s : ℕ} {hs : List Enlistment} → HoldsWell s hs → s ≡ transaction.committing → Each (λ e. PhaseZero e → ⊥) hs × Each Committed hs × Some (λ e. In enlistment.done e → ⊥) hs
in_committing (HoldsWell.active q h) z = absurd (omega arith)
in_committing (HoldsWell.phase_zero q h x) z = absurd (omega arith)
in_committing (HoldsWell.phase_one q n h x) z = absurd (omega arith)
in_committing (HoldsWell.single_phase q n h) z = absurd (omega arith)
in_committing (HoldsWell.committing q n h x) z = (n, h, x)
in_committing (HoldsWell.aborting q h x) z = absurd (omega arith)

module _ (r : Id) where
  pub told_keeps : KeepsHeld (told_again r)
  told_keeps e h = keeping_either (is_undone r e && is_in enlistment.failed_to_notify e) enlistment.told_commit (λ t. h) (stays refl)

  pub told_key : (e : Enlistment) → SameKey e (told_again r e)
  told_key e = key_either (is_undone r e && is_in enlistment.failed_to_notify e) enlistment.told_commit (key_same e)

  told_again_lem : (e : Enlistment) → Committed e → Committed (told_again r e)
  told_again_lem e c = by_cond Committed (is_undone r e && is_in enlistment.failed_to_notify e) (inl refl) c

  told_undone : (e : Enlistment) → (In enlistment.done e → ⊥) → In enlistment.done (told_again r e) → ⊥
  told_undone e c = by_cond (λ (f : Enlistment). In enlistment.done f → ⊥) (is_undone r e && is_in enlistment.failed_to_notify e) (λ z. omega arith) c

  pub ask_part : (p : ℕ) (tb : Table) (log : List ℕ) → Sound tb → Part p tb (ask_of p r tb log).table
  unfolding ask_of
  ask_part p tb log s = by_test (is_over (state_at p tb))
      (λ t. rw t (part_same p s))
      (λ t. rw t (by_test (eqb (state_at p tb) transaction.committing)
      (λ c. rw c (told (eqb-true (state_at p tb) transaction.committing c)))
      (λ c. rw c (part_same p s))))
    where
      told : state_at p tb ≡ transaction.committing → Part p tb (change_held p (told_again r) tb)
      told c =
          let l : Live (transaction_at p tb) = λ z. omega arith in
          let n : p ≡ 0 → ⊥ = live_some p tb l in
          let (no-p, h, x) = in_committing (s.states p l) c in
          record {
            only = only_held p (told_again r) tb n told_keeps;
            kept = kept_held p (told_again r) tb n told_keeps (sound_kept s);
            well = λ m. HoldsWell.committing (ap (λ y. y.state) (at_changed p p (told_again r) tb) ∙ c)
                (each_changed p (told_again r) tb (λ e. PhaseZero e → ⊥) (λ e m q k. no-p e m (sym (told_key e).kind ∙ k)))
                (each_changed p (told_again r) tb Committed (λ e m q. told_again_lem e (h e m)))
                (some_changed p (told_again r) tb (record { it = x.it; there = x.there; holds = ((told_key x.it).holder ∙ (of_held p tb x.there).1, told_undone x.it x.holds) }));
            room = room_held p (told_again r) tb l told_keeps;
          }

-- ── the end of several ──────────────────────────────────────────────────────────────────────────────────────────

-- what ending the transactions at these places leaves
pub record Ends (ps : List ℕ) (tb tb' : Table) : Type 0 where
  pub kept : Kept tb'
  pub room : Room tb'
  pub same_capacity : tb'.capacity ≡ tb.capacity
  pub transactions : (q : ℕ) → (q ∈ ps → ⊥) → transaction_at q tb' ≡ transaction_at q tb
  pub enlistments : (q : ℕ) → (q ∈ ps → ⊥) → (q ≡ 0 → ⊥) → held q tb' ≡ held q tb
  pub over : (q : ℕ) → Live (transaction_at q tb') → q ∈ ps → ⊥

pub end_each_lem : (ps : List ℕ) (tb : Table) (log : List ℕ) → Kept tb → Room tb → Each (λ p. IsPlace tb.transactions p) ps → Ends ps tb (end_each ps tb log).table
unfolding end_each
end_each_lem [] tb log k r h = record { kept = k; room = r; same_capacity = refl; transactions = λ q n. refl; enlistments = λ q n z. refl; over = λ q l m. Memᴰ.not-nil m }
end_each_lem (p ∷ ps) tb log k r h =
    let one : Part p tb (end_of p tb log).table = end_at p tb log k (each_head h) in
    let rest = end_each_lem ps (end_of p tb log).table (end_of p tb log).log one.kept (one.room r) (places_kept one.only (each_rest h)) in
    record {
      kept = rest.kept;
      room = rest.room;
      same_capacity = rest.same_capacity ∙ one.only.same_capacity;
      transactions = λ q n. rest.transactions q (λ m. n (Memᴰ.tail m)) ∙ one.only.transactions q (λ e. n (Memᴰ.head e));
      enlistments = λ q n z. rest.enlistments q (λ m. n (Memᴰ.tail m)) z ∙ one.only.enlistments q (λ e. n (Memᴰ.head e)) z;
      over = λ q l m. by_either
          (λ e. l (ap (λ x. x.state) (rest.transactions q (rest.over q l) ∙ subst (λ z. transaction_at z (end_of p tb log).table ≡ no_transaction) (sym e) (end_over p tb log))))
          (rest.over q l)
          (Memᴰ.cases_cons m);
    }

-- ── Re-enlisted ─────────────────────────────────────────────────────────────────────────────────────────────────

pub done_key : (r : Id) (e : Enlistment) → SameKey e (done_for r e)
done_key r e = key_either (is_durable_of r e && is_in enlistment.failed_to_notify e) enlistment.done (key_same e)

module _ (r : Id) (tb : Table) where
  abbrev pub after : Table
  after = with_enlistments (map (done_for r) tb.enlistments) tb

  done_keeps : Kept tb → Each (λ e. Keeping e (done_for r e)) tb.enlistments
  done_keeps k e m = keeping_either (is_durable_of r e && is_in enlistment.failed_to_notify e) enlistment.done
      (λ t z. omega (arith, eqb-true e.state enlistment.failed_to_notify (true_and (is_durable_of r e) (is_in enlistment.failed_to_notify e) t).1, ap (λ x. x.state) ((k.enlistments.proper e m).empty z)))
      (stays refl)

  done_committed : (e : Enlistment) → Committed e → Committed (done_for r e)
  done_committed e c = by_cond Committed (is_durable_of r e && is_in enlistment.failed_to_notify e) (inr (inr refl)) c

  not_durable : (e : Enlistment) → is_durable_of r e ≡ false → done_for r e ≡ e
  not_durable e t = rw t

  not_failed : (e : Enlistment) → (In enlistment.failed_to_notify e → ⊥) → done_for r e ≡ e
  not_failed e n = rw (and_false (is_durable_of r e) (is_in enlistment.failed_to_notify e) (inr (ne_eqb e.state enlistment.failed_to_notify n)))

  -- its places stay the same, so that each transaction holds what becomes of what it held
  pub held_done : (q : ℕ) → held q after ≡ map (done_for r) (held q tb)
  unfolding held
  held_done q = filter_map (done_for r) (held_by q) (λ e. ap (λ z. eqb z q) (done_key r e).holder) tb.enlistments

  each_done : (q : ℕ) (P : Enlistment → Type 0) → Each (λ e. P (done_for r e)) (held q tb) → Each P (held q after)
  each_done q P h = rw (held_done q) (each_map (done_for r) P (held q tb) h)

  -- where none becomes Done
  untouched : (q : ℕ) → Each (λ e. done_for r e ≡ e) (held q tb) → held q after ≡ held q tb
  untouched q h = held_done q ∙ map_same (done_for r) (held q tb) h

  not_finished : (q : ℕ) → Live (transaction_at q tb) → (q ∈ finished after → ⊥) → state_at q tb ≡ transaction.committing → all is_done (held q after) ≡ false
  unfolding finished
  not_finished q l n c = is_false _ (λ t. n (in_sort (by_identifier after) _
      (in_places (λ p x. eqb x.state transaction.committing && all is_done (held p after)) no_transaction tb.transactions (live_place q tb l) (and_true (eq-eqb _ _ c) t))))

  well_done : (q : ℕ) → Live (transaction_at q tb) → (q ∈ finished after → ⊥) → HoldsWell (state_at q tb) (held q tb) → HoldsWell (state_at q tb) (held q after)
  well_done q l n (HoldsWell.active c h) = subst (HoldsWell (state_at q tb)) (sym (untouched q (λ e m. not_failed e (λ z. omega (arith, z, h e m))))) (HoldsWell.active c h)
  well_done q l n (HoldsWell.phase_zero c h x) = subst (HoldsWell (state_at q tb)) (sym (untouched q (λ e m. not_failed e (λ z. omega (arith, z, zeroing_range e (h e m)))))) (HoldsWell.phase_zero c h x)
  well_done q l n (HoldsWell.phase_one c k h x) = subst (HoldsWell (state_at q tb)) (sym (untouched q (λ e m. not_failed e (λ z. omega (arith, z, voting_range e (h e m)))))) (HoldsWell.phase_one c k h x)
  well_done q l n (HoldsWell.single_phase c k h) = subst (HoldsWell (state_at q tb)) (sym (untouched q (λ e m. not_failed e (λ z. omega (arith, z, (h e m).2))))) (HoldsWell.single_phase c k h)
  well_done q l n (HoldsWell.committing c k h x) = HoldsWell.committing c
      (each_done q (λ e. PhaseZero e → ⊥) (λ e m z. k e m (sym (done_key r e).kind ∙ z)))
      (each_done q Committed (λ e m. done_committed e (h e m)))
      (some_undone (held q after) (not_finished q l n c))
  well_done q l n (HoldsWell.aborting c h x) = subst (HoldsWell (state_at q tb)) (sym (untouched q (λ e m. not_failed e (λ z. omega (arith, z, aborted_range e (h e m)))))) (HoldsWell.aborting c h x)

  pub open_done : (q s : ℕ) → is_open s (held q after) ≡ is_open s (held q tb)
  open_done q s = ap (is_open s) (held_done q) ∙ ap (λ b. eqb s transaction.committing && b) (any_map (done_for r) is_durable (held q tb) ∙ λ i. any (λ e. durable_kind ((done_key r e).kind i)) (held q tb))

  pub room_done : Room tb → Room after
  unfolding open_places
  room_done h = omega (arith, h, as_many (λ q x. is_open x.state (held q tb)) (λ q x. is_open x.state (held q after)) no_transaction tb.transactions tb.transactions refl (λ q. sym (open_done q (state_at q tb))))

  pub finished_places : Each (λ p. IsPlace tb.transactions p) (finished after)
  unfolding finished
  finished_places p m = (of_places (λ p x. eqb x.state transaction.committing && all is_done (held p after)) no_transaction tb.transactions (of_sort (by_identifier after) _ m)).0

  pub kept_done : Sound tb → Kept after
  kept_done s = kept_map (done_for r) (sound_kept s) (done_keeps (sound_kept s))

  -- what Re-enlisted gives
  ends : (log : List ℕ) → Sound tb → Ends (finished after) after (reenlisted_of r tb log).table
  unfolding reenlisted_of
  ends log s = end_each_lem (finished after) after log (kept_done s) (room_done s.room) finished_places

  pub reenlisted_well : (log : List ℕ) → Sound tb → (q : ℕ) → Live (transaction_at q (reenlisted_of r tb log).table)
      → HoldsWell (state_at q (reenlisted_of r tb log).table) (held q (reenlisted_of r tb log).table)
  reenlisted_well log s q l =
      let e = ends log s in
      let n : q ∈ finished after → ⊥ = e.over q l in
      let t : transaction_at q (reenlisted_of r tb log).table ≡ transaction_at q tb = e.transactions q n in
      let m : Live (transaction_at q tb) = subst Live t l in
      subst (λ x. HoldsWell x.state (held q (reenlisted_of r tb log).table)) (sym t)
      (subst (HoldsWell (state_at q tb)) (sym (e.enlistments q n (live_some q tb m))) (well_done q m n (s.states q m)))

  pub reenlisted_kept : (log : List ℕ) → Sound tb → Kept (reenlisted_of r tb log).table
  reenlisted_kept log s = (ends log s).kept

  pub reenlisted_room : (log : List ℕ) → Sound tb → Room (reenlisted_of r tb log).table
  reenlisted_room log s = (ends log s).room

  pub reenlisted_capacity : (log : List ℕ) → Sound tb → (reenlisted_of r tb log).table.capacity ≡ tb.capacity
  reenlisted_capacity log s = (ends log s).same_capacity

  -- a transaction that holds no D of this RM does not end by it
  pub reenlisted_others : (log : List ℕ) → Sound tb → (q : ℕ) → (q ≡ 0 → ⊥) → Each (λ e. is_durable_of r e ≡ false) (held q tb)
      → (transaction_at q (reenlisted_of r tb log).table ≡ transaction_at q tb) × (held q (reenlisted_of r tb log).table ≡ held q tb)
  unfolding finished
  reenlisted_others log s q z h =
      let same : held q after ≡ held q tb = untouched q (λ e m. not_durable e (h e m)) in
      let n : q ∈ finished after → ⊥ = λ m. not_over same (of_places (λ p x. eqb x.state transaction.committing && all is_done (held p after)) no_transaction tb.transactions (of_sort (by_identifier after) _ m)).1 in
      ((ends log s).transactions q n, (ends log s).enlistments q n z ∙ same)
    where
      not_over : held q after ≡ held q tb → (eqb (state_at q tb) transaction.committing && all is_done (held q after)) ≡ true → ⊥
      not_over same t =
          let (c, d) = true_and (eqb (state_at q tb) transaction.committing) (all is_done (held q after)) t in
          let e : state_at q tb ≡ transaction.committing = eqb-true (state_at q tb) transaction.committing c in
          let x = (in_committing (s.states q (λ z. omega (arith, z, e))) e).2 in
          x.holds (eqb-true _ _ (all_each is_done (held q tb) (rw same at d) x.it x.there))
