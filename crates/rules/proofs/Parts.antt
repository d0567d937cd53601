-- The parts that steps are made of. Each changes the transaction at one place p and nothing else: so that the others stay as they may be, of this one the table of
-- states has to be looked up once, and the room changes by what p alone writes.
use Prim.Native.Nat.{ℕ, ◌+◌, ◌*◌, ◌≤◌, ◌<◌}
use native.Mathlib.Omega.{arith}
use mathlib.Core.Path.{◌≡◌, refl, sym, ◌∙◌, ap, subst}
use mathlib.Core.Logic.{◌⊎◌, inl, inr}
use mathlib.Core.Bool.{true, false, not}
use mathlib.Core.List.{List}
use lib.ListN.{length}
use borrow.Author.Tests.{eqb-true, eqb-false, lt-ltb, le-leb, not-true}
use Rattle.lists.specs.Lists.{all, any}
use Rattle.lists.specs.Members.{Each, Some}
use Rattle.lists.proofs.Tests.{by_test, by_either, no_clash, and_true, true_and, any_some, not_all}
use Rattle.lists.proofs.Places.{IsPlace, at_member}
use Rattle.rules.specs.declared.Enlistment.{Enlistment}
use Rattle.rules.specs.declared.Table.{Table}
use Rattle.rules.specs.Sizes.{record_size, identifier_size}
use Rattle.rules.specs.TransactionState as transaction
use Rattle.rules.specs.EnlistmentState as enlistment
use Rattle.rules.specs.Table.{no_transaction, is_in, is_done, held, transaction_at, state_at, id_at, in_transaction_state, freed, ended, change_held, go_to, emptied, use_more, is_durable}
use Rattle.rules.specs.Sound.{is_open, open_count, In, HoldsWell, Live, Sound}
use Rattle.rules.specs.Log.{Record, record_bytes}
use Rattle.rules.specs.Events.{append, end_of, end_if_done, hears_abort, aborted_of, abort_of, quietly}
use Rattle.rules.proofs.Records.{forget_size_lem}
use Rattle.rules.proofs.Frames.{held_transaction, at_own}
use Rattle.rules.proofs.Kept.{Kept, stays, kept_state, kept_use, live_place, live_some, sound_kept, keeping_either}
use Rattle.rules.proofs.Only.{Only, only_same, only_then, KeepsHeld, only_held, kept_held, only_transaction, only_use, at_emptied_place, at_changed, used_held, used_transaction, open_use, each_changed, only_emptied, kept_emptied, open_at, open_changes, Room, room_kept}
use lib.Dec.{eqb}

-- What a part of a step gives.
pub record Part (p : ℕ) (tb tb' : Table) : Type 0 where
  pub only : Only p tb tb'
  pub kept : Kept tb'
  pub well : Live (transaction_at p tb') → HoldsWell (state_at p tb') (held p tb')
  pub room : Room tb → Room tb'

-- nothing changes
pub part_same : (p : ℕ) {tb : Table} → Sound tb → Part p tb tb
part_same p {tb} s = record { only = only_same p tb; kept = sound_kept s; well = s.states p; room = λ r. r }

-- places stay places
pub places_kept : {p : ℕ} {tb tb' : Table} {qs : List ℕ} → Only p tb tb' → Each (λ q. IsPlace tb.transactions q) qs → Each (λ q. IsPlace tb'.transactions q) qs
places_kept o h q m = record { low = (h q m).low; high = omega (arith, o.as_many, (h q m).high) }

pub part_then : {p : ℕ} {a b c : Table} → Only p a b → (Room a → Room b) → Part p b c → Part p a c
part_then o r h = record { only = only_then o h.only; kept = h.kept; well = h.well; room = λ q. h.room (r q) }

-- ── the end ─────────────────────────────────────────────────────────────────────────────────────────────────────

pub id_length : (p : ℕ) (tb : Table) → Kept tb → Live (transaction_at p tb) → length (id_at p tb) ≡ identifier_size
id_length p tb k l = ((k.transactions.named (transaction_at p tb) (at_member no_transaction tb.transactions (live_place p tb l))).identifier l).0

not_open_emptied : (p : ℕ) (tb : Table) → open_at p (emptied p tb) ≡ false
not_open_emptied p tb = ap (λ x. is_open x.state (held p (emptied p tb))) (at_emptied_place p tb)

pub used_emptied : (p : ℕ) (tb : Table) → (emptied p tb).used ≡ tb.used
used_emptied p tb = used_transaction p ended (change_held p freed tb) ∙ used_held p freed tb

-- what is open is in Committing, so that it is live
pub open_committing : (s : ℕ) (hs : List Enlistment) → is_open s hs ≡ true → s ≡ transaction.committing
open_committing s hs t = eqb-true s transaction.committing (true_and (eqb s transaction.committing) (any is_durable hs) t).0

pub open_live : (p : ℕ) (tb : Table) → open_at p tb ≡ true → Live (transaction_at p tb)
open_live p tb t z = omega (arith, z, open_committing (state_at p tb) (held p tb) t)

-- the two ways in which a transaction ends
module _ (p : ℕ) (tb : Table) (log : List ℕ) where
  pub open_end : open_at p tb ≡ true → end_of p tb log ≡ append (Record.forget (id_at p tb)) (emptied p tb) log
  unfolding end_of
  open_end t = rw t

  pub closed_end : open_at p tb ≡ false → end_of p tb log ≡ quietly (emptied p tb) log
  unfolding end_of
  closed_end t = rw t

-- at any place
pub end_at : (p : ℕ) (tb : Table) (log : List ℕ) → Kept tb → IsPlace tb.transactions p → Part p tb (end_of p tb log).table
unfolding append use_more
end_at p tb log k i =
    let n : p ≡ 0 → ⊥ = λ z. omega (arith, z, i.low) in
    let o : Only p tb (emptied p tb) = only_emptied p tb n in
    let gone : Live (transaction_at p (emptied p tb)) → ⊥ = λ m. m (ap (λ x. x.state) (at_emptied_place p tb)) in
    by_test (open_at p tb)
    (λ t. rw (open_end p tb log t) (record {
      only = only_then o (only_use p _ (emptied p tb));
      kept = kept_use _ (kept_emptied p tb n k);
      well = λ m. absurd (gone m);
      room = λ r. written_room o t r;
    }))
    (λ t. rw (closed_end p tb log t) (record {
      only = o;
      kept = kept_emptied p tb n k;
      well = λ m. absurd (gone m);
      room = room_kept p tb (emptied p tb) o i (used_emptied p tb) (λ c. no_clash _ c (not_open_emptied p tb));
    }))
  where
    written_room : Only p tb (emptied p tb) → open_at p tb ≡ true → Room tb → Room (use_more (length (record_bytes (Record.forget (id_at p tb)))) (emptied p tb))
    written_room o t r =
        let c : open_count (emptied p tb) + 1 ≡ open_count tb + 0 = rw (t, not_open_emptied p tb) at (open_changes p tb (emptied p tb) o i) in
        omega (arith, r, c, o.same_capacity, used_emptied p tb, open_use (length (record_bytes (Record.forget (id_at p tb)))) (emptied p tb), forget_size_lem (id_at p tb) (id_length p tb k (open_live p tb t)))

-- nothing is live there any more
pub end_over : (p : ℕ) (tb : Table) (log : List ℕ) → transaction_at p (end_of p tb log).table ≡ no_transaction
unfolding append use_more
end_over p tb log = by_test (open_at p tb) (λ t. rw (open_end p tb log t) (at_emptied_place p tb)) (λ t. rw (closed_end p tb log t) (at_emptied_place p tb))

pub end_part : (p : ℕ) (tb : Table) (log : List ℕ) → Kept tb → Live (transaction_at p tb) → Part p tb (end_of p tb log).table
end_part p tb log k l = end_at p tb log k (live_place p tb l)

pub some_undone : (hs : List Enlistment) → all is_done hs ≡ false → Some (λ e. In enlistment.done e → ⊥) hs
some_undone hs t =
    let s = any_some (λ e. not (is_done e)) hs (sym (not_all is_done hs) ∙ rw t) in
    record { it = s.it; there = s.there; holds = eqb-false _ _ (not-true _ s.holds) }

pub end_if_done_part : (p : ℕ) (tb : Table) (log : List ℕ) → Kept tb → Live (transaction_at p tb)
    → (Some (λ e. In enlistment.done e → ⊥) (held p tb) → HoldsWell (state_at p tb) (held p tb)) → Part p tb (end_if_done p tb log).table
unfolding end_if_done
end_if_done_part p tb log k l h = by_test (all is_done (held p tb))
    (λ t. rw t (end_part p tb log k l))
    (λ t. rw t (record { only = only_same p tb; kept = k; well = λ m. h (some_undone (held p tb) t); room = λ r. r }))

-- ── another state of the transaction, and of what it holds ──────────────────────────────────────────────────────

abbrev pub moved : ℕ → ℕ → (Enlistment → Enlistment) → Table → Table
moved p s f tb = go_to p s (change_held p f tb)

pub used_moved : (p s : ℕ) (f : Enlistment → Enlistment) (tb : Table) → (moved p s f tb).used ≡ tb.used
used_moved p s f tb = used_transaction p (in_transaction_state s) (change_held p f tb) ∙ used_held p f tb

module _ (p s : ℕ) (f : Enlistment → Enlistment) (tb : Table) (k : Kept tb) (l : Live (transaction_at p tb)) (keeps : KeepsHeld f) where
  live_changed : Live (transaction_at p (change_held p f tb))
  live_changed = rw (at_changed p p f tb) l

  only_moved : Only p tb (moved p s f tb)
  only_moved = only_then (only_held p f tb (live_some p tb l) keeps) (only_transaction p (in_transaction_state s) (change_held p f tb))

  kept_moved : (s ≡ 0 → ⊥) → Kept (moved p s f tb)
  kept_moved n = kept_state p s n (kept_held p f tb (live_some p tb l) keeps k) live_changed

  state_moved : state_at p (moved p s f tb) ≡ s
  state_moved = ap (λ x. x.state) (at_own p (in_transaction_state s) (change_held p f tb) (live_place p (change_held p f tb) live_changed))

  live_moved : (s ≡ 0 → ⊥) → Live (transaction_at p (moved p s f tb))
  live_moved n e = n (sym state_moved ∙ e)

  held_moved : held p (moved p s f tb) ≡ held p (change_held p f tb)
  held_moved = held_transaction p p (in_transaction_state s) (change_held p f tb)

  open_moved : open_at p (moved p s f tb) ≡ is_open s (held p (change_held p f tb))
  open_moved = ap (λ z. is_open z (held p (moved p s f tb))) state_moved ∙ ap (λ hs. is_open s hs) held_moved

  well_moved : HoldsWell s (held p (change_held p f tb)) → HoldsWell (state_at p (moved p s f tb)) (held p (moved p s f tb))
  well_moved w = subst (λ z. HoldsWell z (held p (moved p s f tb))) (sym state_moved) (subst (HoldsWell s) (sym held_moved) w)

  room_moved : is_open s (held p (change_held p f tb)) ≡ false → Room tb → Room (moved p s f tb)
  room_moved c = room_kept p tb (moved p s f tb) only_moved (live_place p tb l) (used_moved p s f tb) (λ t. no_clash _ t (open_moved ∙ c))

  -- without a record
  pub moved_part : (s ≡ 0 → ⊥) → is_open s (held p (change_held p f tb)) ≡ false → HoldsWell s (held p (change_held p f tb)) → Part p tb (moved p s f tb)
  moved_part n c w = record { only = only_moved; kept = kept_moved n; well = λ m. well_moved w; room = room_moved c }

  -- with one, of n bytes
  pub written_part : (n : ℕ) → (s ≡ 0 → ⊥) → tb.used + n + record_size * (1 + open_count tb) ≤ tb.capacity → HoldsWell s (held p (change_held p f tb)) → Part p tb (use_more n (moved p s f tb))
  unfolding use_more held
  written_part n z fits w = record {
    only = only_then only_moved (only_use p n (moved p s f tb));
    kept = kept_use n (kept_moved z);
    well = λ m. well_moved w;
    room = λ r. more_room;
  }
    where
      at_most : open_count (moved p s f tb) ≤ open_count tb + 1
      at_most = by_test (open_at p (moved p s f tb))
          (λ t. omega (arith, rw t at (open_changes p tb (moved p s f tb) only_moved (live_place p tb l))))
          (λ t. omega (arith, rw t at (open_changes p tb (moved p s f tb) only_moved (live_place p tb l))))

      more_room : Room (use_more n (moved p s f tb))
      more_room = omega (arith, fits, at_most, used_moved p s f tb, only_moved.same_capacity, open_use n (moved p s f tb))

-- ── Abort ───────────────────────────────────────────────────────────────────────────────────────────────────────

-- what an abort can meet
abbrev pub Abortable : Enlistment → Type 0
Abortable e = ((0 < e.state) × (e.state ≤ enlistment.prepared)) ⊎ (In enlistment.prepared_lost e ⊎ In enlistment.done e)

pub aborts : KeepsHeld aborted_of
unfolding aborted_of
aborts e h = keeping_either (hears_abort e) enlistment.told_abort (λ t. h) (keeping_either (is_in enlistment.prepared_lost e) enlistment.done (λ t. h) (stays refl))

aborted_state : (e : Enlistment) → Abortable e → In enlistment.told_abort (aborted_of e) ⊎ In enlistment.done (aborted_of e)
unfolding aborted_of
aborted_state e (inl h) = rw (and_true (lt-ltb 0 e.state h.0) (le-leb e.state enlistment.prepared h.1)) (inl refl)
aborted_state e (inr h) = by_test (hears_abort e)
    (λ t. rw t (inl refl))
    (λ t. rw t (by_test (is_in enlistment.prepared_lost e)
    (λ c. rw c (inr refl))
    (λ c. rw c (by_either (λ q. absurd (eqb-false e.state enlistment.prepared_lost c q)) (λ q. inr q) h))))

pub abort_part : (p : ℕ) (tb : Table) (log : List ℕ) → Kept tb → Live (transaction_at p tb) → Each Abortable (held p tb) → Part p tb (abort_of p tb log).table
unfolding abort_of
abort_part p tb log k l h =
    part_then (only_moved p transaction.aborting aborted_of tb k l aborts) (room_moved p transaction.aborting aborted_of tb k l aborts refl)
    (end_if_done_part p (moved p transaction.aborting aborted_of tb) log
    (kept_moved p transaction.aborting aborted_of tb k l aborts (λ z. omega arith))
    (live_moved p transaction.aborting aborted_of tb k l aborts (λ z. omega arith))
    (λ s. well_moved p transaction.aborting aborted_of tb k l aborts
    (HoldsWell.aborting refl each (told (subst (Some (λ e. In enlistment.done e → ⊥)) (held_moved p transaction.aborting aborted_of tb k l aborts) s)))))
  where
    each : Each (λ e. In enlistment.told_abort e ⊎ In enlistment.done e) (held p (change_held p aborted_of tb))
    each = each_changed p aborted_of tb (λ e. In enlistment.told_abort e ⊎ In enlistment.done e) (λ e m c. aborted_state e (h e m))

    told : Some (λ e. In enlistment.done e → ⊥) (held p (change_held p aborted_of tb)) → Some (In enlistment.told_abort) (held p (change_held p aborted_of tb))
    told s = record { it = s.it; there = s.there; holds = by_either (λ q. q) (λ q. absurd (s.holds q)) (each s.it s.there) }
