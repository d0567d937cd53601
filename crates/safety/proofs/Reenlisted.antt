-- A finished re-enlistment makes Done what this resource manager holds in 8, and with that closes its own right to ask, in each transaction alike. So to each it is
-- a move: it ends if all are Done now, and else goes on; whoever else waits there waits as before.
use Prim.Native.Nat.{ℕ}
use mathlib.Core.Path.{◌≡◌, refl, sym, ◌∙◌, ap}
use mathlib.Core.Logic.{◌⊎◌, inl, inr}
use mathlib.Core.Bool.{Bool, true, false, ◌&&◌}
use mathlib.Core.List.{List, [], map}
use lib.ListN.{length}
use lib.Dec.{eqb}
use borrow.Author.Tests.{eqb-true, eqb-false}
use Rattle.lists.specs.Members.{◌∈◌, Each, Some}
use Rattle.lists.specs.Lists.{all, any}
use Rattle.lists.specs.Places.{places_where}
use Rattle.lists.proofs.Tests.{by_test, by_either, no_clash, is_false, true_and, in_map, of_map, all_each, map_same}
use Rattle.lists.proofs.Places.{in_places, of_places, IsPlace}
use Rattle.lists.proofs.Sorting.{in_sort, of_sort}
use Rattle.rules.specs.declared.Transaction.{Transaction}
use Rattle.rules.specs.declared.Enlistment.{Enlistment}
use Rattle.rules.specs.declared.Table.{Table}
use Rattle.rules.specs.Kinds as kind
use Rattle.rules.specs.TransactionState as transaction
use Rattle.rules.specs.EnlistmentState as enlistment
use Rattle.rules.specs.Identifiers.{Id, same_bytes, is_zero}
use Rattle.rules.specs.Table.{no_transaction, is_named, place_named, transaction_at, state_at, held, is_durable, is_durable_of, is_in, is_done, id_at}
use Rattle.rules.specs.Sound.{Sound, In, Durable, is_open}
use Rattle.rules.specs.Events.{done_for, by_identifier, finished, end_each, reenlisted_of}
use Rattle.rules.proofs.Identifiers.{same_equal}
use Rattle.rules.proofs.Frames.{named_found, none_absent, named_place, Stands, Absent, stands_place, is_named_lem}
use Rattle.rules.specs.Restart.{Open, is_open_as}
use Rattle.rules.proofs.Told as told
use Rattle.safety.specs.World.{Note}
use Rattle.safety.specs.Host.{Closes}
use Rattle.safety.proofs.Alone as alone
use Rattle.safety.proofs.Alone.{Story, View, out, Waits, NoDurable, any_durable, durable_any, waits_undone}
use Rattle.safety.proofs.Move.{quiet_nothing, Calm, calm_note, Move, stay, told_on, end_logged}
use Rattle.safety.proofs.Top.{Agrees}
use Rattle.safety.proofs.Story.{story, on_forget, forgotten}
use Rattle.safety.proofs.View.{view_of, look, view_in, view_stands, view_absent}
use Rattle.safety.proofs.Given.{stands_sound, row}
use Rattle.safety.proofs.Reactions.{live, of_commit}
use Rattle.safety.proofs.Fitting.{Ready, Judged, told_open, live_nonzero}
use Rattle.safety.proofs.Ends.{Roomy, Seen, forgets, each_other, each_own, Forgettable, each_fits}
use Rattle.rules.proofs.Parts.{open_live, open_committing}
use Rattle.rules.proofs.Kept.{live_true}

-- ── the enlistments ─────────────────────────────────────────────────────────────────────────────────────────────

module _ (r : Id) where
  -- what was not Done and is, was r's, durable, and in Failed-to-notify
  done_now : (e : Enlistment) → is_done (done_for r e) ≡ true → (is_done e ≡ true) ⊎ ((is_durable_of r e && is_in enlistment.failed_to_notify e) ≡ true)
  done_now e d = by_test (is_durable_of r e && is_in enlistment.failed_to_notify e) (λ b. inr b) (λ b. inl (rw b at d))

  -- who waits still waits, or it is r's own
  done_waits : (q : Id) (e : Enlistment) → Waits q e → Waits q (done_for r e) ⊎ (q ≡ r)
  done_waits q e w = by_test (is_durable_of r e && is_in enlistment.failed_to_notify e)
      (λ b. inr (sym w.1 ∙ same_equal e.rm.0 r (true_and (is_durable e) (same_bytes e.rm.0 r) (true_and (is_durable_of r e) (is_in enlistment.failed_to_notify e) b).0).1))
      (λ b. inl (rw b w))

-- ── the table after it ──────────────────────────────────────────────────────────────────────────────────────────

module _ (r : Id) (tb : Table) (log : List ℕ) (s : Sound tb) (full : length log ≡ tb.capacity) where
  unfoldable pub after : Table
  after = told.after r tb

  abbrev pub ps : List ℕ
  ps = finished after

  pub reenlisted_is : reenlisted_of r tb log ≡ end_each ps after log
  unfolding reenlisted_of after
  reenlisted_is = refl

  held_after : (q : ℕ) → held q after ≡ map (done_for r) (held q tb)
  unfolding after
  held_after = told.held_done r tb

  open_after : (q : ℕ) (n : ℕ) → is_open n (held q after) ≡ is_open n (held q tb)
  unfolding after
  open_after = told.open_done r tb

  pub roomy_after : Roomy after log
  unfolding after
  roomy_after = record { kept = told.kept_done r tb s; room = told.room_done r tb s.room; full = full }

  pub finished_places : Each (λ p. IsPlace after.transactions p) ps
  unfolding after
  finished_places = told.finished_places r tb

  -- ── what it writes fits ───────────────────────────────────────────────────────────────────────────────────────

  forgettable : (os : List Open) → Ready tb log os → Forgettable after (length log) os
  unfolding after
  forgettable os r = record {
    opened = λ q b. opened q (sym (open_after q (state_at q tb)) ∙ b);
    space = r.room;
  }
    where
      at : (q : ℕ) → is_open (state_at q tb) (held q tb) ≡ true → Stands (id_at q tb) q tb
      at q b = stands_sound tb s (id_at q tb) q (is_named_lem (transaction_at q tb) (live_true (transaction_at q tb) (open_live q tb b)))

      durable : (q : ℕ) → is_open (state_at q tb) (held q tb) ≡ true → NoDurable (held q tb) → ⊥
      durable q b y = let w : Some Durable (held q tb) = any_durable (held q tb) (true_and (eqb (state_at q tb) transaction.committing) (any is_durable (held q tb)) b).1 in y w.it w.there w.holds

      shows : (q : ℕ) → is_open (state_at q tb) (held q tb) ≡ true → view_of (id_at q tb) tb ≡ alone.committing (held q tb)
      shows q b = view_in (id_at q tb) q tb (stands_place (id_at q tb) q tb (at q b)) transaction.committing (open_committing (state_at q tb) (held q tb) b)

      opened : (q : ℕ) → is_open (state_at q tb) (held q tb) ≡ true → (is_zero (id_at q tb) ≡ false) × (any (is_open_as (id_at q tb)) os ≡ true)
      opened q b = (live_nonzero tb s (id_at q tb) q (at q b), told_open tb log os r (id_at q tb) (held q tb) (shows q b) (durable q b))

  pub reenlisted_judged : Judged tb log (end_each ps after log).table.used (forgets ps after log)
  reenlisted_judged = record { judged = λ os r. each_fits ps after log roomy_after finished_places (length log) os (forgettable os r) }

  -- ── to one transaction ────────────────────────────────────────────────────────────────────────────────────────

  module _ (t : Id) (h : List Note) (l : Story) where
    abbrev pub M : View → View → Type 0
    M v w = Move t h (Note.reenlisted r) [] l (story t l (forgets ps after log)) v w

    calm : Calm t (Note.reenlisted r)
    calm = calm_note t (Note.reenlisted r) refl

    abbrev pub Result : View
    Result = view_of t (end_each ps after log).table

    stays : (v : View) → view_of t tb ≡ v → Seen t ps after log v (λ k. k) → M (view_of t tb) Result
    stays v e w = rw (e, w.view) (stay (w.tale l) calm (quiet_nothing t))

    -- it is not live
    dead : Absent t tb → M (view_of t tb) Result
    unfolding after
    dead a = stays out (view_absent t tb a) (each_other t ps after log out roomy_after finished_places (view_absent t after (record { nowhere = a.nowhere })) (λ q m. a.nowhere q))

    module _ (p : ℕ) (at : Stands t p tb) (agrees : Agrees (view_of t tb) l) where
      at_after : Stands t p after
      unfolding after
      at_after = record { here = at.here; alone = at.alone }

      abbrev hs : List Enlistment
      hs = held p tb

      abbrev over : Bool
      over = eqb (state_at p tb) transaction.committing && all is_done (held p after)

      view_now : view_of t tb ≡ look (state_at p tb) hs
      view_now = view_stands t p tb at

      view_then : view_of t after ≡ look (state_at p tb) (map (done_for r) hs)
      unfolding after
      view_then = view_stands t p after at_after ∙ ap (look (state_at p tb)) (held_after p)

      is_finished : over ≡ true → p ∈ ps
      unfolding finished after
      is_finished b = in_sort (by_identifier after) (places_where (λ q (x : Transaction). eqb x.state transaction.committing && all is_done (held q after)) tb.transactions)
          (in_places (λ q (x : Transaction). eqb x.state transaction.committing && all is_done (held q after)) no_transaction tb.transactions (named_place t p tb at.here) b)

      not_finished : over ≡ false → (q : ℕ) → q ∈ ps → is_named t (transaction_at q after) ≡ false
      unfolding finished after
      not_finished b q m = is_false (is_named t (transaction_at q tb)) (λ n. no_clash over (ap (λ w. eqb (state_at w tb) transaction.committing && all is_done (held w after)) (sym (at.alone q n)) ∙
          (of_places (λ q (x : Transaction). eqb x.state transaction.committing && all is_done (held q after)) no_transaction tb.transactions (of_sort (by_identifier after) (places_where (λ q (x : Transaction). eqb x.state transaction.committing && all is_done (held q after)) tb.transactions) m)).1) b)

      -- ── it ends ───────────────────────────────────────────────────────────────────────────────────────────────

      module _ (b : over ≡ true) where
        five : state_at p tb ≡ transaction.committing
        five = eqb-true (state_at p tb) transaction.committing (true_and (eqb (state_at p tb) transaction.committing) (all is_done (held p after)) b).0

        all_done : (e : Enlistment) → e ∈ hs → is_done (done_for r e) ≡ true
        all_done e m = all_each is_done (held p after) (true_and (eqb (state_at p tb) transaction.committing) (all is_done (held p after)) b).1 (done_for r e) (rw (held_after p) (in_map (done_for r) m))

        -- one was not Done before, so that it was r's and durable
        has_durable : Some Durable hs
        has_durable = go (told.in_committing (s.states p (live tb s t p at)) five).2
          where
            go : Some (λ e. In enlistment.done e → ⊥) hs → Some Durable hs
            go w = by_either
                (λ d. absurd (w.holds (eqb-true w.it.state enlistment.done d)))
                (λ d. record { it = w.it; there = w.there; holds = eqb-true w.it.kind kind.durable (true_and (is_durable w.it) (same_bytes w.it.rm.0 r) (true_and (is_durable_of r w.it) (is_in enlistment.failed_to_notify w.it) d).0).0 })
                (done_now r w.it (all_done w.it w.there))

        is_open_lem : is_open (state_at p after) (held p after) ≡ true
        unfolding after
        is_open_lem = open_after p (state_at p tb) ∙ rw (five, durable_any hs has_durable) refl

        all_close : (q : Id) → Some (Waits q) hs → Closes t q (Note.reenlisted r)
        all_close q w = by_either (λ v. absurd (waits_undone (done_for r w.it) v (eqb-true (done_for r w.it).state enlistment.done (all_done w.it w.there)))) (λ e. inr (ap Note.reenlisted (sym e))) (done_waits r q w.it w.holds)

        ends : M (view_of t tb) Result
        ends = rw (now, w.view) (end_logged (w.tale l ∙ forgotten hs l (rw now at agrees) (λ y. y has_durable.it has_durable.there has_durable.holds)) calm (quiet_nothing t) all_close)
          where
            now : view_of t tb ≡ alone.committing hs
            now = view_now ∙ ap (λ n. look n hs) five

            w : Seen t ps after log out on_forget
            w = each_own t p ps after log roomy_after finished_places at_after (is_finished b) is_open_lem

      -- ── it goes on ────────────────────────────────────────────────────────────────────────────────────────────

      module _ (b : over ≡ false) where
        seen : Seen t ps after log (look (state_at p tb) (map (done_for r) hs)) (λ k. k)
        seen = each_other t ps after log (look (state_at p tb) (map (done_for r) hs)) roomy_after finished_places view_then (not_finished b)

        goes_on : state_at p tb ≡ transaction.committing → M (view_of t tb) Result
        goes_on five = rw (view_now ∙ ap (λ n. look n hs) five, seen.view ∙ ap (λ n. look n (map (done_for r) hs)) five)
            (told_on (seen.tale l) calm (quiet_nothing t).no_aborted
            (λ q w. by_either (λ v. inl (record { it = done_for r w.it; there = in_map (done_for r) w.there; holds = v })) (λ e. inr (inr (ap Note.reenlisted (sym e)))) (done_waits r q w.it w.holds))
            (λ w. record { it = done_for r w.it; there = in_map (done_for r) w.there; holds = (told.done_key r w.it).kind ∙ w.holds })
            (λ no_durable e m d. let c : Some (λ w. done_for r w ≡ e) hs = of_map (done_for r) hs m in no_durable c.it c.there (sym (told.done_key r c.it).kind ∙ ap (λ (w : Enlistment). w.kind) c.holds ∙ d))
            (λ n w. record { it = done_for r w.it; there = in_map (done_for r) w.there; holds = (told.done_key r w.it).number ∙ w.holds }))

        -- before the decision, and after an abort, none is in Failed-to-notify
        unmoved : (state_at p tb ≡ transaction.committing → ⊥) → map (done_for r) hs ≡ hs
        unmoved n = map_same (done_for r) hs (λ e m. by_test (is_durable_of r e && is_in enlistment.failed_to_notify e)
            (λ c. absurd (n (of_commit (state_at p tb) e (row (s.states p (live tb s t p at)) m) (inr (eqb-true e.state enlistment.failed_to_notify (true_and (is_durable_of r e) (is_in enlistment.failed_to_notify e) c).1)))))
            (λ c. rw c refl))

        stands_still : (state_at p tb ≡ transaction.committing → ⊥) → M (view_of t tb) Result
        stands_still n = stays (look (state_at p tb) (map (done_for r) hs)) (view_now ∙ ap (look (state_at p tb)) (sym (unmoved n))) seen

      lives : M (view_of t tb) Result
      lives = by_test over ends (λ b. by_test (eqb (state_at p tb) transaction.committing) (λ c. goes_on b (eqb-true (state_at p tb) transaction.committing c)) (λ c. stands_still b (eqb-false (state_at p tb) transaction.committing c)))

    pub reenlisted_move : Agrees (view_of t tb) l → M (view_of t tb) Result
    reenlisted_move a = by_test (eqb (place_named t tb) 0)
        (λ e. dead (none_absent t tb (eqb-true (place_named t tb) 0 e)))
        (λ e. lives (place_named t tb) (stands_sound tb s t (place_named t tb) (named_found t tb (eqb-false (place_named t tb) 0 e))) a)
