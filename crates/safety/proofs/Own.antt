-- An event changes the state of one transaction and of what it holds: so it is a move of that one, and leaves every other one alone, of which neither place nor
-- record changes. Here of the parts that the events share: abort, decide, the end, start of phase one.
use Prim.Native.Nat.{ℕ, ◌+◌, ◌*◌, ◌-◌, ◌≤◌}
use native.Mathlib.Omega.{arith}
use mathlib.Core.Path.{◌≡◌, refl, sym, ◌∙◌, ap, ap₂}
use mathlib.Core.Logic.{◌⊎◌, inl, inr}
use mathlib.Core.Bool.{true, false, ◌&&◌}
use mathlib.Core.List.Memᴰ
use mathlib.Core.List.{List, [], ◌∷◌, ◌++◌, map, append-nil}
use lib.ListN.{length, take, length-append, length-map}
use lib.Dec.{eqb}
use borrow.Author.Tests.{eqb-true, eqb-false, eq-eqb, ne_eqb, ltb-false, not-true, not-false}
use Rattle.lists.specs.Members.{◌∈◌, Each, Some}
use Rattle.lists.specs.Lists.{all, any, none, filter}
use Rattle.lists.specs.Sorting.{insert_by, sort_by}
use Rattle.lists.proofs.Tests.{by_cases, by_either, no_clash, true_and, in_filter, of_filter, length_filter, in_map, of_map, all_each, some_any, none_each, each_nothing, each_map, each_both, each_one, in_one, member_some}
use Rattle.lists.proofs.Sorting.{in_sort, of_sort, length_sort}
use Rattle.lists.proofs.Apart.{apart_filter, apart_sort}
use Rattle.rules.specs.declared.Enlistment.{Enlistment}
use Rattle.rules.specs.declared.Table.{Table}
use Rattle.rules.specs.declared.Event.{Event}
use Rattle.rules.specs.declared.Signal.{Signal}
use Rattle.rules.specs.declared.Name.TheVariants as name
use Rattle.rules.specs.Kinds as kind
use Rattle.rules.specs.TransactionState as transaction
use Rattle.rules.specs.EnlistmentState as enlistment
use Rattle.rules.specs.Sizes.{identifier_size, largest_number, record_size}
use Rattle.rules.specs.Identifiers.{Id, same_bytes}
use Rattle.rules.specs.Table.{transaction_at, state_at, id_at, held, is_durable, is_marked, is_in, is_done, in_state, change_held, go_to, emptied, use_more}
use Rattle.rules.specs.Sound.{open_count, Durable, Live}
use Rattle.rules.specs.Log.{Entry, Record, record_bytes, entries_bytes, all_bytes, commit_size, forget_size, written}
use Rattle.rules.specs.Restart.{Open, is_open_as, after_record, open_after, all_fitting}
use Rattle.rules.specs.Signals.{by_number, signal, to_each, to_app, Committed}
use Rattle.rules.specs.Events.{Outcome, quietly, saying, append, end_of, end_if_done, hears_abort, aborted_of, abort_of, entry_of, commit_record, lacks_room, committed_of, commit_signals, committing, end_committed, decide_of, start_phase_one}
use Rattle.rules.proofs.Identifiers.{same_refl, equal_same, other_not_same}
use Rattle.rules.proofs.Records.{ValidEntry, Valid, valid_commit, valid_forget, entries_length}
use Rattle.rules.proofs.Frames.{held_came, held_own, named_is, written_used, Stands, stands_goes, state_goes}
use Rattle.rules.proofs.Parts.{used_emptied, closed_end, aborts, used_moved}
use Rattle.rules.proofs.Ordered.{by_number_ascends}
use Rattle.safety.specs.World.{Note, note_of, message_of, subject_of}
use Rattle.safety.specs.Host.{Prepares, Closes, careful, Makes}
use Rattle.safety.proofs.Alone as alone
use Rattle.safety.proofs.Alone.{Story, early, voting, aborting, Hopes, Waits, Is, Unasked, Preparing, NoDurable, managers_of, Entered, New, out, none_durable, any_durable, waits_undone}
use Rattle.safety.proofs.Move.{Calm, NotEnlisted, VoteOf, Doomed, from_voting, from_aborting, to_out, to_aborting, Move, prepare, ask_one, commit_empty, decide_logged, decide_unlogged, decide_empty, abort, told_on, end_logged, end_unlogged}
use Rattle.safety.proofs.Top.{Agrees}
use Rattle.safety.proofs.Story.{next, story, mine, Tells, forgotten}
use Rattle.safety.proofs.View.{view_of, look, view_stands, view_goes, goes_other, view_ends, ends_other, view_more, stands_held}
use Rattle.safety.proofs.Open.{FitCommit, fits_commit}
use Rattle.safety.proofs.Fitting.{Ready, Judged, judged_nothing, mine_none, told_open, open_shown, shown_open, open_count_lem, commit_fit, live_nonzero, forget_fit, one_forgotten, Written}
use Rattle.safety.proofs.Messages.{not_committed, not_aborted, Only, only_nothing, only_one, only_each, Addressed, Owned, owned_about, addressed_nothing, addressed_one, addressed_each, none_committed, none_aborted, quiet}
use Rattle.rules.proofs.Phases.{committed_key, commits, goes_to}
use Rattle.rules.specs.declared.Name.{Name}
use Rattle.rules.proofs.Kept.{Kept, true_live, live_some}
use Rattle.safety.proofs.Given.{held_sized, numbers_apart, managers_apart}

-- ── what is shown of an outcome ─────────────────────────────────────────────────────────────────────────────────

pub record Own (tb : Table) (e : Event) (log : List ℕ) (t : Id) (o : Outcome) : Type 0 where
  pub wrote : Written tb log o.table o.log
  pub other_story : (u : Id) → (u ≡ t → ⊥) → (s : Story) → story u s wrote.records ≡ s
  pub other_view : (u : Id) → (u ≡ t → ⊥) → view_of u o.table ≡ view_of u tb
  pub addressed : Addressed tb e o.signals
  pub move : (h : List Note) → Makes careful h e → (l : Story) → Agrees (view_of t tb) l
      → Move t h (note_of tb e) (map (message_of tb e) o.signals) l (story t l wrote.records) (view_of t tb) (view_of t o.table)

-- an outcome that writes nothing
pub unwritten : (tb : Table) (e : Event) (log : List ℕ) (t : Id) (tb₂ : Table) (ss : List Signal) → Addressed tb e ss → tb₂.used ≡ tb.used → ((u : Id) → (u ≡ t → ⊥) → view_of u tb₂ ≡ view_of u tb)
    → ((h : List Note) → Makes careful h e → (l : Story) → Agrees (view_of t tb) l → Move t h (note_of tb e) (map (message_of tb e) ss) l l (view_of t tb) (view_of t tb₂))
    → Own tb e log t (record { table = tb₂; log = log; signals = ss })
unfolding story all_bytes
unwritten tb e log t tb₂ ss addressed same_used others move = record {
  wrote = record { records = []; valid = each_nothing Valid; bytes = rw same_used (sym (append-nil (take tb.used log))); judged = judged_nothing tb log tb₂.used same_used };
  other_story = λ u d s. refl;
  other_view = others;
  addressed = addressed;
  move = move;
}

-- ── ends of which no record is written ──────────────────────────────────────────────────────────────────────────

unlogged_end : (p : ℕ) (tb : Table) (log : List ℕ) → (state_at p tb ≡ transaction.committing → ⊥) → end_of p tb log ≡ quietly (emptied p tb) log
unlogged_end p tb log n = closed_end p tb log (rw (ne_eqb (state_at p tb) transaction.committing n) refl)

-- ── what an event does to its own transaction ───────────────────────────────────────────────────────────────────

-- the table after the event's own enlistment has changed
pub record Touched (t : Id) (p : ℕ) (tb tb₁ : Table) : Type 0 where
  pub used : tb₁.used ≡ tb.used
  pub capacity : tb₁.capacity ≡ tb.capacity
  pub before : Stands t p tb
  pub stands : Stands t p tb₁
  pub other_view : (u : Id) → (u ≡ t → ⊥) → view_of u tb₁ ≡ view_of u tb
  pub kept : Kept tb₁
  pub owned : Each (λ x. Owned tb t x.number) (held p tb₁)
  -- what is held was held
  pub came : Each (λ x. Some (λ y. (x.rm.0 ≡ y.rm.0) × (x.number ≡ y.number)) (held p tb)) (held p tb₁)

module _ (tb : Table) (e : Event) (log : List ℕ) (t : Id) (p : ℕ) (tb₁ : Table) (z : Touched t p tb tb₁) (about : subject_of tb e ≡ t) where
  abbrev hs₁ : List Enlistment
  hs₁ = held p tb₁

  abbrev Here : Outcome → Type 0
  Here = Own tb e log t

  abbrev Moves : List Signal → Table → Type 0
  Moves ss tb₂ = (h : List Note) → Makes careful h e → (l : Story) → Agrees (view_of t tb) l → Move t h (note_of tb e) (map (message_of tb e) ss) l l (view_of t tb) (view_of t tb₂)

  live : Live (transaction_at p tb₁)
  live = true_live (transaction_at p tb₁) (named_is t (transaction_at p tb₁) z.stands.here).0

  somewhere : p ≡ 0 → ⊥
  somewhere = live_some p tb₁ live

  home : Each (λ x. Owned tb (subject_of tb e) x.number) hs₁
  home x m = rw about (z.owned x m)

  pub unlogged : (tb₂ : Table) (ss : List Signal) → Addressed tb e ss → tb₂.used ≡ tb₁.used → ((u : Id) → (u ≡ t → ⊥) → view_of u tb₂ ≡ view_of u tb₁) → Moves ss tb₂
      → Own tb e log t (record { table = tb₂; log = log; signals = ss })
  unlogged tb₂ ss addressed same_used others move = unwritten tb e log t tb₂ ss addressed (same_used ∙ z.used) (λ u d. others u d ∙ z.other_view u d) move

  -- an end that says this to the application, and writes nothing
  pub own_end_saying : (a : Name) → (state_at p tb₁ ≡ transaction.committing → ⊥)
      → ((h : List Note) → Makes careful h e → (l : Story) → Agrees (view_of t tb) l → Move t h (note_of tb e) (map (message_of tb e) (to_app a)) l l (view_of t tb) out)
      → Here (saying (to_app a) (end_of p tb₁ log))
  own_end_saying a not-committing moves = rw (unlogged_end p tb₁ log not-committing) (unlogged (emptied p tb₁) (to_app a) (addressed_one tb e a 0 (inl refl)) (used_emptied p tb₁) (ends_other t p tb₁ z.stands)
      (λ h f l g. rw (view_ends t p tb₁ z.stands) (moves h f l g)))

  -- one record stands behind the used bytes
  one_written : (bs : List ℕ) {n : ℕ} → n ≡ tb₁.used → tb₁.used + length bs ≤ length log → take (n + length bs) (written n bs log) ≡ take tb.used log ++ (bs ++ [])
  one_written bs e fits = ap (λ n. take (n + length bs) (written n bs log)) e ∙ written_used tb₁.used bs log fits ∙ ap₂ (λ n l. take n log ++ l) z.used (sym (append-nil bs))

  -- ── abort ─────────────────────────────────────────────────────────────────────────────────────────────────────

  pub own_abort : Doomed t (view_of t tb) → Here (abort_of p tb₁ log)
  unfolding abort_of end_if_done
  own_abort d = rw (unlogged_end p tb₂ log (λ q. six_five (sym (state_goes t p transaction.aborting (change_held p aborted_of tb₁) (stands_held t p p aborted_of tb₁ z.stands)) ∙ q)))
      (by_cases (λ o. Here (saying ss o)) (all is_done (held p tb₂)) (quietly (emptied p tb₂) log) (quietly tb₂ log)
      (λ _. unlogged (emptied p tb₂) ss addressed (used_emptied p tb₂ ∙ used_moved p transaction.aborting aborted_of tb₁) (λ u n. ends_other t p tb₂ at u n ∙ others u n)
      (λ h f l a. rw (view_ends t p tb₂ at) (abort refl d to_out silent)))
      (λ _. unlogged tb₂ ss addressed (used_moved p transaction.aborting aborted_of tb₁) others
      (λ h f l a. rw (view_goes t p tb₁ z.stands transaction.aborting aborted_of (λ q. omega arith)) (abort refl d to_aborting silent))))
    where
      tb₂ : Table
      tb₂ = go_to p transaction.aborting (change_held p aborted_of tb₁)

      at : Stands t p tb₂
      at = stands_goes t p transaction.aborting (change_held p aborted_of tb₁) (stands_held t p p aborted_of tb₁ z.stands) (λ q. omega arith)

      six_five : ◌≡◌ {A = ℕ} transaction.aborting transaction.committing → ⊥
      six_five q = omega arith

      hs : List Enlistment
      hs = filter hears_abort hs₁

      ss : List Signal
      ss = to_each name.Abort hs ++ to_app name.AppAborted

      addressed : Addressed tb e ss
      addressed = each_both (to_each name.Abort hs) (to_app name.AppAborted) (addressed_each tb e name.Abort hs (λ x m. home x (of_filter hears_abort hs₁ m).0)) (addressed_one tb e name.AppAborted 0 (inl refl))

      others : (u : Id) → (u ≡ t → ⊥) → view_of u tb₂ ≡ view_of u tb₁
      others u n = goes_other t p tb₁ z.stands transaction.aborting aborted_of u aborts n

      silent : New t Committed (map (message_of tb e) ss) → ⊥
      silent = none_committed t tb e ss (each_both (to_each name.Abort hs) (to_app name.AppAborted) (only_each not_committed name.Abort hs refl) (only_one not_committed name.AppAborted 0 refl))

  -- ── decide ────────────────────────────────────────────────────────────────────────────────────────────────────

  -- what the vote has done
  pub record Voted (hs : List Enlistment) (x : Note) : Type 0 where
    pub calm : NotEnlisted t x
    pub preparing : (n : ℕ) (r : Id) (k : ℕ) → Some (Preparing n r k) hs → VoteOf t n r k x ⊎ Some (Preparing n r k) hs₁
    pub hopes : (r : Id) → Some (Hopes r) hs → Some (Hopes r) hs₁
    pub prepares : (r : Id) → Prepares t r x → Some (Hopes r) hs₁

  commit_waits : (r : Id) (x : Enlistment) → Hopes r x → Waits r (committed_of x)
  unfolding committed_of
  commit_waits r x h = by_cases (Waits r) (is_in enlistment.prepared x) _ _ (λ _. (h.0, h.1, inl refl)) (λ b.
      by_cases (Waits r) (is_in enlistment.prepared_lost x) (in_state enlistment.failed_to_notify x) x (λ _. (h.0, h.1, inr refl)) (λ c.
      absurd (by_either (λ q. eqb-false x.state enlistment.prepared b q) (λ q. eqb-false x.state enlistment.prepared_lost c q) h.2)))

  empty_some : (hs : List Enlistment) (P : Enlistment → Type 0) → eqb (length hs) 0 ≡ true → Some P hs → ⊥
  empty_some hs P e s = omega (arith, eqb-true (length hs) 0 e, member_some hs s.there)

  commit_not_aborted : Only not_aborted (commit_signals hs₁)
  unfolding commit_signals
  commit_not_aborted = each_both (to_each name.Commit (filter (is_in enlistment.prepared) hs₁)) (to_app name.AppCommitted)
      (only_each not_aborted name.Commit (filter (is_in enlistment.prepared) hs₁) refl) (only_one not_aborted name.AppCommitted 0 refl)

  commit_home : Addressed tb e (commit_signals hs₁)
  unfolding commit_signals
  commit_home = each_both (to_each name.Commit (filter (is_in enlistment.prepared) hs₁)) (to_app name.AppCommitted)
      (addressed_each tb e name.Commit (filter (is_in enlistment.prepared) hs₁) (λ x m. home x (of_filter (is_in enlistment.prepared) hs₁ m).0)) (addressed_one tb e name.AppCommitted 0 (inl refl))

  entries_valid : (es : List Enlistment) → Each (λ x. (length x.rm.0 ≡ identifier_size) × (x.number ≤ largest_number)) es → Each ValidEntry (map entry_of es)
  entries_valid es f = each_map entry_of ValidEntry es (λ x m. record { rm_size = (f x m).0; number_small = (f x m).1 })

  -- one name is not another
  not_same : (u : Id) → (u ≡ t → ⊥) → same_bytes t u ≡ false
  not_same u n = other_not_same t u (λ q. n (sym q))

  own_id : id_at p tb₁ ≡ t
  own_id = (named_is t (transaction_at p tb₁) z.stands.here).1

  module _ (hs : List Enlistment) (shown : view_of t tb ≡ voting hs) (id-size : length t ≡ identifier_size) (v : Voted hs (note_of tb e)) (last : any (is_in enlistment.preparing) hs₁ ≡ false) where
    all_voted : (n : ℕ) (r : Id) (k : ℕ) → Some (Preparing n r k) hs → VoteOf t n r k (note_of tb e)
    all_voted n r k h = by_either (λ y. y) (λ w. no_clash (is_in enlistment.preparing w.it) (eq-eqb w.it.state enlistment.preparing w.holds.1) (none_each (is_in enlistment.preparing) hs₁ last w.it w.there)) (v.preparing n r k h)

    hoping : (r : Id) → Some (Hopes r) hs ⊎ Prepares t r (note_of tb e) → Some (Hopes r) hs₁
    hoping r = by_either (v.hopes r) (v.prepares r)

    decide_none : (state_at p tb₁ ≡ transaction.committing → ⊥) → eqb (length hs₁) 0 ≡ true → Here (end_committed p tb₁ log)
    unfolding end_committed
    decide_none not-committing empty = own_end_saying name.AppCommitted not-committing
        (λ h f l a. rw shown (decide_empty refl v.calm (none_aborted t tb e (to_app name.AppCommitted) (only_one not_aborted name.AppCommitted 0 refl)) all_voted (λ r w. empty_some hs₁ (Hopes r) empty (hoping r w))))

    decide_volatile : any is_durable hs₁ ≡ false → Here (saying (commit_signals hs₁) (quietly (committing p tb₁) log))
    decide_volatile no_durable = unlogged (committing p tb₁) (commit_signals hs₁) commit_home (used_moved p transaction.committing committed_of tb₁) (λ u n. goes_other t p tb₁ z.stands transaction.committing committed_of u commits n)
        (λ h f l a. rw (shown, view_goes t p tb₁ z.stands transaction.committing committed_of (λ q. omega arith))
        (decide_unlogged refl v.calm (none_aborted t tb e (commit_signals hs₁) commit_not_aborted) all_voted
        (λ r w. let y : Some (Hopes r) hs₁ = hoping r w in none_durable hs₁ no_durable y.it y.there y.holds.0)
        (λ x m k. let c : Some (λ y. x ≡ committed_of y) hs₁ = held_came p committed_of tb₁ m in none_durable hs₁ no_durable c.it c.there (sym (committed_key c.it).kind ∙ sym (ap (λ (y : Enlistment). y.kind) c.holds) ∙ k))))

    module _ (d : any is_durable hs₁ ≡ true) (fits : tb₁.used + commit_size (length (filter is_durable hs₁)) + forget_size * (1 + open_count tb₁) ≤ length log) where
      ds : List Enlistment
      ds = sort_by by_number (filter is_durable hs₁)

      entries : List Entry
      entries = map entry_of ds

      durables : Some Durable hs₁
      durables = any_durable hs₁ d

      as_many : length entries ≡ length (filter is_durable hs₁)
      unfolding entries ds
      as_many = length-map ds entry_of ∙ length_sort by_number (filter is_durable hs₁)

      entries_ok : Each ValidEntry entries
      unfolding entries ds
      entries_ok = entries_valid ds (λ x m. held_sized z.kept p somewhere (of_filter is_durable hs₁ (of_sort by_number (filter is_durable hs₁) m)).0)

      ok : Valid (Record.commit t entries)
      ok = valid_commit {es = entries} id-size (rw as_many (member_some (filter is_durable hs₁) (in_filter is_durable hs₁ durables.there (eq-eqb durables.it.kind kind.durable durables.holds))))
          (rw as_many (omega (arith, length_filter is_durable hs₁, z.kept.few p live))) entries_ok

      listed : (q : Id) → Some (Hopes q) hs₁ → q ∈ managers_of entries
      unfolding entries ds
      listed q w = Memᴰ.cast (sym w.holds.1) (in_map (λ e. e.rm) (in_map entry_of (in_sort by_number (filter is_durable hs₁) (in_filter is_durable hs₁ w.there (eq-eqb w.it.kind kind.durable w.holds.0)))))

      entered : Entered entries (held p (change_held p committed_of tb₁))
      unfolding entries ds
      entered d m = go (of_map entry_of ds m)
        where
          go : Some (λ x. entry_of x ≡ d) ds → Some (λ x. x.number ≡ d.number) (held p (change_held p committed_of tb₁))
          go w = held_own (λ x. x.number ≡ d.number) (λ x. x.number ≡ d.number) p committed_of tb₁ (λ x _ q. ((committed_key x).number ∙ q, (committed_key x).holder))
              (record { it = w.it; there = (of_filter is_durable hs₁ (of_sort by_number (filter is_durable hs₁) w.there)).0; holds = ap (λ (y : Entry). y.number) w.holds })

      size : length (record_bytes (Record.commit t entries)) ≡ commit_size (length (filter is_durable hs₁))
      unfolding record_bytes
      size = rw (length-append t (entries_bytes entries), id-size, entries_length entries (λ d m. (entries_ok d m).rm_size), as_many) (omega arith)

      undecided : state_at p tb ≡ transaction.committing → ⊥
      undecided q = let c : look (state_at p tb) (held p tb) ≡ voting hs = sym (view_stands t p tb z.before) ∙ shown in never (ap (λ k. look k (held p tb)) (sym q) ∙ c)
        where
          never : alone.committing (held p tb) ≡ voting hs → ⊥
          never c = let z : ◌≡◌ {A = ℕ} 0 1 = cc in omega arith

      commit_judged : Judged tb log ((committing p tb₁).used + length (record_bytes (Record.commit t entries))) (Record.commit t entries ∷ [])
      unfolding all_fitting open_after after_record entries ds
      commit_judged = record { judged = λ os r. (rw (fits_commit os t entries (fit os r)) refl, room os r) }
        where
          closed_to : (os : List Open) → Ready tb log os → any (is_open_as t) os ≡ false
          closed_to os r = mine_none t os (go (r.storied t) (rw shown at (r.agrees t)) (r.tells t))
            where
              go : (s : Story) → s ≡ alone.none → Tells t s os → mine t os ≡ []
              go s e h = rw e at h

          fit : (os : List Open) → Ready tb log os → FitCommit os t entries
          fit os r = commit_fit tb log os r t p z.before undecided (closed_to os r) ds (λ x m. z.came x (of_filter is_durable hs₁ (of_sort by_number (filter is_durable hs₁) m)).0)
              (by_number_ascends (filter is_durable hs₁))
              (apart_sort by_number (λ x y r. sym r) (filter is_durable hs₁) (apart_filter is_durable hs₁ (numbers_apart z.kept p somewhere)))
              (apart_sort by_number (λ x y r. sym r) (filter is_durable hs₁) (managers_apart z.kept p somewhere))

          known : (os : List Open) → Ready tb log os → length os ≤ open_count tb₁
          known os r = open_count_lem tb₁ os r.fit.ids_apart (λ o m. open_shown o tb₁ (rw (z.other_view o.id (λ q. no_clash (any (is_open_as t) os) (some_any (is_open_as t) os (record { it = o; there = m; holds = equal_same o.id t q })) (closed_to os r))) (shown_open tb log os r o m)))

          room : (os : List Open) → Ready tb log os → (committing p tb₁).used + length (record_bytes (Record.commit t entries)) + record_size * length (os ++ (record { id = t; entries = entries } ∷ [])) ≤ length log
          room os r = rw (used_moved p transaction.committing committed_of tb₁, size, length-append os (record { id = t; entries = entries } ∷ [])) (omega (arith, fits, known os r))

      decide_durable : Here (saying (commit_signals hs₁) (append (commit_record (id_at p tb₁) hs₁) (committing p tb₁) log))
      unfolding append commit_record use_more story next all_bytes entries ds
      decide_durable = rw own_id (record {
        wrote = record { records = Record.commit t entries ∷ []; valid = each_one Valid ok; bytes = one_written bs (used_moved p transaction.committing committed_of tb₁) (omega (arith, size, fits)); judged = commit_judged };
        other_story = λ u n s. rw (not_same u n) refl;
        other_view = λ u n. view_more u (length bs) (committing p tb₁) ∙ goes_other t p tb₁ z.stands transaction.committing committed_of u commits n ∙ z.other_view u n;
        addressed = commit_home;
        move = λ h f l a. rw (shown, view_more t (length bs) (committing p tb₁) ∙ view_goes t p tb₁ z.stands transaction.committing committed_of (λ q. omega arith))
            (decide_logged {rs = entries} (rw (same_refl t, rw shown at a) refl) v.calm (none_aborted t tb e (commit_signals hs₁) commit_not_aborted) all_voted
            (λ q w. (held_own (Hopes q) (Waits q) p committed_of tb₁ (λ x _ y. (commit_waits q x y, (committed_key x).holder)) (hoping q w), listed q (hoping q w)))
            (held_own Durable Durable p committed_of tb₁ (λ x _ k. ((committed_key x).kind ∙ k, (committed_key x).holder)) durables)
            entered);
      })
        where
          bs : List ℕ
          bs = record_bytes (Record.commit t entries)

    roomy : length log ≡ tb₁.capacity → (n : ℕ) → lacks_room n tb₁ ≡ false → tb₁.used ≤ tb₁.capacity → tb₁.used + commit_size n + forget_size * (1 + open_count tb₁) ≤ length log
    unfolding lacks_room
    roomy full n e low = rw full (omega (arith, ltb-false (tb₁.capacity - tb₁.used) (commit_size n + forget_size * (1 + open_count tb₁)) e))

    pub own_decide : length log ≡ tb₁.capacity → tb₁.used ≤ tb₁.capacity → (state_at p tb₁ ≡ transaction.committing → ⊥) → Here (decide_of p tb₁ log)
    unfolding decide_of
    own_decide full low not-committing = by_cases Here (eqb (length hs₁) 0) _ _ (decide_none not-committing) (λ _. by_cases Here (none is_durable hs₁) _ _ (λ n. decide_volatile (not-true (any is_durable hs₁) n)) (λ d.
        by_cases Here (lacks_room (length (filter is_durable hs₁)) tb₁) _ _ (λ _. own_abort (rw shown from_voting))
        (λ r. decide_durable (not-false (any is_durable hs₁) d) (roomy full (length (filter is_durable hs₁)) r low))))

  -- ── the end ───────────────────────────────────────────────────────────────────────────────────────────────────

  -- after an abort nothing is written
  pub own_end_aborting : view_of t tb ≡ aborting → state_at p tb₁ ≡ transaction.aborting → view_of t tb₁ ≡ aborting → Here (end_if_done p tb₁ log)
  unfolding end_if_done
  own_end_aborting shown state shown-after = rw (unlogged_end p tb₁ log (λ q. omega (arith, state, q))) (by_cases Here (all is_done hs₁) (quietly (emptied p tb₁) log) (quietly tb₁ log)
      (λ _. unlogged (emptied p tb₁) [] (addressed_nothing tb e) (used_emptied p tb₁) (ends_other t p tb₁ z.stands)
      (λ h f l a. rw (shown, view_ends t p tb₁ z.stands) (abort refl from_aborting to_out (none_committed t tb e [] (only_nothing not_committed)))))
      (λ _. unlogged tb₁ [] (addressed_nothing tb e) refl (λ u n. refl) (λ h f l a. rw (shown, shown-after) (abort refl from_aborting to_aborting (none_committed t tb e [] (only_nothing not_committed))))))

  -- what an event after the decision to commit has done
  pub record Told (hs : List Enlistment) (x : Note) : Type 0 where
    pub calm : Calm t x
    pub waits : (r : Id) → Some (Waits r) hs → Some (Waits r) hs₁ ⊎ Closes t r x
    pub durable : Some Durable hs → Some Durable hs₁
    pub no_durable : NoDurable hs → NoDurable hs₁
    pub numbers : (n : ℕ) → Some (λ y. y.number ≡ n) hs → Some (λ y. y.number ≡ n) hs₁

  module _ (hs : List Enlistment) (shown : view_of t tb ≡ alone.committing hs) (state : state_at p tb₁ ≡ transaction.committing) (w : Told hs (note_of tb e)) (id-size : length t ≡ identifier_size) where
    closing : all is_done hs₁ ≡ true → (r : Id) → Some (Waits r) hs₁ ⊎ Closes t r (note_of tb e) → Closes t r (note_of tb e)
    closing all_done r (inl y) = absurd (waits_undone y.it y.holds (eqb-true y.it.state enlistment.done (all_each is_done hs₁ all_done y.it y.there)))
    closing all_done r (inr c) = c

    some_left : any is_durable hs₁ ≡ true → NoDurable hs → ⊥
    some_left d y = let s : Some Durable hs₁ = any_durable hs₁ d in w.no_durable y s.it s.there s.holds

    forget_judged : {used : ℕ} → any is_durable hs₁ ≡ true → used ≡ tb.used + forget_size → Judged tb log used (Record.forget t ∷ [])
    unfolding all_fitting open_after after_record
    forget_judged {used} d e = record { judged = λ os r. (rw (forget_fit t os (live_nonzero tb r.sound t p z.before) (opened os r)) refl, omega (arith, e, r.room, one_forgotten t os (opened os r))) }
      where
        opened : (os : List Open) → Ready tb log os → any (is_open_as t) os ≡ true
        opened os r = told_open tb log os r t hs shown (some_left d)

    end_durable : any is_durable hs₁ ≡ true → all is_done hs₁ ≡ true → tb₁.used + forget_size ≤ length log → Here (append (Record.forget (id_at p tb₁)) (emptied p tb₁) log)
    unfolding append use_more story next all_bytes record_bytes
    end_durable d all_done fits = rw own_id (record {
      wrote = record {
        records = Record.forget t ∷ [];
        valid = each_one Valid (valid_forget id-size);
        bytes = one_written bs (used_emptied p tb₁) (omega (arith, fits, size));
        judged = forget_judged d (ap (λ n. n + length bs) (used_emptied p tb₁ ∙ z.used) ∙ ap (λ n. tb.used + n) size);
      };
      other_story = λ u n s. rw (not_same u n) refl;
      other_view = λ u n. view_more u (length bs) (emptied p tb₁) ∙ ends_other t p tb₁ z.stands u n ∙ z.other_view u n;
      addressed = addressed_nothing tb e;
      move = λ h f l a. rw (same_refl t, shown, view_more t (length bs) (emptied p tb₁) ∙ view_ends t p tb₁ z.stands)
          (end_logged (forgotten hs l (rw shown at a) (some_left d)) w.calm (quiet t tb e [] (only_nothing not_committed) (only_nothing not_aborted)) (λ r y. closing all_done r (w.waits r y)));
    })
      where
        bs : List ℕ
        bs = record_bytes (Record.forget t)

        size : length bs ≡ forget_size
        size = rw id-size refl

    end_volatile : any is_durable hs₁ ≡ false → Here (quietly (emptied p tb₁) log)
    end_volatile n = unlogged (emptied p tb₁) [] (addressed_nothing tb e) (used_emptied p tb₁) (ends_other t p tb₁ z.stands)
        (λ h f l a. rw (shown, view_ends t p tb₁ z.stands) (end_unlogged refl w.calm (quiet t tb e [] (only_nothing not_committed) (only_nothing not_aborted))
        (λ x m k. let d : Some Durable hs₁ = w.durable (record { it = x; there = m; holds = k }) in none_durable hs₁ n d.it d.there d.holds)))

    end_waits : view_of t tb₁ ≡ alone.committing hs₁ → Here (quietly tb₁ log)
    end_waits shown-after = unlogged tb₁ [] (addressed_nothing tb e) refl (λ u n. refl)
        (λ h f l a. rw (shown, shown-after) (told_on refl w.calm (none_aborted t tb e [] (only_nothing not_aborted)) w.waits w.durable w.no_durable w.numbers))

    pub own_end_committing : view_of t tb₁ ≡ alone.committing hs₁ → (any is_durable hs₁ ≡ true → tb₁.used + forget_size ≤ length log) → Here (end_if_done p tb₁ log)
    unfolding end_if_done end_of
    own_end_committing shown-after fits = rw state (by_cases Here (all is_done hs₁) _ _
        (λ all_done. by_cases Here (any is_durable hs₁) _ _ (λ d. end_durable d all_done (fits d)) end_volatile)
        (λ _. end_waits shown-after))

  -- ── start of phase one ────────────────────────────────────────────────────────────────────────────────────────

  module _ (hs : List Enlistment) (shown : view_of t tb ≡ early hs) (calm : Calm t (note_of tb e)) (unasked : (n : ℕ) (r : Id) (k : ℕ) → Some (Unasked n r k) hs → Some (Unasked n r k) hs₁)
      (joined : Each (λ x. Some (Unasked x.number x.rm.0 x.kind) hs) hs₁) where
    start_none : (state_at p tb₁ ≡ transaction.committing → ⊥) → eqb (length hs₁) 0 ≡ true → Here (end_committed p tb₁ log)
    unfolding end_committed
    start_none not-committing empty = own_end_saying name.AppCommitted not-committing
        (λ h f l a. rw shown (commit_empty refl calm (none_aborted t tb e (to_app name.AppCommitted) (only_one not_aborted name.AppCommitted 0 refl)) (λ n r k w. empty_some hs₁ (Unasked n r k) empty (unasked n r k w))))

    start_one : (es : List Enlistment) → hs₁ ≡ es → eqb (length es) 1 ≡ true → Here (saying (to_each name.Single hs₁) (quietly (go_to p transaction.single_phase (change_held p (in_state enlistment.one_phase) tb₁)) log))
    unfolding message_of to_each sort_by insert_by
    start_one [] q o = absurd (omega (arith, eqb-true 0 1 o))
    start_one (x ∷ y ∷ es) q o = absurd (omega (arith, eqb-true (length (x ∷ y ∷ es)) 1 o))
    start_one (x ∷ []) q o = unlogged (go_to p transaction.single_phase (change_held p (in_state enlistment.one_phase) tb₁)) (to_each name.Single hs₁) (addressed_each tb e name.Single hs₁ home) (used_moved p transaction.single_phase (in_state enlistment.one_phase) tb₁) (λ u n. goes_other t p tb₁ z.stands transaction.single_phase (in_state enlistment.one_phase) u (goes_to enlistment.one_phase) n)
        (λ h f l a. rw (shown, view_goes t p tb₁ z.stands transaction.single_phase (in_state enlistment.one_phase) (λ q. omega arith))
        (ask_one {n₀ = x.number} {r₀ = x.rm.0} {k₀ = x.kind} refl calm (quiet t tb e (to_each name.Single hs₁) (only_each not_committed name.Single hs₁ refl) (only_each not_aborted name.Single hs₁ refl))
        (joined x here)
        (λ n r k w. same n r k (unasked n r k w))
        (λ y m. let c : Some (λ w. y ≡ in_state enlistment.one_phase w) hs₁ = held_came p (in_state enlistment.one_phase) tb₁ m in ap (λ (y : Enlistment). y.number) c.holds ∙ ap (λ (y : Enlistment). y.number) (only c.it c.there))
        (there q)))
      where
        only : (y : Enlistment) → y ∈ hs₁ → y ≡ x
        only y m = in_one (rw q at m)

        same : (n : ℕ) (r : Id) (k : ℕ) → Some (Unasked n r k) hs₁ → (n ≡ x.number) × (r ≡ x.rm.0) × (k ≡ x.kind)
        same n r k y = let i : Is n r k x = rw (only y.it y.there) at y.holds.0 in (sym i.0, sym i.1, sym i.2)

        here : x ∈ hs₁
        here = rw q (Memᴰ.head refl)

        mine : t ≡ (message_of tb e (signal name.Single x.number)).about
        mine = sym about ∙ sym (owned_about tb e name.Single x.number (home x here))

        there : hs₁ ≡ x ∷ [] → record { about = t; name = name.Single; number = x.number } ∈ map (message_of tb e) (to_each name.Single hs₁)
        there q = rw q (Memᴰ.head (λ i. record { about = mine i; name = name.Single; number = x.number }))

    start_many : Here (saying (to_each name.Prepare hs₁) (quietly (go_to p transaction.phase_one (change_held p (in_state enlistment.preparing) tb₁)) log))
    start_many = unlogged (go_to p transaction.phase_one (change_held p (in_state enlistment.preparing) tb₁)) (to_each name.Prepare hs₁) (addressed_each tb e name.Prepare hs₁ home) (used_moved p transaction.phase_one (in_state enlistment.preparing) tb₁) (λ u n. goes_other t p tb₁ z.stands transaction.phase_one (in_state enlistment.preparing) u (goes_to enlistment.preparing) n)
        (λ h f l a. rw (shown, view_goes t p tb₁ z.stands transaction.phase_one (in_state enlistment.preparing) (λ q. omega arith))
        (prepare refl calm (quiet t tb e (to_each name.Prepare hs₁) (only_each not_committed name.Prepare hs₁ refl) (only_each not_aborted name.Prepare hs₁ refl))
        (λ n r k w. held_own (Unasked n r k) (Preparing n r k) p (in_state enlistment.preparing) tb₁ (λ x _ u. ((u.0, refl), refl)) (unasked n r k w))))

    pub own_start : (state_at p tb₁ ≡ transaction.committing → ⊥) → Here (start_phase_one p tb₁ log)
    unfolding start_phase_one
    own_start not-committing = by_cases Here (eqb (length hs₁) 0) _ _ (start_none not-committing) (λ _. by_cases Here (eqb (length hs₁) 1 && all is_marked hs₁) _ _
        (λ o. start_one hs₁ refl (true_and (eqb (length hs₁) 1) (all is_marked hs₁) o).0) (λ _. start_many))
