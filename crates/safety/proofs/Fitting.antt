-- What is written to the log of a sound table fits: it can be read back. The open transactions that the log tells are those that the
-- table shows in Committing with a durable enlistment, each at a place of its own, so that they are no more than the places.
use Prim.Native.Nat.{ℕ, ◌+◌, ◌*◌, ◌≤◌, ◌<◌}
use native.Mathlib.Omega.{arith}
use mathlib.Core.Path.{◌≡◌, refl, sym, ◌∙◌, ap}
use mathlib.Core.Logic.{inl, inr}
use mathlib.Core.Bool.{true, false, not, false≢true}
use mathlib.Core.List.Memᴰ
use mathlib.Core.List.{List, [], ◌∷◌, ◌++◌, map}
use lib.ListN.{length, length-map, length-append}
use lib.Dec.{eqb, ltb}
use borrow.Author.Tests.{ne_eqb, lt-ltb, ltb-true, ltb-false}
use Rattle.lists.specs.Lists.{any, filter}
use Rattle.lists.specs.Members.{◌∈◌, Each, Some, Apart, nothing, more}
use Rattle.lists.specs.Places.{places_where}
use Rattle.lists.proofs.Tests.{by_test, by_either, no_clash, is_false, each_rest, in_filter, of_filter, in_map, of_map, any_some, some_any, count_filter, length_filter, each_none, apart_differ, in_one}
use Rattle.lists.proofs.Places.{at_member, in_places, length_places}
use Rattle.lists.proofs.Sorting.{Sorted, sorted_more}
use Rattle.lists.proofs.Apart.{apart_head, apart_rest, apart_both, apart_map, no_more}
use Rattle.rules.specs.declared.Enlistment.{Enlistment}
use Rattle.rules.specs.declared.Table.{Table}
use Rattle.rules.specs.TransactionState as transaction
use Rattle.rules.specs.Sizes.{record_size, transaction_places, enlistment_places}
use Rattle.rules.specs.Identifiers.{Id, is_zero}
use Rattle.rules.specs.Table.{no_transaction, is_live, is_named, place_named, transaction_at, state_at, held}
use Rattle.rules.specs.Sound.{Sound, Durable, is_open, open_places, open_count}
use Rattle.rules.specs.Log.{Entry, Record, all_bytes}
use Rattle.rules.specs.Restart.{Open, is_open_as, open_after, is_fitting, all_fitting, entries_open, ascend_from, same_entry_manager}
use Rattle.rules.specs.Signals.{by_number}
use Rattle.rules.specs.Events.{entry_of}
use Rattle.rules.proofs.Identifiers.{same_refl, same_equal, equal_same, identifier_nonzero}
use Rattle.rules.proofs.Frames.{of_held, named_is, named_found, named_place, not_zero, Stands}
use Rattle.safety.specs.World.{owner_of, used_part}
use Rattle.safety.proofs.Alone.{Story, none, open_with, closed, bad, View, out, early, voting, single, committing, aborting, NoDurable, Entered, durable_any}
use Rattle.safety.proofs.Top.{Agrees}
use Rattle.safety.proofs.Story.{mine, Tells}
use Rattle.safety.proofs.View.{view_of, state_none, Shows, shows_committing}
use Rattle.safety.proofs.Given.{stands_sound, owner_held}
use Rattle.safety.proofs.Open.{Fit, FitCommit, of_entries}
use Rattle.rules.proofs.Kept.{true_live}
use Rattle.rules.proofs.Put.{member_held}
use Rattle.rules.proofs.Records.{Valid}

-- ── what is ready for a record ──────────────────────────────────────────────────────────────────────────────────

pub record AllPlaces (tb : Table) : Type 0 where
  pub transactions_many : length tb.transactions ≡ transaction_places
  pub enlistments_many : length tb.enlistments ≡ enlistment_places

-- a sound table, and the open transactions that its log tells
pub record Ready (tb : Table) (log : List ℕ) (os : List Open) : Type 0 where
  pub sound : Sound tb
  pub storied : Id → Story
  pub tells : (u : Id) → Tells u (storied u) os
  pub agrees : (u : Id) → Agrees (view_of u tb) (storied u)
  pub fine : (u : Id) → storied u ≡ bad → ⊥
  pub fit : Fit os
  pub places : AllPlaces tb
  pub room : tb.used + record_size * length os ≤ length log

-- the records fit, and there is room for the forget records of those that are open then
pub record Judged (tb : Table) (log : List ℕ) (used : ℕ) (rs : List Record) : Type 0 where
  pub judged : (os : List Open) → Ready tb log os → (all_fitting os rs ≡ true) × (used + record_size * length (open_after os rs) ≤ length log)

-- what an event has written
pub record Written (tb : Table) (log : List ℕ) (tb' : Table) (log' : List ℕ) : Type 0 where
  pub records : List Record
  pub valid : Each Valid records
  pub bytes : used_part tb' log' ≡ used_part tb log ++ all_bytes records
  pub judged : Judged tb log tb'.used records

pub judged_nothing : (tb : Table) (log : List ℕ) (used : ℕ) → used ≡ tb.used → Judged tb log used []
unfolding all_fitting open_after
judged_nothing tb log used e = record { judged = λ os r. (refl, rw e r.room) }

-- ── who is open is in Committing ────────────────────────────────────────────────────────────────────────────────

pub record OpenAt (o : Open) (tb : Table) : Type 0 where
  pub state : state_at (place_named o.id tb) tb ≡ transaction.committing
  pub durable : Some Durable (held (place_named o.id tb) tb)
  pub entered : Entered o.entries (held (place_named o.id tb) tb)

pub mine_none : (u : Id) (os : List Open) → mine u os ≡ [] → any (is_open_as u) os ≡ false
unfolding mine
mine_none u os e = is_false (any (is_open_as u) os) (λ q. let s : Some (λ o. is_open_as u o ≡ true) os = any_some (is_open_as u) os q in Memᴰ.not-nil (rw e at (in_filter (is_open_as u) os s.there s.holds)))

mine_some : (u : Id) (os : List Open) (o : Open) → mine u os ≡ o ∷ [] → any (is_open_as u) os ≡ true
unfolding mine
mine_some u os o e = let w : (o ∈ os) × (is_open_as u o ≡ true) = of_filter (is_open_as u) os (rw e (Memᴰ.head refl)) in some_any (is_open_as u) os (record { it = o; there = w.0; holds = w.1 })

-- a transaction in Committing with a durable enlistment is open in the log
pub told_open : (tb : Table) (log : List ℕ) (os : List Open) → Ready tb log os → (t : Id) (es : List Enlistment) → view_of t tb ≡ committing es → (NoDurable es → ⊥) → any (is_open_as t) os ≡ true
told_open tb log os r t es shows durable = go (r.storied t) (rw shows at (r.agrees t)) (r.tells t)
  where
    go : (s : Story) → Agrees (committing es) s → Tells t s os → any (is_open_as t) os ≡ true
    go s (inl (rs, q, y, n)) h = let w : Tells t (open_with rs) os = rw q at h in mine_some t os w.0 w.1
    go s (inr (q, y)) h = absurd (durable y)

-- a story that is open is that of a transaction in Committing
abbrev pub Shown : List Entry → View → Type 0
Shown rs v = Shows (λ es. Some Durable es × Entered rs es) v

shown : (rs : List Entry) (v : View) (s : Story) → s ≡ open_with rs → Agrees v s → Shown rs v
shown rs out s e a = absurd (a rs e)
shown rs (early es) s e a = let z : ◌≡◌ {A = ℕ} 0 1 = cc in absurd (omega arith)
shown rs (voting es) s e a = let z : ◌≡◌ {A = ℕ} 0 1 = cc in absurd (omega arith)
shown rs (single es) s e a = let z : ◌≡◌ {A = ℕ} 0 1 = cc in absurd (omega arith)
shown rs (committing es) s e (inl (qs, q, d, n)) = record { es = es; is = refl; holds = (d, rw (same qs q) at n) }
  where
    same : (qs : List Entry) → s ≡ open_with qs → qs ≡ rs
    same qs q = cc
shown rs (committing es) s e (inr (q, n)) = let z : ◌≡◌ {A = ℕ} 0 1 = cc in absurd (omega arith)
shown rs aborting s e a = let z : ◌≡◌ {A = ℕ} 0 1 = cc in absurd (omega arith)

pub open_shown : (o : Open) (T : Table) → Shown o.entries (view_of o.id T) → OpenAt o T
open_shown o T w = let (q, (d, e)) = shows_committing (λ es. Some Durable es × Entered o.entries es) o.id T w in record { state = q; durable = d; entered = e }

module _ (tb : Table) (log : List ℕ) (os : List Open) (r : Ready tb log os) where
  -- of an open transaction the log tells its record
  story_open : (o : Open) → o ∈ os → r.storied o.id ≡ open_with o.entries
  unfolding mine
  story_open o m = go (r.storied o.id) refl (r.tells o.id)
    where
      own : o ∈ filter (is_open_as o.id) os
      own = in_filter (is_open_as o.id) os m (same_refl o.id)

      go : (s : Story) → r.storied o.id ≡ s → Tells o.id s os → r.storied o.id ≡ open_with o.entries
      go none e h = absurd (Memᴰ.not-nil (rw h at own))
      go (open_with rs) e (q, h, w, n) = e ∙ ap open_with (sym w ∙ ap (λ (x : Open). x.entries) (sym (in_one (rw h at own))))
      go closed e h = absurd (Memᴰ.not-nil (rw h at own))
      go bad e h = absurd (r.fine o.id e)

  -- so that it is in Committing, and its numbers are held
  pub shown_open : (o : Open) → o ∈ os → Shown o.entries (view_of o.id tb)
  shown_open o m = shown o.entries (view_of o.id tb) (r.storied o.id) (story_open o m) (r.agrees o.id)

  open_at : (o : Open) → o ∈ os → OpenAt o tb
  open_at o m = open_shown o tb (shown_open o m)

-- ── each open one at a place of its own ─────────────────────────────────────────────────────────────────────────

module _ (T : Table) where
  placed : (o : Open) → OpenAt o T → is_named o.id (transaction_at (place_named o.id T) T) ≡ true
  placed o w = named_found o.id T (λ z. omega (arith, w.state, ap (λ q. state_at q T) z, state_none T))

  one_name : (p : ℕ) (t u : Id) → is_named t (transaction_at p T) ≡ true → is_named u (transaction_at p T) ≡ true → t ≡ u
  one_name p t u a b = sym (named_is t (transaction_at p T) a).1 ∙ (named_is u (transaction_at p T) b).1

  abbrev places_of : List Open → List ℕ
  places_of os = map (λ o. place_named o.id T) os

  places_apart : (os : List Open) → Apart (λ o q. o.id ≡ q.id) os → Each (λ o. OpenAt o T) os → Apart (λ p q. p ≡ q) (places_of os)
  places_apart [] a h = nothing
  places_apart (o ∷ os) a h = more (λ p m e. go p (of_map (λ o. place_named o.id T) os m) e) (places_apart os (apart_rest a) (each_rest h))
    where
      go : (p : ℕ) → Some (λ q. place_named q.id T ≡ p) os → place_named o.id T ≡ p → ⊥
      go p s e = apart_head a s.it s.there (one_name p o.id s.it.id (ap (λ q. is_named o.id (transaction_at q T)) (sym e) ∙ placed o (h o (Memᴰ.head refl))) (ap (λ q. is_named s.it.id (transaction_at q T)) (sym s.holds) ∙ placed s.it (h s.it (Memᴰ.tail s.there))))

  is_open_lem : (o : Open) → OpenAt o T → is_open (state_at (place_named o.id T) T) (held (place_named o.id T) T) ≡ true
  is_open_lem o w = rw (w.state, durable_any (held (place_named o.id T) T) w.durable) refl

  pub open_count_lem : (os : List Open) → Apart (λ o q. o.id ≡ q.id) os → Each (λ o. OpenAt o T) os → length os ≤ open_count T
  unfolding open_places
  open_count_lem os a h = rw (sym (length-map os (λ o. place_named o.id T))) (no_more (places_of os) (open_places T) (places_apart os a h) (λ p m. go p (of_map (λ o. place_named o.id T) os m)))
    where
      go : (p : ℕ) → Some (λ q. place_named q.id T ≡ p) os → p ∈ open_places T
      go p s = rw (← s.holds) (in_places (λ q x. is_open x.state (held q T)) no_transaction T.transactions (named_place s.it.id (place_named s.it.id T) T (placed s.it (h s.it s.there))) (is_open_lem s.it (h s.it s.there)))

  -- and one more that is live, and not in Committing
  open_and_one : (t : Id) (p : ℕ) (os : List Open) → is_named t (transaction_at p T) ≡ true → (state_at p T ≡ transaction.committing → ⊥) → Apart (λ o q. o.id ≡ q.id) os → Each (λ o. OpenAt o T) os → length os + 1 ≤ length T.transactions
  open_and_one t p os l n a h = omega (arith, most, length-map os (λ o. place_named o.id T), no_more (p ∷ places_of os) live (more (λ q m e. other q (of_map (λ o. place_named o.id T) os m) e) (places_apart os a h)) in_live)
    where
      live : List ℕ
      live = places_where (λ q x. is_live x) T.transactions

      most : length live ≤ length T.transactions
      most = rw (length_places is_live 1 T.transactions, count_filter is_live T.transactions) (length_filter is_live T.transactions)

      other : (q : ℕ) → Some (λ o. place_named o.id T ≡ q) os → p ≡ q → ⊥
      other q s e = n (ap (λ k. state_at k T) (e ∙ sym s.holds) ∙ (h s.it s.there).state)

      live_place : (u : Id) (q : ℕ) → is_named u (transaction_at q T) ≡ true → q ∈ live
      live_place u q m = in_places (λ q x. is_live x) no_transaction T.transactions (named_place u q T m) (named_is u (transaction_at q T) m).0

      in_live : (q : ℕ) → q ∈ p ∷ places_of os → q ∈ live
      in_live q m = by_either (λ e. rw e (live_place t p l)) (λ i. go (of_map (λ o. place_named o.id T) os i)) (Memᴰ.cases_cons m)
        where
          go : Some (λ o. place_named o.id T ≡ q) os → q ∈ live
          go s = rw (← s.holds) (live_place s.it.id (place_named s.it.id T) (placed s.it (h s.it s.there)))

pub live_nonzero : (tb : Table) → Sound tb → (t : Id) (p : ℕ) → Stands t p tb → is_zero t ≡ false
live_nonzero tb s t p at = identifier_nonzero t (rw (named_is t (transaction_at p tb) at.here).1 at (s.transaction_identifiers (transaction_at p tb) (at_member no_transaction tb.transactions (named_place t p tb at.here)) (true_live (transaction_at p tb) (named_is t (transaction_at p tb) at.here).0)))

-- ── a commit record fits ────────────────────────────────────────────────────────────────────────────────────────

sorted_rest : {x : Enlistment} {ds : List Enlistment} → Sorted by_number (x ∷ ds) → Sorted by_number ds
sorted_rest (sorted_more h s) = s

sorted_head : {x : Enlistment} {ds : List Enlistment} → Sorted by_number (x ∷ ds) → Each (λ y. by_number y x ≡ false) ds
sorted_head (sorted_more h s) = h

ascends : (n : ℕ) (ds : List Enlistment) → Sorted by_number ds → Apart (λ x y. x.number ≡ y.number) ds → Each (λ x. n < x.number) ds → ascend_from n (map entry_of ds) ≡ true
unfolding ascend_from
ascends n [] s a h = refl
ascends n (x ∷ ds) s a h = rw (lt-ltb n x.number (h x (Memᴰ.head refl))) (ascends x.number ds (sorted_rest s) (apart_rest a) (λ y m. by_test (ltb x.number y.number)
    (λ t. ltb-true x.number y.number t)
    (λ t. absurd (apart_head a y m (omega (arith, ltb-false x.number y.number t, ltb-false y.number x.number (sorted_head s y m)))))))

module _ (tb : Table) (log : List ℕ) (os : List Open) (r : Ready tb log os) (t : Id) (p : ℕ) (at : Stands t p tb) (undecided : state_at p tb ≡ transaction.committing → ⊥) (closed_to : any (is_open_as t) os ≡ false)
    (ds : List Enlistment) (came : Each (λ x. Some (λ y. (x.rm.0 ≡ y.rm.0) × (x.number ≡ y.number)) (held p tb)) ds)
    (sorted : Sorted by_number ds) (numbers : Apart (λ x y. x.number ≡ y.number) ds) (managers : Apart (λ x y. x.rm.0 ≡ y.rm.0) ds) where
  -- its numbers are its own
  own_number : {x : Enlistment} → x ∈ ds → (x.number ≡ 0 → ⊥) × (owner_of x.number tb ≡ t)
  own_number {x} m = rw (came x m).holds.1 (owner_held tb r.sound t p at (came x m).there)

  -- those of the open ones are theirs
  open_number : (o : Open) → o ∈ os → (d : Entry) → d ∈ o.entries → (owner_of d.number tb ≡ o.id) × (Some (λ y. y.number ≡ d.number) tb.enlistments)
  open_number o m d i = let w : Some (λ y. y.number ≡ d.number) (held (place_named o.id tb) tb) = (open_at tb log os r o m).entered d i in (
    rw w.holds at (owner_held tb r.sound o.id (place_named o.id tb) (stands_sound tb r.sound o.id (place_named o.id tb) (placed tb o (open_at tb log os r o m))) w.there).1,
    record { it = w.it; there = (of_held (place_named o.id tb) tb w.there).0; holds = w.holds },
  )

  not_own : (o : Open) → o ∈ os → o.id ≡ t → ⊥
  not_own o m e = absurd (no_clash (any (is_open_as t) os) (some_any (is_open_as t) os (record { it = o; there = m; holds = equal_same o.id t e })) closed_to)

  new_numbers : (d : Entry) (x : Enlistment) → d ∈ entries_open os → x ∈ ds → d.number ≡ x.number → ⊥
  new_numbers d x m i e = let w : Some (λ o. d ∈ o.entries) os = of_entries os m in
      not_own w.it w.there (sym (open_number w.it w.there d w.holds).0 ∙ ap (λ n. owner_of n tb) e ∙ (own_number i).1)

  abbrev all_numbers : List ℕ
  all_numbers = map (λ (d : Entry). d.number) (entries_open os) ++ map (λ (x : Enlistment). x.number) ds

  numbers_all_apart : Apart (λ p q. p ≡ q) all_numbers
  numbers_all_apart = apart_both (map (λ (d : Entry). d.number) (entries_open os)) (map (λ (x : Enlistment). x.number) ds)
      (apart_map (λ (d : Entry). d.number) (entries_open os) r.fit.numbers_apart) (apart_map (λ (x : Enlistment). x.number) ds numbers)
      (λ a b m i e. go a b (of_map (λ (d : Entry). d.number) (entries_open os) m) (of_map (λ (x : Enlistment). x.number) ds i) e)
    where
      go : (a b : ℕ) → Some (λ (d : Entry). d.number ≡ a) (entries_open os) → Some (λ (x : Enlistment). x.number ≡ b) ds → a ≡ b → ⊥
      go a b d x e = new_numbers d.it x.it d.there x.there (d.holds ∙ e ∙ sym x.holds)

  numbers_held : Each (λ n. n ∈ map (λ (x : Enlistment). x.number) tb.enlistments) all_numbers
  numbers_held n m = by_either (λ i. one (of_map (λ (d : Entry). d.number) (entries_open os) i)) (λ i. two (of_map (λ (x : Enlistment). x.number) ds i)) (Memᴰ.append_cases (map (λ (d : Entry). d.number) (entries_open os)) m)
    where
      one : Some (λ (d : Entry). d.number ≡ n) (entries_open os) → n ∈ map (λ (x : Enlistment). x.number) tb.enlistments
      one d = let w : Some (λ o. d.it ∈ o.entries) os = of_entries os d.there in
          let y : Some (λ y. y.number ≡ d.it.number) tb.enlistments = (open_number w.it w.there d.it w.holds).1 in
          Memᴰ.cast (sym (y.holds ∙ d.holds)) (in_map (λ (x : Enlistment). x.number) y.there)

      two : Some (λ (x : Enlistment). x.number ≡ n) ds → n ∈ map (λ (x : Enlistment). x.number) tb.enlistments
      two x = let y : Some (λ y. (x.it.rm.0 ≡ y.rm.0) × (x.it.number ≡ y.number)) (held p tb) = came x.it x.there in
          Memᴰ.cast (sym (sym y.holds.1 ∙ x.holds)) (in_map (λ (x : Enlistment). x.number) (of_held p tb y.there).0)

  pub commit_fit : FitCommit os t (map entry_of ds)
  commit_fit = record {
    nonzero = live_nonzero tb r.sound t p at;
    managers = each_none (λ e. is_zero e.rm) (map entry_of ds) (λ e m. manager e (of_map entry_of ds m));
    not_open = closed_to;
    ascending = ascends 0 ds sorted numbers (λ x m. let z : x.number ≡ 0 → ⊥ = (own_number m).0 in omega (arith, z));
    numbers_new = each_none (λ e. any (λ d. eqb d.number e.number) (entries_open os)) (map entry_of ds) (λ e m. each_none (λ d. eqb d.number e.number) (entries_open os) (λ d i. fresh e d (of_map entry_of ds m) i));
    managers_differ = apart_differ same_entry_manager (λ x y e. sym (same_equal y.rm x.rm e)) (map entry_of ds) (apart_map entry_of ds managers);
    few = rw r.places.transactions_many at (open_and_one tb t p os at.here undecided r.fit.ids_apart (λ o m. open_at tb log os r o m));
    few_entries = omega (arith, no_more all_numbers (map (λ (x : Enlistment). x.number) tb.enlistments) numbers_all_apart numbers_held, length-append (map (λ (d : Entry). d.number) (entries_open os)) (map (λ (x : Enlistment). x.number) ds), length-map (entries_open os) (λ (d : Entry). d.number), length-map ds (λ (x : Enlistment). x.number), length-map tb.enlistments (λ (x : Enlistment). x.number), r.places.enlistments_many, length-map ds entry_of);
  }
    where
      manager : (e : Entry) → Some (λ x. entry_of x ≡ e) ds → is_zero e.rm ≡ false
      manager e s = let y : Some (λ y. (s.it.rm.0 ≡ y.rm.0) × (s.it.number ≡ y.number)) (held p tb) = came s.it s.there in
          ap is_zero (sym (ap (λ (e : Entry). e.rm) s.holds) ∙ y.holds.0) ∙ identifier_nonzero y.it.rm.0 (r.sound.manager_identifiers y.it (of_held p tb y.there).0 (member_held p tb (not_zero (named_place t p tb at.here)) y.there))

      fresh : (e d : Entry) → Some (λ x. entry_of x ≡ e) ds → d ∈ entries_open os → eqb d.number e.number ≡ false
      fresh e d s i = ne_eqb d.number e.number (λ c. new_numbers d s.it i s.there (c ∙ sym (ap (λ (e : Entry). e.number) s.holds)))

-- ── a forget record fits ────────────────────────────────────────────────────────────────────────────────────────

pub one_forgotten : (t : Id) (os : List Open) → any (is_open_as t) os ≡ true → length (filter (λ o. not (is_open_as t o)) os) < length os
unfolding any filter
one_forgotten t [] e = absurd (false≢true e)
one_forgotten t (o ∷ os) e = by_test (is_open_as t o)
    (λ b. rw b (omega (arith, length_filter (λ o. not (is_open_as t o)) os)))
    (λ b. let ih : length (filter (λ o. not (is_open_as t o)) os) < length os = one_forgotten t os (rw b at e) in rw b (omega (arith, ih)))

pub forget_fit : (t : Id) (os : List Open) → is_zero t ≡ false → any (is_open_as t) os ≡ true → is_fitting os (Record.forget t) ≡ true
unfolding is_fitting
forget_fit t os z o = rw (z, o) refl
