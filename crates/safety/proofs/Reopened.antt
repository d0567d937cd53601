-- The table that a restart makes of open transactions that fit is sound: each stands at its place in the list, its entries are held at that place and at no other,
-- and names, numbers and resource managers are as the judgements have found them.
use Prim.Native.Nat.{ℕ, zero, suc, ◌+◌, ◌*◌, ◌-◌, ◌≤◌, ◌<◌}
use native.Mathlib.Omega.{arith}
use mathlib.Core.Path.{◌≡◌, refl, sym, ◌∙◌, ap, subst}
use mathlib.Core.Logic.{◌⊎◌, inl, inr}
use mathlib.Core.Bool.{Bool, false}
use mathlib.Core.List.Memᴰ
use mathlib.Core.List.{List, [], ◌∷◌, ◌++◌, map, append-nil}
use lib.ListN.{length, replicate, length-map}
use lib.Dec.{eqb}
use borrow.Author.Tests.{eqb-true, eqb-false, eq-eqb, ne_eqb}
use Rattle.lists.specs.Lists.{filter}
use Rattle.lists.specs.Members.{◌∈◌, Each, Some, Apart, nothing, more}
use Rattle.lists.specs.Places.{at_from, places_from}
use Rattle.lists.proofs.Tests.{by_test, by_either, false_not, each_head, each_rest, in_map, of_map, filter_append, filter_all, filter_none, length_filter}
use Rattle.lists.proofs.Apart.{apart_head, apart_rest, apart_both, apart_first, apart_second, apart_cross, apart_filter, apart_map}
use Rattle.rules.specs.declared.Transaction.{Transaction}
use Rattle.rules.specs.declared.Enlistment.{Enlistment}
use Rattle.rules.specs.declared.Table.{Table}
use Rattle.rules.specs.EnlistmentState as enlistment
use Rattle.rules.specs.Sizes.{held_most, header_size, record_size, largest_capacity, transaction_places, enlistment_places}
use Rattle.rules.specs.Table.{no_transaction, no_enlistment, is_live, transaction_at, state_at, is_held, held_by, held, is_durable}
use Rattle.rules.specs.Sound.{Sound, HoldsWell, In, Durable, Live, Held, is_open, open_places, open_count, committing, Identifier, SameNumber, SameManager}
use Rattle.rules.specs.Log.{Entry}
use Rattle.rules.specs.Restart.{Open, entries_open, reopened, reenlistment, reenlistments, table_of}
use Rattle.rules.proofs.Identifiers.{nonzero_identifier}
use Rattle.rules.proofs.Frames.{of_held, in_held}
use Rattle.safety.proofs.Open.{FitEntries, Fit, in_entries}

-- ── places that are left over ───────────────────────────────────────────────────────────────────────────────────

of_replicate : {A : Type 0} (n : ℕ) (a : A) {x : A} → x ∈ replicate n a → x ≡ a
of_replicate zero a m = absurd (Memᴰ.not-nil m)
of_replicate (suc n) a m = by_either (λ e. e) (λ i. of_replicate n a i) (Memᴰ.cases_cons m)

-- ── where what is reopened stands ───────────────────────────────────────────────────────────────────────────────

-- x is an entry of an open transaction, at the place of that
record StandsAt (k : ℕ) (os : List Open) (no_transactions : List Transaction) (x : Enlistment) : Type 0 where
  o : Open
  q : ℕ
  d : Entry
  is : x ≡ reenlistment q d
  open_one : o ∈ os
  entry : d ∈ o.entries
  place : at_from no_transaction k q (map reopened os ++ no_transactions) ≡ reopened o
  low : k ≤ q

of_reenlistments : (k : ℕ) (os : List Open) (no_transactions : List Transaction) {x : Enlistment} → x ∈ reenlistments k os → StandsAt k os no_transactions x
unfolding reenlistments at_from
of_reenlistments k [] no_transactions m = absurd (Memᴰ.not-nil m)
of_reenlistments k (o ∷ os) no_transactions {x} m = by_either (λ i. here (of_map (reenlistment k) o.entries i)) (λ i. there (of_reenlistments (suc k) os no_transactions i)) (Memᴰ.append_cases (map (reenlistment k) o.entries) m)
  where
    here : Some (λ d. reenlistment k d ≡ x) o.entries → StandsAt k (o ∷ os) no_transactions x
    here s = record { o = o; q = k; d = s.it; is = sym s.holds; open_one = Memᴰ.head refl; entry = s.there; place = rw (eq-eqb k k refl) refl; low = omega arith }

    there : StandsAt (suc k) os no_transactions x → StandsAt k (o ∷ os) no_transactions x
    there s = record { o = s.o; q = s.q; d = s.d; is = s.is; open_one = Memᴰ.tail s.open_one; entry = s.entry; place = rw (ne_eqb k s.q (λ e. omega (arith, e, s.low))) s.place; low = omega (arith, s.low) }

-- a live place is that of an open transaction, whose entries are enlisted there
record LiveAt (k p : ℕ) (os : List Open) (y : Transaction) : Type 0 where
  o : Open
  open_one : o ∈ os
  is : y ≡ reopened o
  entered : (d : Entry) → d ∈ o.entries → reenlistment p d ∈ reenlistments k os
  low : k ≤ p

empties : (k p m : ℕ) → at_from no_transaction k p (replicate m no_transaction) ≡ no_transaction
unfolding at_from
empties k p zero = refl
empties k p (suc m) = by_test (eqb k p) (λ e. rw e refl) (λ e. rw e (empties (suc k) p m))

live_at : (k p : ℕ) (os : List Open) (m : ℕ) (y : Transaction) → at_from no_transaction k p (map reopened os ++ replicate m no_transaction) ≡ y → Live y → LiveAt k p os y
unfolding at_from reenlistments
live_at k p [] m y q l = absurd (l (ap (λ (x : Transaction). x.state) (sym q ∙ empties k p m)))
live_at k p (o ∷ os) m y q l = by_test (eqb k p) (λ e. here (eqb-true k p e) (rw e at q)) (λ e. there (live_at (suc k) p os m y (rw e at q) l))
  where
    at_own : k ≡ p → (d : Entry) → d ∈ o.entries → reenlistment p d ∈ map (reenlistment k) o.entries
    at_own e d i = rw (← e) (in_map (reenlistment k) i)

    here : k ≡ p → reopened o ≡ y → LiveAt k p (o ∷ os) y
    here e s = record { o = o; open_one = Memᴰ.head refl; is = sym s; entered = λ d i. Memᴰ.append_left (reenlistments (suc k) os) (at_own e d i); low = omega (arith, e) }

    there : LiveAt (suc k) p os y → LiveAt k p (o ∷ os) y
    there s = record { o = s.o; open_one = Memᴰ.tail s.open_one; is = s.is; entered = λ d i. Memᴰ.append_right (map (reenlistment k) o.entries) (s.entered d i); low = omega (arith, s.low) }

few_open : (f : ℕ → Transaction → Bool) → ((q : ℕ) → f q no_transaction ≡ false) → (k : ℕ) (os : List Open) (m : ℕ) → length (places_from f k (map reopened os ++ replicate m no_transaction)) ≤ length os
unfolding places_from
few_open f n k [] zero = omega arith
few_open f n k [] (suc m) = rw (n k) (few_open f n (suc k) [] m)
few_open f n k (o ∷ os) m = let ih : length (places_from f (suc k) (map reopened os ++ replicate m no_transaction)) ≤ length os = few_open f n (suc k) os m in
    by_test (f k (reopened o)) (λ e. rw e (omega (arith, ih))) (λ e. rw e (omega (arith, ih)))

-- ── apart ───────────────────────────────────────────────────────────────────────────────────────────────────────

numbers_apart : (k : ℕ) (os : List Open) → Apart (λ (d e : Entry). d.number ≡ e.number) (entries_open os) → Apart SameNumber (reenlistments k os)
unfolding reenlistments entries_open
numbers_apart k [] a = nothing
numbers_apart k (o ∷ os) a = apart_both (map (reenlistment k) o.entries) (reenlistments (suc k) os)
    (apart_map (reenlistment k) o.entries (apart_first o.entries (entries_open os) a))
    (numbers_apart (suc k) os (apart_second o.entries (entries_open os) a))
    (λ x y m n r. go x y (of_map (reenlistment k) o.entries m) (of_reenlistments (suc k) os [] n) r)
  where
    go : (x y : Enlistment) → Some (λ d. reenlistment k d ≡ x) o.entries → StandsAt (suc k) os [] y → x.number ≡ y.number → ⊥
    go x y s w r = apart_cross o.entries (entries_open os) a s.it w.d s.there (in_entries os w.open_one w.entry) (ap (λ (e : Enlistment). e.number) s.holds ∙ r ∙ ap (λ (e : Enlistment). e.number) w.is)

managers_apart : (k : ℕ) (os : List Open) → Each (λ o. FitEntries o.entries) os → Apart SameManager (reenlistments k os)
unfolding reenlistments
managers_apart k [] f = nothing
managers_apart k (o ∷ os) f = apart_both (map (reenlistment k) o.entries) (reenlistments (suc k) os)
    (apart_map (reenlistment k) o.entries (as_managers o.entries (each_head f).managers_apart))
    (managers_apart (suc k) os (each_rest f))
    (λ x y m n r. go x y (of_map (reenlistment k) o.entries m) (of_reenlistments (suc k) os [] n) r)
  where
    as_managers : (es : List Entry) → Apart (λ d e. d.rm ≡ e.rm) es → Apart (λ d e. SameManager (reenlistment k d) (reenlistment k e)) es
    as_managers [] a = nothing
    as_managers (e ∷ es) a = more (λ d m r. apart_head a d m r.1) (as_managers es (apart_rest a))

    go : (x y : Enlistment) → Some (λ d. reenlistment k d ≡ x) o.entries → StandsAt (suc k) os [] y → SameManager x y → ⊥
    go x y s w r = let q : k ≡ w.q = ap (λ (e : Enlistment). e.holder) s.holds ∙ r.0 ∙ ap (λ (e : Enlistment). e.holder) w.is in omega (arith, q, w.low)

few_held : (p k : ℕ) (os : List Open) → Each (λ o. FitEntries o.entries) os → length (filter (held_by p) (reenlistments k os)) ≤ held_most
unfolding reenlistments filter
few_held p k [] f = omega arith
few_held p k (o ∷ os) f = rw (filter_append (held_by p) (map (reenlistment k) o.entries) (reenlistments (suc k) os)) (by_test (eqb k p)
    (λ e. rw (filter_none (held_by p) (reenlistments (suc k) os) (λ x m. ne_eqb x.holder p (λ c. later x (of_reenlistments (suc k) os [] m) (c ∙ sym (eqb-true k p e)))), append-nil (filter (held_by p) (map (reenlistment k) o.entries)))
    (omega (arith, length_filter (held_by p) (map (reenlistment k) o.entries), length-map o.entries (reenlistment k), (each_head f).few)))
    (λ e. rw (filter_none (held_by p) (map (reenlistment k) o.entries) (λ x m. ne_eqb x.holder p (λ c. eqb-false k p e (ap (λ (w : Enlistment). w.holder) (of_map (reenlistment k) o.entries m).holds ∙ c)))) (few_held p (suc k) os (each_rest f))))
  where
    later : (x : Enlistment) → StandsAt (suc k) os [] x → x.holder ≡ k → ⊥
    later x w c = let q : w.q ≡ k = sym (ap (λ (e : Enlistment). e.holder) w.is) ∙ c in omega (arith, q, w.low)

-- ── the table ───────────────────────────────────────────────────────────────────────────────────────────────────

module _ (capacity used : ℕ) (os : List Open) (k : Fit os) (header : header_size ≤ used) (room : used + record_size * length os ≤ capacity) (small : capacity ≤ largest_capacity) where
  abbrev tb : Table
  tb = table_of capacity used os

  abbrev no_transactions : List Transaction
  no_transactions = replicate (transaction_places - length os) no_transaction

  abbrev es : List Enlistment
  es = reenlistments 1 os

  abbrev no_enlistments : List Enlistment
  no_enlistments = replicate (enlistment_places - length (reenlistments 1 os)) no_enlistment

  of_transactions : (x : Transaction) → x ∈ tb.transactions → (Some (λ o. x ≡ reopened o) os) ⊎ (x ≡ no_transaction)
  unfolding table_of
  of_transactions x m = by_either
      (λ i. let s : Some (λ o. reopened o ≡ x) os = of_map reopened os i in inl (record { it = s.it; there = s.there; holds = sym s.holds }))
      (λ i. inr (of_replicate (transaction_places - length os) no_transaction i))
      (Memᴰ.append_cases (map reopened os) m)

  of_enlistments : (x : Enlistment) → x ∈ tb.enlistments → StandsAt 1 os no_transactions x ⊎ (x ≡ no_enlistment)
  unfolding table_of
  of_enlistments x m = by_either (λ i. inl (of_reenlistments 1 os no_transactions i)) (λ i. inr (of_replicate (enlistment_places - length (reenlistments 1 os)) no_enlistment i)) (Memᴰ.append_cases es m)

  -- what is held is an entry
  of_held_ones : (x : Enlistment) → x ∈ tb.enlistments → Held x → StandsAt 1 os no_transactions x
  of_held_ones x m h = by_either (λ w. w) (λ e. absurd (h (ap (λ (y : Enlistment). y.holder) e))) (of_enlistments x m)

  found : (p : ℕ) → Live (transaction_at p tb) → LiveAt 1 p os (transaction_at p tb)
  unfolding table_of
  found p l = live_at 1 p os (transaction_places - length os) (transaction_at p tb) refl l

  some_place : (p : ℕ) → Live (transaction_at p tb) → p ≡ 0 → ⊥
  some_place p l z = omega (arith, z, (found p l).low)

  held_is : (p : ℕ) → (p ≡ 0 → ⊥) → {x : Enlistment} → x ∈ held p tb → StandsAt 1 os no_transactions x
  held_is p z {x} m = of_held_ones x (of_held p tb m).0 (λ e. z (sym (of_held p tb m).1 ∙ e))

  kind_is : (x : Enlistment) → StandsAt 1 os no_transactions x → Durable x
  kind_is x w = ap (λ (y : Enlistment). y.kind) w.is

  state_is : (x : Enlistment) → StandsAt 1 os no_transactions x → In enlistment.failed_to_notify x
  state_is x w = ap (λ (y : Enlistment). y.state) w.is

  well : (p : ℕ) → Live (transaction_at p tb) → HoldsWell (state_at p tb) (held p tb)
  unfolding table_of
  well p l = committing
      (ap (λ (x : Transaction). x.state) (found p l).is)
      (λ x m q. omega (arith, q, kind_is x (held_is p (some_place p l) m)))
      (λ x m. inr (inl (state_is x (held_is p (some_place p l) m), kind_is x (held_is p (some_place p l) m))))
      (go (found p l).o.entries refl (k.entries (found p l).o (found p l).open_one).some_entry)
    where
      go : (ds : List Entry) → (found p l).o.entries ≡ ds → 0 < length ds → Some (λ x. In enlistment.done x → ⊥) (held p tb)
      go [] q n = absurd (omega arith)
      go (d ∷ ds) q n = record { it = reenlistment p d; there = in_held p tb (Memᴰ.append_left no_enlistments ((found p l).entered d (rw q (Memᴰ.head refl)))) refl; holds = λ c. omega arith }

  held_ones : filter is_held tb.enlistments ≡ es
  unfolding table_of
  held_ones = filter_append is_held es no_enlistments
      ∙ ap (λ l. l ++ filter is_held no_enlistments) (filter_all is_held es (λ x m. let w : StandsAt 1 os no_transactions x = of_reenlistments 1 os no_transactions m in false_not (ne_eqb x.holder 0 (λ z. omega (arith, w.low, sym (ap (λ (y : Enlistment). y.holder) w.is) ∙ z)))))
      ∙ ap (λ l. es ++ l) (filter_none is_held no_enlistments (λ x m. rw (of_replicate (enlistment_places - length (reenlistments 1 os)) no_enlistment m) refl)) ∙ append-nil es

  live_ones : filter is_live tb.transactions ≡ map reopened os
  unfolding table_of
  live_ones = filter_append is_live (map reopened os) no_transactions
      ∙ ap (λ l. l ++ filter is_live no_transactions) (filter_all is_live (map reopened os) (λ x m. rw (← (of_map reopened os m).holds) refl))
      ∙ ap (λ l. map reopened os ++ l) (filter_none is_live no_transactions (λ x m. rw (of_replicate (transaction_places - length os) no_transaction m) refl)) ∙ append-nil (map reopened os)

  few : (p : ℕ) → Live (transaction_at p tb) → length (held p tb) ≤ held_most
  unfolding held table_of
  few p l = rw (filter_append (held_by p) es no_enlistments, filter_none (held_by p) no_enlistments (λ x m. rw (of_replicate (enlistment_places - length (reenlistments 1 os)) no_enlistment m) (ne_eqb 0 p (λ z. some_place p l (sym z)))), append-nil (filter (held_by p) es)) (few_held p 1 os k.entries)

  opens : open_count tb ≤ length os
  unfolding open_places table_of
  opens = few_open (λ p x. is_open x.state (held p tb)) (λ q. refl) 1 os (transaction_places - length os)

  pub reopened_sound : Sound tb
  unfolding table_of
  reopened_sound = record {
    states = well;
    kinds = λ x m h. let w : StandsAt 1 os no_transactions x = of_held_ones x m h in (inr (inr (kind_is x w)), omega (arith, ap (λ (y : Enlistment). y.mark) w.is));
    transaction_identifiers = λ x m l. by_either
        (λ s. subst (λ (y : Transaction). Identifier y.id.0) (sym s.holds) (nonzero_identifier s.it.id (k.id_sizes s.it s.there) (k.ids s.it s.there)))
        (λ e. absurd (l (ap (λ (y : Transaction). y.state) e))) (of_transactions x m);
    manager_identifiers = λ x m h. let w : StandsAt 1 os no_transactions x = of_held_ones x m h in
        subst (λ (y : Enlistment). Identifier y.rm.0) (sym w.is) (nonzero_identifier w.d.rm ((k.entries w.o w.open_one).valid w.d w.entry).rm_size ((k.entries w.o w.open_one).managers w.d w.entry));
    numbers = λ x m h. let w : StandsAt 1 os no_transactions x = of_held_ones x m h in
        (λ e. (k.entries w.o w.open_one).numbers w.d w.entry (sym (ap (λ (y : Enlistment). y.number) w.is) ∙ e), rw (ap (λ (y : Enlistment). y.number) w.is) ((k.entries w.o w.open_one).valid w.d w.entry).number_small);
    transactions_differ = rw live_ones (apart_map reopened os k.ids_apart);
    numbers_differ = rw held_ones (numbers_apart 1 os k.numbers_apart);
    holders_live = λ x m h z. let w : StandsAt 1 os no_transactions x = of_held_ones x m h in
        absurd (omega (arith, sym (ap (λ (y : Transaction). y.state) (ap (λ q. at_from no_transaction 1 q (map reopened os ++ no_transactions)) (ap (λ (y : Enlistment). y.holder) w.is) ∙ w.place)) ∙ z));
    managers_differ = rw held_ones (apart_filter is_durable es (managers_apart 1 os k.entries));
    few = few;
    phase_zero_unmarked = λ x m h q. ap (λ (y : Enlistment). y.mark) (of_held_ones x m h).is;
    empty_transactions = λ x m z. by_either (λ s. absurd (omega (arith, z, ap (λ (y : Transaction). y.state) s.holds))) (λ e. e) (of_transactions x m);
    empty_enlistments = λ x m z. by_either (λ w. absurd (omega (arith, w.low, sym (ap (λ (y : Enlistment). y.holder) w.is) ∙ z))) (λ e. e) (of_enlistments x m);
    header_used = header;
    room = omega (arith, opens, room);
    capacity_small = small;
  }
