-- A row of places as a list: place p of those numbered from k is index p - k. Each law goes along the list, for any k.
use Prim.Native.Nat.{ℕ, zero, suc, ◌+◌, ◌-◌, ◌≤◌, ◌<◌}
use native.Mathlib.Omega.{arith}
use mathlib.Core.Path.{◌≡◌, refl, sym, ◌∙◌, ap}
use mathlib.Core.Logic.{◌⊎◌, inl, inr}
use mathlib.Core.Bool.{Bool, true, false, cond, false≢true}
use mathlib.Core.List.Memᴰ
use mathlib.Core.List.{List, [], ◌∷◌}
use lib.ListN.{length, get_or, set}
use lib.Dec.{eqb, leb, ltb}
use borrow.Author.Tests.{eqb-true, eqb-false, eq-eqb, ne_eqb, leb-true, leb-false, ltb-true, ltb-false}
use Rattle.lists.specs.Lists.{any, filter, count}
use Rattle.lists.specs.Members.{◌∈◌, Each}
use Rattle.lists.specs.Places.{place_from, place_of, at_from, at, change_from, change_at, put_lowest, each_from, each_place, places_from, places_where}
use Rattle.lists.proofs.Tests.{by_test, by_either, no_clash, and_true, true_and, false_or, is_true, is_false, some_any, each_head, each_rest}

-- p is the number of a place
pub record IsPlace {A : Type 0} (xs : List A) (p : ℕ) : Type 0 where
  pub low : 1 ≤ p
  pub high : p ≤ length xs

-- ── what stands at a place ──────────────────────────────────────────────────────────────────────────────────────

module _ {A : Type 0} (d : A) where
  at_from_lem : (k p i : ℕ) (xs : List A) → p ≡ k + i → at_from d k p xs ≡ get_or xs i d
  unfolding at_from
  at_from_lem k p i [] e = refl
  at_from_lem k p zero (x ∷ xs) e = rw (eq-eqb k p (omega arith))
  at_from_lem k p (suc i) (x ∷ xs) e = rw (ne_eqb k p (omega arith)) (at_from_lem (suc k) p i xs (omega arith))

  pub at_below : (k p : ℕ) (xs : List A) → p < k → at_from d k p xs ≡ d
  unfolding at_from
  at_below k p [] h = refl
  at_below k p (x ∷ xs) h = rw (ne_eqb k p (omega arith)) (at_below (suc k) p xs (omega arith))

  at_beyond : (k p : ℕ) (xs : List A) → k + length xs ≤ p → at_from d k p xs ≡ d
  unfolding at_from
  at_beyond k p [] h = refl
  at_beyond k p (x ∷ xs) h = rw (ne_eqb k p (omega arith)) (at_beyond (suc k) p xs (omega arith))

  -- there is such a place, or nothing stands there
  pub place_or_nothing : (p : ℕ) (xs : List A) → IsPlace xs p ⊎ (at d p xs ≡ d)
  place_or_nothing p xs = by_test (ltb 0 p)
      (λ e. by_test (leb p (length xs))
      (λ g. inl (record { low = ltb-true 0 p e; high = leb-true p (length xs) g }))
      (λ g. let h : length xs < p = leb-false p (length xs) g in inr (at_beyond 1 p xs (omega arith))))
      (λ e. let h : p ≤ 0 = ltb-false 0 p e in inr (at_below 1 p xs (omega arith)))

  pub at_suc : (i : ℕ) (xs : List A) → at d (suc i) xs ≡ get_or xs i d
  at_suc i xs = at_from_lem 1 (suc i) i xs (omega arith)

  pub at_is : (p : ℕ) (xs : List A) → at d p xs ≡ cond (eqb p 0) d (get_or xs (p - 1) d)
  at_is p xs = by_test (eqb p 0)
      (λ e. rw e (at_below 1 p xs (omega (arith, eqb-true p 0 e))))
      (λ e. let n : p ≡ 0 → ⊥ = eqb-false p 0 e in rw e (at_from_lem 1 p (p - 1) xs (omega arith)))

  at_member_from : (k p : ℕ) (xs : List A) → k ≤ p → p < k + length xs → at_from d k p xs ∈ xs
  unfolding at_from
  at_member_from k p [] h l = absurd (omega arith)
  at_member_from k p (x ∷ xs) h l = by_test (eqb k p)
      (λ e. rw e (Memᴰ.head refl))
      (λ e. let n : k ≡ p → ⊥ = eqb-false k p e in rw e (Memᴰ.tail (at_member_from (suc k) p xs (omega arith) (omega arith))))

  pub at_member : {p : ℕ} (xs : List A) → IsPlace xs p → at d p xs ∈ xs
  at_member {p} xs h = at_member_from 1 p xs (omega arith) (omega arith)

-- x stands at a place
pub record HasPlace {A : Type 0} (d : A) (xs : List A) (x : A) : Type 0 where
  pub place : ℕ
  pub is_place : IsPlace xs place
  pub there : at d place xs ≡ x

module _ {A : Type 0} (d : A) where
  index_of : {x : A} {xs : List A} → x ∈ xs → (i : ℕ) × (i < length xs) × (get_or xs i d ≡ x)
  index_of (Memᴰ.head e) = (0, omega arith, sym e)
  index_of (Memᴰ.tail m) = let (i, h, e) = index_of m in (suc i, omega arith, e)

  pub member_at : {x : A} {xs : List A} → x ∈ xs → HasPlace d xs x
  member_at {x} {xs} m = let (i, h, e) = index_of m in record { place = suc i; is_place = record { low = omega arith; high = omega arith }; there = at_suc d i xs ∙ e }

-- ── changing one place ──────────────────────────────────────────────────────────────────────────────────────────

module _ {A : Type 0} (f : A → A) where
  pub change_below : (k p : ℕ) (xs : List A) → p < k → change_from f k p xs ≡ xs
  unfolding change_from
  change_below k p [] h = refl
  change_below k p (x ∷ xs) h = rw (ne_eqb k p (omega arith)) (ap (λ l. x ∷ l) (change_below (suc k) p xs (omega arith)))

  change_from_lem : (k p i : ℕ) (d : A) (xs : List A) → p ≡ k + i → change_from f k p xs ≡ set xs i (f (get_or xs i d))
  unfolding change_from
  change_from_lem k p i d [] e = refl
  change_from_lem k p zero d (x ∷ xs) e = rw (eq-eqb k p (omega arith)) (ap (λ l. f x ∷ l) (change_below (suc k) p xs (omega arith)))
  change_from_lem k p (suc i) d (x ∷ xs) e = rw (ne_eqb k p (omega arith)) (ap (λ l. x ∷ l) (change_from_lem (suc k) p i d xs (omega arith)))

  -- past the end too, where both sides are the list
  pub change_is : (p : ℕ) (d : A) (xs : List A) → change_at p f xs ≡ cond (eqb p 0) xs (set xs (p - 1) (f (get_or xs (p - 1) d)))
  change_is p d xs = by_test (eqb p 0)
      (λ e. rw e (change_below 1 p xs (omega (arith, eqb-true p 0 e))))
      (λ e. let n : p ≡ 0 → ⊥ = eqb-false p 0 e in rw e (change_from_lem 1 p (p - 1) d xs (omega arith)))

  pub length_change : (k p : ℕ) (xs : List A) → length (change_from f k p xs) ≡ length xs
  unfolding change_from
  length_change k p [] = refl
  length_change k p (x ∷ xs) = ap suc (length_change (suc k) p xs)

  change_same_from : (k p : ℕ) (d : A) (xs : List A) → k ≤ p → p < k + length xs → at_from d k p (change_from f k p xs) ≡ f (at_from d k p xs)
  unfolding change_from at_from
  change_same_from k p d [] l h = absurd (omega arith)
  change_same_from k p d (x ∷ xs) l h = by_test (eqb k p)
      (λ e. rw e)
      (λ e. let n : k ≡ p → ⊥ = eqb-false k p e in rw e (change_same_from (suc k) p d xs (omega arith) (omega arith)))

  pub at_change_same : {p : ℕ} (d : A) (xs : List A) → IsPlace xs p → at d p (change_at p f xs) ≡ f (at d p xs)
  at_change_same {p} d xs h = change_same_from 1 p d xs (omega arith) (omega arith)

  change_other_from : (k p q : ℕ) (d : A) (xs : List A) → (q ≡ p → ⊥) → at_from d k q (change_from f k p xs) ≡ at_from d k q xs
  unfolding change_from at_from
  change_other_from k p q d [] n = refl
  change_other_from k p q d (x ∷ xs) n = by_test (eqb k q)
      (λ e. rw (e, ne_eqb k p (λ c. n (sym (eqb-true k q e) ∙ c))))
      (λ e. rw e (change_other_from (suc k) p q d xs n))

  pub at_change_other : (p q : ℕ) (d : A) (xs : List A) → (q ≡ p → ⊥) → at d q (change_at p f xs) ≡ at d q xs
  at_change_other p q d xs n = change_other_from 1 p q d xs n

-- ── the first place that passes ─────────────────────────────────────────────────────────────────────────────────

module _ {A : Type 0} (f : A → Bool) where
  none_place : (k : ℕ) (xs : List A) → any f xs ≡ false → place_from f k xs ≡ 0
  unfolding any place_from
  none_place k [] e = refl
  none_place k (x ∷ xs) e = rw (false_or (f x) (any f xs) e).0 (none_place (suc k) xs (false_or (f x) (any f xs) e).1)

  place_from_lem : (k : ℕ) (d : A) (xs : List A) → any f xs ≡ true
      → (k ≤ place_from f k xs) × (place_from f k xs < k + length xs) × (f (at_from d k (place_from f k xs) xs) ≡ true)
      × ((q : ℕ) → k ≤ q → q < place_from f k xs → f (at_from d k q xs) ≡ false)
  unfolding any place_from at_from
  place_from_lem k d [] e = absurd (false≢true e)
  place_from_lem k d (x ∷ xs) e = by_test (f x)
      (λ t. rw (t, eq-eqb k k refl) (omega arith, omega arith, t, λ q l h. absurd (omega arith)))
      (λ t. let (low, high, p, g) = place_from_lem (suc k) d xs (rw t at e) in
      rw (t, ne_eqb k (place_from f (suc k) xs) (omega arith)) (
        omega arith,
        omega arith,
        p,
        λ q l h. by_test (eqb k q) (λ c. rw c t) (λ c. let n : k ≡ q → ⊥ = eqb-false k q c in rw c (g q (omega arith) h)),
      ))

-- p is the first place that passes
pub record IsFirst {A : Type 0} (f : A → Bool) (d : A) (xs : List A) (p : ℕ) : Type 0 where
  pub is_place : IsPlace xs p
  pub passes : f (at d p xs) ≡ true
  pub first : (q : ℕ) → 1 ≤ q → q < p → f (at d q xs) ≡ false

module _ {A : Type 0} (f : A → Bool) where
  pub place_first : (d : A) (xs : List A) → any f xs ≡ true → IsFirst f d xs (place_of f xs)
  place_first d xs e = let (low, high, p, g) = place_from_lem f 1 d xs e in record { is_place = record { low = low; high = omega arith }; passes = p; first = g }

  pub place_some : (xs : List A) → (place_of f xs ≡ 0 → ⊥) → any f xs ≡ true
  place_some xs n = is_true (any f xs) (λ e. n (none_place f 1 xs e))

  pub place_none : (xs : List A) → place_of f xs ≡ 0 → any f xs ≡ false
  unfolding any
  place_none [] e = refl
  place_none (x ∷ xs) e = is_false (any f (x ∷ xs)) (λ t. omega (arith, e, (place_first x (x ∷ xs) t).is_place.low))

  -- there is one first place
  pub first_place : (d : A) (xs : List A) (p : ℕ) → IsFirst f d xs p → place_of f xs ≡ p
  first_place d xs p h =
      let o : IsFirst f d xs (place_of f xs) = place_first d xs (some_any f xs (record { it = at d p xs; there = at_member d xs h.is_place; holds = h.passes })) in
      by_test (ltb (place_of f xs) p)
      (λ l. no_clash _ o.passes (h.first (place_of f xs) o.is_place.low (ltb-true _ p l)))
      (λ l. by_test (ltb p (place_of f xs))
      (λ m. no_clash _ h.passes (o.first p h.is_place.low (ltb-true p _ m)))
      (λ m. omega (arith, ltb-false _ p l, ltb-false p _ m)))

-- ── the lowest empty place ──────────────────────────────────────────────────────────────────────────────────────

module _ {A : Type 0} (empty : A → Bool) (x : A) where
  put_from : (k : ℕ) (xs : List A) → 0 < k → put_lowest empty x xs ≡ change_from (λ y. x) k (place_from empty k xs) xs
  unfolding put_lowest change_from place_from
  put_from k [] h = refl
  put_from k (y ∷ ys) h = by_test (empty y)
      (λ e. rw (e, eq-eqb k k refl) (ap (λ l. x ∷ l) (sym (change_below (λ y. x) (suc k) k ys (omega arith)))))
      (λ e. rw (e, ne_eqb k (place_from empty (suc k) ys) other) (ap (λ l. y ∷ l) (put_from (suc k) ys (omega arith))))
    where
      other : k ≡ place_from empty (suc k) ys → ⊥
      other c = by_test (any empty ys) (λ t. omega (arith, c, (place_from_lem empty (suc k) y ys t).0)) (λ t. omega (arith, c, none_place empty (suc k) ys t))

  pub put_is : (xs : List A) → put_lowest empty x xs ≡ change_at (place_of empty xs) (λ y. x) xs
  put_is xs = put_from 1 xs (omega arith)

  pub length_put : (xs : List A) → length (put_lowest empty x xs) ≡ length xs
  unfolding put_lowest
  length_put [] = refl
  length_put (y ∷ ys) = by_test (empty y) (λ e. rw e) (λ e. rw e (ap suc (length_put ys)))

  pub put_there : (xs : List A) → any empty xs ≡ true → x ∈ put_lowest empty x xs
  unfolding put_lowest any
  put_there [] e = absurd (false≢true e)
  put_there (y ∷ ys) e = by_test (empty y) (λ t. rw t (Memᴰ.head refl)) (λ t. rw t (Memᴰ.tail (put_there ys (rw t at e))))

  pub put_keeps : {z : A} (xs : List A) → z ∈ xs → empty z ≡ false → z ∈ put_lowest empty x xs
  unfolding put_lowest
  put_keeps [] m n = m
  put_keeps {z} (y ∷ ys) m n = by_test (empty y)
      (λ t. rw t (by_either (λ q. no_clash (empty y) t (ap empty (sym q) ∙ n)) (λ q. Memᴰ.tail q) (Memᴰ.cases_cons m)))
      (λ t. rw t (by_either (λ q. Memᴰ.head q) (λ q. Memᴰ.tail (put_keeps ys q n)) (Memᴰ.cases_cons m)))

  pub of_put : {z : A} (xs : List A) → z ∈ put_lowest empty x xs → (z ≡ x) ⊎ (z ∈ xs)
  unfolding put_lowest
  of_put [] m = inr m
  of_put {z} (y ∷ ys) m = by_test (empty y)
      (λ t. by_either (λ q. inl q) (λ q. inr (Memᴰ.tail q)) (Memᴰ.cases_cons (rw t at m)))
      (λ t. by_either (λ q. inr (Memᴰ.head q)) (λ q. by_either (λ r. inl r) (λ r. inr (Memᴰ.tail r)) (of_put ys q)) (Memᴰ.cases_cons (rw t at m)))

  -- of those among which neither the new one nor an empty one is, nothing changes
  pub filter_put : (f : A → Bool) (xs : List A) → f x ≡ false → Each (λ y. empty y ≡ true → f y ≡ false) xs → filter f (put_lowest empty x xs) ≡ filter f xs
  unfolding put_lowest filter
  filter_put f [] n h = refl
  filter_put f (y ∷ ys) n h = by_test (empty y)
      (λ t. rw (t, n, each_head h t))
      (λ t. rw (t, filter_put f ys n (each_rest h)))

-- ── a test of each place, and the places that pass ──────────────────────────────────────────────────────────────

module _ {A : Type 0} (f : ℕ → A → Bool) (d : A) where
  each_at_from : (k : ℕ) (xs : List A) → each_from f k xs ≡ true → (p : ℕ) → k ≤ p → p < k + length xs → f p (at_from d k p xs) ≡ true
  unfolding each_from at_from
  each_at_from k [] e p l h = absurd (omega arith)
  each_at_from k (x ∷ xs) e p l h = by_test (eqb k p)
      (λ c. rw (c, ← eqb-true k p c) (true_and (f k x) (each_from f (suc k) xs) e).0)
      (λ c. let n : k ≡ p → ⊥ = eqb-false k p c in rw c (each_at_from (suc k) xs (true_and (f k x) (each_from f (suc k) xs) e).1 p (omega arith) (omega arith)))

  pub each_at : {p : ℕ} (xs : List A) → each_place f xs ≡ true → IsPlace xs p → f p (at d p xs) ≡ true
  each_at {p} xs e h = each_at_from 1 xs e p (omega arith) (omega arith)

  at_each_from : (k : ℕ) (xs : List A) → ((p : ℕ) → k ≤ p → p < k + length xs → f p (at_from d k p xs) ≡ true) → each_from f k xs ≡ true
  unfolding each_from at_from
  at_each_from k [] h = refl
  at_each_from k (x ∷ xs) h = and_true
      (rw (eq-eqb k k refl) at (h k (omega arith) (omega arith)))
      (at_each_from (suc k) xs (λ p l m. rw (ne_eqb k p (omega arith)) at (h p (omega arith) (omega arith))))

  pub at_each : (xs : List A) → ((p : ℕ) → IsPlace xs p → f p (at d p xs) ≡ true) → each_place f xs ≡ true
  at_each xs h = at_each_from 1 xs (λ p l m. h p (record { low = l; high = omega arith }))

  in_places_from : (k p : ℕ) (xs : List A) → k ≤ p → p < k + length xs → f p (at_from d k p xs) ≡ true → p ∈ places_from f k xs
  unfolding places_from at_from
  in_places_from k p [] l h e = absurd (omega arith)
  in_places_from k p (x ∷ xs) l h e = by_test (eqb k p)
      (λ c. let t : f k x ≡ true = rw (c, ← eqb-true k p c) at e in rw t (Memᴰ.head (sym (eqb-true k p c))))
      (λ c. let n : k ≡ p → ⊥ = eqb-false k p c in
      let m : p ∈ places_from f (suc k) xs = in_places_from (suc k) p xs (omega arith) (omega arith) (rw c at e) in
      by_test (f k x) (λ t. rw t (Memᴰ.tail m)) (λ t. rw t m))

  pub in_places : {p : ℕ} (xs : List A) → IsPlace xs p → f p (at d p xs) ≡ true → p ∈ places_where f xs
  in_places {p} xs h e = in_places_from 1 p xs (omega arith) (omega arith) e

  of_places_from : (k p : ℕ) (xs : List A) → p ∈ places_from f k xs → (k ≤ p) × (p < k + length xs) × (f p (at_from d k p xs) ≡ true)
  unfolding places_from at_from
  of_places_from k p [] m = absurd (Memᴰ.not-nil m)
  of_places_from k p (x ∷ xs) m = by_test (f k x)
      (λ t. by_either (λ q. here t (sym q)) (λ q. later (of_places_from (suc k) p xs q)) (Memᴰ.cases_cons (rw t at m)))
      (λ t. later (of_places_from (suc k) p xs (rw t at m)))
    where
      here : f k x ≡ true → k ≡ p → (k ≤ p) × (p < k + suc (length xs)) × (f p (cond (eqb k p) x (at_from d (suc k) p xs)) ≡ true)
      here t q = (omega arith, omega arith, rw (eq-eqb k p q, ← q) t)

      later : (suc k ≤ p) × (p < suc k + length xs) × (f p (at_from d (suc k) p xs) ≡ true) → (k ≤ p) × (p < k + suc (length xs)) × (f p (cond (eqb k p) x (at_from d (suc k) p xs)) ≡ true)
      later (l, h, e) = (omega arith, omega arith, rw (ne_eqb k p (omega arith)) e)

  pub of_places : {p : ℕ} (xs : List A) → p ∈ places_where f xs → IsPlace xs p × (f p (at d p xs) ≡ true)
  of_places {p} xs m = let (l, h, e) = of_places_from 1 p xs m in (record { low = l; high = omega arith }, e)

pub length_places : {A : Type 0} (f : A → Bool) (k : ℕ) (xs : List A) → length (places_from (λ p x. f x) k xs) ≡ count f xs
unfolding places_from count
length_places f k [] = refl
length_places f k (x ∷ xs) = by_test (f x) (λ t. rw t (ap suc (length_places f (suc k) xs))) (λ t. rw t (length_places f (suc k) xs))
