-- Lists in which no two are alike: so are their parts, what is sorted of them and what passes a test; and one that stands in another is no longer than it.
use Prim.Native.Nat.{ℕ, suc, ◌≤◌, ◌<◌}
use native.Mathlib.Omega.{arith}
use mathlib.Core.Path.{◌≡◌, refl, subst, sym, ◌∙◌}
use mathlib.Core.Bool.{Bool, true, false, not}
use mathlib.Core.List.Memᴰ
use mathlib.Core.List.{List, [], ◌∷◌, ◌++◌, map}
use lib.ListN.{length}
use lib.Dec.{eqb}
use borrow.Author.Tests.{eqb-true, eqb-false, ne_eqb}
use Rattle.lists.specs.Lists.{filter}
use Rattle.lists.specs.Members.{◌∈◌, Each, Some, Apart, nothing, more}
use Rattle.lists.specs.Places.{at_from}
use Rattle.lists.specs.Sorting.{insert_by, sort_by}
use Rattle.lists.proofs.Tests.{by_test, by_either, no_clash, false_not, each_rest, in_filter, of_filter, of_map, length_filter}
use Rattle.lists.proofs.Sorting.{of_insert, of_sort}

module _ {A : Type 0} {R : A → A → Type 0} where
  pub apart_head : {x : A} {xs : List A} → Apart R (x ∷ xs) → Each (λ y. R x y → ⊥) xs
  apart_head (more h r) = h

  pub apart_rest : {x : A} {xs : List A} → Apart R (x ∷ xs) → Apart R xs
  apart_rest (more h r) = r

  -- two members that are alike are one
  pub apart_one : ((x y : A) → R x y → R y x) → {x y : A} {xs : List A} → Apart R xs → x ∈ xs → y ∈ xs → R x y → x ≡ y
  apart_one turn nothing m n e = absurd (Memᴰ.not-nil m)
  apart_one turn {x} {y} (more {x = z} {xs = zs} h r) m n e = by_either
      (λ a. by_either (λ b. a ∙ sym b) (λ b. absurd (h y b (subst (λ w. R w y) a e))) (Memᴰ.cases_cons n))
      (λ a. by_either (λ b. absurd (h x a (subst (λ w. R w x) b (turn x y e)))) (λ b. apart_one turn r a b e) (Memᴰ.cases_cons n))
      (Memᴰ.cases_cons m)

-- no one of the first is like one of the second
abbrev pub Cross : {A : Type 0} → (A → A → Type 0) → List A → List A → Type 0
Cross {A} R xs ys = (x y : A) → x ∈ xs → y ∈ ys → R x y → ⊥

module _ {A : Type 0} {R : A → A → Type 0} where
  pub apart_both : (xs ys : List A) → Apart R xs → Apart R ys → Cross R xs ys → Apart R (xs ++ ys)
  apart_both [] ys a b c = b
  apart_both (x ∷ xs) ys a b c = more (λ y m r. by_either (λ i. apart_head a y i r) (λ i. c x y (Memᴰ.head refl) i r) (Memᴰ.append_cases xs m)) (apart_both xs ys (apart_rest a) b (λ u v m n. c u v (Memᴰ.tail m) n))

  pub apart_first : (xs ys : List A) → Apart R (xs ++ ys) → Apart R xs
  apart_first [] ys a = nothing
  apart_first (x ∷ xs) ys a = more (λ y m r. apart_head a y (Memᴰ.append_left ys m) r) (apart_first xs ys (apart_rest a))

  pub apart_second : (xs ys : List A) → Apart R (xs ++ ys) → Apart R ys
  apart_second [] ys a = a
  apart_second (x ∷ xs) ys a = apart_second xs ys (apart_rest a)

  pub apart_cross : (xs ys : List A) → Apart R (xs ++ ys) → Cross R xs ys
  apart_cross [] ys a x y m n r = Memᴰ.not-nil m
  apart_cross (z ∷ xs) ys a x y m n r = by_either (λ e. apart_head a y (Memᴰ.append_right xs n) (rw e at r)) (λ i. apart_cross xs ys (apart_rest a) x y i n r) (Memᴰ.cases_cons m)

  pub apart_filter : (f : A → Bool) (xs : List A) → Apart R xs → Apart R (filter f xs)
  unfolding filter
  apart_filter f [] a = nothing
  apart_filter f (x ∷ xs) a = by_test (f x)
      (λ t. rw t (more (λ y m r. apart_head a y (of_filter f xs m).0 r) (apart_filter f xs (apart_rest a))))
      (λ t. rw t (apart_filter f xs (apart_rest a)))

pub apart_map : {A B : Type 0} {R : B → B → Type 0} (g : A → B) (xs : List A) → Apart (λ x y. R (g x) (g y)) xs → Apart R (map g xs)
apart_map g [] a = nothing
apart_map {A} {B} {R} g (x ∷ xs) a = more (λ y m r. go y (of_map g xs m) r) (apart_map g xs (apart_rest a))
  where
    go : (y : B) → Some (λ w. g w ≡ y) xs → R (g x) y → ⊥
    go y s r = apart_head a s.it s.there (rw s.holds r)

-- what passes a narrower test is no more alike
pub apart_narrower : {A : Type 0} {R S : A → A → Type 0} (f h : A → Bool) → ((x : A) → h x ≡ true → f x ≡ true) → ((x y : A) → h x ≡ true → h y ≡ true → S x y → R x y)
    → (xs : List A) → Apart R (filter f xs) → Apart S (filter h xs)
unfolding filter
apart_narrower f h i c [] a = nothing
apart_narrower {R = R} f h i c (x ∷ xs) a = by_test (h x)
    (λ t. let b : Apart R (x ∷ filter f xs) = rw (i x t) at a in
    rw t (more (λ y m r. apart_head b y (in_filter f xs (of_filter h xs m).0 (i y (of_filter h xs m).1)) (c x y t (of_filter h xs m).1 r)) (apart_narrower f h i c xs (apart_rest b))))
    (λ t. rw t (apart_narrower f h i c xs (by_test (f x) (λ u. apart_rest {x = x} (rw u at a)) (λ u. rw u at a))))

module _ {A : Type 0} {R : A → A → Type 0} (before : A → A → Bool) (turn : (x y : A) → R x y → R y x) where
  apart_insert : (x : A) (ys : List A) → Each (λ y. R x y → ⊥) ys → Apart R ys → Apart R (insert_by before x ys)
  unfolding insert_by
  apart_insert x [] h a = more h nothing
  apart_insert x (y ∷ ys) h a = by_test (before y x)
      (λ t. rw t (more (λ z m r. by_either (λ e. h y (Memᴰ.head refl) (turn y x (rw e at r))) (λ i. apart_head a z i r) (Memᴰ.cases_cons (of_insert before x ys m))) (apart_insert x ys (each_rest h) (apart_rest a))))
      (λ t. rw t (more h a))

  pub apart_sort : (xs : List A) → Apart R xs → Apart R (sort_by before xs)
  unfolding sort_by
  apart_sort [] a = nothing
  apart_sort (x ∷ xs) a = apart_insert x (sort_by before xs) (λ y m. apart_head a y (of_sort before xs m)) (apart_sort xs (apart_rest a))

-- ── at places ─────────────────────────────────────────────────────────────────────────────────────────────────────

module _ {A : Type 0} {R : A → A → Type 0} (turn : (x y : A) → R x y → R y x) (f : A → Bool) (d : A) (unfit : f d ≡ false) where
  at_in : (k p : ℕ) (xs : List A) → f (at_from d k p xs) ≡ true → at_from d k p xs ∈ filter f xs
  unfolding at_from filter
  at_in k p [] e = no_clash (f d) e unfit
  at_in k p (x ∷ xs) e = by_test (eqb k p)
      (λ c. let t : f x ≡ true = rw c at e in rw (c, t) (Memᴰ.head refl))
      (λ c. let m : at_from d (suc k) p xs ∈ filter f xs = at_in (suc k) p xs (rw c at e) in by_test (f x) (λ t. rw (c, t) (Memᴰ.tail m)) (λ t. rw (c, t) m))

  -- two places that pass and are alike are one
  pub one_place : (k p q : ℕ) (xs : List A) → Apart R (filter f xs) → f (at_from d k p xs) ≡ true → f (at_from d k q xs) ≡ true → R (at_from d k p xs) (at_from d k q xs) → p ≡ q
  unfolding at_from filter
  one_place k p q [] a u v r = no_clash (f d) u unfit
  one_place k p q (x ∷ xs) a u v r = by_test (eqb k p)
      (λ c. by_test (eqb k q)
      (λ e. sym (eqb-true k p c) ∙ eqb-true k q e)
      (λ e. let t : f x ≡ true = rw c at u in absurd (apart_head (rw t at a) (at_from d (suc k) q xs) (at_in (suc k) q xs (rw e at v)) (rw (c, e) at r))))
      (λ c. by_test (eqb k q)
      (λ e. let t : f x ≡ true = rw e at v in absurd (apart_head (rw t at a) (at_from d (suc k) p xs) (at_in (suc k) p xs (rw c at u)) (turn (at_from d (suc k) p xs) x (rw (c, e) at r))))
      (λ e. one_place (suc k) p q xs (by_test (f x) (λ t. apart_rest (rw t at a)) (λ t. rw t at a)) (rw c at u) (rw e at v) (rw (c, e) at r)))

-- ── no longer ─────────────────────────────────────────────────────────────────────────────────────────────────────

without : ℕ → List ℕ → List ℕ
without p ps = filter (λ q. not (eqb q p)) ps

one_less : (p : ℕ) (ps : List ℕ) → p ∈ ps → length (without p ps) < length ps
unfolding without filter
one_less p [] m = absurd (Memᴰ.not-nil m)
one_less p (q ∷ ps) m = by_test (eqb q p)
    (λ e. rw e (omega (arith, length_filter (λ q. not (eqb q p)) ps)))
    (λ e. let ih : length (filter (λ q. not (eqb q p)) ps) < length ps = one_less p ps (by_either (λ c. absurd (eqb-false q p e (sym c))) (λ i. i) (Memᴰ.cases_cons m)) in rw e (omega (arith, ih)))

-- numbers that differ, and stand in a list, are no more than it has
pub no_more : (qs ps : List ℕ) → Apart (λ p q. p ≡ q) qs → Each (λ q. q ∈ ps) qs → length qs ≤ length ps
unfolding without
no_more [] ps a h = omega arith
no_more (q ∷ qs) ps a h = omega (arith, one_less q ps (h q (Memᴰ.head refl)), no_more qs (without q ps) (apart_rest a) (λ p m. kept p m))
  where
    kept : (p : ℕ) → p ∈ qs → p ∈ without q ps
    kept p m = in_filter (λ p. not (eqb p q)) ps (h p (Memᴰ.tail m)) (false_not (ne_eqb p q (λ e. apart_head a p m (sym e))))
