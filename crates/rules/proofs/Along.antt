-- What a change keeps at each place, it keeps of the whole row: the row before it and the row after it are lists as long, and each law goes along both.
use Prim.Native.Nat.{ℕ, suc, ◌+◌, ◌≤◌, ◌<◌}
use native.Mathlib.Omega.{arith}
use mathlib.Core.Path.{◌≡◌, refl, sym, ap, subst}
use mathlib.Core.Bool.{Bool, true, false, cond}
use mathlib.Core.List.Memᴰ
use mathlib.Core.List.{List, [], ◌∷◌, map}
use lib.ListN.{length}
use lib.Dec.{eqb}
use borrow.Author.Tests.{eqb-true, eqb-false, eq-eqb, ne_eqb}
use Rattle.lists.specs.Lists.{filter}
use Rattle.lists.specs.Members.{◌∈◌, Each, Some, Apart, more}
use Rattle.lists.specs.Places.{at_from, at, change_from, change_at, put_lowest, places_from, places_where}
use Rattle.lists.proofs.Tests.{by_test, by_either, each_head, each_rest, some_here, some_later, in_filter, of_filter}
use Rattle.lists.proofs.Places.{of_put, change_below}
use Rattle.lists.proofs.Apart.{apart_head, apart_rest}

pub data Along {A : Type 0} (S : A → A → Type 0) : List A → List A → Type 0 where
  along_end : Along S [] []
  along_more : {x y : A} {xs ys : List A} → S x y → Along S xs ys → Along S (x ∷ xs) (y ∷ ys)

module _ {A : Type 0} {S : A → A → Type 0} where
  -- what stood there before
  along_of : {xs ys : List A} {y : A} → Along S xs ys → y ∈ ys → Some (λ x. S x y) xs
  along_of along_end m = absurd (Memᴰ.not-nil m)
  along_of (along_more {x = x} s r) m = by_either (λ e. some_here (subst (S x) (sym e) s)) (λ q. some_later (along_of r q)) (Memᴰ.cases_cons m)

  -- what it keeps of each, holds of each afterwards
  pub along_each : {P : A → Type 0} {xs ys : List A} → ((x y : A) → S x y → P x → P y) → Along S xs ys → Each P xs → Each P ys
  along_each k r h y m = let o = along_of r m in k o.it y o.holds (h o.it o.there)

  pub along_map : (g : A → A) (xs : List A) → Each (λ x. S x (g x)) xs → Along S xs (map g xs)
  along_map g [] h = along_end
  along_map g (x ∷ xs) h = along_more (each_head h) (along_map g xs (each_rest h))

  along_same : (xs : List A) → ((x : A) → S x x) → Along S xs xs
  along_same [] h = along_end
  along_same (x ∷ xs) h = along_more (h x) (along_same xs h)

  along_change_from : (f : A → A) (k p : ℕ) (d : A) (xs : List A) → ((x : A) → S x x) → (p < k + length xs → S (at_from d k p xs) (f (at_from d k p xs)))
      → Along S xs (change_from f k p xs)
  unfolding change_from at_from
  along_change_from f k p d [] r h = along_end
  along_change_from f k p d (x ∷ xs) r h = by_test (eqb k p)
      (λ e. rw (e, change_below f (suc k) p xs (omega (arith, eqb-true k p e))) (along_more (rw e at (h (omega (arith, eqb-true k p e)))) (along_same xs r)))
      (λ e. rw e (along_more (r x) (along_change_from f (suc k) p d xs r (λ l. rw e at (h (omega arith))))))

  -- one place changes
  pub along_change : (f : A → A) (p : ℕ) (d : A) (xs : List A) → ((x : A) → S x x) → S (at d p xs) (f (at d p xs)) → Along S xs (change_at p f xs)
  along_change f p d xs r h = along_change_from f 1 p d xs r (λ l. h)

-- ── those that pass a test ──────────────────────────────────────────────────────────────────────────────────────

module _ {A : Type 0} {S : A → A → Type 0} (t : A → Bool) (passed : (x y : A) → S x y → t y ≡ true → t x ≡ true) where
  along_filter : {xs ys : List A} {y : A} → Along S xs ys → y ∈ filter t ys → Some (λ x. S x y) (filter t xs)
  along_filter {xs} {ys} {y} r m =
      let o = along_of r (of_filter t ys m).0 in
      record { it = o.it; there = in_filter t xs o.there (passed o.it y o.holds (of_filter t ys m).1); holds = o.holds }

  pub along_few : {xs ys : List A} → Along S xs ys → length (filter t ys) ≤ length (filter t xs)
  unfolding filter
  along_few along_end = omega arith
  along_few (along_more {x = x} {y = y} {xs = xs} {ys = ys} s r) =
      let h : length (filter t ys) ≤ length (filter t xs) = along_few r in
      by_test (t y) (λ e. rw (e, passed x y s e) (omega arith)) (λ e. by_test (t x) (λ c. rw (e, c) (omega arith)) (λ c. rw (e, c) (omega arith)))

  pub along_apart : {R : A → A → Type 0} {xs ys : List A} → ((x x' y y' : A) → S x y → S x' y' → t y ≡ true → t y' ≡ true → R y y' → R x x')
      → Along S xs ys → Apart R (filter t xs) → Apart R (filter t ys)
  unfolding filter
  along_apart k along_end a = a
  along_apart {R} k (along_more {x = x} {y = y} {xs = xs} {ys = ys} s r) a = by_test (t y)
      (λ e. let b : Apart R (x ∷ filter t xs) = rw (passed x y s e) at a in
      rw e (more
      (λ z m q. let o = along_filter r m in apart_head b o.it o.there (k x o.it y z s o.holds e (of_filter t ys m).1 q))
      (along_apart k r (apart_rest b))))
      (λ e. by_test (t x) (λ c. rw e (along_apart k r (apart_rest (rw c at a)))) (λ c. rw e (along_apart k r (rw c at a))))

-- ── a new one in the lowest empty place ─────────────────────────────────────────────────────────────────────────

module _ {A : Type 0} (empty : A → Bool) (x : A) (t : A → Bool) (apart : (y : A) → empty y ≡ true → t y ≡ false) where
  pub put_apart : {R : A → A → Type 0} (xs : List A) → Each (λ y. t x ≡ true → (R x y → ⊥) × (R y x → ⊥)) (filter t xs) → Apart R (filter t xs)
      → Apart R (filter t (put_lowest empty x xs))
  unfolding filter put_lowest
  put_apart [] h a = a
  put_apart {R} (y ∷ ys) h a = by_test (empty y)
      (λ e. by_test (t x)
      (λ c. rw (e, c) (more (λ z m. ((rw (apart y e) at h) z m c).0) (rw (apart y e) at a)))
      (λ c. rw (e, c) (rw (apart y e) at a)))
      (λ e. by_test (t y)
      (λ c. let b : Apart R (y ∷ filter t ys) = rw c at a in
      let g : Each (λ z. t x ≡ true → (R x z → ⊥) × (R z x → ⊥)) (y ∷ filter t ys) = rw c at h in
      rw (e, c) (more (λ z m q. by_either
      (λ i. (each_head g (subst (λ w. t w ≡ true) i (of_filter t (put_lowest empty x ys) m).1)).1 (subst (R y) i q))
      (λ i. apart_head b z (in_filter t ys i (of_filter t (put_lowest empty x ys) m).1) q)
      (of_put empty x ys (of_filter t (put_lowest empty x ys) m).0)) (put_apart ys (each_rest g) (apart_rest b))))
      (λ c. rw (e, c) (put_apart ys (rw c at h) (rw c at a))))

  pub put_few : (xs : List A) → length (filter t (put_lowest empty x xs)) ≤ suc (length (filter t xs))
  unfolding filter put_lowest
  put_few [] = omega arith
  put_few (y ∷ ys) = by_test (empty y)
      (λ e. by_test (t x) (λ c. rw (e, c, apart y e) (omega arith)) (λ c. rw (e, c, apart y e) (omega arith)))
      (λ e. let h = put_few ys in by_test (t y) (λ c. rw (e, c) (omega arith)) (λ c. rw (e, c) (omega arith)))

-- ── how many places pass ────────────────────────────────────────────────────────────────────────────────────────

abbrev pub one_if : Bool → ℕ
one_if b = cond b 1 0

module _ {A : Type 0} (f g : ℕ → A → Bool) (d : A) where
  many_same : (k : ℕ) (xs ys : List A) → length xs ≡ length ys → ((q : ℕ) → k ≤ q → f q (at_from d k q xs) ≡ g q (at_from d k q ys))
      → length (places_from f k xs) ≡ length (places_from g k ys)
  unfolding places_from at_from
  many_same k [] [] e h = refl
  many_same k [] (y ∷ ys) e h = absurd (omega arith)
  many_same k (x ∷ xs) [] e h = absurd (omega arith)
  many_same k (x ∷ xs) (y ∷ ys) e h =
      let i : length (places_from f (suc k) xs) ≡ length (places_from g (suc k) ys) = many_same (suc k) xs ys (omega arith) (λ q l. rw (ne_eqb k q (omega arith)) at (h q (omega arith))) in
      let j : f k x ≡ g k y = rw (eq-eqb k k refl) at (h k (omega arith)) in
      by_test (g k y) (λ c. rw (j, c) (ap suc i)) (λ c. rw (j, c) i)

  -- where all places pass alike
  pub as_many : (xs ys : List A) → length xs ≡ length ys → ((q : ℕ) → f q (at d q xs) ≡ g q (at d q ys)) → length (places_where f xs) ≡ length (places_where g ys)
  as_many xs ys e h = many_same 1 xs ys e (λ q l. h q)

  many_from : (k p : ℕ) (xs ys : List A) → length xs ≡ length ys → k ≤ p → p < k + length xs
      → ((q : ℕ) → k ≤ q → (q ≡ p → ⊥) → f q (at_from d k q xs) ≡ g q (at_from d k q ys))
      → length (places_from g k ys) + one_if (f p (at_from d k p xs)) ≡ length (places_from f k xs) + one_if (g p (at_from d k p ys))
  unfolding places_from at_from
  many_from k p [] ys e l m h = absurd (omega arith)
  many_from k p (x ∷ xs) [] e l m h = absurd (omega arith)
  many_from k p (x ∷ xs) (y ∷ ys) e l m h = by_test (eqb k p)
      (λ c. let i : length (places_from f (suc k) xs) ≡ length (places_from g (suc k) ys) = many_same (suc k) xs ys (omega arith) (λ q n. rw (ne_eqb k q (omega arith)) at (h q (omega arith) (omega (arith, eqb-true k p c)))) in
      rw (c, ← eqb-true k p c) (by_test (f k x)
      (λ a. by_test (g k y) (λ b. rw (a, b) (omega arith)) (λ b. rw (a, b) (omega arith)))
      (λ a. by_test (g k y) (λ b. rw (a, b) (omega arith)) (λ b. rw (a, b) (omega arith)))))
      (λ c. let n : k ≡ p → ⊥ = eqb-false k p c in
      let i = many_from (suc k) p xs ys (omega arith) (omega arith) (omega arith) (λ q u v. rw (ne_eqb k q (omega arith)) at (h q (omega arith) v)) in
      let j : f k x ≡ g k y = rw (eq-eqb k k refl) at (h k (omega arith) n) in
      rw (c, j) (by_test (g k y) (λ b. rw b (omega arith)) (λ b. rw b i)))

  -- where all places but p pass alike
  pub many_but_one : (p : ℕ) (xs ys : List A) → length xs ≡ length ys → 1 ≤ p → p ≤ length xs
      → ((q : ℕ) → (q ≡ p → ⊥) → f q (at d q xs) ≡ g q (at d q ys))
      → length (places_where g ys) + one_if (f p (at d p xs)) ≡ length (places_where f xs) + one_if (g p (at d p ys))
  many_but_one p xs ys e l m h = many_from 1 p xs ys e (omega arith) (omega arith) (λ q u v. h q v)
