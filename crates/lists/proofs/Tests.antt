-- What a test that is computed says of the elements, and back. Each law goes along the list, and splits on the test of its head.
use Prim.Native.Nat.{ℕ, zero, suc, ◌≤◌, ◌<◌}
use native.Mathlib.Omega.{arith}
use mathlib.Core.Path.{◌≡◌, refl, sym, ◌∙◌, ap, subst}
use mathlib.Core.Logic.{◌⊎◌, inl, inr}
use mathlib.Core.Bool.{Bool, true, false, cond, not, ◌&&◌, ◌||◌, true≢false, false≢true}
use mathlib.Core.List.Memᴰ
use mathlib.Core.List.{List, [], ◌∷◌, ◌++◌, map}
use lib.ListN.{length, get_or, take, drop, take-append-drop}
use borrow.Author.Tests.{not-true}
use Rattle.lists.specs.Lists.{all, any, none, filter, count, first_or, differ, every}
use Rattle.lists.specs.Members.{◌∈◌, Each, Some, Apart, nothing, more}

-- ── Bool ────────────────────────────────────────────────────────────────────────────────────────────────────────

-- what holds either way, holds
pub by_test : {C : Type 0} (b : Bool) → (b ≡ true → C) → (b ≡ false → C) → C
by_test true f g = f refl
by_test false f g = g refl

-- what holds of each where it is chosen, holds of the one that is chosen
pub by_cases : {A : Type 0} (P : A → Type 0) (b : Bool) (x y : A) → (b ≡ true → P x) → (b ≡ false → P y) → P (cond b x y)
by_cases P true x y f g = f refl
by_cases P false x y f g = g refl

pub by_cond : {A : Type 0} (P : A → Type 0) (b : Bool) {x y : A} → P x → P y → P (cond b x y)
by_cond P b {x} {y} p q = by_cases P b x y (λ _. p) (λ _. q)

pub by_either : {A B C : Type 0} → (A → C) → (B → C) → A ⊎ B → C
by_either f g (inl a) = f a
by_either f g (inr b) = g b

pub no_clash : {C : Type 0} (b : Bool) → b ≡ true → b ≡ false → C
no_clash b p q = absurd (true≢false (sym p ∙ q))

pub is_false : (b : Bool) → (b ≡ true → ⊥) → b ≡ false
is_false true h = absurd (h refl)
is_false false h = refl

pub is_true : (b : Bool) → (b ≡ false → ⊥) → b ≡ true
is_true true h = refl
is_true false h = absurd (h refl)

pub and_true : {a b : Bool} → a ≡ true → b ≡ true → (a && b) ≡ true
and_true p q = rw (p, q)

pub true_and : (a b : Bool) → (a && b) ≡ true → (a ≡ true) × (b ≡ true)
true_and true b e = (refl, e)
true_and false b e = absurd (false≢true e)

pub and_false : (a b : Bool) → (a ≡ false) ⊎ (b ≡ false) → (a && b) ≡ false
and_false true b (inl p) = absurd (true≢false p)
and_false true b (inr q) = q
and_false false b h = refl

pub or_true : (a b : Bool) → (a ≡ true) ⊎ (b ≡ true) → (a || b) ≡ true
or_true true b h = refl
or_true false b (inl p) = absurd (false≢true p)
or_true false b (inr q) = q

pub true_or : (a b : Bool) → (a || b) ≡ true → (a ≡ true) ⊎ (b ≡ true)
true_or true b e = inl refl
true_or false b e = inr e

pub or_false : {a b : Bool} → a ≡ false → b ≡ false → (a || b) ≡ false
or_false p q = rw (p, q)

pub false_or : (a b : Bool) → (a || b) ≡ false → (a ≡ false) × (b ≡ false)
false_or true b e = absurd (true≢false e)
false_or false b e = (refl, e)

pub true_not : {b : Bool} → b ≡ true → not b ≡ false
true_not e = rw e

pub false_not : {b : Bool} → b ≡ false → not b ≡ true
false_not e = rw e

-- two tests that pass alike are equal
pub same_test : (a b : Bool) → (a ≡ true → b ≡ true) → (b ≡ true → a ≡ true) → a ≡ b
same_test true b f g = sym (f refl)
same_test false b f g = sym (is_false b (λ q. false≢true (g q)))

-- ── members ─────────────────────────────────────────────────────────────────────────────────────────────────────

module _ {A : Type 0} where
  pub each_nothing : (P : A → Type 0) → Each P []
  each_nothing P x m = absurd (Memᴰ.not-nil m)

  pub each_more : {P : A → Type 0} {x : A} {xs : List A} → P x → Each P xs → Each P (x ∷ xs)
  each_more {P} p h y m = by_either (λ e. subst P (sym e) p) (λ q. h y q) (Memᴰ.cases_cons m)

  pub each_head : {P : A → Type 0} {x : A} {xs : List A} → Each P (x ∷ xs) → P x
  each_head {x = x} h = h x (Memᴰ.head refl)

  pub each_rest : {P : A → Type 0} {x : A} {xs : List A} → Each P (x ∷ xs) → Each P xs
  each_rest h y m = h y (Memᴰ.tail m)

  pub each_one : (P : A → Type 0) {x : A} → P x → Each P (x ∷ [])
  each_one P p = each_more p (each_nothing P)

  pub each_both : {P : A → Type 0} (xs ys : List A) → Each P xs → Each P ys → Each P (xs ++ ys)
  each_both xs ys a b x m = by_either (a x) (b x) (Memᴰ.append_cases xs m)

  pub each_front : {P : A → Type 0} (xs ys : List A) → Each P (xs ++ ys) → Each P xs
  each_front xs ys h x m = h x (Memᴰ.append_left ys m)

  pub each_back : {P : A → Type 0} (xs ys : List A) → Each P (xs ++ ys) → Each P ys
  each_back xs ys h x m = h x (Memᴰ.append_right xs m)

  pub each_take : {P : A → Type 0} (n : ℕ) {xs : List A} → Each P xs → Each P (take n xs)
  each_take {P} n {xs} h = each_front (take n xs) (drop n xs) (subst (Each P) (sym (take-append-drop n xs)) h)

  pub each_drop : {P : A → Type 0} (n : ℕ) {xs : List A} → Each P xs → Each P (drop n xs)
  each_drop {P} n {xs} h = each_back (take n xs) (drop n xs) (subst (Each P) (sym (take-append-drop n xs)) h)

  pub in_one : {x y : A} → x ∈ y ∷ [] → x ≡ y
  in_one m = by_either (λ e. e) (λ i. absurd (Memᴰ.not-nil i)) (Memᴰ.cases_cons m)

  pub member_some : {x : A} (xs : List A) → x ∈ xs → 0 < length xs
  member_some [] m = absurd (Memᴰ.not-nil m)
  member_some (y ∷ xs) m = omega arith

  pub some_here : {P : A → Type 0} {x : A} {xs : List A} → P x → Some P (x ∷ xs)
  some_here {x = x} p = record { it = x; there = Memᴰ.head refl; holds = p }

  pub some_later : {P : A → Type 0} {x : A} {xs : List A} → Some P xs → Some P (x ∷ xs)
  some_later s = record { it = s.it; there = Memᴰ.tail s.there; holds = s.holds }

  some_cases : {P : A → Type 0} {x : A} {xs : List A} → Some P (x ∷ xs) → P x ⊎ Some P xs
  some_cases {P} {x} {xs} s = by_either (λ e. inl (subst P e s.holds)) (λ m. inr (record { it = s.it; there = m; holds = s.holds })) (Memᴰ.cases_cons s.there)

-- ── all, any ────────────────────────────────────────────────────────────────────────────────────────────────────

module _ {A : Type 0} (f : A → Bool) where
  pub all_each : (xs : List A) → all f xs ≡ true → Each (λ x. f x ≡ true) xs
  unfolding all
  all_each [] e = each_nothing _
  all_each (x ∷ xs) e = each_more (true_and (f x) (all f xs) e).0 (all_each xs (true_and (f x) (all f xs) e).1)

  pub each_all : (xs : List A) → Each (λ x. f x ≡ true) xs → all f xs ≡ true
  unfolding all
  each_all [] h = refl
  each_all (x ∷ xs) h = and_true (each_head h) (each_all xs (each_rest h))

  pub any_some : (xs : List A) → any f xs ≡ true → Some (λ x. f x ≡ true) xs
  unfolding any
  any_some [] e = absurd (false≢true e)
  any_some (x ∷ xs) e = by_either some_here (λ q. some_later (any_some xs q)) (true_or (f x) (any f xs) e)

  pub some_any : (xs : List A) → Some (λ x. f x ≡ true) xs → any f xs ≡ true
  unfolding any
  some_any [] s = absurd (Memᴰ.not-nil s.there)
  some_any (x ∷ xs) s = or_true (f x) (any f xs) (by_either (λ p. inl p) (λ q. inr (some_any xs q)) (some_cases s))

  pub none_each : (xs : List A) → any f xs ≡ false → Each (λ x. f x ≡ false) xs
  unfolding any
  none_each [] e = each_nothing _
  none_each (x ∷ xs) e = each_more (false_or (f x) (any f xs) e).0 (none_each xs (false_or (f x) (any f xs) e).1)

  pub each_none : (xs : List A) → Each (λ x. f x ≡ false) xs → any f xs ≡ false
  unfolding any
  each_none [] h = refl
  each_none (x ∷ xs) h = or_false (each_head h) (each_none xs (each_rest h))

  pub not_all : (xs : List A) → not (all f xs) ≡ any (λ x. not (f x)) xs
  unfolding all any
  not_all [] = refl
  not_all (x ∷ xs) = by_test (f x) (λ p. rw p (not_all xs)) (λ p. rw p)

-- ── filter, count ───────────────────────────────────────────────────────────────────────────────────────────────

module _ {A : Type 0} (f : A → Bool) where
  pub in_filter : {x : A} (xs : List A) → x ∈ xs → f x ≡ true → x ∈ filter f xs
  unfolding filter
  in_filter [] m e = m
  in_filter {x} (y ∷ xs) m e = by_test (f y)
      (λ p. rw p (by_either (λ q. Memᴰ.head q) (λ q. Memᴰ.tail (in_filter xs q e)) (Memᴰ.cases_cons m)))
      (λ p. rw p (by_either (λ q. no_clash (f y) (ap f (sym q) ∙ e) p) (λ q. in_filter xs q e) (Memᴰ.cases_cons m)))

  pub of_filter : {x : A} (xs : List A) → x ∈ filter f xs → (x ∈ xs) × (f x ≡ true)
  unfolding filter
  of_filter [] m = absurd (Memᴰ.not-nil m)
  of_filter {x} (y ∷ xs) m = by_test (f y)
      (λ p. by_either (λ q. (Memᴰ.head q, ap f q ∙ p)) (λ q. (Memᴰ.tail (of_filter xs q).0, (of_filter xs q).1)) (Memᴰ.cases_cons (rw p at m)))
      (λ p. let q : x ∈ filter f xs = rw p at m in (Memᴰ.tail (of_filter xs q).0, (of_filter xs q).1))

  pub filter_each : {P : A → Type 0} (xs : List A) → Each (λ x. f x ≡ true → P x) xs → Each P (filter f xs)
  filter_each xs h x m = h x (of_filter xs m).0 (of_filter xs m).1

  pub filter_all : (xs : List A) → Each (λ x. f x ≡ true) xs → filter f xs ≡ xs
  unfolding filter
  filter_all [] h = refl
  filter_all (x ∷ xs) h = rw (each_head h) (ap (λ l. x ∷ l) (filter_all xs (each_rest h)))

  pub filter_none : (xs : List A) → Each (λ x. f x ≡ false) xs → filter f xs ≡ []
  unfolding filter
  filter_none [] h = refl
  filter_none (x ∷ xs) h = rw (each_head h) (filter_none xs (each_rest h))

  pub filter_append : (xs ys : List A) → filter f (xs ++ ys) ≡ filter f xs ++ filter f ys
  unfolding filter
  filter_append [] ys = refl
  filter_append (x ∷ xs) ys = by_test (f x) (λ p. rw p (ap (λ l. x ∷ l) (filter_append xs ys))) (λ p. rw p (filter_append xs ys))

  pub length_filter : (xs : List A) → length (filter f xs) ≤ length xs
  unfolding filter
  length_filter [] = omega arith
  length_filter (x ∷ xs) = let h : length (filter f xs) ≤ length xs = length_filter xs in by_test (f x) (λ p. rw p (omega arith)) (λ p. rw p (omega arith))

  pub count_filter : (xs : List A) → count f xs ≡ length (filter f xs)
  unfolding count filter
  count_filter [] = refl
  count_filter (x ∷ xs) = by_test (f x) (λ p. rw p (ap suc (count_filter xs))) (λ p. rw p (count_filter xs))

  pub filter_filter : (g : A → Bool) (xs : List A) → filter f (filter g xs) ≡ filter (λ x. g x && f x) xs
  unfolding filter
  filter_filter g [] = refl
  filter_filter g (x ∷ xs) = by_test (g x)
      (λ p. rw p (by_test (f x) (λ q. rw q (ap (λ l. x ∷ l) (filter_filter g xs))) (λ q. rw q (filter_filter g xs))))
      (λ p. rw p (filter_filter g xs))

  -- filtering by a test that is equal on the elements
  pub filter_same : (g : A → Bool) (xs : List A) → Each (λ x. f x ≡ g x) xs → filter f xs ≡ filter g xs
  unfolding filter
  filter_same g [] h = refl
  filter_same g (x ∷ xs) h = rw (each_head h, filter_same g xs (each_rest h))

-- ── the first that passes ───────────────────────────────────────────────────────────────────────────────────────

module _ {A : Type 0} (d : A) (f : A → Bool) where
  pub first_passes : (xs : List A) → any f xs ≡ true → (first_or d f xs ∈ xs) × (f (first_or d f xs) ≡ true)
  unfolding first_or any
  first_passes [] e = absurd (false≢true e)
  first_passes (x ∷ xs) e = by_test (f x)
      (λ p. rw p (Memᴰ.head refl, p))
      (λ p. let q = first_passes xs (rw p at e) in rw p (Memᴰ.tail q.0, q.1))

  pub first_none : (xs : List A) → any f xs ≡ false → first_or d f xs ≡ d
  unfolding first_or any
  first_none [] e = refl
  first_none (x ∷ xs) e = rw (false_or (f x) (any f xs) e).0 (first_none xs (false_or (f x) (any f xs) e).1)

-- ── no two alike ────────────────────────────────────────────────────────────────────────────────────────────────

module _ {A : Type 0} (alike : A → A → Bool) {R : A → A → Type 0} where
  pub differ_apart : ((x y : A) → R x y → alike x y ≡ true) → (xs : List A) → differ alike xs ≡ true → Apart R xs
  unfolding differ
  differ_apart g [] e = nothing
  differ_apart g (x ∷ xs) e =
      let (d, r) = true_and (none (alike x) xs) (differ alike xs) e in
      more (λ y m q. no_clash (alike x y) (g x y q) (none_each (alike x) xs (not-true _ d) y m)) (differ_apart g xs r)

  pub apart_differ : ((x y : A) → alike x y ≡ true → R x y) → (xs : List A) → Apart R xs → differ alike xs ≡ true
  unfolding differ
  apart_differ g [] nothing = refl
  apart_differ g (x ∷ xs) (more h r) = and_true (false_not (each_none (alike x) xs (λ y m. is_false _ (λ q. h y m (g x y q))))) (apart_differ g xs r)

-- ── every ───────────────────────────────────────────────────────────────────────────────────────────────────────

-- each of these holds: `p also q also that_is_all`, to be given or to be taken apart
infixr 20 ◌also◌
pub data Holding : List Bool → Type 0 where
  that_is_all : Holding []
  ◌also◌ : {b : Bool} {bs : List Bool} → b ≡ true → Holding bs → Holding (b ∷ bs)

pub every_holding : (bs : List Bool) → every bs ≡ true → Holding bs
unfolding every
every_holding [] e = that_is_all
every_holding (b ∷ bs) e = (true_and b (every bs) e).0 also every_holding bs (true_and b (every bs) e).1

pub holding_every : {bs : List Bool} → Holding bs → every bs ≡ true
unfolding every
holding_every that_is_all = refl
holding_every (p also h) = and_true p (holding_every h)

-- the one at index n
pub every_at : (bs : List Bool) (n : ℕ) → every bs ≡ true → get_or bs n true ≡ true
unfolding every
every_at [] n e = refl
every_at (b ∷ bs) zero e = (true_and b (every bs) e).0
every_at (b ∷ bs) (suc n) e = every_at bs n (true_and b (every bs) e).1

-- ── map ─────────────────────────────────────────────────────────────────────────────────────────────────────────

module _ {A B : Type 0} (g : A → B) where
  pub in_map : {x : A} {xs : List A} → x ∈ xs → g x ∈ map g xs
  in_map m = Memᴰ.map g m

  pub of_map : {y : B} (xs : List A) → y ∈ map g xs → Some (λ x. g x ≡ y) xs
  of_map xs m = let (x, i, e) = Memᴰ.of_map g xs m in record { it = x; there = i; holds = e }

  pub each_map : (P : B → Type 0) (xs : List A) → Each (λ x. P (g x)) xs → Each P (map g xs)
  each_map P xs h y m = let (x, i, e) = Memᴰ.of_map g xs m in subst P e (h x i)

  pub any_map : (f : B → Bool) (xs : List A) → any f (map g xs) ≡ any (λ x. f (g x)) xs
  unfolding any
  any_map f [] = refl
  any_map f (x ∷ xs) = rw (any_map f xs)

module _ {A : Type 0} (g : A → A) where
  pub map_same : (xs : List A) → Each (λ x. g x ≡ x) xs → map g xs ≡ xs
  map_same [] h = refl
  map_same (x ∷ xs) h = rw (each_head h, map_same xs (each_rest h))

  -- a change that the test does not see
  pub filter_map : (t : A → Bool) → ((x : A) → t (g x) ≡ t x) → (xs : List A) → filter t (map g xs) ≡ map g (filter t xs)
  unfolding filter
  filter_map t k [] = refl
  filter_map t k (x ∷ xs) = by_test (t x) (λ e. rw (k x, e, filter_map t k xs)) (λ e. rw (k x, e) (filter_map t k xs))
