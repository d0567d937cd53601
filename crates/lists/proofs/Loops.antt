-- Loops over an array, by what is left to do. Each kind has an invariant, as a record, and facts: it holds at the start, again after a turn, and what it says at the end.
use Prim.Native.Nat.{ℕ, zero, suc, ◌≤◌, ◌<◌, ◌+◌, ◌-◌}
use native.Mathlib.Omega.{arith}
use native.Mathlib.Nat.{le_of_suc-le-suc, not-suc-le-zero}
use native.Mathlib.Numerals.{add-one}
use mathlib.Core.Path.{◌≡◌, refl, ap, sym, ◌∙◌}
use mathlib.Core.Bool.{Bool, true, false, cond, not, ◌&&◌, ◌||◌}
use mathlib.Core.List.{List, [], ◌∷◌, ◌++◌, map, append-nil, append_assoc}
use lib.ListN.{length, get_or, set, take, drop, length-set, length-map, drop_of_length-le, get_or-map}
use lib.Seq.{drop-cons, take_all, take-suc-set}
use lib.Dec.{eqb}
use borrow.Author.Tests.{eq-eqb, ne_eqb, eqb-true, eqb-false}
use Rattle.lists.specs.Lists.{all, any, filter, count, first_or}
use Rattle.lists.specs.Places.{place_from, place_of, at, change_at}
use Rattle.lists.proofs.Tests.{by_test}
use Rattle.lists.proofs.Places.{at_is, change_is, place_some, place_none}

-- an array's own length, from what owning it tells: `search long`
pub long : {X Y : Type 0} (g : X → Y) (l : List X) (n : ℕ) → length (map g l) ≡ n → length l ≡ n
long g l n e = rw length-map at e

-- within a list the default does not matter
pub get_or_any : {A : Type 0} (l : List A) (i : ℕ) (d e : A) → i < length l → get_or l i d ≡ get_or l i e
get_or_any [] i d e h = absurd (not-suc-le-zero h)
get_or_any (x ∷ xs) zero d e h = refl
get_or_any (x ∷ xs) (suc i) d e h = get_or_any xs i d e (le_of_suc-le-suc h)

-- so that at an index that is there stands what g makes of what stood there
pub get_or_mapped : {A B : Type 0} (g : A → B) (l : List A) (i : ℕ) (d : A) (e : B) → i < length l → get_or (map g l) i e ≡ g (get_or l i d)
get_or_mapped g l i d e h = get_or_any (map g l) i e (g d) (rw (length-map l g) h) ∙ get_or-map g l i d

pub drop_map : {A B : Type 0} (g : A → B) (i : ℕ) (l : List A) → drop i (map g l) ≡ map g (drop i l)
drop_map g zero l = refl
drop_map g (suc i) [] = refl
drop_map g (suc i) (x ∷ xs) = drop_map g i xs

-- what stands at index i comes next, in what is left of the list
pub drop_at : {A : Type 0} (l : List A) (i : ℕ) (d : A) → i < length l → drop i l ≡ get_or l i d ∷ drop (i + 1) l
drop_at l i d h = rw add-one (drop-cons l i d h)

pub drop_done : {A : Type 0} (l : List A) (i : ℕ) → length l ≤ i → drop i l ≡ []
drop_done l i h = drop_of_length-le l h

-- the same of an array of n
module _ {A : Type 0} (l : List A) {n : ℕ} (e : length l ≡ n) {i : ℕ} where
  pub array_next : (d : A) → i < n → drop i l ≡ get_or l i d ∷ drop (i + 1) l
  array_next d h = drop_at l i d (omega arith)

  pub array_over : n ≤ i → drop i l ≡ []
  array_over h = drop_done l i (omega arith)

-- ── what is left says what the whole says ───────────────────────────────────────────────────────────────────────

pub record Ahead {A B : Type 0} (g : List A → B) (l : List A) (whole : B) (i : ℕ) : Type 0 where
  pub same : whole ≡ g (drop i l)

module _ {A B : Type 0} {g : List A → B} {l : List A} {whole : B} {i : ℕ} (p : Ahead g l whole i) where
  -- g' is to say it of the others
  pub ahead_next : {g' : List A → B} {x : A} → drop i l ≡ x ∷ drop (i + 1) l → g (x ∷ drop (i + 1) l) ≡ g' (drop (i + 1) l) → Ahead g' l whole (i + 1)
  ahead_next n e = record { same = (rw n at p.same) ∙ e }

  pub ahead_stop : {x : A} {r : B} → drop i l ≡ x ∷ drop (i + 1) l → g (x ∷ drop (i + 1) l) ≡ r → r ≡ whole
  ahead_stop n e = sym ((rw n at p.same) ∙ e)

  pub ahead_done : {r : B} → drop i l ≡ [] → g [] ≡ r → r ≡ whole
  ahead_done n e = sym ((rw n at p.same) ∙ e)

-- the first k of a row, and behind them what g makes of what is left: one more is put
pub ahead_put : {A B : Type 0} (g g' : List A → List B) (row : List B) (k : ℕ) (v : B) {l : List A} {whole : List B} {i : ℕ} {x : A} → Ahead (λ xs. take k row ++ g xs) l whole i → drop i l ≡ x ∷ drop (i + 1) l → k < length row
    → g (x ∷ drop (i + 1) l) ≡ v ∷ g' (drop (i + 1) l) → Ahead (λ xs. take (k + 1) (set row k v) ++ g' xs) l whole (i + 1)
ahead_put g g' row k v p n h e = ahead_next p n (rw (add-one k, take-suc-set row k v h, append_assoc, e))

-- ── from the front, stopping early: g i of what is left is the answer ───────────────────────────────────────────

pub record Looked {A B : Type 0} (g : ℕ → List A → B) (n : ℕ) (l : List A) (i : ℕ) : Type 0 where
  pub within : i ≤ n
  pub long : length l ≡ n
  pub ahead : Ahead (g i) l (g 0 l) i

module _ {A B : Type 0} {g : ℕ → List A → B} {n : ℕ} {l : List A} where
  pub look_start : length l ≡ n → Looked g n l 0
  look_start h = record { within = omega arith; long = h; ahead = record { same = refl } }

  pub look_next : {i : ℕ} (d : A) → Looked g n l i → i < n → ((xs : List A) → g i (get_or l i d ∷ xs) ≡ g (i + 1) xs) → Looked g n l (i + 1)
  look_next {i} d p h e = record { within = omega arith; long = p.long; ahead = ahead_next p.ahead (array_next l p.long d h) (e (drop (i + 1) l)) }

  pub look_stop : {i : ℕ} {r : B} (d : A) → Looked g n l i → i < n → ((xs : List A) → g i (get_or l i d ∷ xs) ≡ r) → r ≡ g 0 l
  look_stop {i} d p h e = ahead_stop p.ahead (array_next l p.long d h) (e (drop (i + 1) l))

  pub look_done : {i : ℕ} {r : B} → Looked g n l i → n ≤ i → g i [] ≡ r → r ≡ g 0 l
  look_done p h e = ahead_done p.ahead (array_over l p.long h) e

-- ── the first place that passes f ───────────────────────────────────────────────────────────────────────────────

abbrev pub Sought : {A : Type 0} → (A → Bool) → ℕ → List A → ℕ → Type 0
Sought f n l i = Looked (λ k. place_from f (k + 1)) n l i

module _ {A : Type 0} (f : A → Bool) {n : ℕ} {l : List A} where
  pub seek_miss : {i : ℕ} {b : Bool} (d : A) → Sought f n l i → i < n → b ≡ f (get_or l i d) → b ≡ false → Sought f n l (i + 1)
  unfolding place_from
  seek_miss {i} d p h e t = look_next d p h (λ xs. rw (sym e ∙ t, add-one (i + 1)))

  pub seek_hit : {i : ℕ} {b : Bool} (d : A) → Sought f n l i → i < n → b ≡ f (get_or l i d) → b ≡ true → i + 1 ≡ place_of f l
  unfolding place_from
  seek_hit d p h e t = look_stop d p h (λ xs. rw (sym e ∙ t))

  pub seek_done : {i : ℕ} → Sought f n l i → n ≤ i → 0 ≡ place_of f l
  unfolding place_from
  seek_done p h = look_done p h refl

-- what the place that was found says: whether any passes
module _ {A : Type 0} (f : A → Bool) where
  pub any_place : (xs : List A) → any f xs ≡ not (eqb (place_of f xs) 0)
  any_place xs = by_test (eqb (place_of f xs) 0) (λ e. rw e (place_none f xs (eqb-true _ _ e))) (λ e. rw e (place_some f xs (eqb-false _ _ e)))

-- what a count says: whether any passes, and whether all do
module _ {A : Type 0} (f : A → Bool) where
  pub count_most : (xs : List A) → count f xs ≤ length xs
  unfolding count
  count_most [] = omega arith
  count_most (x ∷ xs) = let h : count f xs ≤ length xs = count_most xs in by_test (f x) (λ e. rw e (omega arith)) (λ e. rw e (omega arith))

  pub any_count : (xs : List A) → any f xs ≡ not (eqb (count f xs) 0)
  unfolding any count
  any_count [] = refl
  any_count (x ∷ xs) = by_test (f x) (λ e. rw (e, ne_eqb (suc (count f xs)) 0 (omega arith))) (λ e. rw e (any_count xs))

  pub all_count : (xs : List A) → all f xs ≡ eqb (count f xs) (length xs)
  unfolding all count
  all_count [] = sym (eq-eqb 0 0 refl)
  all_count (x ∷ xs) = let h : count f xs ≤ length xs = count_most xs in by_test (f x)
      (λ e. rw e (all_count xs ∙ by_test (eqb (count f xs) (length xs))
      (λ q. q ∙ sym (eq-eqb (suc (count f xs)) (suc (length xs)) (ap suc (eqb-true _ _ q))))
      (λ q. let n : count f xs ≡ length xs → ⊥ = eqb-false _ _ q in q ∙ sym (ne_eqb (suc (count f xs)) (suc (length xs)) (λ z. n (omega arith))))))
      (λ e. rw (e, ne_eqb (count f xs) (suc (length xs)) (omega arith)))

-- tests of those that pass another
module _ {A : Type 0} (f g : A → Bool) where
  pub any_filter : (xs : List A) → any f (filter g xs) ≡ any (λ x. g x && f x) xs
  unfolding any filter
  any_filter [] = refl
  any_filter (x ∷ xs) = by_test (g x) (λ e. rw e (ap (λ b. f x || b) (any_filter xs))) (λ e. rw e (any_filter xs))

  pub first_filter : (d : A) (xs : List A) → first_or d f (filter g xs) ≡ first_or d (λ x. g x && f x) xs
  unfolding first_or filter
  first_filter d [] = refl
  first_filter d (x ∷ xs) = by_test (g x) (λ e. rw e (ap (λ y. cond (f x) x y) (first_filter d xs))) (λ e. rw e (first_filter d xs))

-- what is put at a place is what the change makes of what stands there
pub change_there : {A : Type 0} (f : A → A) (d : A) (p : ℕ) (xs : List A) → change_at p f xs ≡ change_at p (λ y. f (at d p xs)) xs
change_there f d p xs = rw (change_is f p d xs, change_is (λ y. f (at d p xs)) p d xs, at_is d p xs) (by_test (eqb p 0) (λ e. rw e) (λ e. rw e))

-- ── from the back, folding from the right: b is f of what is behind i ───────────────────────────────────────────

pub record Gathered {A B : Type 0} (f : ℕ → List A → B) (n : ℕ) (l : List A) (b : B) (i : ℕ) : Type 0 where
  pub within : i ≤ n
  pub long : length l ≡ n
  pub same : b ≡ f i (drop i l)

module _ {A B : Type 0} {f : ℕ → List A → B} {n : ℕ} {l : List A} where
  pub gather_start : {b : B} → length l ≡ n → b ≡ f n [] → Gathered f n l b n
  gather_start h e = record { within = omega arith; long = h; same = rw (drop_done l n (omega arith)) e }

  -- g puts one more in front
  pub gather_again : {b b' : B} {i : ℕ} (g : A → B → B) (d : A) → Gathered f n l b i → 0 < i → b' ≡ g (get_or l (i - 1) d) b
      → ((x : A) (xs : List A) → f (i - 1) (x ∷ xs) ≡ g x (f i xs)) → Gathered f n l b' (i - 1)
  gather_again {b} {b'} {i} g d p h q e =
      let back : i - 1 + 1 ≡ i = omega arith in
      record { within = omega arith; long = p.long; same = rw (drop_at l (i - 1) d (omega arith), back, e (get_or l (i - 1) d) (drop i l), ← p.same) q }

  pub gather_done : {b : B} {i : ℕ} → Gathered f n l b i → i ≤ 0 → b ≡ f 0 l
  gather_done {b} {i} p h = let z : i ≡ 0 = omega arith in rw z at p.same

-- ── an array that is rewritten in place ─────────────────────────────────────────────────────────────────────────

-- the first i elements as they are, and then h of the others
unfoldable pub rest_from : {A : Type 0} → (List A → List A) → ℕ → List A → List A
rest_from h zero l = h l
rest_from h (suc i) [] = []
rest_from h (suc i) (x ∷ xs) = x ∷ rest_from h i xs

-- y stands for what was at index i, where h of what is left starts with y, and h' is what is then to be done with the others
rest_step : {A : Type 0} (h h' : List A → List A) (l : List A) (i : ℕ) (d y : A) → i < length l → h (get_or l i d ∷ drop (suc i) l) ≡ y ∷ h' (drop (suc i) l)
    → rest_from h' (suc i) (set l i y) ≡ rest_from h i l
unfolding rest_from
rest_step h h' [] i d y lt e = absurd (not-suc-le-zero lt)
rest_step h h' (x ∷ xs) zero d y lt e = sym e
rest_step h h' (x ∷ xs) (suc i) d y lt e = ap (λ l. x ∷ l) (rest_step h h' xs i d y (le_of_suc-le-suc lt) e)

rest_end : {A : Type 0} (h : List A → List A) (l : List A) (i : ℕ) → h [] ≡ [] → length l ≤ i → rest_from h i l ≡ l
unfolding rest_from
rest_end h [] zero e lt = e
rest_end h [] (suc i) e lt = refl
rest_end h (x ∷ xs) zero e lt = absurd (not-suc-le-zero lt)
rest_end h (x ∷ xs) (suc i) e lt = ap (λ l. x ∷ l) (rest_end h xs i e (le_of_suc-le-suc lt))

-- `whole` is what the list is to be in the end
pub record Rewritten {A : Type 0} (n : ℕ) (h : List A → List A) (whole l : List A) (i : ℕ) : Type 0 where
  pub within : i ≤ n
  pub long : length l ≡ n
  pub same : rest_from h i l ≡ whole

module _ {A : Type 0} {n : ℕ} {h : List A → List A} where
  pub rewrite_start : {l : List A} → length l ≡ n → Rewritten n h (h l) l 0
  unfolding rest_from
  rewrite_start e = record { within = omega arith; long = e; same = refl }

  pub rewrite_again : {h' : List A → List A} {whole l : List A} {i : ℕ} {y : A} (d : A) → Rewritten n h whole l i → i < n
      → ((xs : List A) → h (get_or l i d ∷ xs) ≡ y ∷ h' xs) → Rewritten n h' whole (set l i y) (i + 1)
  rewrite_again {h'} {whole} {l} {i} {y} d p lt e = record { within = omega arith; long = simp length-set p.long; same = rw add-one (rest_step h h' l i d y (omega arith) (e (drop (suc i) l)) ∙ p.same) }

  pub rewrite_done : {whole l : List A} {i : ℕ} → Rewritten n h whole l i → n ≤ i → h [] ≡ [] → l ≡ whole
  rewrite_done {whole} {l} {i} p lt e = sym (rest_end h l i e (omega arith)) ∙ p.same

-- ── an array that is filled from another, side by side ──────────────────────────────────────────────────────────

pub record Filled {A B : Type 0} (f : ℕ → List A → List B) (n : ℕ) (l : List A) (out : List B) (i : ℕ) : Type 0 where
  pub within : i ≤ n
  pub long : length l ≡ n
  pub long_out : length out ≡ n
  pub ahead : Ahead (λ xs. take i out ++ f i xs) l (f 0 l) i

module _ {A B : Type 0} {f : ℕ → List A → List B} {n : ℕ} {l : List A} where
  pub fill_start : {out : List B} → length l ≡ n → length out ≡ n → Filled f n l out 0
  fill_start h k = record { within = omega arith; long = h; long_out = k; ahead = record { same = refl } }

  pub fill_again : {out : List B} {i : ℕ} {y : B} (d : A) → Filled f n l out i → i < n → ((xs : List A) → f i (get_or l i d ∷ xs) ≡ y ∷ f (i + 1) xs) → Filled f n l (set out i y) (i + 1)
  fill_again {out} {i} {y} d p h e = record {
    within = omega arith;
    long = p.long;
    long_out = simp length-set p.long_out;
    ahead = ahead_put (f i) (f (i + 1)) out i y p.ahead (array_next l p.long d h) (omega arith) (e (drop (i + 1) l));
  }

  pub fill_done : {out : List B} {i : ℕ} → Filled f n l out i → n ≤ i → f n [] ≡ [] → out ≡ f 0 l
  fill_done {out} {i} p h e =
      let z : i ≡ n = omega arith in
      sym (append-nil out) ∙ ahead_done p.ahead (array_over l p.long h) (rw (z, take_all n out (omega arith), e))

-- with f(x) for each x
pub fill_map : {A B : Type 0} (f : A → B) {n : ℕ} {l : List A} {out : List B} {i : ℕ} {y : B} (d : A) → Filled (λ k. map f) n l out i → i < n → y ≡ f (get_or l i d) → Filled (λ k. map f) n l (set out i y) (i + 1)
fill_map f d p h q = fill_again d p h (λ xs. ap (λ z. z ∷ map f xs) (sym q))
