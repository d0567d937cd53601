-- What std says that a chain of iterators gives, in the words of `Lists` and `Places`; the chain goes over a list of
-- which each element means another.
use Prim.Native.Nat.{ℕ, suc, ◌+◌}
use native.Mathlib.Numerals.{add-one}
use mathlib.Core.Path.{◌≡◌, refl, ap}
use mathlib.Core.Bool.{Bool, ◌||◌}
use mathlib.Core.List.{List, [], ◌∷◌, map}
use Rattle.std.specs.Prelude.{Option, MatchOption}
use lib.ListN.{length}
use Rattle.std.specs.List as std
use Rattle.std.specs.List.{list_any, find, position, position_from}
use Rattle.std.proofs.lemmas.Iterator.Adapters.{position_from-zero}
use Rattle.lists.specs.Lists.{any, filter, first_or}
use Rattle.lists.specs.Places.{place_from, place_of}
use Rattle.lists.proofs.Tests.{by_test}

module _ {A B : Type 0} (f : B → Bool) (g : A → B) where
  place_at_from : (k : ℕ) (xs : List A) {p : ℕ}
      → MatchOption (position_from (λ x. f (g x)) k xs) (p ≡ 0) (λ i. p ≡ i + 1)
      → p ≡ place_from f (k + 1) (map g xs)
  unfolding place_from
  place_at_from k [] e = e
  place_at_from k (x ∷ xs) e = by_test (f (g x))
      (λ t. rw t (rw t at e))
      (λ t. rw (t, ← add-one (k + 1)) (place_at_from (k + 1) xs (rw t at e)))

  -- the place of the index that `position` gives, 0 where it gives none
  pub place_at_position : (xs : List A) {r : Option ℕ} {p : ℕ}
      → r ≡ position (λ x. f (g x)) xs → MatchOption r (p ≡ 0) (λ i. p ≡ i + 1) → p ≡ place_of f (map g xs)
  place_at_position xs {r} {p} q e = place_at_from 0 xs (rw (q, position_from-zero (λ x. f (g x)) xs) at e)

  -- what the element that `find` gives means, d where it gives none
  pub first_at_find : (d : B) (xs : List A) {o : Option A} {r : B}
      → o ≡ find (λ x. f (g x)) xs → MatchOption o (r ≡ d) (λ x. r ≡ g x)
      → r ≡ first_or d f (map g xs)
  unfolding first_or
  first_at_find d [] q e = rw q at e
  first_at_find d (x ∷ xs) q e = by_test (f (g x))
      (λ t. rw t (rw (q, t) at e))
      (λ t. rw t (first_at_find d xs (rw t at q) e))

  -- what `any` gives
  pub any_listed : (xs : List A) → list_any (λ x. f (g x)) xs ≡ any f (map g xs)
  unfolding any
  any_listed [] = refl
  any_listed (x ∷ xs) = ap (λ b. f (g x) || b) (any_listed xs)

  -- how many are left by `filter`
  pub length_listed : (xs : List A) → length (std.filter (λ x. f (g x)) xs) ≡ length (filter f (map g xs))
  unfolding filter
  length_listed [] = refl
  length_listed (x ∷ xs) = by_test (f (g x)) (λ t. rw t (ap suc (length_listed xs))) (λ t. rw t (length_listed xs))
