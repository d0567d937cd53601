-- What is put back place by place: each law goes along the places, and where one is refilled the next of the others is at hand.
use Prim.Native.Nat.{ℕ, zero, suc, ◌+◌, ◌≤◌, ◌<◌}
use native.Mathlib.Omega.{arith}
use mathlib.Core.Path.{◌≡◌, refl, sym, ◌∙◌, ap}
use mathlib.Core.Bool.{Bool, true, false, cond}
use mathlib.Core.List.{List, [], ◌∷◌, map}
use lib.ListN.{length, get_or, take, drop}
use Rattle.lists.specs.Lists.{filter, count}
use Rattle.lists.proofs.Tests.{by_test}
use Rattle.lists.proofs.Loops.{get_or_mapped, drop_at}
use Rattle.rules.specs.declared.Enlistment.{Enlistment}
use Rattle.rules.specs.Table.{no_enlistment}
use Rattle.holdings.specs.Within.{filled, refill_from}

-- ── filled ──────────────────────────────────────────────────────────────────────────────────────────────────────

pub length_filled : (n : ℕ) (es : List Enlistment) → length (filled n es) ≡ n
unfolding filled
length_filled zero es = refl
length_filled (suc n) [] = ap suc (length_filled n [])
length_filled (suc n) (e ∷ es) = ap suc (length_filled n es)

-- in front the list itself
pub filled_at : (n k : ℕ) (es : List Enlistment) → k < n → get_or (filled n es) k no_enlistment ≡ get_or es k no_enlistment
unfolding filled
filled_at zero k es h = absurd (omega arith)
filled_at (suc n) zero [] h = refl
filled_at (suc n) zero (e ∷ es) h = refl
filled_at (suc n) (suc k) [] h = filled_at n k [] (omega arith)
filled_at (suc n) (suc k) (e ∷ es) h = filled_at n k es (omega arith)

-- ── refilled ────────────────────────────────────────────────────────────────────────────────────────────────────

module _ (f : Enlistment → Bool) where
  -- by what was taken, the list is as it was
  pub refill_same : (pre : ℕ) (hs xs : List Enlistment) → ((k : ℕ) → k < length (filter f xs) → get_or hs (pre + k) no_enlistment ≡ get_or (filter f xs) k no_enlistment) → refill_from f pre hs xs ≡ xs
  unfolding refill_from filter
  refill_same pre hs [] h = refl
  refill_same pre hs (x ∷ xs) h = by_test (f x)
      (λ t. rw t (λ i. first t i ∷ refill_same (suc pre) hs xs (λ k l. rest t k l) i))
      (λ t. rw t (ap (λ l. x ∷ l) (refill_same pre hs xs (rw t at h))))
    where
      those : f x ≡ true → (k : ℕ) → k < length (x ∷ filter f xs) → get_or hs (pre + k) no_enlistment ≡ get_or (x ∷ filter f xs) k no_enlistment
      those t = rw t at h

      first : f x ≡ true → get_or hs pre no_enlistment ≡ x
      first t = let e : pre ≡ pre + 0 = omega arith in ap (λ n. get_or hs n no_enlistment) e ∙ those t 0 (omega arith)

      rest : f x ≡ true → (k : ℕ) → k < length (filter f xs) → get_or hs (suc pre + k) no_enlistment ≡ get_or (filter f xs) k no_enlistment
      rest t k l = let e : suc pre + k ≡ pre + suc k = omega arith in ap (λ n. get_or hs n no_enlistment) e ∙ those t (suc k) (omega arith)

  -- those that pass are now such of the others as pass
  pub filter_refill : (k : ℕ) (hs xs : List Enlistment) → k + count f xs ≤ length hs → filter f (refill_from f k hs xs) ≡ filter f (take (count f xs) (drop k hs))
  unfolding refill_from filter count
  filter_refill k hs [] h = refl
  filter_refill k hs (x ∷ xs) h = by_test (f x) (λ t. rw t (passed (rw t at h) (filter_refill (suc k) hs xs (omega (arith, rw t at h))))) (λ t. rw t (rw t (filter_refill k hs xs (rw t at h))))
    where
      passed : k + suc (count f xs) ≤ length hs → filter f (refill_from f (suc k) hs xs) ≡ filter f (take (count f xs) (drop (suc k) hs)) → cond (f (get_or hs k no_enlistment)) (get_or hs k no_enlistment ∷ filter f (refill_from f (suc k) hs xs)) (filter f (refill_from f (suc k) hs xs)) ≡ filter f (take (suc (count f xs)) (drop k hs))
      passed l q = let e : k + 1 ≡ suc k = omega arith in
          rw (drop_at hs k no_enlistment (omega arith), e) (ap (λ r. cond (f (get_or hs k no_enlistment)) (get_or hs k no_enlistment ∷ r) r) q)

  -- what is done to each of them is done to each of the others
  pub map_refill : (g : Enlistment → Enlistment) → ((x : Enlistment) → f x ≡ false → g x ≡ x) → (k : ℕ) (hs xs : List Enlistment) → k + count f xs ≤ length hs
      → map g (refill_from f k hs xs) ≡ refill_from f k (map g hs) xs
  unfolding refill_from count
  map_refill g s k hs [] h = refl
  map_refill g s k hs (x ∷ xs) h = by_test (f x)
      (λ t. rw t (λ i. sym (get_or_mapped g hs k no_enlistment no_enlistment (omega (arith, rw t at h))) i ∷ map_refill g s (suc k) hs xs (omega (arith, rw t at h)) i))
      (λ t. rw t (λ i. s x t i ∷ map_refill g s k hs xs (rw t at h) i))
