-- A list is what stands at its indices, one after the other; and what is stored at the indices of a row reads back.
use Prim.Native.Nat.{ℕ, zero, suc, ◌+◌, ◌-◌, ◌≤◌}
use native.Mathlib.Omega.{arith}
use mathlib.Core.Path.{◌≡◌, refl, ap}
use mathlib.Core.List.{List, [], ◌∷◌, ◌++◌}
use lib.ListN.{length, get_or, set, take, drop, replicate}
use borrow.Rule.Slice.PartMut.{put_mid}
use Rattle.std.proofs.lemmas.List.{take_at, drop_at, set-append_right, get_or-append_right}
use Rattle.lists.proofs.Loops as loops
use Rattle.rules.specs.declared.Enlistment.{Enlistment}
use Rattle.rules.specs.Sizes.{largest_number}
use Rattle.rules.specs.Log.{low4}
use Rattle.rules.proofs.Bytes.{number_of_low}
use Rattle.rows.specs.Memory.{enlistment_in}

-- n elements from index i on
unfoldable pub spelt : ℕ → ℕ → List ℕ → List ℕ
spelt zero i l = []
spelt (suc n) i l = get_or l i 0 ∷ spelt n (i + 1) l

pub spelt_is : (n i : ℕ) (l : List ℕ) → i + n ≤ length l → spelt n i l ≡ take n (drop i l)
unfolding spelt
spelt_is zero i l h = refl
spelt_is (suc n) i l h = rw (loops.drop_at l i 0 (omega arith)) (ap (λ k. get_or l i 0 ∷ k) (spelt_is n (i + 1) l (omega arith)))

-- ── a row ───────────────────────────────────────────────────────────────────────────────────────────────────────

-- what stands behind the RM
abbrev behind : Enlistment → List ℕ
behind e = low4 e.number ++ (e.holder ∷ e.kind ∷ e.mark ∷ e.state ∷ [])

module _ (e : Enlistment) (long : length e.rm.0 ≡ 16) where
  -- the number stored behind the RM, and then byte by byte what follows
  pub row_stored : set (set (set (set (put_mid 16 4 (e.rm.0 ++ replicate 8 0) (low4 e.number)) 20 e.holder) 21 e.kind) 22 e.mark) 23 e.state ≡ e.rm.0 ++ behind e
  row_stored =
      let at : (k b : ℕ) (l : List ℕ) → 16 ≤ k → set (e.rm.0 ++ l) k b ≡ e.rm.0 ++ set l (k - 16) b = λ k b l. set-append_right e.rm.0 l 16 k b long in
      rw (take_at e.rm.0 _ 16 long, drop_at e.rm.0 _ 16 long, at 20 e.holder _ (omega arith), at 21 e.kind _ (omega arith), at 22 e.mark _ (omega arith), at 23 e.state _ (omega arith)) refl

  pub row_read : e.number ≤ largest_number → enlistment_in (e.rm.0 ++ behind e) ≡ e
  unfolding enlistment_in
  row_read small =
      let at : (k : ℕ) → 16 ≤ k → get_or (e.rm.0 ++ behind e) k 0 ≡ get_or (behind e) (k - 16) 0 = λ k. get_or-append_right e.rm.0 (behind e) 16 k 0 long in
      rw (take_at e.rm.0 _ 16 long, at 16 (omega arith), at 17 (omega arith), at 18 (omega arith), at 19 (omega arith), at 20 (omega arith), at 21 (omega arith), at 22 (omega arith), at 23 (omega arith), number_of_low e.number small) refl
