-- Runs of stores in a list: what is still to be stored, stored over what is there, gives the whole.
use Prim.Native.Nat.{ℕ, suc, ◌+◌, ◌≤◌, ◌<◌}
use native.Mathlib.Omega.{arith}
use mathlib.Core.Path.{◌≡◌, refl}
use mathlib.Core.List.{List, [], ◌∷◌, ◌++◌}
use lib.ListN.{length, get_or, set, length-set}
use lib.Seq.{sets}
use Rattle.lists.proofs.Loops.{array_next, array_over, Ahead, ahead_next, ahead_done}

pub sets_append : {A : Type 0} (l : List A) (at : ℕ) (xs ys : List A) → sets l at (xs ++ ys) ≡ sets (sets l at xs) (at + length xs) ys
sets_append l at [] ys = let e : at + 0 ≡ at = omega arith in rw e
sets_append l at (x ∷ xs) ys = let e : at + suc (length xs) ≡ suc at + length xs = omega arith in rw e (sets_append (set l at x) (suc at) xs ys)

-- a loop that stores vs from index at on
pub record Stored (n : ℕ) (vs l₀ : List ℕ) (at : ℕ) (l : List ℕ) (i : ℕ) : Type 0 where
  pub within : i ≤ n
  pub long : length vs ≡ n
  pub size : length l ≡ length l₀
  pub ahead : Ahead (sets l (at + i)) vs (sets l₀ at vs) i

module _ {n : ℕ} {vs l₀ : List ℕ} {at : ℕ} where
  pub store_start : length vs ≡ n → Stored n vs l₀ at l₀ 0
  store_start h = record { within = omega arith; long = h; size = refl; ahead = record { same = let e : at + 0 ≡ at = omega arith in rw e } }

  pub store_again : {l l' : List ℕ} {i : ℕ} → Stored n vs l₀ at l i → i < n → l' ≡ set l (at + i) (get_or vs i 0) → Stored n vs l₀ at l' (i + 1)
  store_again {l} {l'} {i} p h q =
      let e : at + (i + 1) ≡ suc (at + i) = omega arith in
      record { within = omega arith; long = p.long; size = rw q (simp length-set p.size); ahead = ahead_next p.ahead (array_next vs p.long 0 h) (rw (e, q)) }

  pub store_done : {l : List ℕ} {i : ℕ} → Stored n vs l₀ at l i → n ≤ i → l ≡ sets l₀ at vs
  store_done p h = ahead_done p.ahead (array_over vs p.long h) refl
