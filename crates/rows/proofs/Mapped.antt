-- What memory means stands in the list of what each part of it means: both are read, and stored into, at the same index.
use Prim.Native.Nat.{ℕ, zero, suc, ◌+◌, ◌<◌, ◌≤◌}
use mathlib.Core.Path.{◌≡◌, refl, ap, sym, ◌∙◌}
use mathlib.Core.List.{List, [], ◌∷◌, map}
use lib.ListN.{length, get_or, set, length-map, length-set}
use Rattle.lists.proofs.Loops.{get_or_mapped, Filled, fill_start, fill_again, fill_done}

-- what is read, whatever stands for what is not there
pub stands : {A B : Type 0} (g : A → B) (l : List A) (i : ℕ) (d : A) (e : B) {b : B} → i < length l → b ≡ g (get_or l i d) → b ≡ get_or (map g l) i e
stands g l i d e h q = q ∙ sym (get_or_mapped g l i d e h)

pub map_set : {A B : Type 0} (g : A → B) (l : List A) (i : ℕ) (x : A) → map g (set l i x) ≡ set (map g l) i (g x)
map_set g [] i x = refl
map_set g (y ∷ ys) zero x = refl
map_set g (y ∷ ys) (suc i) x = ap (λ l. g y ∷ l) (map_set g ys i x)

-- ── memory that is written until it means a list ────────────────────────────────────────────────────────────────

pub record Written {A B : Type 0} (g : A → B) (n : ℕ) (l : List B) (out : List A) (i : ℕ) : Type 0 where
  pub long : length out ≡ n
  pub filled : Filled (λ k xs. xs) n l (map g out) i

module _ {A B : Type 0} {g : A → B} {n : ℕ} {l : List B} {out : List A} where
  pub write_start : length l ≡ n → length out ≡ n → Written g n l out 0
  write_start h k = record { long = k; filled = fill_start h (length-map out g ∙ k) }

  pub write_again : {i : ℕ} {y : A} (d : B) → Written g n l out i → i < n → g y ≡ get_or l i d → Written g n l (set out i y) (i + 1)
  write_again {i} {y} d p h q = record {
    long = simp length-set p.long;
    filled = rw (map_set g out i y) (fill_again d p.filled h (λ xs. ap (λ x. x ∷ xs) (sym q)));
  }

  pub write_done : {i : ℕ} → Written g n l out i → n ≤ i → (length out ≡ n) × (map g out ≡ l)
  write_done p h = (p.long, fill_done p.filled h refl)
