-- What is said of the elements of a list.
use mathlib.Core.List.{List, [], ◌∷◌, Memᴰ}

infix 40 ◌∈◌
abbrev pub ◌∈◌ : {A : Type 0} → A → List A → Type 0
x ∈ xs = Memᴰ x xs

-- P holds of each element
abbrev pub Each : {A : Type 0} → (A → Type 0) → List A → Type 0
Each {A} P xs = (x : A) → x ∈ xs → P x

-- P holds of at least one
pub record Some {A : Type 0} (P : A → Type 0) (xs : List A) : Type 0 where
  pub it : A
  pub there : it ∈ xs
  pub holds : P it

-- R holds of no two
pub data Apart {A : Type 0} (R : A → A → Type 0) : List A → Type 0 where
  nothing : Apart R []
  more : {x : A} {xs : List A} → Each (λ y. R x y → ⊥) xs → Apart R xs → Apart R (x ∷ xs)
