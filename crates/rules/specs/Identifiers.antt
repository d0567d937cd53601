-- "Transaction and resource manager (RM) identifiers are 16 bytes".
use Rattle.std.specs.Prelude.{ℕ, Bool, true, false, cond, ◌&&◌, List, [], ◌∷◌, eqb, ltb, replicate}
use Rattle.lists.specs.Lists.{all}
use Rattle.rules.specs.Sizes.{identifier_size}

abbrev pub Id : Type 0
Id = List ℕ

abbrev pub zero_id : Id
zero_id = replicate identifier_size 0

abbrev pub is_zero : Id → Bool
is_zero t = all (λ b. eqb b 0) t

unfoldable pub same_bytes : List ℕ → List ℕ → Bool
same_bytes [] [] = true
same_bytes [] (y ∷ ys) = false
same_bytes (x ∷ xs) [] = false
same_bytes (x ∷ xs) (y ∷ ys) = eqb x y && same_bytes xs ys

-- "bytes compared from the first": the first two that differ decide
unfoldable pub less_bytes : List ℕ → List ℕ → Bool
less_bytes [] [] = false
less_bytes [] (y ∷ ys) = true
less_bytes (x ∷ xs) [] = false
less_bytes (x ∷ xs) (y ∷ ys) = cond (eqb x y) (less_bytes xs ys) (ltb x y)
