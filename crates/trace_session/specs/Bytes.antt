-- A part of a row of bytes, and where a byte stands in one.
use Rattle.std.specs.Prelude.{ℕ, suc, cond, List, [], ◌∷◌, eqb, take, drop}

-- the elements from one index up to, not including, another
abbrev pub slice : ℕ → ℕ → List ℕ → List ℕ
slice from to l = drop from (take to l)

-- how many stand before the first b, which is all of them where there is none
unfoldable pub index_of : ℕ → List ℕ → ℕ
index_of b [] = 0
index_of b (x ∷ xs) = cond (eqb x b) 0 (suc (index_of b xs))
