-- A part of a row is its first byte and the part behind it, so that the place of a byte in it is here, or one further than in what is left.
use Prim.Native.Nat.{ℕ, suc, ◌+◌, ◌≤◌, ◌<◌}
use native.Mathlib.Omega.{arith}
use mathlib.Core.Path.{◌≡◌}
use mathlib.Core.List.{List, ◌∷◌}
use lib.ListN.{length, take, get_or}
use lib.Seq.{length-take-le, get_or-take}
use borrow.Author.Tests.{eq-eqb, ne_eqb}
use Rattle.lists.proofs.Loops.{drop_at, drop_done}
use Rattle.trace_session.specs.Bytes.{index_of, slice}

module _ (b to : ℕ) (l : List ℕ) (within : to ≤ length l) where
  next : (i : ℕ) → i < to → slice i to l ≡ get_or l i 0 ∷ slice (i + 1) to l
  next i h =
      let long : length (take to l) ≡ to = length-take-le to l within in
      rw (drop_at (take to l) i 0 (omega arith), get_or-take to l i 0 h)

  pub index_here : (i : ℕ) → i < to → get_or l i 0 ≡ b → index_of b (slice i to l) ≡ 0
  unfolding index_of
  index_here i h e = rw (next i h, eq-eqb (get_or l i 0) b e)

  pub index_on : (i : ℕ) → i < to → (get_or l i 0 ≡ b → ⊥) → index_of b (slice i to l) ≡ suc (index_of b (slice (i + 1) to l))
  unfolding index_of
  index_on i h n = rw (next i h, ne_eqb (get_or l i 0) b n)

  pub index_over : index_of b (slice to to l) ≡ 0
  unfolding index_of
  index_over =
      let long : length (take to l) ≡ to = length-take-le to l within in
      rw (drop_done (take to l) to (omega arith))
