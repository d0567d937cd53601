-- Two sizes that are the definition's, where it isn't 0, are one.
use Prim.Native.Nat.{ℕ, ◌<◌}
use native.Mathlib.Omega.{arith}
use mathlib.Core.Path.{◌≡◌, refl, sym, ◌∙◌, ap}
use Rattle.std.specs.Prelude.{Option, Some, None, MatchOption}

-- `size_of` here, and `whole_at` of `log_reader`
pub size_determined : (n : ℕ) (r s : Option ℕ)
    → MatchOption r (n ≡ 0) (λ size. (size ≡ n) × (0 < size)) → MatchOption s (n ≡ 0) (λ size. (size ≡ n) × (0 < size)) → r ≡ s
size_determined n None None p q = refl
size_determined n None (Some b) p q = absurd (omega (arith, p, q.0, q.1))
size_determined n (Some a) None p q = absurd (omega (arith, q, p.0, p.1))
size_determined n (Some a) (Some b) p q = ap Some (p.0 ∙ sym q.0)
