-- Reading at places: the bytes from a place on come one after the other, whichever sum gives the place of each.
use Prim.Native.Nat.{ℕ, zero, suc, ◌+◌, ◌<◌}
use native.Mathlib.Omega.{arith}
use mathlib.Core.Path.{◌≡◌, refl}
use mathlib.Core.List.{List, [], ◌∷◌}
use lib.ListN.{length, get_or}
use Rattle.rules.specs.Log.{number4}
use Rattle.log_reader.specs.Reading.{bytes_at}

-- four of them, each read by its own sum
pub four_bytes : (log : List ℕ) (at from : ℕ) {a b c d : ℕ} → a ≡ get_or log (at + (from + 0)) 0 → b ≡ get_or log (at + (from + 1)) 0 → c ≡ get_or log (at + (from + 2)) 0
    → d ≡ get_or log (at + (from + 3)) 0 → number4 (a ∷ b ∷ c ∷ d ∷ []) ≡ number4 (bytes_at log (at + from) 4)
unfolding bytes_at
four_bytes log at from p q r s =
    let k0 : at + (from + 0) ≡ at + from = omega arith in
    let k1 : at + (from + 1) ≡ suc (at + from) = omega arith in
    let k2 : at + (from + 2) ≡ suc (suc (at + from)) = omega arith in
    let k3 : at + (from + 3) ≡ suc (suc (suc (at + from))) = omega arith in
    rw (p, q, r, s, k0, k1, k2, k3)

-- n bytes, each of which is what stands at its place
pub bytes_there : (log : List ℕ) (n p : ℕ) (id : List ℕ) → length id ≡ n → ((i : ℕ) → i < n → get_or id i 0 ≡ get_or log (p + i) 0) → id ≡ bytes_at log p n
unfolding bytes_at
bytes_there log zero p [] e f = refl
bytes_there log zero p (x ∷ xs) e f = absurd (omega arith)
bytes_there log (suc n) p [] e f = absurd (omega arith)
bytes_there log (suc n) p (x ∷ xs) e f =
    let k : p + 0 ≡ p = omega arith in
    let first : x ≡ get_or log p 0 = rw k at (f 0 (omega arith)) in
    let rest : xs ≡ bytes_at log (suc p) n =
    bytes_there log n (suc p) xs (omega arith) (λ i h. let q : p + suc i ≡ suc p + i = omega arith in rw q at (f (suc i) (omega arith))) in
    rw (← first, ← rest)
