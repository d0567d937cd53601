-- A number of 32 bits and its four bytes, low first, are each other's: a number is its rest by 256 and 256 times its quotient.
use Prim.Native.Nat.{ℕ, zero, suc, ◌+◌, ◌*◌, ◌/◌, ◌%◌, ◌≤◌, ◌<◌}
use native.Mathlib.Omega.{arith}
use native.Mathlib.Nat.{div-div-eq-div-mul, div-add-mod, mod-lt, mod-eq_of_lt}
use mathlib.Core.Path.{◌≡◌, refl, sym, ◌∙◌, ap}
use mathlib.Core.List.{List, [], ◌∷◌}
use lib.ListN.{length, get_or}
use Rattle.lists.specs.Members.{Each}
use Rattle.lists.proofs.Tests.{each_head, each_rest}
use Rattle.rules.specs.Sizes.{largest_number}
use Rattle.rules.specs.Log.{low4, number4}

-- ── the number of a number's bytes ──────────────────────────────────────────────────────────────────────────────

-- r, s, t, u are the bytes of n; a, b, c are what stands above the first three
join : (n a b c r s t u : ℕ) → 256 * a + r ≡ n → 256 * b + s ≡ a → 256 * c + t ≡ b → u ≡ c → r + 256 * s + 65536 * t + 16777216 * u ≡ n
join n a b c r s t u p q x y = omega arith

pub number_of_low : (n : ℕ) → n ≤ largest_number → number4 (low4 n) ≡ n
number_of_low n h = join n (n / 256) (n / 65536) (n / 16777216) (n % 256) (n / 256 % 256) (n / 65536 % 256) (n / 16777216 % 256)
    (div-add-mod n 256)
    (rw (div-div-eq-div-mul n 256 256) at (div-add-mod (n / 256) 256))
    (rw (div-div-eq-div-mul n 65536 256) at (div-add-mod (n / 65536) 256))
    (mod-eq_of_lt (omega arith))

byte_at : (i : ℕ) (bs : List ℕ) → Each (λ b. b < 256) bs → get_or bs i 0 < 256
byte_at i [] h = omega arith
byte_at zero (b ∷ bs) h = each_head h
byte_at (suc i) (b ∷ bs) h = byte_at i bs (each_rest h)

pub number_small : (bs : List ℕ) → Each (λ b. b < 256) bs → number4 bs ≤ largest_number
number_small bs h = omega (arith, byte_at 0 bs h, byte_at 1 bs h, byte_at 2 bs h, byte_at 3 bs h)

-- ── the bytes of the bytes' number ──────────────────────────────────────────────────────────────────────────────

alone : (q r a m : ℕ) → 256 * q + r ≡ a + 256 * m → r < 256 → a < 256 → (r ≡ a) × (q ≡ m)
alone q r a m e h l = (omega arith, omega arith)

-- a is the lowest byte, and m what stands above it
low_byte : (n a m : ℕ) → n ≡ a + 256 * m → a < 256 → (n % 256 ≡ a) × (n / 256 ≡ m)
low_byte n a m e h = alone (n / 256) (n % 256) a m (div-add-mod n 256 ∙ e) (mod-lt n (omega arith)) h

low_of_four : (n a b c d : ℕ) → n ≡ a + 256 * b + 65536 * c + 16777216 * d → a < 256 → b < 256 → c < 256 → d < 256 → low4 n ≡ a ∷ b ∷ c ∷ d ∷ []
low_of_four n a b c d e ha hb hc hd =
    let one : (n % 256 ≡ a) × (n / 256 ≡ b + 256 * (c + 256 * d)) = low_byte n a (b + 256 * (c + 256 * d)) (omega arith) ha in
    let two : (n / 256 % 256 ≡ b) × (n / 256 / 256 ≡ c + 256 * d) = low_byte (n / 256) b (c + 256 * d) one.1 hb in
    let three : (n / 65536 % 256 ≡ c) × (n / 65536 / 256 ≡ d) = low_byte (n / 65536) c d (sym (div-div-eq-div-mul n 256 256) ∙ two.1) hc in
    let four : n / 16777216 % 256 ≡ d = ap (λ q. q % 256) (sym (div-div-eq-div-mul n 65536 256) ∙ three.1) ∙ mod-eq_of_lt hd in
    rw (one.0, two.0, three.0, four)

pub low_of_number : (bs : List ℕ) → length bs ≡ 4 → Each (λ b. b < 256) bs → low4 (number4 bs) ≡ bs
low_of_number [] l h = absurd (omega arith)
low_of_number (a ∷ []) l h = absurd (omega arith)
low_of_number (a ∷ b ∷ []) l h = absurd (omega arith)
low_of_number (a ∷ b ∷ c ∷ []) l h = absurd (omega arith)
low_of_number (a ∷ b ∷ c ∷ d ∷ []) l h = low_of_four (number4 (a ∷ b ∷ c ∷ d ∷ [])) a b c d refl (each_head h) (each_head (each_rest h)) (each_head (each_rest (each_rest h))) (each_head (each_rest (each_rest (each_rest h))))
low_of_number (a ∷ b ∷ c ∷ d ∷ e ∷ bs) l h = absurd (omega arith)
