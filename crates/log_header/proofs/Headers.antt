-- The first bytes of two rows are the same where each byte of the one is that of the other.
use Prim.Native.Nat.{ℕ, zero, suc}
use mathlib.Core.Path.{◌≡◌, refl}
use native.Mathlib.Numerals.{add-one}
use mathlib.Core.List.{List}
use lib.Dec.{eqb}
use lib.ListN.{get_or}
use Rattle.std.specs.List.{list_all, range_with_len}
use Rattle.rules.specs.Identifiers.{same_bytes}
use Rattle.log_reader.specs.Reading.{bytes_at}

pub bytes_same : (a b : List ℕ) (n p : ℕ) → list_all (λ i. eqb (get_or a i 0) (get_or b i 0)) (range_with_len p n) ≡ same_bytes (bytes_at a p n) (bytes_at b p n)
unfolding same_bytes bytes_at
bytes_same a b zero p = refl
bytes_same a b (suc n) p = rw (add-one p, bytes_same a b n (suc p))
