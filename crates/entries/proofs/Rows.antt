-- Loops over the entries of a record: the next of those that are left is read from the log.
use Prim.Native.Nat.{ℕ, zero, suc, ◌+◌, ◌-◌, ◌≤◌, ◌<◌}
use native.Mathlib.Omega.{arith}
use native.Mathlib.Numerals.{add-one}
use native.Mathlib.Nat.{le_of_suc-le-suc, not-suc-le-zero, sub-zero, suc-sub-suc}
use mathlib.Core.Path.{◌≡◌, refl, ap, sym, ◌∙◌}
use mathlib.Core.Bool.{Bool, true, false}
use mathlib.Core.List.{List, [], ◌∷◌}
use lib.ListN.{length, drop}
use Rattle.std.specs.List.{list_any, range_with_len}
use Rattle.lists.specs.Lists.{any, differ}
use Rattle.lists.proofs.Loops.{drop_done, Ahead, ahead_next, ahead_stop}
use Rattle.rules.specs.Identifiers.{Id, same_bytes}
use Rattle.rules.specs.Restart.{same_entry_manager}
use Rattle.rules.specs.Log.{Entry}
use Rattle.log_reader.specs.Reading.{entry_at, entries_from, entries_count, entries_at}

-- ── the entries of a record ─────────────────────────────────────────────────────────────────────────────────────

entries_length : (log : List ℕ) (p j n : ℕ) → length (entries_from log p j n) ≡ n
unfolding entries_from
entries_length log p j zero = refl
entries_length log p j (suc n) = ap suc (entries_length log p (suc j) n)

pub entries_long : (log : List ℕ) (p : ℕ) → length (entries_at log p) ≡ entries_count log p
unfolding entries_at
entries_long log p = entries_length log p 0 (entries_count log p)

entries_drop : (log : List ℕ) (p j i n : ℕ) → i < n → drop i (entries_from log p j n) ≡ entry_at log p (j + i) ∷ drop (suc i) (entries_from log p j n)
unfolding entries_from
entries_drop log p j i zero h = absurd (not-suc-le-zero h)
entries_drop log p j zero (suc n) h = let k : j + 0 ≡ j = omega arith in rw k
entries_drop log p j (suc i) (suc n) h =
    let k : suc j + i ≡ j + suc i = omega arith in
    rw (← k) (entries_drop log p (suc j) i n (le_of_suc-le-suc h))

-- n is their count
module _ (log : List ℕ) (p j : ℕ) {n : ℕ} (e : n ≡ entries_count log p) where
  pub entry_next : j < n → drop j (entries_at log p) ≡ entry_at log p j ∷ drop (j + 1) (entries_at log p)
  unfolding entries_at
  entry_next h =
      let k : 0 + j ≡ j = omega arith in
      rw (add-one j) (rw k at (entries_drop log p 0 j (entries_count log p) (omega arith)))

  pub entries_over : n ≤ j → drop j (entries_at log p) ≡ []
  entries_over h = drop_done (entries_at log p) j (omega (arith, entries_long log p))

-- ── whether one of them passes a test ───────────────────────────────────────────────────────────────────────────

any_from : (f : Entry → Bool) (log : List ℕ) (p j n : ℕ) → list_any (λ k. f (entry_at log p k)) (range_with_len j n) ≡ any f (entries_from log p j n)
unfolding any entries_from
any_from f log p j zero = refl
any_from f log p j (suc n) = rw (add-one j, any_from f log p (suc j) n)

from_behind : (log : List ℕ) (p i j n : ℕ) → drop i (entries_from log p j n) ≡ entries_from log p (j + i) (n - i)
unfolding entries_from
from_behind log p zero j n = let k : j + 0 ≡ j = omega arith in rw (k, sub-zero n)
from_behind log p (suc i) j zero = let k : 0 - suc i ≡ 0 = omega arith in rw k
from_behind log p (suc i) j (suc n) = let k : suc j + i ≡ j + suc i = omega arith in rw (suc-sub-suc n i, ← k) (from_behind log p i (suc j) n)

-- n is their count
pub any_read : (f : Entry → Bool) (log : List ℕ) (p : ℕ) {n : ℕ} → n ≡ entries_count log p → list_any (λ k. f (entry_at log p k)) (range_with_len 0 n) ≡ any f (entries_at log p)
unfolding entries_at
any_read f log p {n} e = rw e (any_from f log p 0 (entries_count log p))

pub any_behind : (f : Entry → Bool) (log : List ℕ) (p i : ℕ) {n : ℕ} → n ≡ entries_count log p → list_any (λ k. f (entry_at log p k)) (range_with_len i (n - i)) ≡ any f (drop i (entries_at log p))
unfolding entries_at
any_behind f log p i e = let k : 0 + i ≡ i = omega arith in rw (e, from_behind log p i 0 (entries_count log p), k) (any_from f log p i (entries_count log p - i))

-- ── whether no two have one resource manager ────────────────────────────────────────────────────────────────────

module _ {l : List Entry} {whole b : Bool} {x : Entry} {rm : Id} {i : ℕ} (p : Ahead (differ same_entry_manager) l whole i) (n : drop i l ≡ x ∷ drop (i + 1) l)
    (m : rm ≡ x.rm) (e : b ≡ any (λ y. same_bytes y.rm rm) (drop (i + 1) l)) where
  pub differ_next : b ≡ false → Ahead (differ same_entry_manager) l whole (i + 1)
  unfolding differ
  differ_next t = ahead_next p n (rw (← m, sym e ∙ t))

  pub differ_stop : b ≡ true → false ≡ whole
  unfolding differ
  differ_stop t = ahead_stop p n (rw (← m, sym e ∙ t))
