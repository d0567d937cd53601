-- A number's digits, from the last to the first: what is left of the number, in decimal, stands before the digits that were written.
use Prim.Native.Nat.{ℕ, zero, suc, ◌+◌, ◌-◌, ◌/◌, ◌%◌, ◌^◌, ◌≤◌, ◌<◌}
use native.Mathlib.Omega.{arith}
use native.Mathlib.Nat.{pow-succ'}
use mathlib.Core.Path.{◌≡◌, sym, ◌∙◌}
use mathlib.Core.List.{List, ◌∷◌, ◌++◌, append_assoc, append-nil}
use lib.Dec.{ltb}
use lib.ListN.{length, set, drop, length-set, length-append, drop_of_length-le}
use lib.Seq.{drop-cons, get_or-set_same, drop-set-lt}
use borrow.Author.Tests.{lt-ltb, le-ltb}
use Rattle.lists.proofs.Tests.{by_test}
use Rattle.rules.specs.Trace.{digit_zero, digits}
use Rattle.trace_parts.specs.Puts.{Converts, digits_most}

-- ── how many ────────────────────────────────────────────────────────────────────────────────────────────────────

pub few_digits : (k j n : ℕ) → n < 10 ^ suc j → length (digits k n) ≤ suc j
unfolding digits
few_digits zero j n h = omega arith
few_digits (suc k) zero n h = rw (lt-ltb n 10 h) (omega arith)
few_digits (suc k) (suc j) n h = by_test (ltb n 10)
    (λ t. rw t (omega arith))
    (λ t.
    let l : length (digits k (n / 10)) ≤ suc j = few_digits k j (n / 10) (omega (arith, pow-succ' 10 (suc j))) in
    rw t (simp length-append (omega arith)))

pub most_digits : (k n : ℕ) → length (digits k n) ≤ k
unfolding digits
most_digits zero n = omega arith
most_digits (suc k) n = by_test (ltb n 10)
    (λ t. rw t (omega arith))
    (λ t. let l : length (digits k (n / 10)) ≤ k = most_digits k (n / 10) in rw t (simp length-append (omega arith)))

-- ── the loop ────────────────────────────────────────────────────────────────────────────────────────────────────

-- k digits at most are left to write, of m
pub record Converting (n : ℕ) (bytes : List ℕ) (k m : ℕ) : Type 0 where
  pub some : 1 ≤ k
  pub within : k ≤ digits_most
  pub long : length bytes ≡ digits_most
  pub small : m < 10 ^ k
  pub same : digits digits_most n ≡ digits k m ++ drop k bytes

drop_set : (l : List ℕ) (k b : ℕ) → k < length l → drop k (set l k b) ≡ b ∷ drop (suc k) l
drop_set l k b h =
    let g : k < length (set l k b) = simp length-set h in
    drop-cons (set l k b) k 0 g ∙ rw (get_or-set_same l k b 0 h, drop-set-lt (suc k) l k b (omega arith))

module _ {n : ℕ} {bytes : List ℕ} where
  pub convert_start : n < 2 ^ 32 → length bytes ≡ digits_most → Converting n bytes digits_most n
  convert_start h e =
      record {
        some = omega arith;
        within = omega arith;
        long = e;
        small = omega arith;
        same = rw (drop_of_length-le bytes {i = digits_most} (omega arith), append-nil);
      }

  pub convert_again : (k : ℕ) {m : ℕ} → Converting n bytes k m → 10 ≤ m → Converting n (set bytes (k - 1) (digit_zero + m % 10)) (k - 1) (m / 10)
  unfolding digits
  convert_again zero {m} p h = absurd (omega arith)
  convert_again (suc zero) {m} p h = absurd (omega (arith, p.small))
  convert_again (suc (suc j)) {m} p h =
      let e : suc (suc j) - 1 ≡ suc j = omega arith in
      rw e
      (record {
        some = omega arith;
        within = omega arith;
        long = simp length-set p.long;
        small = omega (arith, pow-succ' 10 (suc j));
        same = rw (drop_set bytes (suc j) (digit_zero + m % 10) (omega arith))
            (rw (le-ltb m 10 h, append_assoc) at p.same);
      })

  pub convert_done : (k : ℕ) {m : ℕ} → Converting n bytes k m → m < 10
      → Converts n (record { bytes = set bytes (k - 1) (digit_zero + m); from = k - 1 })
  unfolding digits
  convert_done zero {m} p h = absurd (omega arith)
  convert_done (suc j) {m} p h =
      let e : suc j - 1 ≡ j = omega arith in
      rw e
      (record {
        long = simp length-set p.long;
        within = omega arith;
        same = drop_set bytes j (digit_zero + m) (omega arith) ∙ sym (rw (lt-ltb m 10 h) at p.same);
      })
