-- The largest number of a list is the one that stands in it and that no other is above.
use Rattle.std.proofs.Common.{◌≡◌, ℕ, zero, suc, ◌<◌, ◌≤◌, cond, ltb, length, List, [], ◌∷◌, get_or, arith}
use Rattle.std.specs.List.{All, Any}
use Rattle.std.proofs.lemmas.Bool.Decides.{nat_tests}
use Rattle.rules.specs.declared.Enlistment.{Enlistment}
use Rattle.rules.specs.Dispenser.{largest_in}

above_both : (m n : ℕ) → (m ≤ cond (ltb m n) n m) × (n ≤ cond (ltb m n) n m)
above_both m n = (grind (arith, nat_tests), grind (arith, nat_tests))

one_of_both : (m n p : ℕ) → m ≤ p → n ≤ p → cond (ltb m n) n m ≤ p
one_of_both m n p h k = grind (arith, nat_tests)

largest_high : (es : List Enlistment) (k : ℕ) (d : Enlistment) → k < length es → (get_or es k d).number ≤ largest_in es
unfolding largest_in
largest_high [] k d h = absurd (omega arith)
largest_high (e ∷ es) zero d h = (above_both (largest_in es) e.number).1
largest_high (e ∷ es) (suc k) d h = omega (arith, (above_both (largest_in es) e.number).0, largest_high es k d (omega arith))

largest_low : (es : List Enlistment) (n : ℕ) → All (λ e. e.number ≤ n) es → largest_in es ≤ n
unfolding largest_in
largest_low [] n h = omega arith
largest_low (e ∷ es) n h = one_of_both (largest_in es) e.number n (largest_low es n (λ k d l. h (suc k) d (omega arith))) (h 0 e (omega arith))

pub largest_is : (es : List Enlistment) (n : ℕ) → All (λ e. e.number ≤ n) es → Any (λ e. e.number ≡ n) es → n ≡ largest_in es
largest_is es n high (k, e, inside, here, same) =
    let above : (get_or es k e).number ≤ largest_in es = largest_high es k e inside in
    omega (arith, largest_low es n high, rw here at above)
