-- What is taken out of a table fits into it, and put back it leaves the table as it was: the places that are refilled are those that it was taken from.
use Prim.Native.Nat.{ℕ, zero, suc, ◌+◌, ◌≤◌}
use native.Mathlib.Omega.{arith}
use mathlib.Core.Path.{◌≡◌, refl, sym, ◌∙◌, ap}
use mathlib.Core.Bool.{false}
use mathlib.Core.List.{List, [], ◌∷◌}
use lib.ListN.{length, get_or, drop}
use lib.Dec.{eqb}
use borrow.Author.Tests.{ne_eqb}
use Rattle.lists.specs.Lists.{filter}
use Rattle.lists.specs.Members.{◌∈◌, Each}
use Rattle.lists.specs.Places.{change_from, change_at}
use Rattle.lists.proofs.Tests.{by_test, each_nothing, each_more, count_filter}
use Rattle.lists.proofs.Places.{length_change}
use Rattle.lists.proofs.Loops.{change_there}
use Rattle.rules.specs.declared.Enlistment.{Enlistment}
use Rattle.rules.specs.declared.Table.{Table}
use Rattle.rules.specs.Sizes.{held_most, transaction_places}
use Rattle.rules.specs.Table.{no_transaction, no_enlistment, empty_transactions, transaction_at, held_by, held}
use Rattle.holdings.specs.Holdings.{alone}
use Rattle.holdings.specs.Within.{filled, taken, within}
use Rattle.holdings.proofs.Laws.{alone_at}
use Rattle.holdings.proofs.Refill.{length_filled, filled_at, refill_same}
use Rattle.holdings.proofs.Within.{Fits}

-- behind the list all are empty
rest_empty : (n : ℕ) (es : List Enlistment) → Each (λ e. e ≡ no_enlistment) (drop (length es) (filled n es))
unfolding filled
rest_empty zero [] = each_nothing _
rest_empty zero (e ∷ es) = each_nothing _
rest_empty (suc n) [] = each_more refl (rest_empty n [])
rest_empty (suc n) (e ∷ es) = rest_empty n es

-- a change to what stands there is none
change_none : {A : Type 0} (k p : ℕ) (xs : List A) → change_from (λ x. x) k p xs ≡ xs
unfolding change_from
change_none k p [] = refl
change_none k p (x ∷ xs) = by_test (eqb k p) (λ e. rw e (ap (λ l. x ∷ l) (change_none (suc k) p xs))) (λ e. rw e (ap (λ l. x ∷ l) (change_none (suc k) p xs)))

module _ (p capacity : ℕ) (tb : Table) (low : 1 ≤ p) (high : p ≤ transaction_places) (few : length (held p tb) ≤ held_most) where
  pub taken_fits : Fits tb p (alone (taken p capacity tb))
  unfolding alone held
  taken_fits = record {
    there = record { low = low; high = omega (arith, high, length_change (λ x. transaction_at p tb) 1 p empty_transactions) };
    enough = omega (arith, few, count_filter (held_by p) tb.enlistments, length_filled held_most (filter (held_by p) tb.enlistments));
    none = λ e m. none e (rw (count_filter (held_by p) tb.enlistments) at m);
  }
    where
      none : (e : Enlistment) → e ∈ drop (length (filter (held_by p) tb.enlistments)) (filled held_most (filter (held_by p) tb.enlistments)) → held_by p e ≡ false
      none e m = rw (rest_empty held_most (filter (held_by p) tb.enlistments) e m) (ne_eqb 0 p (omega arith))

  pub taken_back : within tb p (alone (taken p capacity tb)) ≡ tb
  unfolding alone held
  taken_back = λ i. record {
    transactions = transactions i;
    enlistments = refill_same (held_by p) 0 (filled held_most (filter (held_by p) tb.enlistments)) tb.enlistments (λ k l. ap (λ j. get_or (filled held_most (filter (held_by p) tb.enlistments)) j no_enlistment) (zero_add k) ∙ filled_at held_most k (filter (held_by p) tb.enlistments) (omega (arith, few, l))) i;
    capacity = tb.capacity;
    used = tb.used;
  }
    where
      zero_add : (k : ℕ) → 0 + k ≡ k
      zero_add k = omega arith

      transactions : change_at p (λ x. transaction_at p (alone (taken p capacity tb))) tb.transactions ≡ tb.transactions
      transactions = ap (λ y. change_at p (λ x. y) tb.transactions) (alone_at (taken p capacity tb) (low, high)) ∙ sym (change_there (λ x. x) no_transaction p tb.transactions) ∙ change_none 1 p tb.transactions
