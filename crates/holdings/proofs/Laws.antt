-- A change of the transaction, or of what it holds, is that change of its table: its place is the one that is looked at.
use Prim.Native.Nat.{ℕ, suc, ◌+◌}
use mathlib.Core.Path.{◌≡◌, refl, sym, ap}
use mathlib.Core.List.{List, [], ◌∷◌}
use lib.Dec.{eqb}
use Rattle.lists.specs.Places.{change_from}
use Rattle.lists.proofs.Tests.{by_test}
use Rattle.lists.proofs.Places.{IsPlace, at_change_same}
use Rattle.rules.specs.declared.Transaction.{Transaction}
use Rattle.rules.specs.declared.Enlistment.{Enlistment}
use Rattle.rules.specs.Table.{empty_transactions, no_transaction, transaction_at, change_transaction, change_held, use_more}
use Rattle.holdings.specs.declared.Holding.{Holding}
use Rattle.holdings.specs.Holdings.{alone, Placed, with_held, with_transaction, with_used}

place_there : (h : Holding) → Placed h.place → IsPlace empty_transactions h.place
place_there h (low, high) = record { low = low; high = high }

pub alone_at : (h : Holding) → Placed h.place → transaction_at h.place (alone h) ≡ h.transaction
unfolding alone
alone_at h i = at_change_same (λ x. h.transaction) no_transaction empty_transactions (place_there h i)

-- two changes at one place are one change
pub change_twice : {A : Type 0} (f g : A → A) (k p : ℕ) (xs : List A) → change_from f k p (change_from g k p xs) ≡ change_from (λ x. f (g x)) k p xs
unfolding change_from
change_twice f g k p [] = refl
change_twice f g k p (x ∷ xs) = by_test (eqb k p)
    (λ e. rw e (ap (λ l. f (g x) ∷ l) (change_twice f g (suc k) p xs)))
    (λ e. rw e (ap (λ l. x ∷ l) (change_twice f g (suc k) p xs)))

pub alone_transaction : (f : Transaction → Transaction) (h : Holding) → alone (with_transaction (f h.transaction) h) ≡ change_transaction h.place f (alone h)
unfolding alone change_transaction
alone_transaction f h = ap (λ xs. record { transactions = xs; enlistments = h.enlistments; capacity = h.capacity; used = h.used }) (sym (change_twice f (λ x. h.transaction) 1 h.place empty_transactions))

pub alone_held : (f : Enlistment → Enlistment) (h : Holding) → alone (with_held f h) ≡ change_held h.place f (alone h)
unfolding alone change_held
alone_held f h = refl

pub alone_used : (n : ℕ) (h : Holding) → alone (with_used (h.used + n) h) ≡ use_more n (alone h)
unfolding alone use_more
alone_used n h = refl
