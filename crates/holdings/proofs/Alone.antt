-- What is done to a holding is done to its table: each change of it is a change of the one or of the other part, and every other place is empty, and so not open.
use Prim.Native.Nat.{ℕ, zero, suc, ◌+◌, ◌<◌, ◌≤◌}
use native.Mathlib.Omega.{arith}
use mathlib.Core.Path.{◌≡◌, refl, ap, ◌∙◌}
use mathlib.Core.Bool.{Bool, false}
use mathlib.Core.List.{[]}
use lib.Dec.{eqb}
use lib.ListN.{length, replicate}
use borrow.Author.Tests.{eqb-true, eqb-false, ne_eqb}
use Rattle.lists.specs.Places.{change_from, places_from}
use Rattle.lists.proofs.Tests.{by_test}
use Rattle.rules.specs.declared.Enlistment.{Enlistment}
use Rattle.rules.specs.Sizes.{transaction_places}
use Rattle.rules.specs.Table.{no_transaction, held, freed, ended, in_transaction_state, change_held, change_transaction, go_to, emptied}
use Rattle.rules.specs.Sound.{is_open, open_places, open_count}
use Rattle.passes.specs.Census.{more_of}
use Rattle.holdings.specs.declared.Holding.{Holding}
use Rattle.holdings.specs.Holdings.{alone, Placed, with_held, with_transaction, going}
use Rattle.holdings.proofs.Laws.{alone_held, alone_transaction}

pub alone_going : (s : ℕ) (f : Enlistment → Enlistment) (h : Holding) → alone (going s f h) ≡ go_to h.place s (change_held h.place f (alone h))
alone_going s f h = alone_transaction (in_transaction_state s) (with_held f h) ∙ ap (go_to h.place s) (alone_held f h)

pub alone_emptied : (h : Holding) → alone (with_transaction (ended h.transaction) (with_held freed h)) ≡ emptied h.place (alone h)
alone_emptied h = alone_transaction ended (with_held freed h) ∙ ap (change_transaction h.place ended) (alone_held freed h)

-- ── open ────────────────────────────────────────────────────────────────────────────────────────────────────────

-- x stands at place p among places that do not pass
module _ {A : Type 0} (f : ℕ → A → Bool) (d x : A) (empty : (k : ℕ) → f k d ≡ false) (p : ℕ) where
  none_behind : (k n : ℕ) → p < k → places_from f k (change_from (λ y. x) k p (replicate n d)) ≡ []
  unfolding places_from change_from
  none_behind k zero h = refl
  none_behind k (suc n) h = rw (ne_eqb k p (omega arith), empty k) (none_behind (suc k) n (omega arith))

  one_place : (k n : ℕ) → k ≤ p → p < k + n → length (places_from f k (change_from (λ y. x) k p (replicate n d))) ≡ more_of (f p x) 0
  unfolding places_from change_from
  one_place k zero l h = absurd (omega arith)
  one_place k (suc n) l h = by_test (eqb k p)
      (λ e. let q : k ≡ p = eqb-true k p e in rw (e, none_behind (suc k) n (omega arith), q) (by_test (f p x) (λ t. rw t) (λ t. rw t)))
      (λ e. let q : k ≡ p → ⊥ = eqb-false k p e in rw (e, empty k) (one_place (suc k) n (omega arith) (omega arith)))

pub one_open : (h : Holding) → Placed h.place → open_count (alone h) ≡ more_of (is_open h.transaction.state (held h.place (alone h))) 0
unfolding alone open_places
one_open h (low, high) = one_place (λ q y. is_open y.state (held q (alone h))) no_transaction h.transaction (λ k. refl) h.place 1 transaction_places low (omega arith)
