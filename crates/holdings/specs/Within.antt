-- A transaction with what it holds, taken out of a table and put back.
use Rattle.std.specs.Prelude.{ℕ, zero, suc, Bool, cond, List, [], ◌∷◌, get_or}
use Rattle.lists.specs.Places.{change_at}
use Rattle.rules.specs.declared.Enlistment.{Enlistment}
use Rattle.rules.specs.declared.Table.{Table}
use Rattle.rules.specs.Sizes.{held_most}
use Rattle.rules.specs.Table.{no_enlistment, transaction_at, held_by, held}
use Rattle.holdings.specs.declared.Holding.{Holding}

-- so many places, the first of which are these, and the others empty
unfoldable pub filled : ℕ → List Enlistment → List Enlistment
filled zero es = []
filled (suc n) [] = no_enlistment ∷ filled n []
filled (suc n) (e ∷ es) = e ∷ filled n es

-- the transaction at place p, with so much of the log
abbrev pub taken : ℕ → ℕ → Table → Holding
taken p capacity tb = record { enlistments = filled held_most (held p tb); transaction = transaction_at p tb; place = p; capacity = capacity; used = tb.used }

-- those of xs that pass the test are replaced, one after the other, by those of hs from index k on
unfoldable pub refill_from : (Enlistment → Bool) → ℕ → List Enlistment → List Enlistment → List Enlistment
refill_from f k hs [] = []
refill_from f k hs (x ∷ xs) = cond (f x) (get_or hs k no_enlistment ∷ refill_from f (suc k) hs xs) (x ∷ refill_from f k hs xs)

abbrev pub refill : (Enlistment → Bool) → List Enlistment → List Enlistment → List Enlistment
refill f hs xs = refill_from f 0 hs xs

-- what stands at place p of the table t, and what is held there, put into the table tb; t's used length is the log's
abbrev pub within : Table → ℕ → Table → Table
within tb p t = record {
  transactions = change_at p (λ x. transaction_at p t) tb.transactions;
  enlistments = refill (held_by p) t.enlistments tb.enlistments;
  capacity = tb.capacity;
  used = t.used;
}
