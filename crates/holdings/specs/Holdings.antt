-- A transaction with what it holds is a table of its own, and the rules of one transaction are rules of that table.
use Rattle.std.specs.Prelude.{ℕ, ◌≤◌, map}
use Rattle.lists.specs.Places.{change_at}
use Rattle.rules.specs.declared.Transaction.{Transaction}
use Rattle.rules.specs.declared.Enlistment.{Enlistment}
use Rattle.rules.specs.declared.Table.{Table}
use Rattle.rules.specs.Sizes.{transaction_places}
use Rattle.rules.specs.Table.{empty_transactions, in_transaction_state, on_held}
use Rattle.holdings.specs.declared.Holding.{Holding}

-- the table in which the transaction stands at its place, alone
unfoldable pub alone : Holding → Table
alone h = record {
  transactions = change_at h.place (λ x. h.transaction) empty_transactions;
  enlistments = h.enlistments;
  capacity = h.capacity;
  used = h.used;
}

-- one of a transaction
abbrev pub Placed : ℕ → Type 0
Placed p = (1 ≤ p) × (p ≤ transaction_places)

-- ── changing ────────────────────────────────────────────────────────────────────────────────────────────────────

-- each enlistment that it holds becomes what f makes of it
abbrev pub with_held : (Enlistment → Enlistment) → Holding → Holding
with_held f h = record { enlistments = map (on_held h.place f) h.enlistments; transaction = h.transaction; place = h.place; capacity = h.capacity; used = h.used }

abbrev pub with_transaction : Transaction → Holding → Holding
with_transaction x h = record { enlistments = h.enlistments; transaction = x; place = h.place; capacity = h.capacity; used = h.used }

abbrev pub with_used : ℕ → Holding → Holding
with_used n h = record { enlistments = h.enlistments; transaction = h.transaction; place = h.place; capacity = h.capacity; used = n }

-- it goes to a state, and each that it holds becomes what f makes of it
abbrev pub going : ℕ → (Enlistment → Enlistment) → Holding → Holding
going s f h = with_transaction (in_transaction_state s h.transaction) (with_held f h)
