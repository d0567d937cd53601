-- What the table holds.
use Rattle.std.specs.Prelude.{ℕ, ◌+◌, Bool, cond, not, ◌&&◌, List, map, eqb, replicate}
use Rattle.lists.specs.Lists.{filter, first_or}
use Rattle.lists.specs.Places.{place_of, at, change_at}
use Rattle.rules.specs.declared.Transaction.{Transaction}
use Rattle.rules.specs.declared.Enlistment.{Enlistment}
use Rattle.rules.specs.declared.Table.{Table}
use Rattle.rules.specs.Identifiers.{Id, zero_id, same_bytes}
use Rattle.rules.specs.Sizes.{transaction_places, enlistment_places, header_size}
use Rattle.rules.specs.Kinds as kind
use Rattle.rules.specs.Marks as mark
use Rattle.rules.specs.EnlistmentState as enlistment

-- ── places ──────────────────────────────────────────────────────────────────────────────────────────────────────

-- "an empty place is all zeros"
abbrev pub no_transaction : Transaction
no_transaction = record { id = record { 0 = zero_id }; state = 0 }

abbrev pub no_enlistment : Enlistment
no_enlistment = record { holder = 0; rm = record { 0 = zero_id }; number = 0; kind = 0; mark = 0; state = 0 }

abbrev pub empty_transactions : List Transaction
empty_transactions = replicate transaction_places no_transaction

abbrev pub empty_enlistments : List Enlistment
empty_enlistments = replicate enlistment_places no_enlistment

-- "A fresh table has 128 empty enlistment places and 32 empty transaction places"; its log holds the header alone
abbrev pub fresh_of : ℕ → Table
fresh_of capacity = record { transactions = empty_transactions; enlistments = empty_enlistments; capacity = capacity; used = header_size }

-- the "all-zero table" of a refused restart
abbrev pub zero_table : Table
zero_table = record { transactions = empty_transactions; enlistments = empty_enlistments; capacity = 0; used = 0 }

-- ── looking ─────────────────────────────────────────────────────────────────────────────────────────────────────

-- a transaction is live in a place that is not empty
abbrev pub is_live : Transaction → Bool
is_live x = not (eqb x.state 0)

abbrev pub is_free : Transaction → Bool
is_free x = eqb x.state 0

abbrev pub is_named : Id → Transaction → Bool
is_named t x = is_live x && same_bytes x.id.0 t

-- the place of the live transaction with this identifier, 0 if there is none
abbrev pub place_named : Id → Table → ℕ
place_named t tb = place_of (is_named t) tb.transactions

abbrev pub transaction_at : ℕ → Table → Transaction
transaction_at p tb = at no_transaction p tb.transactions

abbrev pub state_at : ℕ → Table → ℕ
state_at p tb = (transaction_at p tb).state

abbrev pub id_at : ℕ → Table → Id
id_at p tb = (transaction_at p tb).id.0

abbrev pub is_held : Enlistment → Bool
is_held e = not (eqb e.holder 0)

abbrev pub is_vacant : Enlistment → Bool
is_vacant e = eqb e.holder 0

-- held by the transaction at place p
abbrev pub held_by : ℕ → Enlistment → Bool
held_by p e = eqb e.holder p

unfoldable pub held : ℕ → Table → List Enlistment
held p tb = filter (held_by p) tb.enlistments

abbrev pub is_numbered : ℕ → Enlistment → Bool
is_numbered n e = eqb e.number n

-- the enlistment with this number, an empty place if none is held
unfoldable pub numbered : ℕ → Table → Enlistment
numbered n tb = first_or no_enlistment (is_numbered n) tb.enlistments

abbrev pub is_phase_zero : Enlistment → Bool
is_phase_zero e = eqb e.kind kind.phase_zero

abbrev pub is_volatile : Enlistment → Bool
is_volatile e = eqb e.kind kind.volatile

-- the kinds that stand in the log
abbrev pub durable_kind : ℕ → Bool
durable_kind k = eqb k kind.durable

abbrev pub is_durable : Enlistment → Bool
is_durable e = durable_kind e.kind

abbrev pub is_durable_of : Id → Enlistment → Bool
is_durable_of r e = is_durable e && same_bytes e.rm.0 r

abbrev pub is_marked : Enlistment → Bool
is_marked e = eqb e.mark mark.marked

abbrev pub is_in : ℕ → Enlistment → Bool
is_in s e = eqb e.state s

abbrev pub is_done : Enlistment → Bool
is_done e = is_in enlistment.done e

-- ── changing: all that rules do to a table is made of these ─────────────────────────────────────────────────────

abbrev pub in_state : ℕ → Enlistment → Enlistment
in_state s e = record { holder = e.holder; rm = e.rm; number = e.number; kind = e.kind; mark = e.mark; state = s }

abbrev pub freed : Enlistment → Enlistment
freed e = no_enlistment

abbrev pub in_transaction_state : ℕ → Transaction → Transaction
in_transaction_state s x = record { id = x.id; state = s }

abbrev pub ended : Transaction → Transaction
ended x = no_transaction

abbrev pub with_transactions : List Transaction → Table → Table
with_transactions xs tb = record { transactions = xs; enlistments = tb.enlistments; capacity = tb.capacity; used = tb.used }

abbrev pub with_enlistments : List Enlistment → Table → Table
with_enlistments es tb = record { transactions = tb.transactions; enlistments = es; capacity = tb.capacity; used = tb.used }

-- each enlistment of the transaction at place p becomes what f makes of it
abbrev pub on_held : ℕ → (Enlistment → Enlistment) → Enlistment → Enlistment
on_held p f e = cond (held_by p e) (f e) e

unfoldable pub change_held : ℕ → (Enlistment → Enlistment) → Table → Table
change_held p f tb = with_enlistments (map (on_held p f) tb.enlistments) tb

-- the one of them with number n
abbrev pub on_number : ℕ → (Enlistment → Enlistment) → Enlistment → Enlistment
on_number n f e = cond (is_numbered n e) (f e) e

abbrev pub change_number : ℕ → ℕ → (Enlistment → Enlistment) → Table → Table
change_number p n f tb = change_held p (on_number n f) tb

-- the transaction at place p becomes what f makes of it
unfoldable pub change_transaction : ℕ → (Transaction → Transaction) → Table → Table
change_transaction p f tb = with_transactions (change_at p f tb.transactions) tb

abbrev pub go_to : ℕ → ℕ → Table → Table
go_to p s tb = change_transaction p (in_transaction_state s) tb

-- the places of the transaction at place p are emptied
abbrev pub emptied : ℕ → Table → Table
emptied p tb = change_transaction p ended (change_held p freed tb)

-- so many more bytes of the log are used
unfoldable pub use_more : ℕ → Table → Table
use_more n tb = record { transactions = tb.transactions; enlistments = tb.enlistments; capacity = tb.capacity; used = tb.used + n }
