-- When a table is sound: as a test that is computed, and as the sentences of the paper.
use Rattle.std.specs.Prelude.{ℕ, ◌+◌, ◌*◌, ◌≤◌, ◌≡◌, ◌⊎◌, Bool, true, false, cond, not, ◌&&◌, ◌||◌, List, [], ◌∷◌, eqb, leb, length}
use Rattle.lists.specs.Lists.{all, any, filter, differ, every}
use Rattle.lists.specs.Members.{Each, Some, Apart}
use Rattle.lists.specs.Places.{each_place, places_where}
use Rattle.rules.specs.declared.Transaction.{Transaction}
use Rattle.rules.specs.declared.Enlistment.{Enlistment}
use Rattle.rules.specs.declared.Table.{Table}
use Rattle.rules.specs.Sizes.{held_most, identifier_size, largest_number, header_size, record_size, largest_capacity}
use Rattle.rules.specs.Identifiers.{Id, zero_id, is_zero, same_bytes}
use Rattle.rules.specs.Kinds as kind
use Rattle.rules.specs.Marks as mark
use Rattle.rules.specs.TransactionState as transaction
use Rattle.rules.specs.EnlistmentState as enlistment
use Rattle.rules.specs.Table.{no_transaction, no_enlistment, is_live, is_free, is_held, is_vacant, held, transaction_at, state_at, is_phase_zero, is_volatile, is_durable, is_marked, is_in, is_done}

-- ── the table of states ─────────────────────────────────────────────────────────────────────────────────────────

-- what each enlistment of a transaction in state s may be
unfoldable pub may_hold : ℕ → Enlistment → Bool
may_hold s e =
    -- "1 Active: all 1 Active"
    cond (eqb s transaction.active) (is_in enlistment.active e)
    -- "2 Phase Zero: P in 2 Zero, at least one; V and D in 1"
    (cond (eqb s transaction.phase_zero) (cond (is_phase_zero e) (is_in enlistment.zero e) (is_in enlistment.active e))
    -- "3 Phase One: no P; 3 Preparing (at least one), 4 Prepared, 5 Prepared-lost (D only)"
    (cond (eqb s transaction.phase_one) (not (is_phase_zero e) && (is_in enlistment.preparing e || is_in enlistment.prepared e || (is_in enlistment.prepared_lost e && is_durable e)))
    -- "4 Single Phase: exactly one, V or D, marked yes, in 6 One-phase"
    (cond (eqb s transaction.single_phase) (not (is_phase_zero e) && is_marked e && is_in enlistment.one_phase e)
    -- "5 Committing: no P; 7 Told-commit, 8 Failed-to-notify (D only), 10 Done; at least one not Done"
    (cond (eqb s transaction.committing) (not (is_phase_zero e) && (is_in enlistment.told_commit e || (is_in enlistment.failed_to_notify e && is_durable e) || is_done e))
    -- "6 Aborting: 9 Told-abort (at least one), 10 Done"
    (cond (eqb s transaction.aborting) (is_in enlistment.told_abort e || is_done e)
    false)))))

-- and what it must hold: the "at least one" and "exactly one" of the same lines; there is no other state
unfoldable pub must_hold : ℕ → List Enlistment → Bool
must_hold s hs =
    cond (eqb s transaction.active) true
    (cond (eqb s transaction.phase_zero) (any is_phase_zero hs)
    (cond (eqb s transaction.phase_one) (any (is_in enlistment.preparing) hs)
    (cond (eqb s transaction.single_phase) (eqb (length hs) 1)
    (cond (eqb s transaction.committing) (any (λ e. not (is_done e)) hs)
    (cond (eqb s transaction.aborting) (any (is_in enlistment.told_abort) hs)
    false)))))

abbrev pub holds_well : ℕ → List Enlistment → Bool
holds_well s hs = all (may_hold s) hs && must_hold s hs

-- ── open ────────────────────────────────────────────────────────────────────────────────────────────────────────

-- "Open counts Committing transactions with a D": a transaction in state s that holds hs
abbrev pub is_open : ℕ → List Enlistment → Bool
is_open s hs = eqb s transaction.committing && any is_durable hs

unfoldable pub open_places : Table → List ℕ
open_places tb = places_where (λ p x. is_open x.state (held p tb)) tb.transactions

abbrev pub open_count : Table → ℕ
open_count tb = length (open_places tb)

-- ── the test ────────────────────────────────────────────────────────────────────────────────────────────────────

abbrev pub live_ones : Table → List Transaction
live_ones tb = filter is_live tb.transactions

abbrev pub held_ones : Table → List Enlistment
held_ones tb = filter is_held tb.enlistments

-- "Kinds: phase zero (P), volatile (V), durable (D)", and "a single-phase mark, yes or no"
abbrev pub is_known : Enlistment → Bool
is_known e = (is_phase_zero e || is_volatile e || is_durable e) && leb e.mark mark.marked

-- "identifiers are 16 bytes", and "nonzero"
abbrev pub is_identifier : Id → Bool
is_identifier t = eqb (length t) identifier_size && not (is_zero t)

-- "enlistment numbers are 1 to 4,294,967,295"
abbrev pub is_number : ℕ → Bool
is_number n = not (eqb n 0) && leb n largest_number

abbrev pub same_identifier : Transaction → Transaction → Bool
same_identifier x y = same_bytes y.id.0 x.id.0

abbrev pub same_number : Enlistment → Enlistment → Bool
same_number e f = eqb f.number e.number

-- of one RM in one transaction
abbrev pub same_manager : Enlistment → Enlistment → Bool
same_manager e f = eqb f.holder e.holder && same_bytes f.rm.0 e.rm.0

abbrev pub is_zero_transaction : Transaction → Bool
is_zero_transaction x = eqb x.state 0 && same_bytes x.id.0 zero_id

abbrev pub is_zero_enlistment : Enlistment → Bool
is_zero_enlistment e = eqb e.holder 0 && same_bytes e.rm.0 zero_id && eqb e.number 0 && eqb e.kind 0 && eqb e.mark 0 && eqb e.state 0

unfoldable pub sound_of : Table → Bool
sound_of tb =
    every
    -- "this holds": the table of states
    (each_place (λ p x. is_free x || holds_well x.state (held p tb)) tb.transactions
    ∷ all is_known (held_ones tb)
    -- "identifiers and numbers are nonzero"
    ∷ all (λ x. is_identifier x.id.0) (live_ones tb)
    ∷ all (λ e. is_identifier e.rm.0) (held_ones tb)
    ∷ all (λ e. is_number e.number) (held_ones tb)
    -- "live transactions differ"
    ∷ differ same_identifier (live_ones tb)
    -- "numbers differ"
    ∷ differ same_number (held_ones tb)
    -- "each enlistment names a live transaction"
    ∷ all (λ e. is_live (transaction_at e.holder tb)) (held_ones tb)
    -- "no RM has two D in one transaction"
    ∷ differ same_manager (filter is_durable (held_ones tb))
    -- "no transaction has more than 16 enlistments"
    ∷ each_place (λ p x. is_free x || leb (length (held p tb)) held_most) tb.transactions
    -- "P is marked no"
    ∷ all (λ e. not (is_marked e)) (filter is_phase_zero (held_ones tb))
    -- "empty places are zeros"
    ∷ all is_zero_transaction (filter is_free tb.transactions)
    ∷ all is_zero_enlistment (filter is_vacant tb.enlistments)
    -- "8 ≤ used, used + 18 × open ≤ capacity ≤ 65,536"
    ∷ leb header_size tb.used
    ∷ leb (tb.used + record_size * open_count tb) tb.capacity
    ∷ leb tb.capacity largest_capacity
    ∷ [])

-- ── the sentences ───────────────────────────────────────────────────────────────────────────────────────────────

abbrev pub In : ℕ → Enlistment → Type 0
In s e = e.state ≡ s

abbrev pub PhaseZero : Enlistment → Type 0
PhaseZero e = e.kind ≡ kind.phase_zero

abbrev pub Volatile : Enlistment → Type 0
Volatile e = e.kind ≡ kind.volatile

abbrev pub Durable : Enlistment → Type 0
Durable e = e.kind ≡ kind.durable

-- the lines of the table of states
pub data HoldsWell (s : ℕ) (hs : List Enlistment) : Type 0 where
  active : s ≡ transaction.active → Each (In enlistment.active) hs → HoldsWell s hs
  phase_zero : s ≡ transaction.phase_zero → Each (λ e. (PhaseZero e × In enlistment.zero e) ⊎ ((PhaseZero e → ⊥) × In enlistment.active e)) hs
      → Some PhaseZero hs → HoldsWell s hs
  phase_one : s ≡ transaction.phase_one → Each (λ e. PhaseZero e → ⊥) hs
      → Each (λ e. In enlistment.preparing e ⊎ (In enlistment.prepared e ⊎ (In enlistment.prepared_lost e × Durable e))) hs
      → Some (In enlistment.preparing) hs → HoldsWell s hs
  single_phase : s ≡ transaction.single_phase → length hs ≡ 1 → Each (λ e. (PhaseZero e → ⊥) × (e.mark ≡ mark.marked) × In enlistment.one_phase e) hs
      → HoldsWell s hs
  committing : s ≡ transaction.committing → Each (λ e. PhaseZero e → ⊥) hs
      → Each (λ e. In enlistment.told_commit e ⊎ ((In enlistment.failed_to_notify e × Durable e) ⊎ In enlistment.done e)) hs
      → Some (λ e. In enlistment.done e → ⊥) hs → HoldsWell s hs
  aborting : s ≡ transaction.aborting → Each (λ e. In enlistment.told_abort e ⊎ In enlistment.done e) hs
      → Some (In enlistment.told_abort) hs → HoldsWell s hs

abbrev pub Live : Transaction → Type 0
Live x = x.state ≡ 0 → ⊥

abbrev pub Held : Enlistment → Type 0
Held e = e.holder ≡ 0 → ⊥

abbrev pub Identifier : Id → Type 0
Identifier t = (length t ≡ identifier_size) × (t ≡ zero_id → ⊥)

abbrev pub Number : ℕ → Type 0
Number n = (n ≡ 0 → ⊥) × (n ≤ largest_number)

abbrev pub Known : Enlistment → Type 0
Known e = (PhaseZero e ⊎ (Volatile e ⊎ Durable e)) × (e.mark ≤ mark.marked)

abbrev pub SameIdentifier : Transaction → Transaction → Type 0
SameIdentifier x y = x.id.0 ≡ y.id.0

abbrev pub SameNumber : Enlistment → Enlistment → Type 0
SameNumber e f = e.number ≡ f.number

abbrev pub SameManager : Enlistment → Enlistment → Type 0
SameManager e f = (e.holder ≡ f.holder) × (e.rm.0 ≡ f.rm.0)

abbrev pub HoldersLive : Table → Type 0
HoldersLive tb = Each (λ e. Held e → Live (transaction_at e.holder tb)) tb.enlistments

abbrev pub FewHeld : Table → Type 0
FewHeld tb = (p : ℕ) → Live (transaction_at p tb) → length (held p tb) ≤ held_most

pub record Sound (tb : Table) : Type 0 where
  pub states : (p : ℕ) → Live (transaction_at p tb) → HoldsWell (state_at p tb) (held p tb)
  pub kinds : Each (λ e. Held e → Known e) tb.enlistments
  pub transaction_identifiers : Each (λ x. Live x → Identifier x.id.0) tb.transactions
  pub manager_identifiers : Each (λ e. Held e → Identifier e.rm.0) tb.enlistments
  pub numbers : Each (λ e. Held e → Number e.number) tb.enlistments
  pub transactions_differ : Apart SameIdentifier (live_ones tb)
  pub numbers_differ : Apart SameNumber (held_ones tb)
  pub holders_live : HoldersLive tb
  pub managers_differ : Apart SameManager (filter is_durable (held_ones tb))
  pub few : FewHeld tb
  pub phase_zero_unmarked : Each (λ e. Held e → PhaseZero e → e.mark ≡ mark.unmarked) tb.enlistments
  pub empty_transactions : Each (λ x. x.state ≡ 0 → x ≡ no_transaction) tb.transactions
  pub empty_enlistments : Each (λ e. e.holder ≡ 0 → e ≡ no_enlistment) tb.enlistments
  pub header_used : header_size ≤ tb.used
  pub room : tb.used + record_size * open_count tb ≤ tb.capacity
  pub capacity_small : tb.capacity ≤ largest_capacity
