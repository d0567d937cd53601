-- Beyond the demand: what else holds of every world that a run reaches.
use Rattle.std.specs.Prelude.{ℕ, ◌≡◌, ◌⊎◌, true, List, [], ◌∷◌, ◌++◌, length}
use Rattle.lists.specs.Members.{Some}
use Rattle.rules.specs.declared.Table.{Table}
use Rattle.rules.specs.declared.Event.{Event}
use Rattle.rules.specs.declared.Act.TheVariants as act
use Rattle.rules.specs.declared.Name.TheVariants as name
use Rattle.rules.specs.RefusalNumber as refusal
use Rattle.rules.specs.TransactionState as transaction
use Rattle.rules.specs.EnlistmentState as enlistment
use Rattle.rules.specs.Identifiers.{Id}
use Rattle.rules.specs.Table.{place_named, state_at, held}
use Rattle.rules.specs.Sound.{In, Durable, sound_of}
use Rattle.rules.specs.Signals.{signal, Committed}
use Rattle.rules.specs.Step.{step_of}
use Rattle.rules.specs.Restart.{restart_of}
use Rattle.safety.specs.World.{World, used_part}
use Rattle.safety.specs.Host.{MayAsk, WholeStored, careful}
use Rattle.safety.specs.Run.{Run}
use Rattle.safety.specs.Demand3.{About}

-- ── no bricking ─────────────────────────────────────────────────────────────────────────────────────────────────

-- the log as the last call left it is stored, whole or in part
abbrev pub PartStored : World → Type 0
PartStored w = (rest : List ℕ) × (w.disk ++ rest ≡ used_part w.table w.log)

-- While the coordinator runs, once the stored log is trimmed to where restart said: wherever power fails as more is stored, a restart with
-- the same capacity is accepted, and its table is sound.
unfoldable pub NeverBricked : Type 0
NeverBricked = (w : World) → Run careful w → (w.table.used ≡ 0 → ⊥) → PartStored w → (spare : List ℕ) → length (w.disk ++ spare) ≡ w.table.capacity
    → ((restart_of (w.disk ++ spare) (length w.disk)).refusal ≡ refusal.accepted) × (sound_of (restart_of (w.disk ++ spare) (length w.disk)).table ≡ true)

-- ── a decision is remembered ────────────────────────────────────────────────────────────────────────────────────

-- t is in Committing, and a durable enlistment of r there is told, or failed to be
pub record Remembers (t r : Id) (tb : Table) : Type 0 where
  pub state : state_at (place_named t tb) tb ≡ transaction.committing
  pub waits : Some (λ e. Durable e × (e.rm.0 ≡ r) × (In enlistment.told_commit e ⊎ In enlistment.failed_to_notify e)) (held (place_named t tb) tb)

-- Once a committed message of t has left, then whatever cuts and restarts come after it, t is in Committing with the durable enlistment
-- of each resource manager that has prepared there, until its acknowledgement there or a finished re-enlistment is accepted. (A table
-- of which nothing is used is that of a refused restart: there nothing runs.)
unfoldable pub Remembered : Type 0
Remembered = (w : World) → Run careful w → (w.table.used ≡ 0 → ⊥) → (t r : Id) → About t Committed w.sent → MayAsk t r w.notes → Remembers t r w.table

-- So every ask that is permitted and accepted is answered committed.
unfoldable pub AnsweredCommitted : Type 0
AnsweredCommitted = (w : World) → Run careful w → (e : Event) → e.act ≡ act.Ask → About e.tx.0 Committed w.sent → MayAsk e.tx.0 e.rm.0 w.notes
    → (step_of w.table e w.log).refusal ≡ refusal.accepted → (n : ℕ) × ((step_of w.table e w.log).signals ≡ signal name.AnswerCommitted n ∷ [])

-- And right after an accepted restart, whatever its capacity, such an ask is accepted.
unfoldable pub AskAccepted : Type 0
AskAccepted = (w : World) → Run careful w → (log : List ℕ) (n : ℕ) → WholeStored w log n → (restart_of log n).refusal ≡ refusal.accepted
    → (e : Event) → e.act ≡ act.Ask → About e.tx.0 Committed w.sent → MayAsk e.tx.0 e.rm.0 w.notes
    → (step_of (restart_of log n).table e (restart_of log n).log).refusal ≡ refusal.accepted

-- ── the slip that started it: a reconnecting participant of a Committing transaction is answered aborted ────────

-- Whatever the table and however it came: an accepted ask about a transaction in Committing is answered committed.
unfoldable pub ReconnectAnswered : Type 0
ReconnectAnswered = (tb : Table) (e : Event) (log : List ℕ) → e.act ≡ act.Ask → state_at (place_named e.tx.0 tb) tb ≡ transaction.committing
    → (step_of tb e log).refusal ≡ refusal.accepted → (n : ℕ) × ((step_of tb e log).signals ≡ signal name.AnswerCommitted n ∷ [])
