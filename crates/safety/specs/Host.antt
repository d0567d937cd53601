-- What the host does: the premises of the demand, a field each, so that a run without one of them can be spoken of.
use Rattle.std.specs.Prelude.{ℕ, ◌≡◌, ◌⊎◌, List, ◌∷◌, ◌++◌, length}
use Rattle.lists.specs.Members.{◌∈◌}
use Rattle.rules.specs.declared.Table.{Table}
use Rattle.rules.specs.declared.Event.{Event}
use Rattle.rules.specs.declared.Act.{Act}
use Rattle.rules.specs.declared.Act.TheVariants as act
use Rattle.rules.specs.declared.Vote.TheVariants as vote
use Rattle.rules.specs.Kinds as kind
use Rattle.rules.specs.Identifiers.{Id}
use Rattle.safety.specs.World.{Note, Issued, World, used_part}

pub record Host : Type 1 where
  -- after these notes, a transaction may be begun, and a resource manager may ask about a transaction
  pub begins : List Note → Id → Type 0
  pub asks : List Note → Id → Id → Type 0
  -- in this world, a step may get this table and log, and a restart this log and count of stored bytes
  pub hands : World → Table → List ℕ → Type 0
  pub gives : World → List ℕ → ℕ → Type 0
  -- in this world, the stored log may become this one: as bytes are stored, and as it is trimmed
  pub stores : World → List ℕ → Type 0
  pub trims : World → List ℕ → Type 0
  -- in this world, a message that waits may leave
  pub leaves : World → Issued → Type 0

-- ── when a resource manager may ask ─────────────────────────────────────────────────────────────────────────────

-- "its accepted durable prepared vote there"
abbrev pub Prepares : Id → Id → Note → Type 0
Prepares t r x = (n : ℕ) × (x ≡ Note.voted t n r kind.durable vote.Prepared)

-- "its acknowledgement there or a later finished re-enlistment is accepted": of its durable enlistment, as its vote is
abbrev pub Closes : Id → Id → Note → Type 0
Closes t r x = ((n : ℕ) × (x ≡ Note.acked t n r kind.durable)) ⊎ (x ≡ Note.reenlisted r)

-- "only after its accepted durable prepared vote there, and before its acknowledgement there or a later finished re-enlistment"
pub data MayAsk (t r : Id) : List Note → Type 0 where
  now : {x : Note} {h : List Note} → Prepares t r x → MayAsk t r (x ∷ h)
  still : {x : Note} {h : List Note} → (Closes t r x → ⊥) → MayAsk t r h → MayAsk t r (x ∷ h)

-- ── the host of the demand ──────────────────────────────────────────────────────────────────────────────────────

-- "no identifier is begun twice"
abbrev pub BegunOnce : List Note → Id → Type 0
BegunOnce h t = Note.begun t ∈ h → ⊥

-- "each step gets the last one's table and log"
abbrev pub Last : World → Table → List ℕ → Type 0
Last w tb log = (tb ≡ w.table) × (log ≡ w.log)

-- "a restart the whole stored log": the lent bytes behind it, and so the capacity, are any
abbrev pub WholeStored : World → List ℕ → ℕ → Type 0
WholeStored w log n = (spare : List ℕ) × (log ≡ w.disk ++ spare) × (n ≡ length w.disk)

-- "a cut keeps all stored before and the beginning of what was being stored, and nothing else alters the log": any number of the
-- bytes of the log that are not stored yet, behind those that are
abbrev pub MoreStored : World → List ℕ → Type 0
MoreStored w disk = (d rest : List ℕ) × (disk ≡ w.disk ++ d) × (disk ++ rest ≡ used_part w.table w.log)

-- "the host trims the log where restart says": what is behind the used bytes goes, or, after a cut, a part of that from its end. A
-- refused restart says nothing.
abbrev pub Trimmed : World → List ℕ → Type 0
Trimmed w disk =
    (w.table.used ≡ 0 → ⊥) × (a rest : List ℕ) × (disk ≡ used_part w.table w.log ++ a) × (disk ++ rest ≡ w.disk)

-- "signals, also of a step that writes nothing, leave only once the whole log as that step leaves it is stored"
abbrev pub WholeLogStored : World → Issued → Type 0
WholeLogStored w i = (rest : List ℕ) × (w.disk ≡ i.image ++ rest)

abbrev pub careful : Host
careful = record {
  begins = BegunOnce;
  asks = λ h t r. MayAsk t r h;
  hands = Last;
  gives = WholeStored;
  stores = MoreStored;
  trims = Trimmed;
  leaves = WholeLogStored;
}

-- whether the host makes this call after these notes
abbrev pub Calls : Host → List Note → Act → Id → Id → Type 0
Calls host h act.Begin t r = host.begins h t
Calls host h (act.Enlist n k m) t r = Unit {0}
Calls host h act.Commit t r = Unit {0}
Calls host h (act.ZeroDone n) t r = Unit {0}
Calls host h (act.Vote n v) t r = Unit {0}
Calls host h act.Rollback t r = Unit {0}
Calls host h (act.Reply n a) t r = Unit {0}
Calls host h (act.Ack n) t r = Unit {0}
Calls host h (act.Lost n) t r = Unit {0}
Calls host h act.Ask t r = host.asks h t r
Calls host h act.Reenlisted t r = Unit {0}

abbrev pub Makes : Host → List Note → Event → Type 0
Makes host h e = Calls host h e.act e.tx.0 e.rm.0
