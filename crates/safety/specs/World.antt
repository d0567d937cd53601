-- A world: what a coordinator, its log and its host have come to, and what calls have made of it.
use Rattle.std.specs.Prelude.{ℕ, cond, List, [], ◌∷◌, ◌++◌, map, eqb, take}
use Rattle.rules.specs.declared.Table.{Table}
use Rattle.rules.specs.declared.Event.{Event}
use Rattle.rules.specs.declared.Act.{Act}
use Rattle.rules.specs.declared.Act.TheVariants as act
use Rattle.rules.specs.declared.Vote.{Vote}
use Rattle.rules.specs.declared.Reply.{Reply}
use Rattle.rules.specs.declared.Name.{Name}
use Rattle.rules.specs.declared.Signal.{Signal}
use Rattle.rules.specs.Identifiers.{Id}
use Rattle.rules.specs.Table.{zero_table, id_at, numbered}
use Rattle.rules.specs.Events.{kind_of}
use Rattle.rules.specs.RefusalNumber as refusal
use Rattle.rules.specs.Step.{Step}
use Rattle.rules.specs.Restart.{Restart}

-- ── what is remembered of the calls ─────────────────────────────────────────────────────────────────────────────

-- What an accepted step tells. Accepted is what was answered 0, also if a cut keeps its log from being stored.
pub data Note : Type 0 where
  begun : Id → Note
  -- transaction, number, resource manager, kind
  enlisted : Id → ℕ → Id → ℕ → Note
  voted : Id → ℕ → Id → ℕ → Vote → Note
  -- to single: transaction, number
  replied : Id → ℕ → Reply → Note
  -- transaction, number, resource manager, kind
  acked : Id → ℕ → Id → ℕ → Note
  -- a resource manager has finished its re-enlistment
  reenlisted : Id → Note
  -- any other accepted step, and every refused one
  nothing : Note

-- the transaction of the enlistment that has number n in this table
abbrev pub owner_of : ℕ → Table → Id
owner_of n tb = id_at (numbered n tb).holder tb

-- "an event that names a number counts as that enlistment's own": its note tells of the enlistment that has the number in the table given
unfoldable pub told : Act → Id → Id → Table → Note
told act.Begin t r tb = Note.begun t
told (act.Enlist n k m) t r tb = Note.enlisted t n r (kind_of k)
told act.Commit t r tb = Note.nothing
told (act.ZeroDone n) t r tb = Note.nothing
told (act.Vote n v) t r tb = Note.voted (owner_of n tb) n (numbered n tb).rm.0 (numbered n tb).kind v
told act.Rollback t r tb = Note.nothing
told (act.Reply n a) t r tb = Note.replied (owner_of n tb) n a
told (act.Ack n) t r tb = Note.acked (owner_of n tb) n (numbered n tb).rm.0 (numbered n tb).kind
told (act.Lost n) t r tb = Note.nothing
told act.Ask t r tb = Note.nothing
told act.Reenlisted t r tb = Note.reenlisted r

abbrev pub note_of : Table → Event → Note
note_of tb e = told e.act e.tx.0 e.rm.0 tb

-- ── messages ────────────────────────────────────────────────────────────────────────────────────────────────────

-- A signal, with the transaction that it is about.
pub record Message : Type 0 where
  pub about : Id
  pub name : Name
  pub number : ℕ

-- the transaction that an event names, itself or by a number; Re-enlisted names none, and sends nothing
abbrev pub subject : Act → Id → Table → Id
subject act.Begin t tb = t
subject (act.Enlist n k m) t tb = t
subject act.Commit t tb = t
subject (act.ZeroDone n) t tb = owner_of n tb
subject (act.Vote n v) t tb = owner_of n tb
subject act.Rollback t tb = t
subject (act.Reply n a) t tb = owner_of n tb
subject (act.Ack n) t tb = owner_of n tb
subject (act.Lost n) t tb = owner_of n tb
subject act.Ask t tb = t
subject act.Reenlisted t tb = []

abbrev pub subject_of : Table → Event → Id
subject_of tb e = subject e.act e.tx.0 tb

-- A signal with a number is about the transaction of the enlistment that has it in the table given; one without, to the application
-- or answer-aborted, is about the event's.
unfoldable pub message_of : Table → Event → Signal → Message
message_of tb e s = record { about = cond (eqb s.number 0) (subject_of tb e) (owner_of s.number tb); name = s.name; number = s.number }

-- A message that a step has issued, with the whole log as that step left it.
pub record Issued : Type 0 where
  pub image : List ℕ
  pub message : Message

-- ── worlds ──────────────────────────────────────────────────────────────────────────────────────────────────────

pub record World : Type 0 where
  -- the last call's
  pub table : Table
  pub log : List ℕ
  -- the stored log
  pub disk : List ℕ
  -- of every step since the empty log, newest first
  pub notes : List Note
  -- issued since the last restart; a cut loses them
  pub waiting : List Issued
  -- issued ever
  pub issued : List Message
  -- left
  pub sent : List Issued

-- nothing is stored and nothing runs: every step is refused until a restart
unfoldable pub empty : World
empty = record { table = zero_table; log = []; disk = []; notes = []; waiting = []; issued = []; sent = [] }

-- the log as a call leaves it, without the bytes that are not used
abbrev pub used_part : Table → List ℕ → List ℕ
used_part tb log = take tb.used log

abbrev pub issue : List ℕ → List Message → List Issued
issue image ms = map (λ m. record { image = image; message = m }) ms

-- after a step that was given this table and event, and has answered s: nothing is stored by it, and nothing leaves
unfoldable pub after_step : World → Table → Event → Step → World
after_step w tb e s =
    let ms = map (message_of tb e) s.signals in
    record {
      table = s.table;
      log = s.log;
      disk = w.disk;
      notes = cond (eqb s.refusal refusal.accepted) (note_of tb e) Note.nothing ∷ w.notes;
      waiting = issue (used_part s.table s.log) ms ++ w.waiting;
      issued = ms ++ w.issued;
      sent = w.sent;
    }

-- after the stored log has become this one
unfoldable pub with_disk : List ℕ → World → World
with_disk disk w = record { table = w.table; log = w.log; disk = disk; notes = w.notes; waiting = w.waiting; issued = w.issued; sent = w.sent }

-- after a message has left; it may leave again
unfoldable pub after_leaving : Issued → World → World
after_leaving i w = record { table = w.table; log = w.log; disk = w.disk; notes = w.notes; waiting = w.waiting; issued = w.issued; sent = i ∷ w.sent }

-- after a cut and a restart, which has answered s: what waited is lost
unfoldable pub after_restart : World → Restart → World
after_restart w s = record { table = s.table; log = s.log; disk = w.disk; notes = w.notes; waiting = []; issued = w.issued; sent = w.sent }
