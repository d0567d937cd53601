-- A step on a table in lent memory.
use Rattle.std.specs.Prelude.{ℕ, ◌≡◌, true, List, [], Result, Ok, Err, length}
use Rattle.rules.specs.declared.Table.{Table}
use Rattle.rules.specs.declared.Event.{Event}
use Rattle.rules.specs.declared.Signals.{Signals}
use Rattle.rules.specs.declared.Refusal.{Refusal}
use Rattle.rules.specs.RefusalNumber.{accepted, refusal_number}
use Rattle.rules.specs.Sound.{sound_of}
use Rattle.rules.specs.Signals.{row_of}
use Rattle.rules.specs.Events.{Outcome, accepted_of}
use Rattle.rules.specs.Refusals.{Check, first_of, refusal_of}
use Rattle.rules.specs.Step.{step_of}
use Rattle.rows.specs.Memory.{table_in}
use Rattle.entering.specs.declared.Answer.{Answer}

-- An answer in the paper's terms, beside the memory: its number, 0 for done, its signals and the used length.
pub record Answered : Type 0 where
  pub signals : Signals
  pub used : ℕ
  pub refusal : ℕ

-- "Refused steps return the table they were given, used length and log bytes untouched, no signals": the first is the used length before.
abbrev pub answered : ℕ → Result Answer Refusal → Answered
answered used (Ok a) = record { signals = a.signals; used = a.used; refusal = accepted }
answered used (Err r) = record { signals = row_of []; used = used; refusal = refusal_number r }

-- What `step_in` promises: the memory means the table that the step gives, whose capacity stays.
pub record IsStepIn (tb : Table) (e : Event) (before : List ℕ) (r : Answered) (heads rows : List (List ℕ)) (after : List ℕ) : Type 0 where
  pub table : table_in heads rows tb.capacity r.used ≡ (step_of tb e before).table
  pub signals : r.signals ≡ row_of (step_of tb e before).signals
  pub refusal : r.refusal ≡ (step_of tb e before).refusal
  pub log : after ≡ (step_of tb e before).log

-- the memory holds a sound table
abbrev pub Fine : List (List ℕ) → List (List ℕ) → ℕ → ℕ → Type 0
Fine heads rows capacity used = sound_of (table_in heads rows capacity used) ≡ true

-- the step of each event that these checks refuse, and that else has this outcome
abbrev pub Does : List Check → Outcome → Table → List ℕ → Answered → List (List ℕ) → List (List ℕ) → List ℕ → Type 0
Does cs o tb before r heads rows after = (e : Event) → refusal_of tb e (length before) ≡ first_of cs → accepted_of tb e before ≡ o → IsStepIn tb e before r heads rows after
