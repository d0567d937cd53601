-- A step: refused, or done.
use Rattle.std.specs.Prelude.{ℕ, ◌≡◌, cond, List, [], Result, Ok, Err, eqb, length}
use Rattle.rules.specs.declared.Table.{Table}
use Rattle.rules.specs.declared.Event.{Event}
use Rattle.rules.specs.declared.Signal.{Signal}
use Rattle.rules.specs.declared.Signals.{Signals}
use Rattle.rules.specs.declared.Refusal.{Refusal}
use Rattle.rules.specs.declared.Stepped.{Stepped}
use Rattle.rules.specs.RefusalNumber as refusal
use Rattle.rules.specs.RefusalNumber.{refusal_number}
use Rattle.rules.specs.Signals.{row_of}
use Rattle.rules.specs.Events.{Outcome, accepted_of}
use Rattle.rules.specs.Refusals.{refusal_of}

-- The answer of a step, and the lent log as it leaves it.
pub record Step : Type 0 where
  pub refusal : ℕ
  pub table : Table
  pub signals : List Signal
  pub log : List ℕ

-- "Refused steps return the table they were given, used length and log bytes untouched, no signals."
abbrev pub refused_step : ℕ → Table → List ℕ → Step
refused_step why tb log = record { refusal = why; table = tb; signals = []; log = log }

abbrev pub done_step : Outcome → Step
done_step o = record { refusal = refusal.accepted; table = o.table; signals = o.signals; log = o.log }

unfoldable pub step_of : Table → Event → List ℕ → Step
step_of tb e log =
    let why = refusal_of tb e (length log) in
    cond (eqb why refusal.accepted) (done_step (accepted_of tb e log)) (refused_step why tb log)

-- An answer in the paper's terms: its number, 0 for done, beside the table and the row of signals.
pub record StepAnswer : Type 0 where
  pub table : Table
  pub signals : Signals
  pub refusal : ℕ

abbrev pub answer_of : Step → StepAnswer
answer_of s = record { refusal = s.refusal; table = s.table; signals = row_of s.signals }

-- the same of what the code gives; the first is the table that it was given
abbrev pub stepped_of : Table → Result Stepped Refusal → StepAnswer
stepped_of tb (Ok s) = record { table = s.table; signals = s.signals; refusal = refusal.accepted }
stepped_of tb (Err r) = record { table = tb; signals = row_of []; refusal = refusal_number r }

-- What `step` promises: its answer, and the log as it leaves it.
abbrev pub IsStep : Table → Event → List ℕ → StepAnswer → List ℕ → Type 0
IsStep tb e log r after = (r ≡ answer_of (step_of tb e log)) × (after ≡ (step_of tb e log).log)
