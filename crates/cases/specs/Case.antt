-- A case: calls in a row, and what must come of them.
use Rattle.std.specs.Prelude.{ℕ, ◌≡◌, List, [], ◌∷◌, map}
use Rattle.rules.specs.declared.Table.{Table}
use Rattle.rules.specs.declared.Event.{Event}
use Rattle.rules.specs.declared.Signal.{Signal}
use Rattle.rules.specs.Step.{Step, step_of}
use Rattle.rules.specs.Restart.{Restart, restart_of}

pub data Call : Type 0 where
  step : Event → Call
  -- with so many bytes stored
  restart : ℕ → Call
  -- "with the used bytes as stored"
  restart_used : Call
  -- the same step with a log of another length, which is then put back
  step_over : List ℕ → Event → Call

-- What the trace program prints of a call.
pub record Line : Type 0 where
  pub refusal : ℕ
  pub used : ℕ
  pub signals : List Signal

-- What calls leave: a line each, and the table and the log.
pub record Result : Type 0 where
  pub lines : List Line
  pub table : Table
  pub log : List ℕ

pub record Case : Type 0 where
  pub table : Table
  pub log : List ℕ
  pub calls : List Call
  pub result : Result

abbrev also : Line → Result → Result
also l r = record { lines = l ∷ r.lines; table = r.table; log = r.log }

abbrev step_line : Step → Line
step_line s = record { refusal = s.refusal; used = s.table.used; signals = s.signals }

abbrev restart_line : Restart → Line
restart_line r = record { refusal = r.refusal; used = r.table.used; signals = [] }

unfoldable pub run : List Call → Table → List ℕ → Result
run [] tb log = record { lines = []; table = tb; log = log }
run (step e ∷ cs) tb log = let s = step_of tb e log in also (step_line s) (run cs s.table s.log)
run (restart n ∷ cs) tb log = let r = restart_of log n in also (restart_line r) (run cs r.table r.log)
run (restart_used ∷ cs) tb log = let r = restart_of log tb.used in also (restart_line r) (run cs r.table r.log)
run (step_over other e ∷ cs) tb log = let s = step_of tb e other in also (step_line s) (run cs s.table log)

abbrev pub came : Case → Result
came c = run c.calls c.table c.log

-- The statement: each case gives what it must.
abbrev pub Hold : List Case → Type 0
Hold cs = map came cs ≡ map (λ c. c.result) cs
