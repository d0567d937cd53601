-- Runs whose steps and restarts are calls of the code: all that is known of an answer is what the function promises, `IsStep`, `IsStepIn` and `IsRestart`.
use Rattle.std.specs.Prelude.{ℕ, ◌≡◌, List, Result, take}
use Rattle.lists.specs.Members.{◌∈◌}
use Rattle.rules.specs.declared.Table.{Table}
use Rattle.rules.specs.declared.Event.{Event}
use Rattle.rules.specs.declared.Refusal.{Refusal}
use Rattle.rules.specs.declared.Stepped.{Stepped}
use Rattle.rules.specs.declared.Restarted.{Restarted}
use Rattle.rules.specs.RefusalNumber as refusal
use Rattle.rules.specs.Step.{Step, StepAnswer, stepped_of, IsStep}
use Rattle.rules.specs.Restart.{Restart, IsRestart}
use Rattle.rows.specs.Memory.{table_in}
use Rattle.entering.specs.declared.Answer.{Answer}
use Rattle.entering.specs.StepIn.{Answered, answered, IsStepIn}
use Rattle.safety.specs.World.{World, Issued, empty, after_step, with_disk, after_leaving, after_restart}
use Rattle.safety.specs.Host.{careful, Makes}

-- What a host has in hand after a call: the answer, the signals that its row holds, and the log.
abbrev pub stepped_to : StepAnswer → List ℕ → Step
stepped_to r after = record { refusal = r.refusal; table = r.table; signals = take r.signals.count r.signals.items; log = after }

-- where the table is in lent memory
abbrev pub stepped_in : ℕ → Answered → List (List ℕ) → List (List ℕ) → List ℕ → Step
stepped_in capacity r heads rows after = record { refusal = r.refusal; table = table_in heads rows capacity r.used; signals = take r.signals.count r.signals.items; log = after }

abbrev pub restarted_to : Restarted → List ℕ → Restart
restarted_to r after = record { refusal = r.refusal; table = r.table; log = after }

-- what a careful host makes of the functions: the runs of the theorem, with answers in the place of definitions
pub data Calls : World → Type 0 where
  start : Calls empty
  step : {w : World} → Calls w → (e : Event) (tb : Table) (log : List ℕ) → careful.hands w tb log
      → (r : Result Stepped Refusal) {after : List ℕ} → IsStep tb e log (stepped_of tb r) after → ((stepped_of tb r).refusal ≡ refusal.accepted → Makes careful w.notes e)
      → Calls (after_step w tb e (stepped_to (stepped_of tb r) after))
  -- `step_in`: the memory means the table that the step gets, and at exit the one that it leaves
  step_in : {w : World} → Calls w → (e : Event) (heads rows : List (List ℕ)) (capacity used : ℕ) (log : List ℕ) → careful.hands w (table_in heads rows capacity used) log
      → (r : Result Answer Refusal) {heads' rows' : List (List ℕ)} {after : List ℕ} → IsStepIn (table_in heads rows capacity used) e log (answered used r) heads' rows' after
      → ((answered used r).refusal ≡ refusal.accepted → Makes careful w.notes e) → Calls (after_step w (table_in heads rows capacity used) e (stepped_in capacity (answered used r) heads' rows' after))
  store : {w : World} → Calls w → (disk : List ℕ) → careful.stores w disk → Calls (with_disk disk w)
  trim : {w : World} → Calls w → (disk : List ℕ) → careful.trims w disk → Calls (with_disk disk w)
  leave : {w : World} → Calls w → (i : Issued) → i ∈ w.waiting → careful.leaves w i → Calls (after_leaving i w)
  restart : {w : World} → Calls w → (log : List ℕ) (stored : ℕ) → careful.gives w log stored
      → {r : Restarted} {after : List ℕ} → IsRestart log stored r after → Calls (after_restart w (restarted_to r after))
