-- The runs: what can come of an empty log, "after any calls, power cuts and restarts".
use Rattle.std.specs.Prelude.{ℕ, ◌≡◌, List}
use Rattle.lists.specs.Members.{◌∈◌}
use Rattle.rules.specs.declared.Table.{Table}
use Rattle.rules.specs.declared.Event.{Event}
use Rattle.rules.specs.RefusalNumber as refusal
use Rattle.rules.specs.Step.{step_of}
use Rattle.rules.specs.Restart.{restart_of}
use Rattle.safety.specs.World.{World, Issued, empty, after_step, with_disk, after_leaving, after_restart}
use Rattle.safety.specs.Host.{Host, Makes}

-- These in any order, and refused calls like others, of which no premise is asked: so any number of steps may run before anything is stored, and a message may wait
-- for as long as it likes. A power cut is a storing of some bytes, none or all of those that were being stored, or a trimming of some,
-- and then a restart; it comes anywhere, also while the header is being stored, and between a restart and the next.
pub data Run (host : Host) : World → Type 0 where
  start : Run host empty
  step : {w : World} → Run host w → (e : Event) (tb : Table) (log : List ℕ) → host.hands w tb log
      → ((step_of tb e log).refusal ≡ refusal.accepted → Makes host w.notes e)
      → Run host (after_step w tb e (step_of tb e log))
  store : {w : World} → Run host w → (disk : List ℕ) → host.stores w disk → Run host (with_disk disk w)
  trim : {w : World} → Run host w → (disk : List ℕ) → host.trims w disk → Run host (with_disk disk w)
  leave : {w : World} → Run host w → (i : Issued) → i ∈ w.waiting → host.leaves w i → Run host (after_leaving i w)
  restart : {w : World} → Run host w → (log : List ℕ) (n : ℕ) → host.gives w log n → Run host (after_restart w (restart_of log n))
