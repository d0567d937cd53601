-- The calls of the code are runs, so that the theorem holds of them: an answer that meets the contract is the definition's, and the row of signals holds
-- just the signals, since there are at most as many as it has places.
use Prim.Native.Nat.{ℕ}
use mathlib.Core.Path.{◌≡◌, refl, sym, ◌∙◌, ap, subst}
use mathlib.Core.List.{List}
use lib.ListN.{take}
use Rattle.rules.specs.declared.Table.{Table}
use Rattle.rules.specs.declared.Event.{Event}
use Rattle.rules.specs.declared.Signals.{Signals}
use Rattle.rules.specs.declared.Restarted.{Restarted}
use Rattle.rules.specs.Sizes.{signals_most}
use Rattle.rules.specs.Signals.{row_of}
use Rattle.rules.specs.Step.{Step, StepAnswer, step_of, stepped_of, IsStep}
use Rattle.rules.specs.Restart.{Restart, restart_of, IsRestart}
use Rattle.rules.proofs.Preserved.{step_few_signals}
use Rattle.rules.proofs.Count.{pad_take}
use Rattle.rows.specs.Memory.{table_in}
use Rattle.entering.specs.StepIn.{Answered, answered, IsStepIn}
use Rattle.safety.specs.World.{World, after_step, after_restart}
use Rattle.safety.specs.Host.{careful}
use Rattle.safety.specs.Run.{Run}
use Rattle.safety.specs.Demand3.{Demand3, Safe}
use Rattle.safety.proofs.Safety.{safety}
use Rattle.agreement.specs.Calls.{stepped_to, stepped_in, restarted_to, Calls}

pub step_agrees : (tb : Table) (e : Event) (log : List ℕ) {r : StepAnswer} {after : List ℕ} → IsStep tb e log r after → stepped_to r after ≡ step_of tb e log
unfolding row_of
step_agrees tb e log (p, q) = rw (p, q) (λ i. record {
  refusal = (step_of tb e log).refusal;
  table = (step_of tb e log).table;
  signals = pad_take signals_most (step_of tb e log).signals (step_few_signals tb e log) i;
  log = (step_of tb e log).log;
})

pub step_in_agrees : (tb : Table) (e : Event) (log : List ℕ) {r : Answered} {heads rows : List (List ℕ)} {after : List ℕ} → IsStepIn tb e log r heads rows after
    → stepped_in tb.capacity r heads rows after ≡ step_of tb e log
unfolding row_of
step_in_agrees tb e log p =
    let held = ap (λ (s : Signals). take s.count s.items) p.signals ∙ pad_take signals_most (step_of tb e log).signals (step_few_signals tb e log) in
    λ i. record { refusal = p.refusal i; table = p.table i; signals = held i; log = p.log i }

pub restart_agrees : (log : List ℕ) (stored : ℕ) {r : Restarted} {after : List ℕ} → IsRestart log stored r after → restarted_to r after ≡ restart_of log stored
restart_agrees log stored (p, q) = rw (p, q) refl

pub calls_run : {w : World} → Calls w → Run careful w
calls_run Calls.start = Run.start
calls_run (Calls.step {w} c e tb log h r m f) =
    subst (λ (s : Step). Run careful (after_step w tb e s)) (sym (step_agrees tb e log m))
    (Run.step (calls_run c) e tb log h (λ a. f (ap (λ (s : Step). s.refusal) (step_agrees tb e log m) ∙ a)))
calls_run (Calls.step_in {w} c e heads rows capacity used log h r m f) =
    let tb = table_in heads rows capacity used in
    subst (λ (s : Step). Run careful (after_step w tb e s)) (sym (step_in_agrees tb e log m))
    (Run.step (calls_run c) e tb log h (λ a. f (ap (λ (s : Step). s.refusal) (step_in_agrees tb e log m) ∙ a)))
calls_run (Calls.store c disk h) = Run.store (calls_run c) disk h
calls_run (Calls.trim c disk h) = Run.trim (calls_run c) disk h
calls_run (Calls.leave c i m h) = Run.leave (calls_run c) i m h
calls_run (Calls.restart {w} c log stored h {r} {after} m) =
    subst (λ (s : Restart). Run careful (after_restart w s)) (sym (restart_agrees log stored m)) (Run.restart (calls_run c) log stored h)

-- Demand 3, of the code.
pub code_safe : (w : World) → Calls w → Safe w
unfolding Demand3
code_safe w c = safety w (calls_run c)
