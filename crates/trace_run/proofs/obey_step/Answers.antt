-- The line is the answer that is written of the step's, and the step's contract says which that is; refused, it is the refusal's number and no signals.
use Rattle.trace_run.proofs.Laws.{step_obeys}
use Rattle.trace_run.proofs.obey_step.Goals as goal

pub returns-in-Ok : goal.returns-in-Ok
returns-in-Ok c = (step_obeys c.step_in.array_long c.step_in.array_long2 c.in-Ok.ensures c.answered.ensures, c.answered.ensures.known)

pub returns-in-Err : goal.returns-in-Err
returns-in-Err c =
    let a = rw (c.from.ensures, c.to_none-none.ensures) at c.answered-in-Err.ensures in
    (step_obeys c.step_in.array_long c.step_in.array_long2 c.in-Err.ensures a, a.known)
