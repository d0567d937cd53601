-- The table's places are put into memory, the step is done there, and what the memory means then is given back; refused, that is the table as it was.
use Rattle.step.proofs.Whole.{whole_step, whole_refused}
use Rattle.step.proofs.step.Goals as goal

pub step_in-requires : goal.step_in-requires
step_in-requires c = rw (c.heads_of.ensures, c.rows_of.ensures) c.is_sound-sound.ensures

pub returns-in_err-answer : goal.returns-in_err-answer
returns-in_err-answer c = whole_refused _ _ c.from_residual.ensures.1 (rw (c.heads_of.ensures, c.rows_of.ensures) at c.in_err-answer.ensures)

pub returns : goal.returns
returns c = whole_step (rw (c.heads_of.ensures, c.rows_of.ensures) at c.in_ok-answer.ensures) c.table_in-after.ensures
