-- Place by place, those that were held are refilled.
use Rattle.lent_tables.proofs.Putting.{Putting}
use Rattle.lent_tables.proofs.put_rows.Given as goal

abbrev pub invariant-loop-i : goal.invariant-loop-i
invariant-loop-i l = Putting l.h.place l.h.enlistments l.initial.rows l.rows l.k l.i
