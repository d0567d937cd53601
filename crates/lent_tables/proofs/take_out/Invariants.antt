-- The places are looked at in their order, and those that are held are kept.
use mathlib.Core.List.{map}
use Rattle.rows.specs.Memory.{enlistment_in}
use Rattle.lent_tables.proofs.Taking.{Taking}
use Rattle.lent_tables.proofs.take_out.Given as goal

abbrev pub invariant-loop-i : goal.invariant-loop-i
invariant-loop-i l = Taking l.p (map enlistment_in l.rows) l.initial.h l.h l.k l.i
