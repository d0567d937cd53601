-- The two sorts of answers of a restart.
use Rattle.std.specs.Prelude.{ℕ, Result, Ok, Err}
use Rattle.rules.specs.declared.Refusal.{Refusal}
use Rattle.rules.specs.declared.Table.{Table}
use Rattle.rules.specs.declared.Restarted.{Restarted}
use Rattle.rules.specs.RefusalNumber as refusal
use Rattle.rules.specs.Table.{zero_table}

abbrev pub refused_as : ℕ → Restarted
refused_as why = record { refusal = why; table = zero_table }

abbrev pub done_with : Table → Restarted
done_with tb = record { refusal = refusal.accepted; table = tb }

-- the number and the table of an answer: "Refused restart: an all-zero table"
abbrev pub restarted_as : Result Table Refusal → Restarted
restarted_as (Ok tb) = done_with tb
restarted_as (Err why) = refused_as (refusal.refusal_number why)
