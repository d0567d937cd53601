-- `trace_run::obey` meets its contract: the table is put into memory, obeyed on there, and taken out again.
use Rattle.trace_run.proofs.Laws.{taken_obeys}
use Rattle.trace_run.proofs.obey.Goals as goal

pub obey_in-left-requires : goal.obey_in-left-requires
obey_in-left-requires c = rw c.put_table.ensures.table c.is_sound-sound.ensures

pub returns : goal.returns
returns c =
    let o = rw c.put_table.ensures.table at c.obey_in-left.ensures in
    taken_obeys o.0 c.table_in.ensures
