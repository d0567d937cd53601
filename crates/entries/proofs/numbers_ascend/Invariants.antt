-- The numbers that are passed ascend to the last, so that the entries that are left, from that number on, say what all say.
use Rattle.lists.proofs.Loops.{Ahead}
use Rattle.rules.specs.Restart.{ascend_from}
use Rattle.log_reader.specs.Reading.{entries_at}
use Rattle.entries.proofs.numbers_ascend.Given as goal

abbrev pub invariant-loop-j : goal.invariant-loop-j
invariant-loop-j l = Ahead (ascend_from l.last) (entries_at l.log l.at) (ascend_from 0 (entries_at l.log l.at)) l.j
