-- No manager that is passed stands behind its place again, so that the entries that are left say what all say.
use Rattle.lists.specs.Lists.{differ}
use Rattle.lists.proofs.Loops.{Ahead}
use Rattle.rules.specs.Restart.{same_entry_manager}
use Rattle.log_reader.specs.Reading.{entries_at}
use Rattle.entries.proofs.managers_differ.Given as goal

abbrev pub invariant-loop-j : goal.invariant-loop-j
invariant-loop-j l = Ahead (differ same_entry_manager) (entries_at l.log l.at) (differ same_entry_manager (entries_at l.log l.at)) l.j
