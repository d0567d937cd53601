-- Past the last place `set` changes nothing.
use native.Mathlib.Omega.{arith}
use mathlib.Core.Path.{◌≡◌}
use lib.ListN.{length}
use lib.Seq.{set_out}
use Rattle.lists.proofs.Loops.{long}
use Rattle.reopening.proofs.put_enlistment.Goals as goal

pub returns-else-k-lt-ENLISTMENTS : goal.returns-else-k-lt-ENLISTMENTS
returns-else-k-lt-ENLISTMENTS c = let l : length c.args.table.enlistments ≡ 128 = search long in rw (set_out c.args.table.enlistments c.args.k c.args.e (omega arith))
