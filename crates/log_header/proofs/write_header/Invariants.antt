-- Each turn stores one byte, so that the bytes that are left, stored behind it, give the whole.
use Rattle.lists.proofs.Stores.{Stored}
use Rattle.rules.specs.Sizes.{header_size}
use Rattle.rules.specs.Log.{header}
use Rattle.log_header.proofs.write_header.Given as goal

abbrev pub invariant-loop-i : goal.invariant-loop-i
invariant-loop-i l = Stored header_size header l.initial.log 0 l.log l.i
