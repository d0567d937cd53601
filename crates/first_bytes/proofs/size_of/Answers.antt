-- The branches ask what the definition's tests ask, in the same order.
use native.Mathlib.Omega.{arith}
use Rattle.std.proofs.lemmas.Bool.Decides.{nat_tests}
use Rattle.rules.specs.Log.{size_of}
use Rattle.first_bytes.proofs.size_of.Goals as goal

pub returns-in-1 : goal.returns-in-1
unfolding size_of
returns-in-1 c = grind (arith, nat_tests)

pub returns-in-2 : goal.returns-in-2
unfolding size_of
returns-in-2 c = grind (arith, nat_tests)

pub returns-in_default : goal.returns-in_default
unfolding size_of
returns-in_default c = grind (arith, nat_tests)
