-- What is left of the stored bytes decides how many are read, here as in the definition.
use native.Mathlib.Omega.{arith}
use Rattle.std.proofs.lemmas.Bool.Decides.{nat_tests}
use Rattle.log_reader.specs.Reading.{none_at}
use Rattle.log_reader.proofs.none_at.Goals as goal

pub returns-in-0 : goal.returns-in-0
unfolding none_at
returns-in-0 c = grind (arith, nat_tests)

pub returns-in-1 : goal.returns-in-1
unfolding none_at
returns-in-1 c = grind (arith, nat_tests)

pub returns-in_default : goal.returns-in_default
unfolding none_at
returns-in_default c = grind (arith, nat_tests)
