-- A record is whole where two bytes are left, and then as many as these say.
use native.Mathlib.Omega.{arith}
use Rattle.std.proofs.lemmas.Bool.Decides.{nat_tests}
use Rattle.log_reader.specs.Reading.{whole_at}
use Rattle.log_reader.proofs.whole_at.Goals as goal

pub returns-then-left-lt2 : goal.returns-then-left-lt2
unfolding whole_at
returns-then-left-lt2 c = grind (arith, nat_tests)

pub returns-in_err-size : goal.returns-in_err-size
unfolding whole_at
returns-in_err-size c = grind (arith, nat_tests)

pub returns-then-left-size : goal.returns-then-left-size
unfolding whole_at
returns-then-left-size c = grind (arith, nat_tests)

pub returns : goal.returns
unfolding whole_at
returns c = grind (arith, nat_tests)
