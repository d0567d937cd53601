-- What is left of the number, in decimal, stands before the digits that were written, until one digit is left.
use native.Mathlib.Omega.{arith}
use mathlib.Core.Path.{refl}
use Rattle.trace_parts.proofs.Digits.{convert_start, convert_again, convert_done}
use Rattle.trace_parts.proofs.decimal_of.Goals as goal

pub loop-m-init : goal.loop-m-init
loop-m-init c = convert_start (omega arith) refl

pub loop-m-preserved : goal.loop-m-preserved
loop-m-preserved c = convert_again _ c.loop-m.invariant c.loop-m-test.true

pub returns : goal.returns
returns c = convert_done _ c.loop-m.invariant c.loop-m-test.false
