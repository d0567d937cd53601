-- What is left of the number, in decimal, stands before the digits that were written, until one digit is left.
use Rattle.trace_parts.proofs.Digits.{Converting}
use Rattle.trace_parts.proofs.decimal_of.Given as goal

abbrev pub invariant-loop-m : goal.invariant-loop-m
invariant-loop-m l = Converting l.n l.bytes l.k l.m

abbrev pub decreases-loop-m : goal.decreases-loop-m
decreases-loop-m l = l.m
