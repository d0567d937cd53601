-- What is counted is the census of the places passed.
use Rattle.std.proofs.Common.{◌≡◌, take}
use Rattle.passes.proofs.Laws.{census_held}
use Rattle.passes.proofs.count_among.Given as goal

abbrev pub invariant-loop-e : goal.invariant-loop-e
invariant-loop-e l = l.c ≡ census_held l.p (take l.e-index l.es)
