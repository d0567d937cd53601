-- What is counted is the census of the places passed, and of all of them at the end.
use native.Mathlib.Omega.{arith}
use mathlib.Core.Path.{sym, ap, ◌∙◌}
use Rattle.std.proofs.Common.{rules, take_all}
use Rattle.lists.specs.Lists.{filter, count}
use Rattle.passes.specs.Census.{census_of}
use Rattle.passes.proofs.Laws.{census_held, census_next, census_below}
use Rattle.passes.proofs.count_among.Goals as goal

pub loop-e-init : goal.loop-e-init
unfolding census_of filter count
loop-e-init c = search rules

pub counted_held-c-requires : goal.counted_held-c-requires
counted_held-c-requires c = rw c.loop-e.invariant (census_below c.args.p 128 c.args.es.now c.loop-e.e-index (omega (arith, c.loop-e-test.true, c.requires)))

pub loop-e-preserved : goal.loop-e-preserved
loop-e-preserved c = rw (c.counted_held-c.ensures, c.loop-e.invariant) (sym (census_next c.args.p c.args.es.now c.loop-e.e-index _ c.loop-e-test.true))

pub returns : goal.returns
returns c = c.loop-e.invariant ∙ ap (census_held c.args.p) (take_all c.loop-e.e-index c.args.es.now c.loop-e-test.false)
