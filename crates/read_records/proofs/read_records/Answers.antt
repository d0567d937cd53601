-- What is left to read, judged with the records that are open so far, gives the whole, and each turn reads on.
use native.Mathlib.Omega.{arith}
use mathlib.Core.Path.{sym, ◌∙◌}
use Rattle.log_reader.proofs.Scanning.{whole_within}
use Rattle.read_records.proofs.Judging.{reading_start, reading_again, reading_unfit, reading_none, reading_done}
use Rattle.read_records.proofs.read_records.Goals as goal

pub loop-size-init : goal.loop-size-init
loop-size-init c = rw c.none_open-records.ensures (reading_start _ _ c.requires.1 c.requires.0)

pub returns-then-not-fits : goal.returns-then-not-fits
returns-then-not-fits c = reading_unfit _ _ c.requires.1 c.loop-size.invariant (sym c.in-Some.ensures.0) c.in-Some.ensures.1 (sym c.is_fitting-fits.ensures ∙ c.if-not-fits.true)

pub overflow_add-at : goal.overflow_add-at
overflow_add-at c = let w = whole_within _ _ c.requires.1 _ _ (sym c.in-Some.ensures.0) c.in-Some.ensures.1 in omega arith

pub loop-size-smaller : goal.loop-size-smaller
loop-size-smaller c = let w = whole_within _ _ c.requires.1 _ _ (sym c.in-Some.ensures.0) c.in-Some.ensures.1 in omega arith

pub loop-size-preserved : goal.loop-size-preserved
loop-size-preserved c =
    rw c.open_behind-records.ensures (reading_again _ _ c.requires.1 c.loop-size.invariant (sym c.in-Some.ensures.0) c.in-Some.ensures.1 (sym c.is_fitting-fits.ensures ∙ c.if-not-fits.false))

pub returns-then-none : goal.returns-then-none
returns-then-none c = reading_none _ _ c.requires.1 c.loop-size.invariant c.in_default.ensures (sym c.none_at-none.ensures ∙ c.if-none.true)

pub returns-else-none : goal.returns-else-none
returns-else-none c = reading_done _ _ c.requires.1 c.loop-size.invariant c.in_default.ensures (sym c.none_at-none.ensures ∙ c.if-none.false)
