-- The places are looked at in their order, and those that are held are kept.
use Prim.Native.Nat.{◌<◌}
use mathlib.Core.Path.{◌∙◌}
use lib.ListN.{length-map}
use borrow.Author.Rules.{rules}
use borrow.Author.Tests.{eq-eqb, ne_eqb}
use Rattle.rules.specs.Table.{held}
use Rattle.holdings.specs.Within.{filled}
use Rattle.rows.specs.Memory.{enlistment_in}
use Rattle.lent_tables.proofs.Taking.{take_start, take_done, row_other, row_below, row_mine}
use Rattle.lent_tables.proofs.take_out.Goals as goal
use Rattle.lent_tables.proofs.take_out.Goals.{then-rows-i, else-rows-i}

pub loop-i-init : goal.loop-i-init
unfolding filled
loop-i-init c = take_start (length-map c.args.rows.now enlistment_in ∙ c.told-rows) c.requires
    (rw c.no_enlistment.ensures)

pub offset_bounds-h-k : goal.offset_bounds-h-k
unfolding enlistment_in
offset_bounds-h-k c =
    let b : c.loop-i.k < 16 = row_below c.args.p c.args.rows.now c.loop-i.invariant c.loop-i-test.true
    (eq-eqb _ _ c.if-rows-i.true) in
    search rules

pub bounds-h-k : goal.bounds-h-k
unfolding enlistment_in
bounds-h-k c = row_below c.args.p c.args.rows.now c.loop-i.invariant c.loop-i-test.true (eq-eqb _ _ c.if-rows-i.true)

pub overflow_add-k : goal.overflow_add-k
unfolding enlistment_in
overflow_add-k c =
    let b : c.loop-i.k < 16 = row_below c.args.p c.args.rows.now c.loop-i.invariant c.loop-i-test.true
    (eq-eqb _ _ c.if-rows-i.true) in
    search rules

pub loop-i-preserved : goal.loop-i-preserved
unfolding enlistment_in
loop-i-preserved c =
    let rows = c.args.rows.now in let t = c.loop-i.invariant in let lt = c.loop-i-test.true in
    elim c.if-rows-i.branch [
      | then-rows-i w ↦ rw (w.h-is, w.k-is)
          (row_mine c.args.p rows t lt (eq-eqb _ _ w.if-rows-i.true) w.enlistment_in.ensures)
      | else-rows-i w ↦ rw (w.h-is, w.k-is) (row_other c.args.p rows t lt (ne_eqb _ _ w.if-rows-i.false))
    ]

pub returns : goal.returns
unfolding held
returns c = λ size. rw (← c.transaction_at.ensures) (take_done c.loop-i.invariant c.loop-i-test.false)
