-- Place by place, those that were held are refilled.
use Prim.Native.Nat.{◌<◌}
use native.Mathlib.Omega.{arith}
use mathlib.Core.Path.{◌≡◌, ◌∙◌}
use mathlib.Core.List.{[]}
use lib.ListN.{length}
use borrow.Author.Tests.{eq-eqb, ne_eqb}
use Rattle.lists.proofs.Loops.{long, get_or_any}
use Rattle.rules.specs.Table.{no_enlistment}
use Rattle.rows.specs.Memory.{enlistment_in}
use Rattle.lent_tables.proofs.Putting.{put_start, put_below, put_other, put_mine, put_done}
use Rattle.lent_tables.proofs.put_rows.Goals as goal
use Rattle.lent_tables.proofs.put_rows.Goals.{then-rows-i, else-rows-i}

pub loop-i-init : goal.loop-i-init
loop-i-init c = put_start c.told-rows c.requires

pub bounds-h-k : goal.bounds-h-k
unfolding enlistment_in
bounds-h-k c =
    let h = c.args.h in
    put_below h.place h.enlistments c.args.rows.now c.loop-i.rows [] c.loop-i.invariant c.loop-i-test.true
    (eq-eqb _ _ c.if-rows-i.true)

pub loop-i-preserved : goal.loop-i-preserved
unfolding enlistment_in
loop-i-preserved c =
    let h = c.args.h in let rows = c.loop-i.rows in let t = c.loop-i.invariant in let lt = c.loop-i-test.true in
    elim c.if-rows-i.branch [
      | then-rows-i w ↦ (
          let m = eq-eqb _ _ w.if-rows-i.true in
          let b : c.loop-i.k < 16 = put_below h.place h.enlistments c.args.rows.now rows [] t lt m in
          let l : length h.enlistments ≡ 16 = search long in
          rw (w.rows-is, w.k-is) (put_mine h.place h.enlistments c.args.rows.now rows [] t lt w.row_of.result m
          (w.row_of.ensures ∙ get_or_any h.enlistments c.loop-i.k _ no_enlistment (omega arith))))
      | else-rows-i w ↦ rw (w.rows-is, w.k-is)
          (put_other h.place h.enlistments c.args.rows.now rows [] t lt (ne_eqb _ _ w.if-rows-i.false))
    ]

pub returns : goal.returns
returns c = put_done c.loop-i.invariant c.loop-i-test.false
