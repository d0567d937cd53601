-- The entries of a record go behind those before them, so that the records that are left, from that place on, give the whole.
use native.Mathlib.Omega.{arith}
use mathlib.Core.Path.{sym, ◌∙◌}
use borrow.Author.Rules.{rules}
use Rattle.entries.proofs.Rows.{entries_long}
use Rattle.open_records.proofs.Rows.{open_next, opens_over}
use Rattle.reopening.proofs.Building.{enlisting_start, enlisting_again, enlisting_done}
use Rattle.reopening.proofs.put_enlistments.Goals as goal

pub loop-i-init : goal.loop-i-init
loop-i-init c = enlisting_start

pub loop-i-preserved : goal.loop-i-preserved
loop-i-preserved c = enlisting_again c.loop-i.invariant (omega arith) (open_next c.args.records _ c.starts-at-items.ensures.0 _ c.loop-i-test.true) c.put_entries-table.ensures (c.entries_count.ensures ∙ sym (entries_long _ _)) (search rules)

pub returns : goal.returns
returns c = enlisting_done c.loop-i.invariant (opens_over c.args.records _ c.starts-at-items.ensures.0 _ c.loop-i-test.false)
