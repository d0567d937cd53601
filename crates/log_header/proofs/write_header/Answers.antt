-- Each turn stores one byte, so that the bytes that are left, stored behind it, give the whole.
use native.Mathlib.Omega.{arith}
use mathlib.Core.Path.{refl, ◌∙◌, ap₂}
use lib.ListN.{set}
use Rattle.lists.proofs.Stores.{store_start, store_again, store_done}
use Rattle.rules.specs.Log.{written}
use Rattle.log_header.proofs.write_header.Goals as goal

pub loop-i-init : goal.loop-i-init
unfolding written
loop-i-init c = store_start refl

pub loop-i-preserved : goal.loop-i-preserved
unfolding written
loop-i-preserved c = store_again c.loop-i.invariant c.loop-i-test.true (c.put.ensures ∙ ap₂ (λ k b. set c.loop-i.log k b) (omega arith) c.header_byte.ensures)

pub shape_of-log : goal.shape_of-log
unfolding written
shape_of-log c = c.loop-i.invariant.size

pub returns : goal.returns
unfolding written
returns c = store_done c.loop-i.invariant c.loop-i-test.false
