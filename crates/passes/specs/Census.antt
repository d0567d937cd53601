-- What the code counts of a transaction's enlistments.
use Rattle.std.specs.Prelude.{ℕ, suc, ◌<◌, Bool, cond, List, length}
use Rattle.lists.specs.Lists.{count}
use Rattle.rules.specs.EnlistmentState as enlistment
use Rattle.rules.specs.Table.{is_phase_zero, is_durable, is_marked, is_in, is_done}
use Rattle.rules.specs.declared.Enlistment.{Enlistment}
use Rattle.passes.specs.declared.Census.{Census}

unfoldable pub census_of : List Enlistment → Census
census_of hs = record {
  held = length hs;
  phase_zero = count is_phase_zero hs;
  durable = count is_durable hs;
  marked = count is_marked hs;
  preparing = count (is_in enlistment.preparing) hs;
  told_abort = count (is_in enlistment.told_abort) hs;
  done = count is_done hs;
}

-- with one more
abbrev pub more_of : Bool → ℕ → ℕ
more_of so n = cond so (suc n) n

unfoldable pub counted_of : Enlistment → Census → Census
counted_of e c = record {
  held = suc c.held;
  phase_zero = more_of (is_phase_zero e) c.phase_zero;
  durable = more_of (is_durable e) c.durable;
  marked = more_of (is_marked e) c.marked;
  preparing = more_of (is_in enlistment.preparing e) c.preparing;
  told_abort = more_of (is_in enlistment.told_abort e) c.told_abort;
  done = more_of (is_done e) c.done;
}

-- each count lies below n, so that there is room for one more
pub record Below (n : ℕ) (c : Census) : Type 0 where
  pub held : c.held < n
  pub phase_zero : c.phase_zero < n
  pub durable : c.durable < n
  pub marked : c.marked < n
  pub preparing : c.preparing < n
  pub told_abort : c.told_abort < n
  pub done : c.done < n
