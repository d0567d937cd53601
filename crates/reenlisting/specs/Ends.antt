-- In which memory transactions are ended, and how it is left.
use Rattle.std.specs.Prelude.{ℕ, ◌≤◌, ◌≡◌, List, length}
use Rattle.rules.specs.declared.Table.{Table}
use Rattle.rules.specs.Sizes.{held_most, largest_capacity}
use Rattle.rules.specs.Table.{held}
use Rattle.rules.specs.Events.{Outcome}
use Rattle.rows.specs.Memory.{table_in}

-- "at most 16 enlistments"
abbrev pub Few : Table → Type 0
Few tb = (p : ℕ) → 1 ≤ p → length (held p tb) ≤ held_most

pub record ReadyIn (heads rows : List (List ℕ)) (capacity used : ℕ) : Type 0 where
  pub used_first : used ≤ largest_capacity
  pub few : Few (table_in heads rows capacity used)

-- the memory holds the outcome's table, with this used length; and the log is as the outcome leaves it
pub record LeavesIn (o : Outcome) (heads rows : List (List ℕ)) (capacity used : ℕ) (after : List ℕ) : Type 0 where
  pub table : table_in heads rows capacity used ≡ o.table
  pub log : after ≡ o.log
