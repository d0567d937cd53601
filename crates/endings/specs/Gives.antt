-- How the code gives an outcome: a holding that is the outcome's table alone, at the place p where it was; its signals in a row; and the log as it leaves it.
use Rattle.std.specs.Prelude.{ℕ, ◌+◌, ◌*◌, ◌≤◌, ◌≡◌, List}
use Rattle.rules.specs.Sizes.{transaction_places, signals_most, largest_capacity}
use Rattle.rules.specs.Log.{commit_size}
use Rattle.rules.specs.Signals.{row_of}
use Rattle.rules.specs.Events.{Outcome}
use Rattle.holdings.specs.declared.Holding.{Holding}
use Rattle.holdings.specs.Holdings.{alone, Placed}
use Rattle.endings.specs.declared.Accepted.{Accepted}

pub record Gives (p : ℕ) (o : Outcome) (r : Accepted) (after : List ℕ) : Type 0 where
  pub table : alone r.holding ≡ o.table
  pub place : r.holding.place ≡ p
  pub signals : r.signals ≡ row_of o.signals
  pub log : after ≡ o.log

-- without the signals
pub record Leaves (p : ℕ) (o : Outcome) (r : Holding) (after : List ℕ) : Type 0 where
  pub table : alone r ≡ o.table
  pub place : r.place ≡ p
  pub log : after ≡ o.log

-- what a sound table may use, and what the ends of all its transactions may add: far enough below the largest number for one record more
abbrev pub used_most : ℕ
used_most = largest_capacity + transaction_places * commit_size signals_most

abbrev pub Ready : Holding → Type 0
Ready h = Placed h.place × (h.used ≤ used_most)
