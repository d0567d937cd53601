-- How what became of a transaction and of what it holds is left in memory.
use Rattle.std.specs.Prelude.{ℕ, ◌≡◌, List, map}
use Rattle.lists.specs.Places.{change_at}
use Rattle.rules.specs.Table.{held_by}
use Rattle.holdings.specs.Within.{refill}
use Rattle.endings.specs.declared.Accepted.{Accepted}
use Rattle.rows.specs.Memory.{transaction_in, enlistment_in}
use Rattle.entering.specs.declared.Answer.{Answer}

-- a transaction and what it holds go back to their places
pub record PutsBack (heads rows : List (List ℕ)) (d : Accepted) (r : Answer) (heads' rows' : List (List ℕ)) : Type 0 where
  pub transactions : map transaction_in heads' ≡ change_at d.holding.place (λ x. d.holding.transaction) (map transaction_in heads)
  pub enlistments : map enlistment_in rows' ≡ refill (held_by d.holding.place) d.holding.enlistments (map enlistment_in rows)
  pub answer : r ≡ record { signals = d.signals; used = d.holding.used }
