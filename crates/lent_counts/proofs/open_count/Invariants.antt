-- What is counted, and the open places that are still ahead, are all of them.
use Prim.Native.Nat.{ℕ, ◌+◌, ◌≤◌}
use mathlib.Core.Bool.{Bool}
use mathlib.Core.List.{List, map}
use lib.ListN.{length}
use Rattle.lists.specs.Lists.{filter}
use Rattle.lists.specs.Places.{places_from}
use Rattle.lists.proofs.Loops.{Ahead}
use Rattle.rules.specs.declared.Transaction.{Transaction}
use Rattle.rules.specs.Table.{held_by}
use Rattle.rules.specs.Sound.{is_open}
use Rattle.rows.specs.Memory.{transaction_in, enlistment_in}
use Rattle.lent_counts.proofs.open_count.Given as goal

abbrev pub opens : List (List ℕ) → ℕ → Transaction → Bool
opens rows p x = is_open x.state (filter (held_by p) (map enlistment_in rows))

pub record Counted (f : ℕ → Transaction → Bool) (xs : List Transaction) (n i : ℕ) : Type 0 where
  pub most : n ≤ i
  pub ahead : Ahead (λ ys. n + length (places_from f (i + 1) ys)) xs (length (places_from f 1 xs)) i

abbrev pub invariant-loop-i : goal.invariant-loop-i
invariant-loop-i l = Counted (opens l.rows) (map transaction_in l.heads) l.n l.i
