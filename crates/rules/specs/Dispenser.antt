-- The number dispenser: "a small record the host lends; taking a number moves it on in place".
use Rattle.std.specs.Prelude.{ℕ, ◌+◌, cond, List, [], ◌∷◌, eqb, ltb, leb}
use Rattle.rules.specs.declared.Enlistment.{Enlistment}
use Rattle.rules.specs.declared.Table.{Table}
use Rattle.rules.specs.declared.Dispenser.{Dispenser}
use Rattle.rules.specs.declared.Taken.{Taken}
use Rattle.rules.specs.Sizes.{largest_number}

-- "Once 4,294,967,295 is given, or found in an open record, it gives 0 and stays."
abbrev pub number_after : ℕ → ℕ
number_after n = cond (leb largest_number n) 0 (n + 1)

unfoldable pub largest_in : List Enlistment → ℕ
largest_in [] = 0
largest_in (e ∷ es) = cond (ltb (largest_in es) e.number) e.number (largest_in es)

-- "After restart it starts one past the largest number in open records, else at 1": a restart's table holds just their entries
unfoldable pub dispenser_of : Table → Dispenser
dispenser_of tb = record { next = number_after (largest_in tb.enlistments) }

unfoldable pub taken_of : Dispenser → Taken
taken_of d = record { number = d.next; dispenser = record { next = cond (eqb d.next 0) 0 (number_after d.next) } }
