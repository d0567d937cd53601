-- The count equals one number, whatever capacity and used length the table in the memory is said to have.
use Prim.Native.Nat.{ℕ, ◌≤◌}
use mathlib.Core.Path.{◌≡◌, sym, ◌∙◌}
use mathlib.Core.List.{List}
use Rattle.rules.specs.Sizes.{transaction_places}
use Rattle.rules.specs.Sound.{open_count}
use Rattle.rows.specs.Memory.{table_in}

pub open_count_determined : (heads rows : List (List ℕ)) {r s : ℕ} → ((capacity used : ℕ) → r ≡ open_count (table_in heads rows capacity used)) × (r ≤ transaction_places)
    → ((capacity used : ℕ) → s ≡ open_count (table_in heads rows capacity used)) × (s ≤ transaction_places) → r ≡ s
open_count_determined heads rows (a, _) (b, _) = a 0 0 ∙ sym (b 0 0)
