-- The answer of a listing, which looks at no more of the lent rows than how many they are.
use Rattle.std.specs.Prelude.{ℕ, cond, eqb, length}
use Rattle.rules.specs.declared.Table.{Table}
use Rattle.rules.specs.RefusalNumber as refusal
use Rattle.rules.specs.Listing.{Listed, rows_of, listing_refusal}

unfoldable pub plan_of : Table → ℕ → Listed
plan_of tb room =
    let why = listing_refusal tb room in
    record { refusal = why; count = cond (eqb why refusal.accepted) (length (rows_of tb)) 0 }
