-- Listing: "one per live transaction, by ascending identifier: identifier, state, held count, count not Done".
use Rattle.std.specs.Prelude.{ℕ, Result, Ok, Err, cond, not, List, [], ◌∷◌, ◌++◌, map, eqb, ltb, length, drop}
use Rattle.lists.specs.Lists.{count}
use Rattle.lists.specs.Places.{places_where}
use Rattle.lists.specs.Sorting.{sort_by}
use Rattle.rules.specs.declared.Table.{Table}
use Rattle.rules.specs.declared.Row.{Row}
use Rattle.rules.specs.declared.Refusal.{Refusal}
use Rattle.rules.specs.RefusalNumber as refusal
use Rattle.rules.specs.RefusalNumber.{answer_number}
use Rattle.rules.specs.Table.{transaction_at, state_at, held, is_live, is_done}
use Rattle.rules.specs.Sound.{sound_of}
use Rattle.rules.specs.Events.{by_identifier}
use Rattle.rules.specs.Refusals.{check, first_of}

unfoldable pub live_places : Table → List ℕ
live_places tb = sort_by (by_identifier tb) (places_where (λ p x. is_live x) tb.transactions)

-- of the transaction at place p
unfoldable pub row_at : Table → ℕ → Row
row_at tb p = record {
  id = (transaction_at p tb).id;
  state = state_at p tb;
  held = length (held p tb);
  undone = count (λ e. not (is_done e)) (held p tb);
}

unfoldable pub rows_of : Table → List Row
rows_of tb = map (row_at tb) (live_places tb)

-- The answer of the listing, and the lent rows as it leaves them.
pub record Listing : Type 0 where
  pub refusal : ℕ
  pub count : ℕ
  pub rows : List Row

-- 15: "table not sound (step, listing)". 8: "listing: too few rows": "It needs no fewer rows than live transactions."
unfoldable pub listing_refusal : Table → ℕ → ℕ
listing_refusal tb room =
    first_of
    (check (not (sound_of tb)) refusal.not_sound
    ∷ check (ltb room (length (rows_of tb))) refusal.full
    ∷ [])

-- "Refused .. listing: .. row count 0, lent memory untouched. Success writes exactly the named .. rows and nothing beyond."
unfoldable pub list_of : Table → List Row → Listing
list_of tb rows =
    let why = listing_refusal tb (length rows) in
    cond (eqb why refusal.accepted)
    (record { refusal = refusal.accepted; count = length (rows_of tb); rows = rows_of tb ++ drop (length (rows_of tb)) rows })
    (record { refusal = why; count = 0; rows = rows })

-- what of it the host is told
pub record Listed : Type 0 where
  pub refusal : ℕ
  pub count : ℕ

abbrev pub listed_of : Listing → Listed
listed_of l = record { refusal = l.refusal; count = l.count }

-- the code's answer, which says how many rows only where they are written
abbrev pub rows_told : Result ℕ Refusal → ℕ
rows_told (Ok n) = n
rows_told (Err r) = 0

abbrev pub listed_as : Result ℕ Refusal → Listed
listed_as r = record { refusal = answer_number r; count = rows_told r }
