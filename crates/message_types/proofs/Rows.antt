-- The table has the types and the payload lengths of document 01, in the same order: row by row it means `message_types`. So the first row that
-- fits is the definition's.
use Rattle.std.proofs.Common.{◌≡◌, ℕ, true, false, cond, ◌||◌, List, [], ◌∷◌, map, Option, Some, refl, eqb}
use Rattle.std.specs.List.{find}
use Rattle.std.specs.Option.{is_some, unwrap_or, option_map}
use Rattle.lists.specs.Lists.{any, first_or}
use Rattle.rules.specs.Messages.{MessageType, message_type, message_types, is_type, payload_of}
use Rattle.message_types.specs.declared.MessageType as declared

abbrev pub Row : Type 0
Row = declared.MessageType

abbrev row : ℕ → ℕ → Row
row k n = record { kind = k; payload = n }

-- `TYPES` of src/lib.rt
abbrev pub table : List Row
table = row 0x1051 32 ∷ row 0x2011 16 ∷ row 0x2021 16 ∷ row 0x2051 16 ∷ row 0x2012 0 ∷ row 0x2013 0 ∷ row 0x2022 0 ∷ row 0x2023 0 ∷ []

abbrev meant : Row → MessageType
meant r = message_type r.kind r.payload

abbrev pub found : ℕ → Option ℕ
found kind = option_map (λ (r : Row). r.payload) (find (λ r. eqb r.kind kind) table)

found_any : (kind : ℕ) (rows : List Row) → is_some (option_map (λ (r : Row). r.payload) (find (λ r. eqb r.kind kind) rows)) ≡ any (λ m. eqb m.kind kind) (map meant rows)
unfolding any
found_any kind [] = refl
found_any kind (r ∷ rows) =
    elim (eqb r.kind kind)
    as (λ b. is_some (option_map (λ (r : Row). r.payload) (cond b (Some r) (find (λ r. eqb r.kind kind) rows))) ≡ (b || any (λ m. eqb m.kind kind) (map meant rows)))
    [ true ↦ refl | false ↦ found_any kind rows ]

found_first : (kind : ℕ) (rows : List Row) → unwrap_or (option_map (λ (r : Row). r.payload) (find (λ r. eqb r.kind kind) rows)) 0 ≡ (first_or (message_type 0 0) (λ m. eqb m.kind kind) (map meant rows)).payload
unfolding first_or
found_first kind [] = refl
found_first kind (r ∷ rows) =
    elim (eqb r.kind kind)
    as (λ b. unwrap_or (option_map (λ (r : Row). r.payload) (cond b (Some r) (find (λ r. eqb r.kind kind) rows))) 0 ≡ (cond b (meant r) (first_or (message_type 0 0) (λ m. eqb m.kind kind) (map meant rows))).payload)
    [ true ↦ refl | false ↦ found_first kind rows ]

pub is_found : (kind : ℕ) → (is_some (found kind) ≡ is_type kind) × (unwrap_or (found kind) 0 ≡ payload_of kind)
unfolding is_type payload_of message_types
is_found kind = (found_any kind table, found_first kind table)
