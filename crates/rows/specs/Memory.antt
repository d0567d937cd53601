-- How memory holds a table: 17 bytes a transaction, its identifier and its state; 24 bytes an enlistment, its RM, its number, low byte first,
-- its holder, kind, mark and state.
use Rattle.std.specs.Prelude.{ℕ, ◌<◌, ◌≡◌, List, [], ◌∷◌, map, length, get_or, take}
use Rattle.lists.specs.Members.{Each}
use Rattle.rules.specs.declared.Transaction.{Transaction}
use Rattle.rules.specs.declared.Enlistment.{Enlistment}
use Rattle.rules.specs.declared.Table.{Table}
use Rattle.rules.specs.Log.{number4}

unfoldable pub transaction_in : List ℕ → Transaction
transaction_in head = record { id = record { 0 = take 16 head }; state = get_or head 16 0 }

abbrev pub number_in : List ℕ → ℕ
number_in row = number4 (get_or row 16 0 ∷ get_or row 17 0 ∷ get_or row 18 0 ∷ get_or row 19 0 ∷ [])

unfoldable pub enlistment_in : List ℕ → Enlistment
enlistment_in row = record {
  holder = get_or row 20 0;
  rm = record { 0 = take 16 row };
  number = number_in row;
  kind = get_or row 21 0;
  mark = get_or row 22 0;
  state = get_or row 23 0;
}

abbrev pub table_in : List (List ℕ) → List (List ℕ) → ℕ → ℕ → Table
table_in heads rows capacity used = record { transactions = map transaction_in heads; enlistments = map enlistment_in rows; capacity = capacity; used = used }

-- a value of the type [u8; n]
pub record Bytes (n : ℕ) (bs : List ℕ) : Type 0 where
  pub long : length bs ≡ n
  pub small : Each (λ b. b < 256) bs

-- values of the types that are lent
pub record OfBytes (heads rows : List (List ℕ)) : Type 0 where
  pub each_head : Each (Bytes 17) heads
  pub each_row : Each (Bytes 24) rows
