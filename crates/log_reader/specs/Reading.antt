-- What stands at a place of the log. The rules take a log apart from the front; the code reads it at places, and past its end each byte is 0.
use Rattle.std.specs.Prelude.{ℕ, zero, suc, ◌+◌, ◌*◌, ◌-◌, Bool, false, cond, not, ◌||◌, List, [], ◌∷◌, eqb, ltb, get_or}
use Rattle.rules.specs.Sizes.{identifier_size, entry_size, record_size}
use Rattle.rules.specs.Identifiers.{Id}
use Rattle.rules.specs.Log.{Entry, Record, number4, commit_tag, forget_tag, size_of}

-- n bytes from place p on
unfoldable pub bytes_at : List ℕ → ℕ → ℕ → List ℕ
bytes_at log p zero = []
bytes_at log p (suc n) = get_or log p 0 ∷ bytes_at log (suc p) n

-- ── the record at place p ───────────────────────────────────────────────────────────────────────────────────────

unfoldable pub identifier_at : List ℕ → ℕ → Id
identifier_at log p = bytes_at log (p + 2) identifier_size

-- of its entry j, counted from 0
unfoldable pub manager_at : List ℕ → ℕ → ℕ → Id
manager_at log p j = bytes_at log (p + (record_size + entry_size * j)) identifier_size

unfoldable pub number_at : List ℕ → ℕ → ℕ → ℕ
number_at log p j = number4 (bytes_at log (p + (record_size + identifier_size + entry_size * j)) 4)

abbrev pub entry_at : List ℕ → ℕ → ℕ → Entry
entry_at log p j = record { rm = manager_at log p j; number = number_at log p j }

-- n entries from entry j on
unfoldable pub entries_from : List ℕ → ℕ → ℕ → ℕ → List Entry
entries_from log p j zero = []
entries_from log p j (suc n) = entry_at log p j ∷ entries_from log p (suc j) n

-- the second byte of a commit record
unfoldable pub entries_count : List ℕ → ℕ → ℕ
entries_count log p = get_or log (p + 1) 0

unfoldable pub entries_at : List ℕ → ℕ → List Entry
entries_at log p = entries_from log p 0 (entries_count log p)

unfoldable pub is_commit_at : List ℕ → ℕ → Bool
is_commit_at log p = eqb (get_or log p 0) commit_tag

unfoldable pub record_at : List ℕ → ℕ → Record
record_at log p = cond (is_commit_at log p) (Record.commit (identifier_at log p) (entries_at log p)) (Record.forget (identifier_at log p))

-- ── what the stored bytes hold from place p on ──────────────────────────────────────────────────────────────────

-- the size that its first two bytes say
abbrev pub size_at : List ℕ → ℕ → ℕ
size_at log p = size_of (get_or log p 0) (get_or log (p + 1) 0)

-- the size of the record that stands there whole, 0 if none does
unfoldable pub whole_at : List ℕ → ℕ → ℕ → ℕ
whole_at log stored p = cond (ltb (stored - p) 2) 0 (cond (ltb (stored - p) (size_at log p)) 0 (size_at log p))

-- that no record begins there
unfoldable pub none_at : List ℕ → ℕ → ℕ → Bool
none_at log stored p =
    cond (eqb (stored - p) 0) false
    (cond (eqb (stored - p) 1) (not (eqb (get_or log p 0) commit_tag || eqb (get_or log p 0) forget_tag))
    (eqb (size_at log p) 0))
