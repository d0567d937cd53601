-- The open records as the code holds them: each by the place in the log where it begins.
use Rattle.std.specs.Prelude.{ℕ, ◌+◌, cond, List, [], ◌∷◌, map, ltb, length, take, set, replicate}
use Rattle.rules.specs.Sizes.{transaction_places}
use Rattle.rules.specs.Identifiers.{Id, same_bytes}
use Rattle.rules.specs.Restart.{Open}
use Rattle.log_reader.specs.Reading.{identifier_at, entries_at, is_commit_at}
use Rattle.open_records.specs.declared.OpenRecords.{OpenRecords}

-- the first of them are in use
abbrev pub starts_of : OpenRecords → List ℕ
starts_of rs = take rs.count rs.starts

-- what the log says of the record that begins at place p
abbrev pub open_at : List ℕ → ℕ → Open
open_at log p = record { id = identifier_at log p; entries = entries_at log p }

unfoldable pub opens_of : List ℕ → OpenRecords → List Open
opens_of log rs = map (open_at log) (starts_of rs)

abbrev pub none_open : OpenRecords
none_open = record { starts = replicate transaction_places 0; count = 0 }

-- one more, as long as there is a place for it
unfoldable pub with_start : OpenRecords → ℕ → OpenRecords
with_start rs p =
    cond (ltb (length (starts_of rs)) transaction_places)
    (record { starts = set rs.starts (length (starts_of rs)) p; count = length (starts_of rs) + 1 })
    rs

abbrev pub keep_unless : List ℕ → Id → OpenRecords → ℕ → OpenRecords
keep_unless log t left p = cond (same_bytes (identifier_at log p) t) left (with_start left p)

-- those of the places, in their order, that are no record of transaction t, behind those that are left so far
unfoldable pub kept_from : List ℕ → Id → OpenRecords → List ℕ → OpenRecords
kept_from log t left [] = left
kept_from log t left (p ∷ ps) = kept_from log t (keep_unless log t left p) ps

-- what is open behind the record at place p
unfoldable pub open_behind : List ℕ → OpenRecords → ℕ → OpenRecords
open_behind log rs p = cond (is_commit_at log p) (with_start rs p) (kept_from log (identifier_at log p) none_open (starts_of rs))
