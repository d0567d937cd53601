-- What reading the records gives: where it stopped, and what is open there.
use Rattle.std.specs.Prelude.{ℕ, ◌+◌, ◌≤◌, ◌≡◌, cond, List, [], ◌∷◌, length, Result, Ok, Err, IfOk}
use Rattle.rules.specs.Sizes.{transaction_places, enlistment_places, header_size}
use Rattle.rules.specs.Log.{Record, scan}
use Rattle.rules.specs.Restart.{entries_open, open_after, used_of, is_damaged, body_of}
use Rattle.log_reader.specs.Reading.{whole_at}
use Rattle.open_records.specs.declared.OpenRecords.{OpenRecords}
use Rattle.open_records.specs.Opening.{opens_of, none_open, open_behind}
use Rattle.read_records.specs.declared.Readings.{Readings}
use Rattle.rules.specs.declared.Refusal.{Refusal}
use Rattle.rules.specs.declared.Refusal.TheVariants.{DamagedLog}

-- the places of what is open behind these records, the first of which stands at place p
unfoldable pub open_from : List ℕ → ℕ → OpenRecords → ℕ → List Record → OpenRecords
open_from log stored rs p [] = rs
open_from log stored rs p (r ∷ more) = open_from log stored (open_behind log rs p) (p + whole_at log stored p) more

-- where they end and what is open there, and of a damaged log nothing but that it is
abbrev pub readings_of : List ℕ → ℕ → Result Readings Refusal
readings_of log stored =
    cond (is_damaged (body_of log stored)) (Err DamagedLog)
    (Ok (record { used = used_of (body_of log stored); records = open_from log stored none_open header_size (scan 0 (body_of log stored)) }))

-- the rules' list of what is open, and that the table has places for it
pub record Undamaged (log : List ℕ) (stored : ℕ) (r : Readings) : Type 0 where
  pub within : r.used ≤ stored
  pub opens : opens_of log r.records ≡ open_after [] (scan 0 (body_of log stored))
  pub few : length (opens_of log r.records) ≤ transaction_places
  pub few_entries : length (entries_open (opens_of log r.records)) ≤ enlistment_places

pub record Read (log : List ℕ) (stored : ℕ) (r : Result Readings Refusal) : Type 0 where
  pub gives : r ≡ readings_of log stored
  pub else : IfOk r (Undamaged log stored)
