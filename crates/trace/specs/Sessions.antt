-- How the program's memory holds where it stands, and what its functions promise of that.
use Rattle.std.specs.Prelude.{ℕ, ◌+◌, ◌-◌, ◌≤◌, ◌<◌, ◌≡◌, true, List, length, take, drop}
use Rattle.rules.specs.Sizes.{transaction_places, enlistment_places}
use Rattle.rules.specs.Sound.{sound_of}
use Rattle.rules.specs.Restart.{restart_of}
use Rattle.trace_parts.specs.Puts.{output_most}
use Rattle.rows.specs.Memory.{table_in}
use Rattle.trace_session.specs.declared.Session.{Session}
use Rattle.trace_session.specs.Counts.{line_kept, room}
use Rattle.trace.specs.Program.{Stand, answered, after_bytes, after_all, written}

-- ── how memory holds it ─────────────────────────────────────────────────────────────────────────────────────────

-- the line is kept as far as a line that can be read goes, and one byte more; what was printed waits at the start of the output's memory
pub record Stands (w : Stand) (s : Session) (heads rows : List (List ℕ)) (log line output : List ℕ) : Type 0 where
  pub table : table_in heads rows s.capacity s.used ≡ w.table
  pub stored : log ≡ w.log
  pub present : take s.kept line ≡ take line_kept w.line
  pub printed : take s.waiting output ≡ w.printed

-- what is said of the table, lent memory, and counts that stay within it
pub record Fits (s : Session) (heads rows : List (List ℕ)) (line output : List ℕ) : Type 0 where
  pub sound : s.sound ≡ sound_of (table_in heads rows s.capacity s.used)
  pub long_heads : length heads ≡ transaction_places
  pub long_rows : length rows ≡ enlistment_places
  pub kept : s.kept ≤ line_kept
  pub waiting : s.waiting ≤ room
  pub line_long : length line ≡ line_kept
  pub output_long : length output ≡ room

-- and with room for another output line
pub record Ready (s : Session) (heads rows : List (List ℕ)) (line output : List ℕ) : Type 0 where
  pub fits : Fits s heads rows line output
  pub free : s.waiting + output_most ≤ room

-- ── what the functions promise ──────────────────────────────────────────────────────────────────────────────────

-- the line is answered
pub record Answers (s : Session) (heads rows : List (List ℕ)) (log line output : List ℕ) (r : Session) (heads' rows' : List (List ℕ)) (log' output' : List ℕ) : Type 0 where
  pub fits : Fits r heads' rows' line output'
  pub taken : r.taken ≡ s.taken
  pub same : (w : Stand) → Stands w s heads rows log line output → Stands (answered w) r heads' rows' log' line output'

-- the elements from one index up to, not including, another
abbrev pub part : {A : Type 0} → ℕ → ℕ → List A → List A
part from to l = take (to - from) (drop from l)

-- the bytes of the block from where it was taken are taken up to where it is now, and some are if there were any
pub record Takes (s : Session) (heads rows : List (List ℕ)) (block log line output : List ℕ) (r : Session) (heads' rows' : List (List ℕ)) (log' line' output' : List ℕ) : Type 0 where
  pub fits : Fits r heads' rows' line' output'
  pub onward : s.taken ≤ r.taken
  pub within : r.taken ≤ length block
  pub some : s.taken < length block → s.taken < r.taken
  pub same : (w : Stand) → Stands w s heads rows log line output → Stands (after_bytes w (part s.taken r.taken block)) r heads' rows' log' line' output'

-- what waits is written; what the output takes of it, and says, is not ours to promise
pub record Writes (s r : Session) : Type 0 where
  pub capacity : r.capacity ≡ s.capacity
  pub used : r.used ≡ s.used
  pub sound : r.sound ≡ s.sound
  pub kept : r.kept ≡ s.kept
  pub taken : r.taken ≡ s.taken
  pub none : r.waiting ≡ 0

-- the whole block is taken and all that it has printed is written, unless the output fails
pub record TakesAll (s : Session) (heads rows : List (List ℕ)) (block log line output : List ℕ) (r : Session) (heads' rows' : List (List ℕ)) (log' line' output' : List ℕ) : Type 0 where
  pub fits : Fits r heads' rows' line' output'
  pub none : r.waiting ≡ 0
  pub same : r.writable ≡ true → (w : Stand) → Stands w s heads rows log line output → Stands (written (after_bytes w block)) r heads' rows' log' line' output'

pub record Finishes (s : Session) (heads rows : List (List ℕ)) (log line output : List ℕ) (r : Session) (heads' rows' : List (List ℕ)) (log' output' : List ℕ) : Type 0 where
  pub fits : Fits r heads' rows' line output'
  pub same : (w : Stand) → Stands w s heads rows log line output → Stands (after_all w) r heads' rows' log' line output'

-- the table of a restart on a log that holds nothing
pub record Starts (log : List ℕ) (r : Session) (heads rows : List (List ℕ)) (log' : List ℕ) : Type 0 where
  pub long_heads : length heads ≡ transaction_places
  pub long_rows : length rows ≡ enlistment_places
  pub table : table_in heads rows r.capacity r.used ≡ (restart_of log 0).table
  pub sound : r.sound ≡ sound_of (table_in heads rows r.capacity r.used)
  pub stored : log' ≡ (restart_of log 0).log
  pub kept : r.kept ≡ 0
  pub waiting : r.waiting ≡ 0
