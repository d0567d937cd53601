-- How much of a line and of the output is kept, and what becomes of the counts.
use Rattle.std.specs.Prelude.{ℕ, ◌+◌, ◌-◌, ◌≤◌, ◌≡◌, Bool, cond, List, ltb, length, take}
use Rattle.trace_session.specs.Bytes.{index_of, slice}
use Rattle.trace_parts.specs.Puts.{Puts}
use Rattle.trace_line.specs.Promises.{newline}
use Rattle.trace_session.specs.declared.Session.{Session}
use Rattle.trace_session.specs.declared.Part.{Part}

-- one byte more than a line may have
abbrev pub line_kept : ℕ
line_kept = 65

abbrev pub room : ℕ
room = 16384

-- more bytes of the line, as far as they are kept
pub record Keeps (kept : ℕ) (before more : List ℕ) (r : ℕ) (after : List ℕ) : Type 0 where
  pub puts : Puts (take (line_kept - kept) more) before kept r after

-- the block from an index on, up to its first newline, which is taken with it
pub record Parts (block : List ℕ) (from : ℕ) (r : Part) : Type 0 where
  pub found : r.end ≡ from + index_of newline (slice from (length block) block)
  pub within : r.end ≤ length block
  pub whole : r.whole ≡ ltb r.end (length block)
  pub taken : r.taken ≡ cond r.whole (r.end + 1) r.end

-- nothing waits any more, and the output's answer is kept
abbrev pub flushed_of : Session → Bool → Session
flushed_of s writable = record { capacity = s.capacity; used = s.used; sound = s.sound; kept = s.kept; taken = s.taken; waiting = 0; writable = writable }
