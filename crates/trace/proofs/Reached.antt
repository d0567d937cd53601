-- Whatever was read before, the program stands where these bytes lead from its start, with all that they print written.
use mathlib.Core.Path.{◌≡◌}
use mathlib.Core.Bool.{true}
use mathlib.Core.List.{List, [], ◌++◌}
use Prim.Native.Nat.{ℕ}
use native.Mathlib.Omega.{arith}
use lib.ListN.{length, replicate}
use Rattle.rules.specs.Trace.{trace_capacity}
use Rattle.trace_session.specs.declared.Session.{Session}
use Rattle.trace.specs.Program.{after_bytes, written, start}
use Rattle.trace_session.specs.Counts.{line_kept, room}
use Rattle.trace.specs.Sessions.{Stands, Fits, TakesAll, Starts}
use Rattle.trace.proofs.Bytes.{after_both, written_between}

pub record Reached (s : Session) (heads rows : List (List ℕ)) (log line output : List ℕ) : Type 0 where
  pub input : List ℕ
  pub fits : Fits s heads rows line output
  pub none : s.waiting ≡ 0
  pub log_long : length log ≡ trace_capacity
  pub stands : Stands (written (after_bytes start input)) s heads rows log line output

pub reached_start : {s : Session} {heads rows : List (List ℕ)} {log line output : List ℕ} → Starts (replicate trace_capacity 0) s heads rows log
    → length log ≡ trace_capacity → length line ≡ line_kept → length output ≡ room → Reached s heads rows log line output
unfolding after_bytes start
reached_start b l k o =
    record {
      input = [];
      fits = record {
        sound = b.sound;
        long_heads = b.long_heads;
        long_rows = b.long_rows;
        kept = omega (arith, b.kept);
        waiting = omega (arith, b.waiting);
        line_long = k;
        output_long = o;
      };
      none = b.waiting;
      log_long = l;
      stands = record { table = b.table; stored = b.stored; present = rw b.kept; printed = rw b.waiting };
    }

pub reached_again : {s r : Session} {heads rows heads' rows' : List (List ℕ)} {block log line output log' line' output' : List ℕ} → Reached s heads rows log line output
    → TakesAll s heads rows block log line output r heads' rows' log' line' output' → r.writable ≡ true → length log' ≡ trace_capacity → Reached r heads' rows' log' line' output'
reached_again {block = block} p t e l =
    record {
      input = p.input ++ block;
      fits = t.fits;
      none = t.none;
      log_long = l;
      stands =
          rw (after_both start p.input block, ← written_between (after_bytes start p.input) block)
          (t.same e (written (after_bytes start p.input)) p.stands);
    }
