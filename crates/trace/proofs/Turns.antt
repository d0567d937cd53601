-- Lines after lines, and blocks of them: what was taken, and what is taken next, is taken at once.
use Prim.Native.Nat.{ℕ, ◌+◌, ◌-◌, ◌≤◌, ◌<◌}
use native.Mathlib.Omega.{arith}
use mathlib.Core.Path.{◌≡◌, refl, sym, ◌∙◌}
use mathlib.Core.Bool.{Bool, true, false}
use mathlib.Core.Logic.{◌⊎◌, inl, inr}
use mathlib.Core.List.{List}
use lib.ListN.{length}
use lib.Seq.{take_all}
use lib.Dec.{leb}
use borrow.Author.Tests.{leb-true, leb-false}
use Rattle.lists.proofs.Tests.{by_either, no_clash}
use Rattle.trace_session.specs.declared.Session.{Session}
use Rattle.trace.specs.Program.{Stand, after_bytes, written}
use Rattle.trace_session.specs.Counts.{room, flushed_of}
use Rattle.trace_parts.specs.Puts.{output_most}
use Rattle.trace.specs.Sessions.{Stands, Fits, Takes, Writes, TakesAll, part}
use Rattle.trace.proofs.Bytes.{after_parts, written_between}

-- what `has_room` tells
pub enough_room : (s : Session) {b : Bool} → b ≡ leb (s.waiting + output_most) room → b ≡ true → s.waiting + output_most ≤ room
enough_room s e t = leb-true (s.waiting + output_most) room (sym e ∙ t)

pub no_room : (s : Session) {b : Bool} → b ≡ leb (s.waiting + output_most) room → b ≡ false → room < s.waiting + output_most
no_room s e t = leb-false (s.waiting + output_most) room (sym e ∙ t)

-- the loop over lines: it has moved on, or nothing waits that did not
pub record Taking (heads₀ rows₀ : List (List ℕ)) (block log₀ line₀ output₀ : List ℕ) (s₀ : Session) (heads rows : List (List ℕ)) (log line output : List ℕ) (s : Session) : Type 0 where
  pub fits : Fits s heads rows line output
  pub onward : s₀.taken ≤ s.taken
  pub within : s.taken ≤ length block
  pub moved : (s₀.taken < s.taken) ⊎ (s.waiting ≡ s₀.waiting)
  pub log_long : length log ≡ length log₀
  pub same : (w : Stand) → Stands w s₀ heads₀ rows₀ log₀ line₀ output₀ → Stands (after_bytes w (part s₀.taken s.taken block)) s heads rows log line output

module _ {heads₀ rows₀ : List (List ℕ)} {block log₀ line₀ output₀ : List ℕ} {s₀ : Session} where
  pub taking_start : Fits s₀ heads₀ rows₀ line₀ output₀ → s₀.taken ≤ length block → Taking heads₀ rows₀ block log₀ line₀ output₀ s₀ heads₀ rows₀ log₀ line₀ output₀ s₀
  unfolding after_bytes
  taking_start f h =
      let e : s₀.taken - s₀.taken ≡ 0 = omega arith in
      record { fits = f; onward = omega arith; within = h; moved = inr refl; log_long = refl; same = λ w p. rw e p }

  pub taking_again : {heads rows heads' rows' : List (List ℕ)} {log line output log' line' output' : List ℕ} {s r : Session}
      → Taking heads₀ rows₀ block log₀ line₀ output₀ s₀ heads rows log line output s → s.taken < length block → length log' ≡ length log
      → Takes s heads rows block log line output r heads' rows' log' line' output' → Taking heads₀ rows₀ block log₀ line₀ output₀ s₀ heads' rows' log' line' output' r
  taking_again {s = s} {r = r} p h l t =
      let m : s.taken < r.taken = t.some h in
      record {
        fits = t.fits;
        onward = omega (arith, p.onward);
        within = t.within;
        moved = inl (omega (arith, p.onward));
        log_long = l ∙ p.log_long;
        same = λ w q. rw (after_parts w s₀.taken s.taken r.taken block p.onward t.onward) (t.same _ (p.same w q));
      }

  pub taking_done : {heads rows : List (List ℕ)} {log line output : List ℕ} {s : Session} → Taking heads₀ rows₀ block log₀ line₀ output₀ s₀ heads rows log line output s
      → (s₀.taken < length block → s.waiting ≡ s₀.waiting → s₀.taken < s.taken) → Takes s₀ heads₀ rows₀ block log₀ line₀ output₀ s heads rows log line output
  taking_done p h =
      record {
        fits = p.fits;
        onward = p.onward;
        within = p.within;
        some = λ q. by_either (λ m. m) (λ e. h q e) p.moved;
        same = p.same;
      }

-- ── blocks ──────────────────────────────────────────────────────────────────────────────────────────────────────

-- the loop over what one turn has room for: what was printed so far is written
pub record Running (heads₀ rows₀ : List (List ℕ)) (block log₀ line₀ output₀ : List ℕ) (s₀ : Session) (heads rows : List (List ℕ)) (log line output : List ℕ) (s : Session) : Type 0 where
  pub fits : Fits s heads rows line output
  pub none : s.waiting ≡ 0
  pub within : s.taken ≤ length block
  pub log_long : length log ≡ length log₀
  pub same : (w : Stand) → Stands w s₀ heads₀ rows₀ log₀ line₀ output₀ → Stands (written (after_bytes w (part 0 s.taken block))) s heads rows log line output

pub flushed_writes : {s r : Session} {b : Bool} → r ≡ flushed_of s b → Writes s r
flushed_writes e = rw e (record { capacity = refl; used = refl; sound = refl; kept = refl; taken = refl; none = refl })

write_stands : {w : Stand} {s r : Session} {heads rows : List (List ℕ)} {log line output : List ℕ} → Writes s r → Stands w s heads rows log line output → Stands (written w) r heads rows log line output
write_stands p h =
    record {
      table = rw (p.capacity, p.used) h.table;
      stored = h.stored;
      present = rw p.kept h.present;
      printed = rw p.none;
    }

module _ {heads₀ rows₀ : List (List ℕ)} {block log₀ line₀ output₀ : List ℕ} {s₀ : Session} where
  pub running_start : Fits s₀ heads₀ rows₀ line₀ output₀ → s₀.waiting ≡ 0 → s₀.taken ≡ 0 → Running heads₀ rows₀ block log₀ line₀ output₀ s₀ heads₀ rows₀ log₀ line₀ output₀ s₀
  unfolding after_bytes
  running_start f n e =
      record {
        fits = f;
        none = n;
        within = omega arith;
        log_long = refl;
        same = λ w h.
            let nothing : written (after_bytes w (part 0 s₀.taken block)) ≡ written w = rw e in
            rw nothing (write_stands (record { capacity = refl; used = refl; sound = refl; kept = refl; taken = refl; none = n }) h);
      }

  pub running_again : {heads rows heads' rows' : List (List ℕ)} {log line output log' line' output' : List ℕ} {s r r' : Session}
      → Running heads₀ rows₀ block log₀ line₀ output₀ s₀ heads rows log line output s → length log' ≡ length log
      → Takes s heads rows block log line output r heads' rows' log' line' output' → Writes r r' → Running heads₀ rows₀ block log₀ line₀ output₀ s₀ heads' rows' log' line' output' r'
  running_again {s = s} {r = r} {r' = r'} p l t q =
      record {
        fits = record {
          sound = rw (q.sound, q.capacity, q.used) t.fits.sound;
          long_heads = t.fits.long_heads;
          long_rows = t.fits.long_rows;
          kept = rw q.kept t.fits.kept;
          waiting = omega (arith, q.none);
          line_long = t.fits.line_long;
          output_long = t.fits.output_long;
        };
        none = q.none;
        within = rw q.taken t.within;
        log_long = l ∙ p.log_long;
        same = λ w h.
            let e : written (after_bytes (written (after_bytes w (part 0 s.taken block))) (part s.taken r.taken block))
            ≡ written (after_bytes w (part 0 r'.taken block)) =
            rw (q.taken, after_parts w 0 s.taken r.taken block (omega arith) t.onward)
            (written_between (after_bytes w (part 0 s.taken block)) (part s.taken r.taken block)) in
            rw (sym e) (write_stands q (t.same _ (p.same w h)));
      }

  -- all of the block is taken
  pub running_done : {heads rows : List (List ℕ)} {log line output : List ℕ} {s start : Session} → Running heads₀ rows₀ block log₀ line₀ output₀ s₀ heads rows log line output s → length block ≤ s.taken
      → s₀.capacity ≡ start.capacity → s₀.used ≡ start.used → s₀.kept ≡ start.kept → s₀.waiting ≡ start.waiting
      → TakesAll start heads₀ rows₀ block log₀ line₀ output₀ s heads rows log line output
  running_done {s = s} p h a u b c =
      let e : part 0 s.taken block ≡ block = take_all (s.taken - 0) block (omega arith) in
      record {
        fits = p.fits;
        none = p.none;
        same = λ o w q. rw e at (p.same w (record {
          table = rw (a, u) q.table;
          stored = q.stored;
          present = rw b q.present;
          printed = rw c q.printed;
        }));
      }

  -- the output has failed
  pub running_failed : {heads rows : List (List ℕ)} {log line output : List ℕ} {s start : Session} → Running heads₀ rows₀ block log₀ line₀ output₀ s₀ heads rows log line output s → s.writable ≡ false
      → TakesAll start heads₀ rows₀ block log₀ line₀ output₀ s heads rows log line output
  running_failed {s = s} p f = record { fits = p.fits; none = p.none; same = λ o w q. no_clash s.writable o f }
