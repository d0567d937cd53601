-- A part of the block, up to its first newline, is taken.
use Prim.Native.Nat.{ℕ, zero, suc, ◌+◌, ◌-◌, ◌≤◌, ◌<◌}
use native.Mathlib.Omega.{arith}
use mathlib.Core.Path.{◌≡◌, refl, sym, ap, ◌∙◌}
use mathlib.Core.Bool.{true, false}
use borrow.Author.Tests.{ltb-true, ltb-false}
use mathlib.Core.List.{List, [], ◌∷◌, ◌++◌}
use lib.ListN.{length, take, drop, length-drop}
use lib.Seq.{take-length}
use Rattle.trace_session.specs.declared.Session.{Session}
use Rattle.trace_session.specs.declared.Part.{Part}
use Rattle.trace_session.specs.Bytes.{index_of, slice}
use Rattle.trace_line.specs.Promises.{newline}
use Rattle.trace.specs.Program.{Stand, answered, with_more, after_bytes}
use Rattle.trace_session.specs.Counts.{Keeps, Parts, line_kept}
use Rattle.trace_session.proofs.Memory.{put_long, keeps_within, keeps_same}
use Rattle.trace.specs.Sessions.{Stands, Fits, Ready, Answers, Takes, part}
use Rattle.trace.proofs.Bytes.{after_plain, after_line}

take_more : (n : ℕ) (a b : List ℕ) → take n (take n a ++ b) ≡ take n (a ++ b)
take_more zero a b = refl
take_more (suc n) [] b = refl
take_more (suc n) (x ∷ xs) b = ap (◌∷◌ x) (take_more n xs b)

more_stands : {w : Stand} {s r : Session} {heads rows : List (List ℕ)} {log line output more line' : List ℕ}
    → Keeps s.kept line more r.kept line' → Fits s heads rows line output → r.capacity ≡ s.capacity → r.used ≡ s.used → r.waiting ≡ s.waiting
    → Stands w s heads rows log line output → Stands (with_more w more) r heads rows log line' output
more_stands {w} {more = more} k f c u p h =
    record {
      table = rw (c, u) h.table;
      stored = h.stored;
      present = keeps_same k f.kept f.line_long ∙ rw h.present (take_more line_kept w.line more);
      printed = rw p h.printed;
    }

-- where the first newline from an index on stands, as `find` gives it
module _ (block : List ℕ) (from end : ℕ) (found : end ≡ from + index_of newline (slice from (length block) block)) (within : from ≤ length block) where
  to_newline : end - from ≡ index_of newline (drop from block)
  to_newline = omega (arith, rw take-length at found)

  after_rest : (w : Stand) → after_bytes w (part from end block) ≡ with_more w (part from end block)
  after_rest w = rw to_newline (after_plain w (drop from block))

  after_whole : (w : Stand) → end < length block → from ≤ end → after_bytes w (part from (end + 1) block) ≡ answered (with_more w (part from end block))
  after_whole w h k =
      let e : end + 1 - from ≡ index_of newline (drop from block) + 1 = omega (arith, to_newline) in
      rw (e, to_newline) (after_line w (drop from block) (simp length-drop (omega (arith, to_newline))))

abbrev lengthened : Session → ℕ → ℕ → Session
lengthened s kept taken = record { capacity = s.capacity; used = s.used; sound = s.sound; kept = kept; taken = taken; waiting = s.waiting; writable = s.writable }

module _ {s : Session} {heads rows : List (List ℕ)} {block line output line' : List ℕ} {p : Part} {kept : ℕ}
    (ready : Ready s heads rows line output) (within : s.taken ≤ length block) (parts : Parts block s.taken p)
    (keeps : Keeps s.kept line (part s.taken p.end block) kept line')
  where
    pub more_ready : Ready (lengthened s kept p.taken) heads rows line' output
    more_ready = record {
      fits = record {
        sound = ready.fits.sound;
        long_heads = ready.fits.long_heads;
        long_rows = ready.fits.long_rows;
        kept = keeps_within keeps ready.fits.kept;
        waiting = ready.fits.waiting;
        line_long = put_long keeps.puts ∙ ready.fits.line_long;
        output_long = ready.fits.output_long;
      };
      free = ready.free;
    }

    pub line_taken : {r : Session} {heads' rows' : List (List ℕ)} {log log' output' : List ℕ} → p.whole ≡ true
        → Answers (lengthened s kept p.taken) heads rows log line' output r heads' rows' log' output' → Takes s heads rows block log line output r heads' rows' log' line' output'
    line_taken {r} e a =
        let h : p.end < length block = ltb-true p.end (length block) (sym parts.whole ∙ e) in
        let t : r.taken ≡ p.end + 1 = a.taken ∙ rw e at parts.taken in
        record {
          fits = a.fits;
          onward = omega (arith, parts.found);
          within = omega arith;
          some = λ q. omega (arith, parts.found);
          same = λ w q.
              let e : after_bytes w (part s.taken r.taken block) ≡ answered (with_more w (part s.taken p.end block)) =
              rw t (after_whole block s.taken p.end parts.found within w h (omega (arith, parts.found))) in
              rw e (a.same (with_more w (part s.taken p.end block)) (more_stands keeps ready.fits refl refl refl q));
        }

    pub rest_taken : {log : List ℕ} → p.whole ≡ false → Takes s heads rows block log line output (lengthened s kept p.taken) heads rows log line' output
    rest_taken e =
        let h : length block ≤ p.end = ltb-false p.end (length block) (sym parts.whole ∙ e) in
        let t : p.taken ≡ p.end = rw e at parts.taken in
        record {
          fits = more_ready.fits;
          onward = omega (arith, t, parts.found);
          within = omega (arith, t, parts.within);
          some = λ q. omega (arith, t);
          same = λ w q. rw (t, after_rest block s.taken p.end parts.found within w) (more_stands keeps ready.fits refl refl refl q);
        }
