-- The line as it is kept is obeyed as the line is, and its output line stands behind what waited.
use Prim.Native.Nat.{ℕ}
use native.Mathlib.Omega.{arith}
use mathlib.Core.Path.{◌≡◌, refl, sym, ap, ◌∙◌}
use mathlib.Core.List.{List, [], ◌∷◌, ◌++◌}
use lib.ListN.{length, take}
use Rattle.rules.specs.Sound.{sound_of}
use Rattle.rules.specs.Trace.{Traced, traced_of}
use Rattle.trace_line.specs.Promises.{newline}
use Rattle.trace_parts.specs.Puts.{Puts, output_most}
use Rattle.trace_run.specs.declared.Left.{Left}
use Rattle.trace_run.specs.Promises.{ObeysIn}
use Rattle.rows.specs.Memory.{table_in}
use Rattle.trace_session.specs.declared.Session.{Session}
use Rattle.trace.specs.Program.{answered}
use Rattle.trace.specs.Sessions.{Ready, Answers}
use Rattle.trace_session.proofs.Memory.{put_long, put_taken}
use Rattle.trace.proofs.Kept.{traced_kept}

module _ {t : Traced} {before after log : List ℕ} {heads rows : List (List ℕ)} {o : Left} (p : ObeysIn t before o heads rows log after) (l : length before ≡ output_most) where
  pub output_there : take o.size after ≡ t.output ++ (newline ∷ [])
  output_there =
      let q : Puts (t.output ++ (newline ∷ [])) before 0 o.size after = record { ends = omega (arith, p.sized); same = p.bytes } in
      put_taken q (omega (arith, p.sized, p.within))

  pub output_long : length after ≡ output_most
  output_long =
      let q : Puts (t.output ++ (newline ∷ [])) before 0 o.size after = record { ends = omega (arith, p.sized); same = p.bytes } in
      put_long q ∙ l

pub answer_stands : {s : Session} {heads rows heads' rows' : List (List ℕ)} {log line output buffer log' output' buffer' : List ℕ} {o : Left} {n : ℕ}
    → Ready s heads rows line output → length buffer ≡ output_most
    → ObeysIn (traced_of (take s.kept line) (table_in heads rows s.capacity s.used) log) buffer o heads' rows' log' buffer'
    → o.sound ≡ sound_of (table_in heads' rows' o.capacity o.used)
    → Puts (take o.size buffer') output s.waiting n output'
    → Answers s heads rows log line output (record { capacity = o.capacity; used = o.used; sound = o.sound; kept = 0; taken = s.taken; waiting = n; writable = s.writable }) heads' rows' log' output'
unfolding answered
answer_stands {s} {heads} {rows} {log = log} {line = line} {buffer' = buffer'} {o = o} r l p known q =
    let there = output_there p l in
    let size : length (take o.size buffer') ≡ o.size = rw there (sym p.sized) in
    record {
      fits = record {
        sound = known;
        long_heads = p.long_heads;
        long_rows = p.long_rows;
        kept = omega arith;
        waiting = omega (arith, q.ends, p.within, r.free);
        line_long = r.fits.line_long;
        output_long = put_long q ∙ r.fits.output_long;
      };
      taken = refl;
      same = λ w h.
          let e : traced_of (take s.kept line) (table_in heads rows s.capacity s.used) log ≡ traced_of w.line w.table w.log =
          rw (h.present, h.table, h.stored) (traced_kept w.line w.table w.log) in
          record {
            table = p.table ∙ ap (λ x. x.table) e;
            stored = p.left ∙ ap (λ x. x.log) e;
            present = refl;
            printed = put_taken q (omega (arith, p.within, r.free, r.fits.output_long)) ∙ rw (h.printed, there, e);
          };
    }
