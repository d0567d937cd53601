-- At the end nothing is kept of a line only where there is none.
use Prim.Native.Nat.{ℕ}
use native.Mathlib.Omega.{arith}
use mathlib.Core.Path.{◌≡◌, sym, ap, ◌∙◌}
use mathlib.Core.List.{List}
use lib.ListN.{length, take, length-take}
use borrow.Author.Tests.{eq-eqb, ne_eqb}
use Rattle.trace_session.specs.declared.Session.{Session}
use Rattle.trace.specs.Program.{Stand, after_all}
use Rattle.trace_session.specs.Counts.{line_kept}
use Rattle.trace.specs.Sessions.{Stands, Ready, Answers, Finishes}

kept_all : {w : Stand} {s : Session} {heads rows : List (List ℕ)} {log line output : List ℕ} → Ready s heads rows line output → Stands w s heads rows log line output
    → s.kept ≡ length (take line_kept w.line)
kept_all {w} {s} {line = line} r h =
    let e : length (take s.kept line) ≡ s.kept = simp length-take (omega (arith, r.fits.kept, r.fits.line_long)) in
    sym e ∙ ap length h.present

module _ {s : Session} {heads rows : List (List ℕ)} {log line output : List ℕ} (r : Ready s heads rows line output) where
  pub finish_nothing : s.kept ≡ 0 → Finishes s heads rows log line output s heads rows log output
  unfolding after_all
  finish_nothing e =
      record {
        fits = r.fits;
        same = λ w h.
            let n : length w.line ≡ 0 = omega (arith, simp length-take at (kept_all r h)) in
            rw (eq-eqb (length w.line) 0 n) h;
      }

  pub finish_last : {t : Session} {heads' rows' : List (List ℕ)} {log' output' : List ℕ} → (s.kept ≡ 0 → ⊥) → Answers s heads rows log line output t heads' rows' log' output'
      → Finishes s heads rows log line output t heads' rows' log' output'
  unfolding after_all
  finish_last n a =
      record {
        fits = a.fits;
        same = λ w h.
            rw (ne_eqb (length w.line) 0 (λ e. n (omega (arith, simp length-take at (kept_all r h))))) (a.same w h);
      }
