-- The bytes of the input, part after part: a part is taken after the part before it, and up to a newline bytes only lengthen the line.
use Prim.Native.Nat.{ℕ, ◌+◌, ◌-◌, ◌≤◌, ◌<◌}
use native.Mathlib.Omega.{arith}
use native.Mathlib.Nat.{le_of_suc-le-suc, not-suc-le-zero}
use native.Mathlib.Numerals.{add-one}
use mathlib.Core.Path.{◌≡◌, refl, sym, ◌∙◌}
use mathlib.Core.List.{List, [], ◌∷◌, ◌++◌, append_assoc, append-nil}
use lib.Dec.{eqb}
use lib.ListN.{length, take, drop, get_or}
use lib.Seq.{take-suc, take-add, drop-drop}
use borrow.Author.Tests.{eqb-true}
use Rattle.lists.proofs.Tests.{by_test}
use Rattle.trace_session.specs.Bytes.{index_of}
use Rattle.rules.specs.Trace.{traced_of}
use Rattle.trace_line.specs.Promises.{newline}
use Rattle.trace.specs.Program.{Stand, answered, with_more, after_bytes, written}
use Rattle.trace.specs.Sessions.{part}

pub after_both : (w : Stand) (xs ys : List ℕ) → after_bytes w (xs ++ ys) ≡ after_bytes (after_bytes w xs) ys
unfolding after_bytes
after_both w [] ys = refl
after_both w (x ∷ xs) ys = by_test (eqb x newline)
    (λ e. rw e (after_both (answered w) xs ys))
    (λ e. rw e (after_both (with_more w (x ∷ [])) xs ys))

-- ── up to the newline ───────────────────────────────────────────────────────────────────────────────────────────

more_nothing : (w : Stand) → w ≡ with_more w []
more_nothing w = λ i. record { table = w.table; log = w.log; line = sym (append-nil w.line) i; printed = w.printed }

more_twice : (w : Stand) (b : ℕ) (bs : List ℕ) → with_more (with_more w (b ∷ [])) bs ≡ with_more w (b ∷ bs)
more_twice w b bs = λ i. record { table = w.table; log = w.log; line = append_assoc w.line (b ∷ []) bs i; printed = w.printed }

pub after_plain : (w : Stand) (l : List ℕ) → after_bytes w (take (index_of newline l) l) ≡ with_more w (take (index_of newline l) l)
unfolding after_bytes index_of
after_plain w [] = more_nothing w
after_plain w (b ∷ bs) = by_test (eqb b newline)
    (λ e. rw e (more_nothing w))
    (λ e. rw (e, e) (after_plain (with_more w (b ∷ [])) bs ∙ more_twice w b (take (index_of newline bs) bs)))

newline_there : (l : List ℕ) → index_of newline l < length l → get_or l (index_of newline l) 0 ≡ newline
unfolding index_of
newline_there [] h = absurd (not-suc-le-zero h)
newline_there (b ∷ bs) h = by_test (eqb b newline)
    (λ e. rw e (eqb-true _ _ e))
    (λ e. rw e (newline_there bs (le_of_suc-le-suc (rw e at h))))

pub after_line : (w : Stand) (l : List ℕ) → index_of newline l < length l
    → after_bytes w (take (index_of newline l + 1) l) ≡ answered (with_more w (take (index_of newline l) l))
unfolding after_bytes
after_line w l h =
    rw (add-one, take-suc l (index_of newline l) 0 h, newline_there l h, after_both, after_plain w l)

-- ── parts ───────────────────────────────────────────────────────────────────────────────────────────────────────

part_both : (a b c : ℕ) (l : List ℕ) → a ≤ b → b ≤ c → part a c l ≡ part a b l ++ part b c l
part_both a b c l h k =
    let e : c - a ≡ (b - a) + (c - b) = omega arith in
    let f : a + (b - a) ≡ b = omega arith in
    rw (e, take-add (b - a) (c - b) (drop a l), drop-drop (b - a) a l, f)

pub after_parts : (w : Stand) (a b c : ℕ) (l : List ℕ) → a ≤ b → b ≤ c → after_bytes w (part a c l) ≡ after_bytes (after_bytes w (part a b l)) (part b c l)
after_parts w a b c l h k = rw (part_both a b c l h k) (after_both w (part a b l) (part b c l))

-- ── what was printed does not matter for what comes ─────────────────────────────────────────────────────────────

answered_alike : (w v : Stand) → written w ≡ written v → written (answered w) ≡ written (answered v)
unfolding answered
answered_alike w v e =
    let t : traced_of w.line w.table w.log ≡ traced_of v.line v.table v.log =
    λ i. traced_of (e i).line (e i).table (e i).log in
    λ i. record { table = (t i).table; log = (t i).log; line = []; printed = [] }

more_alike : (w v : Stand) (bs : List ℕ) → written w ≡ written v → written (with_more w bs) ≡ written (with_more v bs)
more_alike w v bs e = λ i. record { table = (e i).table; log = (e i).log; line = (e i).line ++ bs; printed = [] }

alike : (w v : Stand) (bs : List ℕ) → written w ≡ written v → written (after_bytes w bs) ≡ written (after_bytes v bs)
unfolding after_bytes
alike w v [] e = e
alike w v (b ∷ bs) e = by_test (eqb b newline)
    (λ q. rw q (alike (answered w) (answered v) bs (answered_alike w v e)))
    (λ q. rw q (alike (with_more w (b ∷ [])) (with_more v (b ∷ [])) bs (more_alike w v (b ∷ []) e)))

pub written_between : (w : Stand) (bs : List ℕ) → written (after_bytes (written w) bs) ≡ written (after_bytes w bs)
written_between w bs = alike (written w) w bs refl
