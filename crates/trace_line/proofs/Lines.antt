-- The whole output line: its parts behind one another are the line of the definition, and the longest has 494 bytes, since each number has at most
-- ten digits, a refusal three, a count two, and a name at most 16 bytes.
use Prim.Native.Nat.{ℕ, ◌+◌, ◌*◌, ◌≤◌, ◌<◌, min}
use native.Mathlib.Omega.{arith}
use native.Mathlib.Nat.{zero-add}
use mathlib.Core.Path.{◌≡◌, refl, sym, ◌∙◌}
use mathlib.Core.List.{List, [], ◌∷◌, ◌++◌}
use lib.ListN.{length, set, take, drop, replicate, length-append, length-take}
use lib.Dec.{leb}
use lib.Seq.{sets, sets-eq, take_all}
use borrow.Author.Tests.{leb-true, leb-false}
use Rattle.lists.proofs.Tests.{by_test}
use Rattle.rules.specs.declared.Signal.{Signal}
use Rattle.rules.specs.declared.Signals.{Signals}
use Rattle.rules.specs.declared.Name.TheVariants as name
use Rattle.rules.specs.Sizes.{signals_most, largest_number}
use Rattle.rules.specs.Signals.{signal, row_of}
use Rattle.rules.proofs.Count.{pad_take}
use Rattle.rules.specs.Trace.{space, text, name_text, digits, decimal, signal_texts, output_of}
use Rattle.trace_parts.specs.Puts.{Puts, signal_text, digits_most, signal_most, output_most}
use Rattle.trace_line.specs.Promises.{IsWriting, signals_of, newline, output_line}
use Rattle.trace_parts.proofs.Digits.{few_digits, most_digits}
use Rattle.trace_parts.proofs.Puts.{put_both, put_byte, signal_most_lem}

-- ── the longest line ────────────────────────────────────────────────────────────────────────────────────────────

signals_most_lem : (ss : List Signal) → length (signal_texts ss) ≤ signal_most * length ss
unfolding signal_texts signal_text
signals_most_lem [] = omega arith
signals_most_lem (s ∷ ss) =
    let h : length (signal_text s) ≤ signal_most = signal_most_lem s in
    let t : length (signal_texts ss) ≤ signal_most * length ss = signals_most_lem ss in
    rw length-append (omega arith)

pub taken_most : (k : ℕ) (ss : List Signal) → length (signal_texts (take k ss)) ≤ signal_most * k
taken_most k ss =
    let n : length (take k ss) ≤ k = simp length-take (omega arith) in
    omega (arith, signals_most_lem (take k ss))

-- every output line, with its newline, fits into output_most bytes
pub output_fits : (why used : ℕ) (signals : Signals) → why < 256 → length signals.items ≡ signals_most → length (output_line why used signals) ≤ output_most
unfolding output_line output_of
output_fits why used signals h l =
    let n = length (signals_of signals) in
    let c : n ≤ signals_most = simp length-take (omega arith) in
    let a : length (decimal why) ≤ 3 = few_digits digits_most 2 why (omega arith) in
    let b : length (decimal used) ≤ 10 = most_digits digits_most used in
    let d : length (decimal n) ≤ 2 = few_digits digits_most 1 n (omega arith) in
    let t : length (signal_texts (signals_of signals)) ≤ signal_most * n = signals_most_lem (signals_of signals) in
    simp length-append (omega arith)

-- and one of them needs them all
pub longest : length (output_line 255 largest_number (record { items = replicate signals_most (signal name.AnswerCommitted largest_number); count = signals_most })) ≡ output_most
unfolding output_line output_of signal_texts name_text text digits
longest = refl

-- ── the line behind its parts ───────────────────────────────────────────────────────────────────────────────────

module _ (signals : Signals) (long : length signals.items ≡ signals_most) where
  counted : min signals.count signals_most ≡ length (signals_of signals)
  counted = sym (length-take signals.count signals.items ∙ rw long)

  taken : take (min signals.count signals_most) signals.items ≡ signals_of signals
  taken = by_test (leb signals.count signals_most)
      (λ t. let h : signals.count ≤ signals_most = leb-true signals.count signals_most t in
      let e : min signals.count signals_most ≡ signals.count = omega arith in rw e)
      (λ t. let h : signals_most < signals.count = leb-false signals.count signals_most t in
      let e : min signals.count signals_most ≡ signals_most = omega arith in
      rw (e, take_all signals_most signals.items (omega arith), take_all signals.count signals.items (omega arith)))

  pub line_written : {why used k first second third end : ℕ} {before b1 b2 b3 after : List ℕ} → why < 256
      → k ≡ min signals.count signals_most
      → Puts (decimal why) before 0 first b1
      → Puts (decimal used) (set b1 first space) (first + 1) second b2
      → Puts (decimal k) (set b2 second space) (second + 1) third b3
      → Puts (signal_texts (take k signals.items)) b3 third end after
      → IsWriting why used signals before (end + 1) (set after end newline)
  unfolding output_line output_of
  line_written {why} {used} {k} {first} {second} {third} {end} {before} {b1} {b2} {b3} {after} h e p q r t =
      let r' : Puts (decimal (length (signals_of signals))) (set b2 second space) (second + 1) third b3 = rw (e, counted) at r in
      let t' : Puts (signal_texts (signals_of signals)) b3 third end after = rw (e, taken) at t in
      let l : Puts (output_line why used signals) before 0 (end + 1) (set after end newline) =
      put_both (put_both (put_both (put_both p (put_both (put_byte space) q)) (put_both (put_byte space) r')) t') (put_byte newline) in
      let f : length (output_line why used signals) ≤ output_most = output_fits why used signals h long in
      record { sized = omega arith; bytes = l.same; within = omega arith }

-- in a buffer of output_most bytes: the line, and then what stood behind it
pub line_first : (why used : ℕ) (signals : Signals) (before : List ℕ) → why < 256 → length signals.items ≡ signals_most → length before ≡ output_most
    → sets before 0 (output_line why used signals) ≡ output_line why used signals ++ drop (length (output_line why used signals)) before
line_first why used signals before h l e =
    rw (sets-eq (output_line why used signals) before 0 (omega (arith, output_fits why used signals h l)), zero-add)

-- ── signals as an answer holds them ─────────────────────────────────────────────────────────────────────────────

-- the signals of a row are those that it was made of, so that its line is theirs
pub row_output : (why used : ℕ) (ss : List Signal) → length ss ≤ signals_most → output_line why used (row_of ss) ≡ output_of why used ss ++ (newline ∷ [])
unfolding output_line row_of
row_output why used ss h = rw (pad_take signals_most ss h)
