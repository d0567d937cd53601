-- What the code knows of a word or of a line's first space gives what the definitions say of it. Each law goes along the bytes.
use Prim.Native.Nat.{ℕ, suc, ◌+◌, ◌-◌, ◌*◌, ◌≤◌, ◌<◌}
use native.Mathlib.Omega.{arith}
use mathlib.Core.Path.{◌≡◌, refl, sym, ◌∙◌}
use mathlib.Core.Bool.{Bool, true, false, cond, ◌&&◌, and-true, and-false}
use mathlib.Core.List.{List, [], ◌∷◌, ◌++◌}
use Rattle.std.specs.Prelude.{Option, Some, None, Result, Ok, Err, option_map, option_and_then, unwrap_or}
use Rattle.std.specs.Result.{OkIff, result_ok}
use Rattle.std.specs.List.{position, position_or_len, slice_get}
use Rattle.std.proofs.lemmas.List.Recursion.{is_position_or_len}
use lib.Dec.{eqb, leb, ltb}
use lib.ListN.{length, get_or, take, drop, replicate, length-drop}
use lib.Seq.{take_all}
use borrow.Author.Tests.{eq-eqb, ne_eqb, le-leb, lt-leb, leb-true, leb-false, ltb-true, ltb-false}
use Rattle.lists.specs.Lists.{all}
use Rattle.lists.proofs.Tests.{by_test, by_either, or_true}
use mathlib.Core.Logic.{◌⊎◌, inr}
use Rattle.rules.specs.Sizes.{largest_number}
use Rattle.rules.specs.Trace.{words, space, digit_zero, is_digit, value_from, value_of, is_numeral}
use Rattle.lists.proofs.Loops.{drop_at, drop_done, Ahead, ahead_next, ahead_stop, ahead_done}
use Rattle.trace_words.specs.Words.{word_end, extended_of, digits_value, number_of, identifier_word_of}

-- ── the words of a line ─────────────────────────────────────────────────────────────────────────────────────────

-- a space ends the first word, and the others follow it
words_more : (s : List ℕ) → word_end s < length s → words s ≡ take (word_end s) s ∷ words (drop (suc (word_end s)) s)
unfolding word_end words
words_more [] h = absurd (omega arith)
words_more (b ∷ bs) h = by_test (eqb b space)
    (λ e. rw e)
    (λ e. let g : suc (word_end bs) < suc (length bs) = rw e at h in rw e (rw (words_more bs (omega arith))))

-- without a space the line is one word
words_one : (s : List ℕ) → length s ≤ word_end s → words s ≡ s ∷ []
unfolding word_end words
words_one [] h = refl
words_one (b ∷ bs) h = by_test (eqb b space)
    (λ e. let g : suc (length bs) ≤ 0 = rw e at h in absurd (omega arith))
    (λ e. let g : suc (length bs) ≤ suc (word_end bs) = rw e at h in rw e (rw (words_one bs (omega arith))))

-- what a command says of the words that were read and of a line's other words
module _ {A : Type 0} {e : ℕ} {r : A} (g : List (List ℕ) → A) (s : List ℕ) (ends : e ≡ word_end s) where
  pub more_words : e < length s → r ≡ g (take e s ∷ words (take (length s - (e + 1)) (drop (e + 1) s))) → r ≡ g (words s)
  more_words h q =
      let k : length (drop (e + 1) s) ≤ length s - (e + 1) = simp length-drop (omega arith) in
      let f : suc (word_end s) ≡ e + 1 = omega arith in
      q ∙ rw (take_all (length s - (e + 1)) (drop (e + 1) s) k, words_more s (omega arith), f, ← ends)

  pub last_word : length s ≤ e → r ≡ g (s ∷ []) → r ≡ g (words s)
  last_word h q = q ∙ rw (words_one s (omega arith))

-- there is always a word
pub some_words : {A : Type 0} {r : A} (g : List (List ℕ) → A) → ((w : List ℕ) (ws : List (List ℕ)) → r ≡ g (w ∷ ws)) → (s : List ℕ) → r ≡ g (words s)
some_words g h s = by_test (ltb (word_end s) (length s))
    (λ t. rw (words_more s (ltb-true (word_end s) (length s) t)) (h (take (word_end s) s) (words (drop (suc (word_end s)) s))))
    (λ t. rw (words_one s (ltb-false (word_end s) (length s) t)) (h s []))

-- the first space as the library finds it, and the length where there is none
word_end_within : (s : List ℕ) → word_end s ≤ length s
unfolding word_end
word_end_within [] = omega arith
word_end_within (b ∷ bs) =
    let h : word_end bs ≤ length bs = word_end_within bs in
    by_test (eqb b space) (λ e. rw e (omega arith)) (λ e. rw e (omega arith))

word_end_is : (s : List ℕ) → word_end s ≡ position_or_len (λ b. eqb b space) s
unfolding word_end
word_end_is s =
    is_position_or_len word_end (λ b. eqb b space) refl
    (λ b bs. by_test (eqb b space) (λ e. rw e) (λ e. rw e (omega arith))) s

pub word_end_found : (s : List ℕ) {r : Option ℕ} → r ≡ position (λ b. eqb b space) s
    → unwrap_or r (length s) ≡ word_end s
word_end_found s {r} e = by_test (ltb (word_end s) (length s))
    (λ t. rw (e, ← word_end_is s, t))
    (λ t.
    let h : word_end s ≤ length s = word_end_within s in
    rw (e, ← word_end_is s, t) (omega (arith, ltb-false (word_end s) (length s) t)))

-- ── numbers ─────────────────────────────────────────────────────────────────────────────────────────────────────

-- the value so far, extended by each of the bytes
unfoldable pub extended_by : ℕ → List ℕ → Option ℕ
extended_by n [] = Some n
extended_by n (b ∷ bs) = option_and_then (λ m. extended_by m bs) (extended_of n b)

value_grows : (n : ℕ) (w : List ℕ) → n ≤ value_from n w
unfolding value_from
value_grows n [] = omega arith
value_grows n (b ∷ bs) =
    let m : ℕ = 10 * n + (b - digit_zero) in
    let h : m ≤ value_from m bs = value_grows m bs in
    omega arith

-- once too large, always too large
no_number_lem : (w : List ℕ) → option_and_then (λ n. extended_by n w) None ≡ None
no_number_lem w = refl

too_large : (a : Bool) (v : ℕ) → largest_number < v → cond (a && leb v largest_number) (Some v) None ≡ None
too_large true v h = rw (lt-leb v largest_number h)
too_large false v h = refl

by_digits : (n : ℕ) (w : List ℕ) → n ≤ largest_number
    → extended_by n w ≡ cond (all is_digit w && leb (value_from n w) largest_number) (Some (value_from n w)) None
unfolding extended_by all value_from
by_digits n [] h = rw (le-leb n largest_number h)
by_digits n (b ∷ bs) h =
    let m = 10 * n + (b - digit_zero) in
    by_test (is_digit b)
    (λ d. by_test (leb m largest_number)
    (λ l. rw (d, l) (by_digits m bs (leb-true _ _ l)))
    (λ l.
    let g : largest_number < value_from m bs = omega (arith, leb-false m largest_number l, value_grows m bs) in
    rw (d, l) (sym (too_large (all is_digit bs) (value_from m bs) g))))
    (λ d. rw d (no_number_lem bs))

-- a loop that extends n by each byte of w
abbrev pub Extended : List ℕ → ℕ → ℕ → Type 0
Extended w n i = Ahead (extended_by n) w (extended_by 0 w) i

module _ {w : List ℕ} {i : ℕ} (n : ℕ) (p : Extended w n i) where
  pub extended_again : (m : ℕ) → i < length w → Some m ≡ extended_of n (get_or w i 0) → Extended w m (i + 1)
  unfolding extended_by
  extended_again m h e = ahead_next p (drop_at w i 0 h) (rw (← e))

  pub extended_no_more : i < length w → None ≡ extended_of n (get_or w i 0) → None ≡ digits_value w
  unfolding extended_by digits_value
  extended_no_more h e = ahead_stop p (drop_at w i 0 h) (rw (← e)) ∙ by_digits 0 w (omega arith)

  pub extended_done : length w ≤ i → Some n ≡ digits_value w
  unfolding extended_by digits_value
  extended_done h = ahead_done p (drop_done w i h) refl ∙ by_digits 0 w (omega arith)

-- ── leading zeros ───────────────────────────────────────────────────────────────────────────────────────────────

-- what the first byte says
pub no_word : (w : List ℕ) → None ≡ slice_get w 0 → None ≡ number_of w
unfolding number_of is_numeral
no_word [] e = refl
no_word (b ∷ bs) e = absurd (cc)

pub leading_zero : (w : List ℕ) {b : ℕ} → Some b ≡ slice_get w 0 → b ≡ digit_zero → 1 < length w
    → None ≡ number_of w
unfolding number_of is_numeral
leading_zero [] e z more = absurd (cc)
leading_zero (b ∷ bs) e z more =
    let f : b ≡ digit_zero = cc in
    rw (ne_eqb (length bs) 0 (omega arith), eq-eqb b digit_zero f, and-false (all is_digit (b ∷ bs)))

pub no_leading_zero : (w : List ℕ) {b : ℕ} → Some b ≡ slice_get w 0
    → ((b ≡ digit_zero) × (length w ≤ 1)) ⊎ (b ≡ digit_zero → ⊥) → digits_value w ≡ number_of w
unfolding number_of is_numeral digits_value
no_leading_zero [] e h = absurd (cc)
no_leading_zero (b ∷ bs) e h = by_either
    (λ (z, l). rw (eq-eqb (length bs) 0 (omega arith), and-true (all is_digit (b ∷ bs))))
    (λ n.
    let led = or_true (eqb (length bs) 0) true (inr refl) in
    rw (ne_eqb b digit_zero (λ z. n (cc)), led, and-true (all is_digit (b ∷ bs))))
    h

-- ── identifiers ─────────────────────────────────────────────────────────────────────────────────────────────────

-- a number as one byte
unfoldable pub byte_of : ℕ → Option ℕ
byte_of n = cond (leb n 255) (Some n) None

pub as_byte : {E : Type 0} (r : Result ℕ E) (n : ℕ) {o : Option ℕ} → OkIff r (n < 256) n → o ≡ result_ok r
    → o ≡ byte_of n
unfolding byte_of
as_byte (Ok x) n (h, e) q = q ∙ rw (e, le-leb n 255 (omega arith))
as_byte (Err x) n h q = q ∙ by_test (leb n 255) (λ t. absurd (h (omega (arith, leb-true n 255 t)))) (λ t. rw t)

-- what stands last in an identifier is a number of one byte
pub identifier_is : (w : List ℕ)
    → option_map (λ n. replicate 15 0 ++ (n ∷ [])) (option_and_then byte_of (number_of w)) ≡ identifier_word_of w
unfolding number_of identifier_word_of byte_of
identifier_is w = by_test (is_numeral w)
    (λ d. by_test (leb (value_of w) 255)
    (λ t. rw (d, t, le-leb (value_of w) largest_number (omega (arith, leb-true (value_of w) 255 t)), t))
    (λ f. by_test (leb (value_of w) largest_number) (λ t. rw (d, f, t, f)) (λ t. rw (d, f, t))))
    (λ d. rw d)
