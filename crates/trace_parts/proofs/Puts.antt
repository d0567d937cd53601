-- Bytes written one after another: what is written at a place and behind it is written at once, and changes nothing else.
use Prim.Native.Nat.{ℕ, ◌+◌, ◌-◌, ◌≤◌}
use native.Mathlib.Omega.{arith}
use mathlib.Core.Path.{◌≡◌, refl, sym, ◌∙◌, ap}
use mathlib.Core.List.{List, [], ◌∷◌, ◌++◌, append_assoc}
use lib.Dec.{lit≤}
use lib.ListN.{length, set, take, drop, length-append, length-drop}
use lib.Seq.{take_all}
use Rattle.trace_parts.specs.Puts.{Puts, Converts, padded_name, signal_text, digits_most, name_most, signal_most}
use Rattle.rules.specs.declared.Name.{Name}
use Rattle.rules.specs.declared.Name.TheVariants as name
use Rattle.rules.specs.declared.Signal.{Signal}
use Rattle.rules.specs.Trace.{text, name_text, decimal}
use Rattle.trace_words.specs.Words.{word_end}
use Rattle.trace_parts.specs.declared.Decimal.{Decimal}
use Rattle.trace_parts.proofs.Digits.{most_digits}
use borrow.Rule.Slice.PartMut.{put_mid, Post-is}
use Rattle.std.proofs.lemmas.List.Edits.{sets-eq}
use Rattle.lists.proofs.Stores.{sets_append}

pub put_both : {xs ys before middle after : List ℕ} {at between end : ℕ} → Puts xs before at between middle → Puts ys middle between end after
    → Puts (xs ++ ys) before at end after
put_both {xs} {ys} {before} {middle} {after} {at} {between} {end} p q =
    record {
      ends = simp length-append (omega arith);
      same = q.same ∙ rw (p.same, p.ends, ← sets_append);
    }

-- one byte, stored where the bytes before it end
pub put_byte : {before : List ℕ} {at : ℕ} (b : ℕ) → Puts (b ∷ []) before at (at + 1) (set before at b)
put_byte b = record { ends = refl; same = refl }

-- the bytes of a text, copied into a part of the buffer
pub put_copied : {text before part : List ℕ} {at : ℕ} → at + length text ≤ length before → part ≡ text
    → Puts text before at (at + length text) (put_mid at (at + length text - at) before part)
put_copied {text} {before} {part} {at} h e = record {
  ends = refl;
  same = rw e (ap (λ rest. take at before ++ (text ++ rest)) (Post-is at (at + length text) before (omega arith))
      ∙ sym (append_assoc (take at before) text (drop (at + length text) before)) ∙ sym (sets-eq text before at h));
}

-- ── a number, a name, a signal ──────────────────────────────────────────────────────────────────────────────────

pub put_decimal : {n : ℕ} {d : Decimal} {before after : List ℕ} {at end : ℕ} → Converts n d
    → Puts (take (length d.bytes - d.from) (drop d.from d.bytes)) before at end after → Puts (decimal n) before at end after
put_decimal {n} {d} p q =
    rw (take_all (length d.bytes - d.from) (drop d.from d.bytes) (simp length-drop (omega arith)), p.same) at q

pub name_most_lem : (a : Name) → length (name_text a) ≤ name_most
unfolding name_text text
name_most_lem name.Nothing = lit≤ tt
name_most_lem name.Zero = lit≤ tt
name_most_lem name.Prepare = lit≤ tt
name_most_lem name.Single = lit≤ tt
name_most_lem name.Commit = lit≤ tt
name_most_lem name.Abort = lit≤ tt
name_most_lem name.AppCommitted = lit≤ tt
name_most_lem name.AppAborted = lit≤ tt
name_most_lem name.AppInDoubt = lit≤ tt
name_most_lem name.AnswerCommitted = lit≤ tt
name_most_lem name.AnswerAborted = lit≤ tt
name_most_lem name.AnswerNotYet = lit≤ tt

-- no name has a space, so that the first behind it is its end
name_ends : (a : Name) → (word_end (padded_name a) ≡ length (name_text a)) × (take (length (name_text a)) (padded_name a) ≡ name_text a)
unfolding padded_name name_text text word_end
name_ends name.Nothing = (refl, refl)
name_ends name.Zero = (refl, refl)
name_ends name.Prepare = (refl, refl)
name_ends name.Single = (refl, refl)
name_ends name.Commit = (refl, refl)
name_ends name.Abort = (refl, refl)
name_ends name.AppCommitted = (refl, refl)
name_ends name.AppAborted = (refl, refl)
name_ends name.AppInDoubt = (refl, refl)
name_ends name.AnswerCommitted = (refl, refl)
name_ends name.AnswerAborted = (refl, refl)
name_ends name.AnswerNotYet = (refl, refl)

pub name_taken : {padded : List ℕ} {n : ℕ} (a : Name) → padded ≡ padded_name a → n ≡ word_end padded → (n ≤ name_most) × (take n padded ≡ name_text a)
name_taken {padded} {n} a e f =
    let (g, h) = name_ends a in
    let k : n ≡ length (name_text a) = f ∙ ap word_end e ∙ g in
    (omega (arith, name_most_lem a), rw (k, e) h)

pub signal_most_lem : (s : Signal) → length (signal_text s) ≤ signal_most
unfolding signal_text
signal_most_lem s = simp length-append (omega (arith, name_most_lem s.name, most_digits digits_most s.number))
