-- What was read of a word is what the word says, so that a command that is made of what was read, where all of its
-- words could be read, is the command of the words themselves.
use Prim.Native.Nat.{ℕ}
use mathlib.Core.Path.{◌≡◌, refl}
use mathlib.Core.Bool.{Bool, true, false, cond}
use mathlib.Core.List.{List}
use Rattle.std.specs.Prelude.{Option, Some, None, MatchOption}
use Rattle.rules.specs.declared.Act.{Act}
use Rattle.rules.specs.declared.Command.{Command}
use Rattle.rules.specs.Identifiers.{Id, zero_id}
use Rattle.rules.specs.Trace.{stepping, is_identifier_word, identifier_of, is_number_word, value_of, of_number}
use Rattle.trace_words.specs.Words.{number_of, identifier_word_of}

module _ {A : Type 0} where
  unread : (b : Bool) (v : A) → None ≡ cond b (Some v) None → b ≡ false
  unread true v e = absurd (cc)
  unread false v e = refl

  read : (b : Bool) (v : A) (x : A) → Some x ≡ cond b (Some v) None → (b ≡ true) × (x ≡ v)
  read true v x e = (refl, cc)
  read false v x e = absurd (cc)

pub identifier_unread : (w : List ℕ) → None ≡ identifier_word_of w → is_identifier_word w ≡ false
unfolding identifier_word_of
identifier_unread w e = unread (is_identifier_word w) (identifier_of w) e

pub identifier_read : (w : List ℕ) (x : Id) → Some x ≡ identifier_word_of w
    → (is_identifier_word w ≡ true) × (x ≡ identifier_of w)
unfolding identifier_word_of
identifier_read w x e = read (is_identifier_word w) (identifier_of w) x e

pub number_unread : (w : List ℕ) → None ≡ number_of w → is_number_word w ≡ false
unfolding number_of
number_unread w e = unread (is_number_word w) (value_of w) e

pub number_read : (w : List ℕ) (n : ℕ) → Some n ≡ number_of w → (is_number_word w ≡ true) × (n ≡ value_of w)
unfolding number_of
number_read w n e = read (is_number_word w) (value_of w) n e

-- what the function that makes the act promises of it
pub number_used : (a : ℕ → Act) (n : List ℕ) (r : Option Command)
    → MatchOption r (is_number_word n ≡ false)
    (λ c. (is_number_word n ≡ true) × ((x : Act) × (x ≡ a (value_of n)) × (c ≡ stepping x zero_id zero_id)))
    → r ≡ of_number a n
number_used a n None e = rw e
number_used a n (Some c) (t, (x, p, q)) = rw (t, q, p)
