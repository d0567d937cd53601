-- Words as the code reads them. What a line means stands in the specs of rules; this says only how its parts are handed on.
use Rattle.std.specs.Prelude.{ℕ, suc, ◌+◌, ◌-◌, ◌*◌, cond, ◌&&◌, List, [], ◌∷◌, Option, Some, None, eqb, leb}
use Rattle.lists.specs.Lists.{all}
use Rattle.rules.specs.Sizes.{largest_number}
use Rattle.rules.specs.Identifiers.{Id}
use Rattle.rules.specs.Trace.{space, digit_zero, is_digit, value_of, is_number_word, is_identifier_word, identifier_of}

-- the place of the first space, and the length where there is none
unfoldable pub word_end : List ℕ → ℕ
word_end [] = 0
word_end (b ∷ bs) = cond (eqb b space) 0 (suc (word_end bs))

-- n with one digit more behind it
abbrev pub extended_of : ℕ → ℕ → Option ℕ
extended_of n b =
    cond (is_digit b && leb (10 * n + (b - digit_zero)) largest_number) (Some (10 * n + (b - digit_zero))) None

-- of a word that may have leading zeros
unfoldable pub digits_value : List ℕ → Option ℕ
digits_value w = cond (all is_digit w && leb (value_of w) largest_number) (Some (value_of w)) None

unfoldable pub number_of : List ℕ → Option ℕ
number_of w = cond (is_number_word w) (Some (value_of w)) None

unfoldable pub identifier_word_of : List ℕ → Option Id
identifier_word_of w = cond (is_identifier_word w) (Some (identifier_of w)) None
