-- The log: its header, its records and their bytes, and the reader of records.
use Rattle.std.specs.Prelude.{ℕ, zero, suc, ◌+◌, ◌*◌, ◌-◌, ◌/◌, ◌%◌, Bool, false, cond, ◌&&◌, ◌||◌, not, List, [], ◌∷◌, ◌++◌, eqb, ltb, leb, length, take, drop, get_or}
use Rattle.std.proofs.lemmas.List.Edits.{sets}
use Rattle.rules.specs.Identifiers.{Id}
use Rattle.rules.specs.Sizes.{identifier_size, entry_size, record_size, held_most}

-- ── the format ──────────────────────────────────────────────────────────────────────────────────────────────────

-- "Header, 8 bytes: `RTL`, version 1 as 16 bits low byte first, three zeros."
abbrev pub header : List ℕ
header = 0x52 ∷ 0x54 ∷ 0x4C ∷ 1 ∷ 0 ∷ 0 ∷ 0 ∷ 0 ∷ []

pub record Entry : Type 0 where
  pub rm : Id
  pub number : ℕ

pub data Record : Type 0 where
  commit : Id → List Entry → Record
  forget : Id → Record

-- "4 bytes, low first"
abbrev pub low4 : ℕ → List ℕ
low4 n = n % 256 ∷ n / 256 % 256 ∷ n / 65536 % 256 ∷ n / 16777216 % 256 ∷ []

abbrev pub number4 : List ℕ → ℕ
number4 bs = get_or bs 0 0 + 256 * get_or bs 1 0 + 65536 * get_or bs 2 0 + 16777216 * get_or bs 3 0

abbrev pub commit_tag : ℕ
commit_tag = 1

abbrev pub forget_tag : ℕ
forget_tag = 2

-- "RM and number (4 bytes, low first)"
abbrev pub entry_bytes : Entry → List ℕ
entry_bytes e = e.rm ++ low4 e.number

unfoldable pub entries_bytes : List Entry → List ℕ
entries_bytes [] = []
entries_bytes (e ∷ es) = entry_bytes e ++ entries_bytes es

-- "commit: 01, n (1 to 16), T, then n times RM and number"; "forget: 02, 00, T"
unfoldable pub record_bytes : Record → List ℕ
record_bytes (Record.commit t es) = commit_tag ∷ length es ∷ t ++ entries_bytes es
record_bytes (Record.forget t) = forget_tag ∷ 0 ∷ t

unfoldable pub all_bytes : List Record → List ℕ
all_bytes [] = []
all_bytes (r ∷ rs) = record_bytes r ++ all_bytes rs

-- "18 + 20n bytes"
abbrev pub commit_size : ℕ → ℕ
commit_size n = record_size + entry_size * n

abbrev pub forget_size : ℕ
forget_size = record_size

-- bytes stored from a place of the log on, and nothing else: its length stays, so that none is stored past its end
unfoldable pub written : ℕ → List ℕ → List ℕ → List ℕ
written start bs log = sets log start bs

-- ── reading ─────────────────────────────────────────────────────────────────────────────────────────────────────

-- the size of the record that two bytes begin; 0 if they begin none
unfoldable pub size_of : ℕ → ℕ → ℕ
size_of b c =
    cond (eqb b commit_tag && (ltb 0 c && leb c held_most)) (commit_size c)
    (cond (eqb b forget_tag && eqb c 0) forget_size
    0)

unfoldable pub entries_of : ℕ → List ℕ → List Entry
entries_of zero bs = []
entries_of (suc n) bs = record { rm = take identifier_size bs; number = number4 (take 4 (drop identifier_size bs)) } ∷ entries_of n (drop entry_size bs)

-- the record of which b and c are the first bytes and bs the others
unfoldable pub record_of : ℕ → ℕ → List ℕ → Record
record_of b c bs = cond (eqb b commit_tag) (Record.commit (take identifier_size bs) (entries_of c (drop identifier_size bs))) (Record.forget (take identifier_size bs))

-- whether b, c and bs hold a whole record at their start
abbrev pub is_whole : ℕ → ℕ → List ℕ → Bool
is_whole b c bs = ltb 0 (size_of b c) && leb (size_of b c) (2 + length bs)

-- The whole records, up to the first that is torn or none at all; k more bytes of the record before are passed over first.
unfoldable pub scan : ℕ → List ℕ → List Record
scan k [] = []
scan (suc k) (b ∷ bs) = scan k bs
scan zero (b ∷ []) = []
scan zero (b ∷ c ∷ bs) = cond (is_whole b c bs) (record_of b c (take (size_of b c - 2) bs) ∷ scan (size_of b c - 2) bs) []

-- and the bytes behind these
unfoldable pub behind : ℕ → List ℕ → List ℕ
behind k [] = []
behind (suc k) (b ∷ bs) = behind k bs
behind zero (b ∷ []) = b ∷ []
behind zero (b ∷ c ∷ bs) = cond (is_whole b c bs) (behind (size_of b c - 2) bs) (b ∷ c ∷ bs)

-- "a first byte other than 01, 02, or a wrong second byte"; else what is left is "a record that the stored bytes end inside", torn
unfoldable pub begins_none : List ℕ → Bool
begins_none [] = false
begins_none (b ∷ []) = not (eqb b commit_tag || eqb b forget_tag)
begins_none (b ∷ c ∷ bs) = eqb (size_of b c) 0
