-- The trace program: a line to a command, and a result to a line. Lines are bytes without their newline.
use Rattle.std.specs.Prelude.{ℕ, zero, suc, ◌+◌, ◌-◌, ◌*◌, ◌/◌, ◌%◌, Bool, false, cond, not, ◌&&◌, ◌||◌, List, [], ◌∷◌, ◌++◌, Option, Some, None, option_and_then, eqb, leb, ltb, length, replicate}
use Prim.Native.Char.{code}
use Prim.Native.String as string
use Rattle.lists.specs.Lists.{all}
use Rattle.rules.specs.declared.Table.{Table}
use Rattle.rules.specs.declared.Event.{Event}
use Rattle.rules.specs.declared.Act.{Act}
use Rattle.rules.specs.declared.Act.TheVariants as act
use Rattle.rules.specs.declared.Kind.{Kind}
use Rattle.rules.specs.declared.Kind.TheVariants as kind
use Rattle.rules.specs.declared.Mark.{Mark}
use Rattle.rules.specs.declared.Mark.TheVariants as mark
use Rattle.rules.specs.declared.Vote.{Vote}
use Rattle.rules.specs.declared.Vote.TheVariants as vote
use Rattle.rules.specs.declared.Reply.{Reply}
use Rattle.rules.specs.declared.Reply.TheVariants as reply
use Rattle.rules.specs.declared.Name.{Name}
use Rattle.rules.specs.declared.Name.TheVariants as name
use Rattle.rules.specs.declared.Signal.{Signal}
use Rattle.rules.specs.declared.Command.{Command}
use Rattle.rules.specs.declared.Command.TheVariants as command
use Rattle.rules.specs.RefusalNumber as refusal
use Rattle.rules.specs.Sizes.{largest_number, line_most}
use Rattle.rules.specs.Identifiers.{Id, zero_id, same_bytes}
use Rattle.rules.specs.Step.{step_of}
use Rattle.rules.specs.Restart.{restart_of}

-- ── words ───────────────────────────────────────────────────────────────────────────────────────────────────────

-- the bytes of a text
unfoldable pub text : string.String → List ℕ
text string.[] = []
text (string.◌∷◌ c s) = code c ∷ text s

abbrev pub space : ℕ
space = 0x20

abbrev pub on_first : ℕ → List (List ℕ) → List (List ℕ)
on_first b [] = (b ∷ []) ∷ []
on_first b (w ∷ ws) = (b ∷ w) ∷ ws

-- "one space between words": a word ends at each space, so that a second space, or one at either end, leaves an empty word, which none is
unfoldable pub words : List ℕ → List (List ℕ)
words [] = [] ∷ []
words (b ∷ bs) = cond (eqb b space) ([] ∷ words bs) (on_first b (words bs))

abbrev pub is_word : string.String → List ℕ → Bool
is_word s w = same_bytes w (text s)

abbrev pub digit_zero : ℕ
digit_zero = 0x30

abbrev pub is_digit : ℕ → Bool
is_digit b = leb digit_zero b && leb b (digit_zero + 9)

unfoldable pub value_from : ℕ → List ℕ → ℕ
value_from n [] = n
value_from n (b ∷ bs) = value_from (10 * n + (b - digit_zero)) bs

abbrev pub value_of : List ℕ → ℕ
value_of w = value_from 0 w

-- "Numbers have no leading zeros."
unfoldable pub is_numeral : List ℕ → Bool
is_numeral [] = false
is_numeral (b ∷ bs) = all is_digit (b ∷ bs) && (eqb (length bs) 0 || not (eqb b digit_zero))

abbrev pub is_numeral_to : ℕ → List ℕ → Bool
is_numeral_to most w = is_numeral w && leb (value_of w) most

-- "T and R are 0 to 255, the last of 16 bytes, others zero"
abbrev pub is_identifier_word : List ℕ → Bool
is_identifier_word w = is_numeral_to 255 w

abbrev pub identifier_of : List ℕ → Id
identifier_of w = replicate 15 0 ++ (value_of w ∷ [])

-- "N is 0 to 4,294,967,295"
abbrev pub is_number_word : List ℕ → Bool
is_number_word w = is_numeral_to largest_number w

-- ── a line to a command ─────────────────────────────────────────────────────────────────────────────────────────

-- a line is a command, or can't be read
abbrev pub unreadable : Option Command
unreadable = None

abbrev pub restarting : Option Command
restarting = Some command.Restart

abbrev pub stepping : Act → Id → Id → Command
stepping a t r = command.Step (record { tx = record { 0 = t }; rm = record { 0 = r }; act = a })

abbrev pub read_if : Bool → Option Command → Option Command
read_if b c = cond b c unreadable

-- `begin T`, `commit T`, `rollback T`
abbrev pub of_transaction : Act → List ℕ → Option Command
of_transaction a t = read_if (is_identifier_word t) (Some (stepping a (identifier_of t) zero_id))

-- `zdone N`, `ack N`, `lost N`, and what follows N in a vote or a reply
abbrev pub of_number : (ℕ → Act) → List ℕ → Option Command
of_number a n = read_if (is_number_word n) (Some (stepping (a (value_of n)) zero_id zero_id))

-- `reenlisted R`
abbrev pub of_manager : List ℕ → Option Command
of_manager r = read_if (is_identifier_word r) (Some (stepping act.Reenlisted zero_id (identifier_of r)))

unfoldable pub two_words : List ℕ → List ℕ → Option Command
two_words w a =
    cond (is_word "begin" w) (of_transaction act.Begin a)
    (cond (is_word "commit" w) (of_transaction act.Commit a)
    (cond (is_word "rollback" w) (of_transaction act.Rollback a)
    (cond (is_word "zdone" w) (of_number act.ZeroDone a)
    (cond (is_word "ack" w) (of_number act.Ack a)
    (cond (is_word "lost" w) (of_number act.Lost a)
    (cond (is_word "reenlisted" w) (of_manager a)
    unreadable))))))

unfoldable pub vote_named : List ℕ → Option Vote
vote_named v =
    cond (is_word "prepared" v) (Some vote.Prepared)
    (cond (is_word "readonly" v) (Some vote.ReadOnly)
    (cond (is_word "aborted" v) (Some vote.Aborted)
    None))

-- `vote N prepared|readonly|aborted`
abbrev pub vote_line : List ℕ → List ℕ → Option Command
vote_line n v = option_and_then (λ d. of_number (λ k. act.Vote k d) n) (vote_named v)

unfoldable pub reply_named : List ℕ → Option Reply
reply_named r =
    cond (is_word "committed" r) (Some reply.Committed)
    (cond (is_word "aborted" r) (Some reply.Aborted)
    (cond (is_word "indoubt" r) (Some reply.InDoubt)
    None))

-- `sp N committed|aborted|indoubt`
abbrev pub reply_line : List ℕ → List ℕ → Option Command
reply_line n r = option_and_then (λ d. of_number (λ k. act.Reply k d) n) (reply_named r)

-- `ask T R`
abbrev pub ask_line : List ℕ → List ℕ → Option Command
ask_line t r =
    read_if (is_identifier_word t && is_identifier_word r) (Some (stepping act.Ask (identifier_of t) (identifier_of r)))

unfoldable pub three_words : List ℕ → List ℕ → List ℕ → Option Command
three_words w a b =
    cond (is_word "vote" w) (vote_line a b)
    (cond (is_word "sp" w) (reply_line a b)
    (cond (is_word "ask" w) (ask_line a b)
    unreadable))

-- `enlist T N R zero|volatile|durable [single|twophase]`
abbrev pub enlist_as : List ℕ → List ℕ → List ℕ → Kind → Mark → Option Command
enlist_as t n r k m =
    read_if (is_identifier_word t && is_number_word n && is_identifier_word r)
    (Some (stepping (act.Enlist (value_of n) k m) (identifier_of t) (identifier_of r)))

unfoldable pub kind_named : List ℕ → Option Kind
kind_named k =
    cond (is_word "zero" k) (Some kind.PhaseZero)
    (cond (is_word "volatile" k) (Some kind.Volatile)
    (cond (is_word "durable" k) (Some kind.Durable)
    None))

abbrev pub enlist_marked : List ℕ → List ℕ → List ℕ → List ℕ → Mark → Option Command
enlist_marked t n r k m = option_and_then (λ d. enlist_as t n r d m) (kind_named k)

-- "the last word, if absent, means single"
abbrev pub absent_mark : Mark
absent_mark = mark.Yes

unfoldable pub enlist_line : List ℕ → List ℕ → List ℕ → List ℕ → Option Command
enlist_line t n r k = enlist_marked t n r k absent_mark

unfoldable pub mark_named : List ℕ → Option Mark
mark_named m =
    cond (is_word "single" m) (Some mark.Yes)
    (cond (is_word "twophase" m) (Some mark.No)
    None)

unfoldable pub enlist_line_marked : List ℕ → List ℕ → List ℕ → List ℕ → List ℕ → Option Command
enlist_line_marked t n r k m = option_and_then (enlist_marked t n r k) (mark_named m)

unfoldable pub words_read : List (List ℕ) → Option Command
words_read [] = unreadable
words_read (w ∷ []) = read_if (is_word "restart" w) restarting
words_read (w ∷ a ∷ []) = two_words w a
words_read (w ∷ a ∷ b ∷ []) = three_words w a b
words_read (w ∷ a ∷ b ∷ c ∷ []) = unreadable
words_read (w ∷ a ∷ b ∷ c ∷ d ∷ []) = read_if (is_word "enlist" w) (enlist_line a b c d)
words_read (w ∷ a ∷ b ∷ c ∷ d ∷ e ∷ []) = read_if (is_word "enlist" w) (enlist_line_marked a b c d e)
words_read (w ∷ a ∷ b ∷ c ∷ d ∷ e ∷ f ∷ ws) = unreadable

-- "at most 64 bytes each without the newline"
unfoldable pub command_of : List ℕ → Option Command
command_of line = read_if (leb (length line) line_most) (words_read (words line))

-- ── a result to a line ──────────────────────────────────────────────────────────────────────────────────────────

-- with at most k digits
unfoldable pub digits : ℕ → ℕ → List ℕ
digits zero n = []
digits (suc k) n = cond (ltb n 10) ((digit_zero + n) ∷ []) (digits k (n / 10) ++ ((digit_zero + n % 10) ∷ []))

-- of a number below 4,294,967,296
abbrev pub decimal : ℕ → List ℕ
decimal n = digits 10 n

unfoldable pub name_text : Name → List ℕ
name_text name.Nothing = []
name_text name.Zero = text "zero"
name_text name.Prepare = text "prepare"
name_text name.Single = text "single"
name_text name.Commit = text "commit"
name_text name.Abort = text "abort"
name_text name.AppCommitted = text "app-committed"
name_text name.AppAborted = text "app-aborted"
name_text name.AppInDoubt = text "app-in-doubt"
name_text name.AnswerCommitted = text "answer-committed"
name_text name.AnswerAborted = text "answer-aborted"
name_text name.AnswerNotYet = text "answer-not-yet"

abbrev pub colon : ℕ
colon = 0x3A

-- "signals as name:number"
unfoldable pub signal_texts : List Signal → List ℕ
signal_texts [] = []
signal_texts (s ∷ ss) = space ∷ name_text s.name ++ colon ∷ decimal s.number ++ signal_texts ss

-- "Each output line: refusal, used length, signal count, signals"
unfoldable pub output_of : ℕ → ℕ → List Signal → List ℕ
output_of why used ss = decimal why ++ space ∷ decimal used ++ space ∷ decimal (length ss) ++ signal_texts ss

-- ── the program ─────────────────────────────────────────────────────────────────────────────────────────────────

pub record Traced : Type 0 where
  pub table : Table
  pub log : List ℕ
  pub output : List ℕ

-- "A line refused with 16 or longer than 64 bytes prints 16, the used length and 0."
unfoldable pub obeyed : Option Command → Table → List ℕ → Traced
obeyed None tb log = record { table = tb; log = log; output = output_of refusal.unreadable_line tb.used [] }
-- "`restart` (with the used bytes as stored)"
obeyed (Some command.Restart) tb log =
    let r = restart_of log tb.used in
    record { table = r.table; log = r.log; output = output_of r.refusal r.table.used [] }
obeyed (Some (command.Step e)) tb log =
    let s = step_of tb e log in
    record { table = s.table; log = s.log; output = output_of s.refusal s.table.used s.signals }

unfoldable pub traced_of : List ℕ → Table → List ℕ → Traced
traced_of line tb log = obeyed (command_of line) tb log

-- "It starts on an empty 4,096-byte log."
abbrev pub trace_capacity : ℕ
trace_capacity = 4096
