-- Refusal numbers: "0 is done", and what each other one is "given when".
use Rattle.std.specs.Prelude.{ℕ, Result, Ok, Err}
use Rattle.rules.specs.declared.Refusal.{Refusal}
use Rattle.rules.specs.declared.Refusal.TheVariants as refused

abbrev pub accepted : ℕ
accepted = 0

abbrev pub zero_named : ℕ
zero_named = 1

abbrev pub not_live : ℕ
not_live = 2

abbrev pub not_held : ℕ
not_held = 3

abbrev pub already_live : ℕ
already_live = 4

abbrev pub already_held : ℕ
already_held = 5

abbrev pub transaction_state : ℕ
transaction_state = 6

abbrev pub enlistment_state : ℕ
enlistment_state = 7

abbrev pub full : ℕ
full = 8

abbrev pub no_such_durable : ℕ
no_such_durable = 9

abbrev pub not_failed_to_notify : ℕ
not_failed_to_notify = 10

abbrev pub damaged_log : ℕ
damaged_log = 11

abbrev pub log_length : ℕ
log_length = 12

abbrev pub log_too_short : ℕ
log_too_short = 13

abbrev pub bad_message : ℕ
bad_message = 14

abbrev pub not_sound : ℕ
not_sound = 15

abbrev pub unreadable_line : ℕ
unreadable_line = 16

-- the number of each refusal of the code; none has 0
abbrev pub refusal_number : Refusal → ℕ
refusal_number refused.ZeroNamed = zero_named
refusal_number refused.NotLive = not_live
refusal_number refused.NotHeld = not_held
refusal_number refused.AlreadyLive = already_live
refusal_number refused.AlreadyHeld = already_held
refusal_number refused.TransactionState = transaction_state
refusal_number refused.EnlistmentState = enlistment_state
refusal_number refused.Full = full
refusal_number refused.NoSuchDurable = no_such_durable
refusal_number refused.NotFailedToNotify = not_failed_to_notify
refusal_number refused.DamagedLog = damaged_log
refusal_number refused.LogLength = log_length
refusal_number refused.LogTooShort = log_too_short
refusal_number refused.BadMessage = bad_message
refusal_number refused.NotSound = not_sound
refusal_number refused.UnreadableLine = unreadable_line

-- the number of an answer: "0 is done"
abbrev pub answer_number : {A : Type 0} → Result A Refusal → ℕ
answer_number (Ok x) = accepted
answer_number (Err r) = refusal_number r
