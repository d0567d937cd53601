-- The states of an enlistment. 0 is an empty place.
use Rattle.std.specs.Prelude.{ℕ}

abbrev pub active : ℕ
active = 1

abbrev pub zero : ℕ
zero = 2

abbrev pub preparing : ℕ
preparing = 3

abbrev pub prepared : ℕ
prepared = 4

abbrev pub prepared_lost : ℕ
prepared_lost = 5

abbrev pub one_phase : ℕ
one_phase = 6

abbrev pub told_commit : ℕ
told_commit = 7

abbrev pub failed_to_notify : ℕ
failed_to_notify = 8

abbrev pub told_abort : ℕ
told_abort = 9

abbrev pub done : ℕ
done = 10
