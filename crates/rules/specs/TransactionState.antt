-- The states of a transaction. 0 is an empty place.
use Rattle.std.specs.Prelude.{ℕ}

abbrev pub active : ℕ
active = 1

abbrev pub phase_zero : ℕ
phase_zero = 2

abbrev pub phase_one : ℕ
phase_one = 3

abbrev pub single_phase : ℕ
single_phase = 4

abbrev pub committing : ℕ
committing = 5

abbrev pub aborting : ℕ
aborting = 6
