-- Counts of places, and lengths in bytes.
use Rattle.std.specs.Prelude.{ℕ}

abbrev pub transaction_places : ℕ
transaction_places = 32

abbrev pub enlistment_places : ℕ
enlistment_places = 128

abbrev pub held_most : ℕ
held_most = 16

abbrev pub signals_most : ℕ
signals_most = 17

abbrev pub identifier_size : ℕ
identifier_size = 16

abbrev pub largest_number : ℕ
largest_number = 4294967295

abbrev pub header_size : ℕ
header_size = 8

abbrev pub record_size : ℕ
record_size = 18

abbrev pub entry_size : ℕ
entry_size = 20

abbrev pub least_capacity : ℕ
least_capacity = 8

abbrev pub largest_capacity : ℕ
largest_capacity = 65536

abbrev pub message_header_size : ℕ
message_header_size = 24

abbrev pub line_most : ℕ
line_most = 64
