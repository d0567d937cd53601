-- Kinds: phase zero (P), volatile (V), durable (D).
use Rattle.std.specs.Prelude.{ℕ}

abbrev pub phase_zero : ℕ
phase_zero = 1

abbrev pub volatile : ℕ
volatile = 2

abbrev pub durable : ℕ
durable = 3
