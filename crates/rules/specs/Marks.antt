-- "V and D carry a single-phase mark, yes or no".
use Rattle.std.specs.Prelude.{ℕ}

abbrev pub unmarked : ℕ
unmarked = 0

abbrev pub marked : ℕ
marked = 1
