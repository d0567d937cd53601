-- A table whose places are all empty, of any used length.
use Rattle.std.specs.Prelude.{ℕ}
use Rattle.rules.specs.declared.Table.{Table}
use Rattle.rules.specs.Table.{empty_transactions, empty_enlistments}

abbrev pub empty_table : ℕ → ℕ → Table
empty_table capacity used = record { transactions = empty_transactions; enlistments = empty_enlistments; capacity = capacity; used = used }
