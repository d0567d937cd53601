-- The log with the record's bytes stored, and its size, are each given; the bound follows from the second.
use Prim.Native.Nat.{ℕ, ◌≤◌}
use mathlib.Core.Path.{◌≡◌, sym, ◌∙◌}
use mathlib.Core.List.{List}
use lib.ListN.{length}
use Rattle.rules.specs.Sizes.{signals_most}
use Rattle.rules.specs.Log.{Record, record_bytes, written, commit_size}

pub put_determined : (x : Record) (used : ℕ) (log : List ℕ) {r s : ℕ} {after later : List ℕ}
    → (after ≡ written used (record_bytes x) log) × (r ≡ length (record_bytes x)) × (r ≤ commit_size signals_most)
    → (later ≡ written used (record_bytes x) log) × (s ≡ length (record_bytes x)) × (s ≤ commit_size signals_most)
    → (r ≡ s) × (after ≡ later)
put_determined x used log (a, p, _) (b, q, _) = (p ∙ sym q, a ∙ sym b)
