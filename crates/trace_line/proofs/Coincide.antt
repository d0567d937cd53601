-- Two results that meet a promise are equal, and so are the buffers that they leave: each is what the definition gives.
use Prim.Native.Nat.{ℕ}
use mathlib.Core.Path.{◌≡◌, sym, ◌∙◌}
use mathlib.Core.List.{List}
use Rattle.std.specs.Prelude.{Option}
use Rattle.rules.specs.declared.Command.{Command}
use Rattle.rules.specs.declared.Signals.{Signals}
use Rattle.trace_line.specs.Promises.{IsReading, IsWriting}

pub readings_coincide : (line : List ℕ) {a b : Option Command} → IsReading line a → IsReading line b → a ≡ b
readings_coincide line p q = p ∙ sym q

pub writings_coincide : (why used : ℕ) (signals : Signals) (before : List ℕ) {m n : ℕ} {after other : List ℕ}
    → IsWriting why used signals before m after → IsWriting why used signals before n other → (m ≡ n) × (after ≡ other)
writings_coincide why used signals before p q = (p.sized ∙ sym q.sized, p.bytes ∙ sym q.bytes)
