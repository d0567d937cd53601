-- The place behind the bytes, and the buffer with the bytes stored, are each what the promise says.
use Prim.Native.Nat.{ℕ}
use mathlib.Core.Path.{◌≡◌, sym, ◌∙◌}
use mathlib.Core.List.{List}
use Rattle.trace_parts.specs.Puts.{Puts}

pub puts_determined : {bytes before after later : List ℕ} {at end end' : ℕ} → Puts bytes before at end after → Puts bytes before at end' later → (end ≡ end') × (after ≡ later)
puts_determined p q = (p.ends ∙ sym q.ends, p.same ∙ sym q.same)
