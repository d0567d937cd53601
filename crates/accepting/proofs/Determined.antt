-- Ask leaves the log alone, so that any log shows what it gives; and the two fields of a new enlistment's answer are each given. What a function makes of a closure is told
-- of each function that the closure computes, and any one of them shows it.
use Prim.Native.Nat.{ℕ}
use mathlib.Core.Path.{◌≡◌, sym, ◌∙◌}
use mathlib.Core.List.{List, []}
use Rattle.rules.specs.declared.Enlistment.{Enlistment}
use Rattle.rules.specs.declared.Signals.{Signals}
use Rattle.rules.specs.Identifiers.{Id}
use Rattle.rules.specs.Events.{ask_of}
use Rattle.passes.specs.Computes.{Computes}
use Rattle.holdings.specs.declared.Holding.{Holding}
use Rattle.holdings.specs.Holdings.{alone, Placed}
use Rattle.endings.specs.declared.Accepted.{Accepted}
use Rattle.endings.specs.Gives.{Gives}
use Rattle.endings.proofs.Determined.{gives_determined}
use Rattle.accepting.specs.declared.Enlisted.{Enlisted}

pub entry_determined : {e : Enlistment} {signals : Signals} {r s : Enlisted} → (r.enlistment ≡ e) × (r.signals ≡ signals) → (s.enlistment ≡ e) × (s.signals ≡ signals) → r ≡ s
entry_determined (a, b) (c, d) = λ i. record { enlistment = (a ∙ sym c) i; signals = (b ∙ sym d) i }

pub ask_determined : (h : Holding) (rm : Id) {r s : Accepted} → Placed h.place → ((log : List ℕ) → Gives h.place (ask_of h.place rm (alone h) log) r log)
    → ((log : List ℕ) → Gives h.place (ask_of h.place rm (alone h) log) s log) → r ≡ s
ask_determined h rm i a b = (gives_determined i (a []) (b [])).0

pub computed_determined : {A B R : Type 0} {post : A → B → Type 0} {g : (A → B) → R} (f : A → B) {r s : R} → Computes post f
    → ((h : A → B) → Computes post h → r ≡ g h) → ((h : A → B) → Computes post h → s ≡ g h) → r ≡ s
computed_determined f k a b = a f k ∙ sym (b f k)
