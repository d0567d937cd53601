-- Signals: whom they go to, and in which order.
use Rattle.std.specs.Prelude.{ℕ, zero, suc, ◌≡◌, ◌⊎◌, Bool, List, [], ◌∷◌, map, ltb, length}
use Rattle.lists.specs.Sorting.{sort_by}
use Rattle.rules.specs.declared.Enlistment.{Enlistment}
use Rattle.rules.specs.declared.Name.{Name}
use Rattle.rules.specs.declared.Name.TheVariants as name
use Rattle.rules.specs.declared.Signal.{Signal}
use Rattle.rules.specs.declared.Signals.{Signals}
use Rattle.rules.specs.Sizes.{signals_most}

abbrev pub signal : Name → ℕ → Signal
signal a n = record { name = a; number = n }

abbrev pub by_number : Enlistment → Enlistment → Bool
by_number e f = ltb e.number f.number

-- "enlistments by ascending number"
unfoldable pub to_each : Name → List Enlistment → List Signal
to_each a es = map (λ e. signal a e.number) (sort_by by_number es)

-- to the application; "number 0 for app"
abbrev pub to_app : Name → List Signal
to_app a = signal a 0 ∷ []

-- "Committed messages are commit, app-committed and answer-committed; aborted ones are abort, app-aborted and answer-aborted."
abbrev pub Committed : Name → Type 0
Committed a = (a ≡ name.Commit) ⊎ ((a ≡ name.AppCommitted) ⊎ (a ≡ name.AnswerCommitted))

abbrev pub Aborted : Name → Type 0
Aborted a = (a ≡ name.Abort) ⊎ ((a ≡ name.AppAborted) ⊎ (a ≡ name.AnswerAborted))

abbrev pub no_signal : Signal
no_signal = signal name.Nothing 0

-- a list in k places, those left over at the end without a signal
unfoldable pub padded : ℕ → List Signal → List Signal
padded zero ss = []
padded (suc k) [] = no_signal ∷ padded k []
padded (suc k) (s ∷ ss) = s ∷ padded k ss

-- "At most 17": signals as an answer holds them
unfoldable pub row_of : List Signal → Signals
row_of ss = record { items = padded signals_most ss; count = length ss }
