-- What the two public functions promise, and what of it the definitions of rules leave open.
use Rattle.std.specs.Prelude.{ℕ, ◌≤◌, ◌≡◌, List, [], ◌∷◌, ◌++◌, Option, length, take}
use Rattle.std.proofs.lemmas.List.Edits.{sets}
use Rattle.rules.specs.declared.Command.{Command}
use Rattle.rules.specs.declared.Signal.{Signal}
use Rattle.rules.specs.declared.Signals.{Signals}
use Rattle.rules.specs.Trace.{command_of, output_of}
use Rattle.trace_parts.specs.Puts.{output_most}

-- a line, without its newline, is read as this command, or can't be read
abbrev pub IsReading : List ℕ → Option Command → Type 0
IsReading line command = command ≡ command_of line

-- the first count of the items are the signals; a count above the number of items takes all of them
abbrev pub signals_of : Signals → List Signal
signals_of signals = take signals.count signals.items

abbrev pub newline : ℕ
newline = 0x0A

-- an output line is written with its newline, so that the program has nothing to add
unfoldable pub output_line : ℕ → ℕ → Signals → List ℕ
output_line why used signals = output_of why used (signals_of signals) ++ (newline ∷ [])

-- the line stands at the start of the lent buffer, and nothing behind it is changed
pub record IsWriting (why used : ℕ) (signals : Signals) (before : List ℕ) (size : ℕ) (after : List ℕ) : Type 0 where
  pub sized : size ≡ length (output_line why used signals)
  pub bytes : after ≡ sets before 0 (output_line why used signals)
  -- follows from the first, and lets a caller take these bytes of the buffer
  pub within : size ≤ output_most
