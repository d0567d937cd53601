-- The parts of an output line, as the code writes one behind another.
use Rattle.std.specs.Prelude.{ℕ, ◌+◌, ◌-◌, ◌≤◌, ◌≡◌, List, ◌∷◌, ◌++◌, length, drop, replicate}
use Rattle.std.proofs.lemmas.List.Edits.{sets}
use Rattle.rules.specs.declared.Name.{Name}
use Rattle.rules.specs.declared.Signal.{Signal}
use Rattle.rules.specs.Trace.{space, colon, name_text, decimal}
use Rattle.trace_parts.specs.declared.Decimal.{Decimal}

-- a number, a name, and a signal with what stands before and between its parts, have at most so many bytes
abbrev pub digits_most : ℕ
digits_most = 10

abbrev pub name_most : ℕ
name_most = 16

abbrev pub signal_most : ℕ
signal_most = 28

-- no output line is longer: 255, 4294967295, 17 and 17 times answer-committed:4294967295
abbrev pub output_most : ℕ
output_most = 494

-- bytes are written at a place, and end is the place behind them
pub record Puts (bytes before : List ℕ) (at end : ℕ) (after : List ℕ) : Type 0 where
  pub ends : end ≡ at + length bytes
  pub same : after ≡ sets before at bytes

pub record Converts (n : ℕ) (d : Decimal) : Type 0 where
  pub long : length d.bytes ≡ digits_most
  pub within : d.from ≤ digits_most
  pub same : drop d.from d.bytes ≡ decimal n

-- a name, which has no space, with spaces behind it
unfoldable pub padded_name : Name → List ℕ
padded_name a = name_text a ++ replicate (name_most - length (name_text a)) space

-- "signals as name:number"
unfoldable pub signal_text : Signal → List ℕ
signal_text s = space ∷ name_text s.name ++ colon ∷ decimal s.number
