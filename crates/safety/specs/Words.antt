-- The words in which the sample runs are written, besides those of events.
use Rattle.std.specs.Prelude.{ℕ, List, replicate}
use Rattle.rules.specs.declared.Event.{Event}
use Rattle.rules.specs.declared.Kind.TheVariants as kind
use Rattle.rules.specs.declared.Mark.TheVariants as mark
use Rattle.rules.specs.Words as event

-- a durable enlistment, and one that may be asked in single phase
abbrev pub enlist : ℕ → ℕ → ℕ → Event
enlist t n r = event.enlist t n r kind.Durable mark.No

abbrev pub enlist_single : ℕ → ℕ → ℕ → Event
enlist_single t n r = event.enlist t n r kind.Durable mark.Yes

-- lent bytes, all zero
abbrev pub spare : List ℕ
spare = replicate 200 0
