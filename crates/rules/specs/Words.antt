-- The words in which cases and sample runs write events.
use Rattle.std.specs.Prelude.{ℕ, [], ◌∷◌}
use Rattle.rules.specs.declared.Event.{Event}
use Rattle.rules.specs.declared.Act.{Act}
use Rattle.rules.specs.declared.Act.TheVariants as act
use Rattle.rules.specs.declared.Kind.{Kind}
use Rattle.rules.specs.declared.Mark.{Mark}
use Rattle.rules.specs.declared.Vote.{Vote}
use Rattle.rules.specs.declared.Reply.{Reply}
use Rattle.rules.specs.Identifiers.{Id}

-- "T and R are 0 to 255, the last of 16 bytes, others zero"
abbrev pub id : ℕ → Id
id n = 0 ∷ 0 ∷ 0 ∷ 0 ∷ 0 ∷ 0 ∷ 0 ∷ 0 ∷ 0 ∷ 0 ∷ 0 ∷ 0 ∷ 0 ∷ 0 ∷ 0 ∷ n ∷ []

abbrev pub event : Act → ℕ → ℕ → Event
event a t r = record { tx = record { 0 = id t }; rm = record { 0 = id r }; act = a }

abbrev pub begin : ℕ → Event
begin t = event act.Begin t 0

abbrev pub enlist : ℕ → ℕ → ℕ → Kind → Mark → Event
enlist t n r k m = event (act.Enlist n k m) t r

abbrev pub commit : ℕ → Event
commit t = event act.Commit t 0

abbrev pub rollback : ℕ → Event
rollback t = event act.Rollback t 0

abbrev pub vote : ℕ → Vote → Event
vote n v = event (act.Vote n v) 0 0

abbrev pub reply : ℕ → Reply → Event
reply n r = event (act.Reply n r) 0 0

abbrev pub ack : ℕ → Event
ack n = event (act.Ack n) 0 0

abbrev pub lost : ℕ → Event
lost n = event (act.Lost n) 0 0

abbrev pub ask : ℕ → ℕ → Event
ask t r = event act.Ask t r

abbrev pub reenlisted : ℕ → Event
reenlisted r = event act.Reenlisted 0 r
