-- Of a sound table and a log of its capacity, an event is the one that its function is for: its own checks refuse it, and else it is what the definition says of its act.
use Prim.Native.Nat.{ℕ}
use mathlib.Core.Path.{◌≡◌, ◌∙◌, ap, subst}
use mathlib.Core.Logic.{◌⊎◌, inl, inr}
use mathlib.Core.Bool.{true}
use mathlib.Core.List.{List}
use lib.ListN.{length}
use Rattle.rules.specs.declared.Table.{Table}
use Rattle.rules.specs.declared.Event.{Event}
use Rattle.rules.specs.declared.Act.{Act}
use Rattle.rules.specs.declared.Act.TheVariants as act
use Rattle.rules.specs.declared.Vote.{Vote}
use Rattle.rules.specs.declared.Reply.{Reply}
use Rattle.rules.specs.Sound.{sound_of}
use Rattle.rules.specs.Events.{acted, reacted_of}
use Rattle.rules.specs.Checks.{own_checks, about_one_checks}
use Rattle.refusals.proofs.Events.{event_refusal}
use Rattle.entering.specs.StepIn.{Answered, IsStepIn, Does}

pub own_event : (tb : Table) (e : Event) (log : List ℕ) {r : Answered} {heads rows : List (List ℕ)} {after : List ℕ} → (sound_of tb ≡ true) × (length log ≡ tb.capacity) → (a : Act) → e.act ≡ a
    → Does (own_checks a e.tx.0 e.rm.0 tb) (acted a e.tx.0 e.rm.0 tb log) tb log r heads rows after → IsStepIn tb e log r heads rows after
own_event tb e log (sound, long) a q does = does e (event_refusal tb e (length log) sound long a q) (ap (λ x. acted x e.tx.0 e.rm.0 tb log) q)

-- the five that are about one enlistment have one function
pub about_event : (tb : Table) (e : Event) (log : List ℕ) {r : Answered} {heads rows : List (List ℕ)} {after : List ℕ} → (sound_of tb ≡ true) × (length log ≡ tb.capacity) → (n : ℕ) (a : Act) → a ≡ e.act
    → (e.act ≡ act.ZeroDone n) ⊎ (((v : Vote) × (e.act ≡ act.Vote n v)) ⊎ (((v : Reply) × (e.act ≡ act.Reply n v)) ⊎ ((e.act ≡ act.Ack n) ⊎ (e.act ≡ act.Lost n))))
    → Does (about_one_checks tb n a) (reacted_of n a tb log) tb log r heads rows after → IsStepIn tb e log r heads rows after
unfolding acted
about_event tb e log {r} {heads} {rows} {after} fine n a is told does = elim told [
  | inl q ↦ own_event tb e log fine (act.ZeroDone n) q (of (act.ZeroDone n) q)
  | inr u ↦ elim u [
    | inl (v, q) ↦ own_event tb e log fine (act.Vote n v) q (of (act.Vote n v) q)
    | inr w ↦ elim w [
      | inl (v, q) ↦ own_event tb e log fine (act.Reply n v) q (of (act.Reply n v) q)
      | inr x ↦ elim x [
        | inl q ↦ own_event tb e log fine (act.Ack n) q (of (act.Ack n) q)
        | inr q ↦ own_event tb e log fine (act.Lost n) q (of (act.Lost n) q)
      ]
    ]
  ]
]
  where
    of : (b : Act) → e.act ≡ b → Does (about_one_checks tb n b) (reacted_of n b tb log) tb log r heads rows after
    of b q = subst (λ x. Does (about_one_checks tb n x) (reacted_of n x tb log) tb log r heads rows after) (is ∙ q) does
