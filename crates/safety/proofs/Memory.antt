-- A decision is remembered: what is always true of a transaction of which a committed message has left, and about which somebody may
-- ask, leaves it no other state than Committing.
use Prim.Native.Nat.{ℕ}
use mathlib.Core.Path.{◌≡◌, refl, sym, ◌∙◌}
use mathlib.Core.Logic.{inl, inr}
use mathlib.Core.List.{List, [], ◌∷◌}
use borrow.Author.Tests.{eq-eqb}
use Rattle.lists.specs.Members.{Some}
use Rattle.lists.proofs.Tests.{no_clash}
use Rattle.rules.specs.declared.Table.{Table}
use Rattle.rules.specs.declared.Name.TheVariants as name
use Rattle.rules.specs.TransactionState as transaction
use Rattle.rules.specs.Identifiers.{Id}
use Rattle.rules.specs.Table.{place_named, state_at}
use Rattle.rules.specs.Sound.{sound_of}
use Rattle.rules.specs.Signals.{signal, Committed}
use Rattle.rules.specs.Events.{acted, ask_of}
use Rattle.rules.specs.Step.{step_of}
use Rattle.rules.proofs.Refused.{step_done, step_refusal}
use Rattle.safety.specs.World.{Note, Message, Issued, used_part}
use Rattle.safety.specs.Host.{MayAsk}
use Rattle.safety.specs.Demand3.{About}
use Rattle.safety.specs.Beyond.{Remembers, Remembered, AnsweredCommitted, ReconnectAnswered}
use Rattle.safety.proofs.Alone.{Story, View, out, early, voting, single, committing, aborting, Waits, Shape}
use Rattle.safety.proofs.Top.{Always, always}
use Rattle.safety.proofs.Story.{story_of}
use Rattle.safety.proofs.View.{view_of, Shows, shows_committing}
use Rattle.safety.proofs.Steps.{step_needs_sound, zero_unsound}
use Rattle.safety.proofs.Safety.{refines}

-- ── no other shape is left ──────────────────────────────────────────────────────────────────────────────────────

abbrev Told : Id → View → Type 0
Told r v = Shows (Some (Waits r)) v

module _ (t r : Id) (l : Story) (h : List Note) (waiting sent : List Issued) (issued : List Message) (c : About t Committed sent) (m : MayAsk t r h) where
  must_be_told : (v : View) → Shape t v l h waiting sent issued → Told r v
  must_be_told out s = absurd (s.no_ask (inr c) r m)
  must_be_told (early es) s = absurd (s.undecided.no_committed (inr c))
  must_be_told (voting es) s = absurd (s.undecided.no_committed (inr c))
  must_be_told (single es) s = absurd (s.undecided.no_committed (inr c))
  must_be_told (committing es) s = record { es = es; is = refl; holds = s.wait r m }
  must_be_told aborting s = absurd (s.no_committed (inr c))

remembers : (t r : Id) (tb : Table) → Told r (view_of t tb) → Remembers t r tb
remembers t r tb w = let (q, waits) = shows_committing (Some (Waits r)) t tb w in record { state = q; waits = waits }

pub remembered : Remembered
unfolding Remembered refines
remembered w run used t r c m = go (always refines run)
  where
    go : Always refines w → Remembers t r w.table
    go (inl a) = remembers t r w.table (must_be_told t r (story_of t (used_part w.table w.log)) w.notes w.waiting w.sent w.issued c m (view_of t w.table) (a.shape t))
    go (inr d) = absurd (used d.none_used)

-- ── the answer ──────────────────────────────────────────────────────────────────────────────────────────────────

answer_is : (p : ℕ) (r : Id) (tb : Table) (log : List ℕ) → state_at p tb ≡ transaction.committing → (n : ℕ) × ((ask_of p r tb log).signals ≡ signal name.AnswerCommitted n ∷ [])
unfolding ask_of
answer_is p r tb log state = rw state (_, refl)

pub reconnect_answered : ReconnectAnswered
unfolding ReconnectAnswered acted
reconnect_answered tb e log is_ask state ok = rw (step_done tb e log (sym (step_refusal tb e log) ∙ ok), is_ask) (answer_is (place_named e.tx.0 tb) e.rm.0 tb log state)

pub answered_committed : AnsweredCommitted
unfolding AnsweredCommitted Remembered ReconnectAnswered
answered_committed w run e is_ask c m ok = reconnect_answered w.table e w.log is_ask (remembered w run used e.tx.0 e.rm.0 c m).state ok
  where
    used : w.table.used ≡ 0 → ⊥
    used z = no_clash (sound_of w.table) (step_needs_sound w.table e w.log (eq-eqb (step_of w.table e w.log).refusal 0 ok)) (zero_unsound w.table z)
