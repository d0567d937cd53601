-- A signal goes to an enlistment that the event's own transaction holds, or to the application: so that it is about that transaction. Whether it is a verdict, its
-- name says.
use Prim.Native.Nat.{ℕ}
use mathlib.Core.Path.{◌≡◌, refl, sym, ◌∙◌, ap}
use mathlib.Core.Logic.{◌⊎◌, inl, inr}
use mathlib.Core.Bool.{Bool, true, false, true≢false}
use mathlib.Core.List.{List, [], ◌∷◌, map}
use lib.Dec.{eqb}
use borrow.Author.Tests.{eq-eqb}
use Rattle.lists.specs.Members.{Each, Some}
use Rattle.lists.specs.Sorting.{sort_by}
use Rattle.lists.proofs.Tests.{by_test, by_either, of_map, each_nothing, each_one}
use Rattle.lists.proofs.Sorting.{of_sort}
use Rattle.rules.specs.declared.Enlistment.{Enlistment}
use Rattle.rules.specs.declared.Table.{Table}
use Rattle.rules.specs.declared.Event.{Event}
use Rattle.rules.specs.declared.Name.{Name}
use Rattle.rules.specs.declared.Name.TheVariants as name
use Rattle.rules.specs.declared.Signal.{Signal}
use Rattle.rules.specs.Identifiers.{Id}
use Rattle.rules.specs.Signals.{by_number, signal, to_each, Committed, Aborted}
use Rattle.safety.specs.World.{Message, owner_of, subject_of, message_of}
use Rattle.safety.proofs.Alone.{New}
use Rattle.safety.proofs.Move.{Quiet}

-- ── names ───────────────────────────────────────────────────────────────────────────────────────────────────────

abbrev pub not_committed : Name → Bool
not_committed name.Nothing = true
not_committed name.Zero = true
not_committed name.Prepare = true
not_committed name.Single = true
not_committed name.Commit = false
not_committed name.Abort = true
not_committed name.AppCommitted = false
not_committed name.AppAborted = true
not_committed name.AppInDoubt = true
not_committed name.AnswerCommitted = false
not_committed name.AnswerAborted = true
not_committed name.AnswerNotYet = true

abbrev pub not_aborted : Name → Bool
not_aborted name.Nothing = true
not_aborted name.Zero = true
not_aborted name.Prepare = true
not_aborted name.Single = true
not_aborted name.Commit = true
not_aborted name.Abort = false
not_aborted name.AppCommitted = true
not_aborted name.AppAborted = false
not_aborted name.AppInDoubt = true
not_aborted name.AnswerCommitted = true
not_aborted name.AnswerAborted = false
not_aborted name.AnswerNotYet = true

-- a name that passes is none of three that do not
is_none : (f : Name → Bool) {x y z : Name} → f x ≡ false → f y ≡ false → f z ≡ false → (a : Name) → f a ≡ true → (a ≡ x) ⊎ ((a ≡ y) ⊎ (a ≡ z)) → ⊥
is_none f x y z a e (inl p) = true≢false (sym e ∙ ap f p ∙ x)
is_none f x y z a e (inr (inl p)) = true≢false (sym e ∙ ap f p ∙ y)
is_none f x y z a e (inr (inr p)) = true≢false (sym e ∙ ap f p ∙ z)

is_not_committed : (a : Name) → not_committed a ≡ true → Committed a → ⊥
is_not_committed = is_none not_committed refl refl refl

is_not_aborted : (a : Name) → not_aborted a ≡ true → Aborted a → ⊥
is_not_aborted = is_none not_aborted refl refl refl

-- every signal's name passes a test
abbrev pub Only : (Name → Bool) → List Signal → Type 0
Only f ss = Each (λ s. f s.name ≡ true) ss

pub only_nothing : (f : Name → Bool) → Only f []
only_nothing f = each_nothing (λ s. f s.name ≡ true)

pub only_one : (f : Name → Bool) (a : Name) (n : ℕ) → f a ≡ true → Only f (signal a n ∷ [])
only_one f a n e = each_one (λ s. f s.name ≡ true) e

pub only_each : (f : Name → Bool) (a : Name) (es : List Enlistment) → f a ≡ true → Only f (to_each a es)
unfolding to_each
only_each f a es e s m = sym (ap (λ (s : Signal). f s.name) (of_map (λ e. signal a e.number) (sort_by by_number es) m).holds) ∙ e

-- ── whom they are about ─────────────────────────────────────────────────────────────────────────────────────────

-- a signal is about the event's transaction, or it is no verdict
abbrev Home : Table → Event → Signal → Type 0
Home tb e s = ((message_of tb e s).about ≡ subject_of tb e) ⊎ ((not_committed s.name ≡ true) × (not_aborted s.name ≡ true))

abbrev pub Addressed : Table → Event → List Signal → Type 0
Addressed tb e ss = Each (Home tb e) ss

-- an enlistment's number belongs to t
abbrev pub Owned : Table → Id → ℕ → Type 0
Owned tb t n = (n ≡ 0) ⊎ (owner_of n tb ≡ t)

pub owned_about : (tb : Table) (e : Event) (a : Name) (n : ℕ) → Owned tb (subject_of tb e) n → (message_of tb e (signal a n)).about ≡ subject_of tb e
unfolding message_of
owned_about tb e a n (inl q) = rw (eq-eqb n 0 q) refl
owned_about tb e a n (inr q) = by_test (eqb n 0) (λ t. rw t refl) (λ t. rw t q)

module _ (tb : Table) (e : Event) where
  pub addressed_nothing : Addressed tb e []
  addressed_nothing = each_nothing (Home tb e)

  pub addressed_one : (a : Name) (n : ℕ) → Owned tb (subject_of tb e) n → Addressed tb e (signal a n ∷ [])
  addressed_one a n o = each_one (Home tb e) (inl (owned_about tb e a n o))

  pub addressed_neutral : (ss : List Signal) → Only not_committed ss → Only not_aborted ss → Addressed tb e ss
  addressed_neutral ss f g s m = inr (f s m, g s m)

  pub addressed_each : (a : Name) (es : List Enlistment) → Each (λ x. Owned tb (subject_of tb e) x.number) es → Addressed tb e (to_each a es)
  unfolding to_each
  addressed_each a es o s m = go (of_map (λ e. signal a e.number) (sort_by by_number es) m)
    where
      go : Some (λ x. signal a x.number ≡ s) (sort_by by_number es) → Home tb e s
      go w = inl (rw (← w.holds) (owned_about tb e a w.it.number (o w.it (of_sort by_number es w.there))))

module _ (t : Id) (tb : Table) (e : Event) (ss : List Signal) where
  none_such : (P : Name → Type 0) (f : Name → Bool) → ((a : Name) → f a ≡ true → P a → ⊥) → Only f ss → New t P (map (message_of tb e) ss) → ⊥
  unfolding message_of
  none_such P f not_named o m = go (of_map (message_of tb e) ss m.there)
    where
      go : Some (λ s. message_of tb e s ≡ m.it) ss → ⊥
      go s = not_named s.it.name (o s.it s.there) (rw (← s.holds) at m.holds.1)

  pub none_committed : Only not_committed ss → New t Committed (map (message_of tb e) ss) → ⊥
  none_committed = none_such Committed not_committed is_not_committed

  pub none_aborted : Only not_aborted ss → New t Aborted (map (message_of tb e) ss) → ⊥
  none_aborted = none_such Aborted not_aborted is_not_aborted

  pub quiet : Only not_committed ss → Only not_aborted ss → Quiet t (map (message_of tb e) ss)
  quiet a b = record { no_committed = none_committed a; no_aborted = none_aborted b }

  -- verdicts are about the event's transaction alone
  pub quiet_other : (t ≡ subject_of tb e → ⊥) → Addressed tb e ss → Quiet t (map (message_of tb e) ss)
  unfolding message_of
  quiet_other d addressed = record { no_committed = none Committed (λ s w. is_not_committed s.name w.0); no_aborted = none Aborted (λ s w. is_not_aborted s.name w.1) }
    where
      none : (P : Name → Type 0) → ((s : Signal) → (not_committed s.name ≡ true) × (not_aborted s.name ≡ true) → P s.name → ⊥) → New t P (map (message_of tb e) ss) → ⊥
      none P not_named m = go (of_map (message_of tb e) ss m.there)
        where
          go : Some (λ s. message_of tb e s ≡ m.it) ss → ⊥
          go s = by_either (λ w. d (sym m.holds.0 ∙ sym (ap (λ (m : Message). m.about) s.holds) ∙ w)) (λ w. not_named s.it w (rw (← s.holds) at m.holds.1)) (addressed s.it s.there)
