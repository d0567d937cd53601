-- One transaction, seen alone: what a log tells of it, how a table shows it, and what is always true of both. A story only goes on, from none to open to closed:
-- so to tell less is an order, and each law of it goes by the cases of two stories.
use Prim.Native.Nat.{ℕ}
use native.Mathlib.Omega.{arith}
use mathlib.Core.Path.{◌≡◌, refl, ◌∙◌, ap}
use mathlib.Core.Logic.{◌⊎◌}
use mathlib.Core.List.{List, map}
use Rattle.lists.specs.Members.{◌∈◌, Each, Some}
use Rattle.rules.specs.declared.Enlistment.{Enlistment}
use Rattle.rules.specs.declared.Name.{Name}
use Rattle.rules.specs.declared.Name.TheVariants as name
use Rattle.rules.specs.Kinds as kind
use Rattle.rules.specs.EnlistmentState as enlistment
use Rattle.rules.specs.Identifiers.{Id}
use Rattle.rules.specs.Sound.{In, Durable}
use Rattle.rules.specs.Log.{Entry}
use Rattle.safety.specs.World.{Note, Message, Issued}
use Rattle.safety.specs.Host.{MayAsk}
use Rattle.rules.specs.Signals.{Committed, Aborted}
use Rattle.safety.specs.Demand3.{About, Votes, VotedYes, AllVotedYes, OnlyOne, OnlyOneCommitted}
use Rattle.lists.proofs.Tests.{some_any, any_some, none_each, by_either}
use Rattle.lists.specs.Lists.{any}
use borrow.Author.Tests.{eq-eqb, eqb-true, eqb-false}
use Rattle.rules.specs.Table.{is_durable}
use mathlib.Core.Bool.{true, false}

-- ── the story of the transaction in a log ───────────────────────────────────────────────────────────────────────

pub data Story : Type 0 where
  none : Story
  -- a commit record with these entries, and no forget record
  open_with : List Entry → Story
  closed : Story
  -- any other sequence of records
  bad : Story

-- a part of the log from its start tells less
abbrev pub Below : Story → Story → Type 0
Below none s = Unit {0}
Below (open_with rs) none = ⊥
Below (open_with rs) (open_with qs) = rs ≡ qs
Below (open_with rs) closed = Unit {0}
Below (open_with rs) bad = Unit {0}
Below closed none = ⊥
Below closed (open_with qs) = ⊥
Below closed closed = Unit {0}
Below closed bad = Unit {0}
Below bad none = ⊥
Below bad (open_with qs) = ⊥
Below bad closed = ⊥
Below bad bad = Unit {0}

pub below_refl : (s : Story) → Below s s
below_refl none = tt
below_refl (open_with rs) = refl
below_refl closed = tt
below_refl bad = tt

pub below_trans : (a b c : Story) → Below a b → Below b c → Below a c
below_trans none b c p q = tt
below_trans (open_with rs) none c p q = elim p [ ]
below_trans (open_with rs) (open_with qs) none p q = q
below_trans (open_with rs) (open_with qs) (open_with ps) p q = p ∙ q
below_trans (open_with rs) (open_with qs) closed p q = tt
below_trans (open_with rs) (open_with qs) bad p q = tt
below_trans (open_with rs) closed none p q = q
below_trans (open_with rs) closed (open_with ps) p q = elim q [ ]
below_trans (open_with rs) closed closed p q = tt
below_trans (open_with rs) closed bad p q = tt
below_trans (open_with rs) bad none p q = q
below_trans (open_with rs) bad (open_with ps) p q = elim q [ ]
below_trans (open_with rs) bad closed p q = tt
below_trans (open_with rs) bad bad p q = tt
below_trans closed none c p q = elim p [ ]
below_trans closed (open_with qs) c p q = elim p [ ]
below_trans closed closed c p q = q
below_trans closed bad none p q = q
below_trans closed bad (open_with ps) p q = q
below_trans closed bad closed p q = tt
below_trans closed bad bad p q = tt
below_trans bad none c p q = elim p [ ]
below_trans bad (open_with qs) c p q = elim p [ ]
below_trans bad closed c p q = elim p [ ]
below_trans bad bad c p q = q

pub below_both : (a b : Story) → Below a b → Below b a → a ≡ b
below_both none none p q = refl
below_both none (open_with qs) p q = absurd q
below_both none closed p q = absurd q
below_both none bad p q = absurd q
below_both (open_with rs) none p q = absurd p
below_both (open_with rs) (open_with qs) p q = ap open_with p
below_both (open_with rs) closed p q = absurd q
below_both (open_with rs) bad p q = absurd q
below_both closed none p q = absurd p
below_both closed (open_with qs) p q = absurd p
below_both closed closed p q = refl
below_both closed bad p q = absurd q
below_both bad none p q = absurd p
below_both bad (open_with qs) p q = absurd p
below_both bad closed p q = absurd p
below_both bad bad p q = refl

abbrev pub Logged : Story → Type 0
Logged none = ⊥
Logged (open_with rs) = Unit {0}
Logged closed = Unit {0}
Logged bad = Unit {0}

pub logged_up : (a b : Story) → Below a b → Logged a → Logged b
logged_up none b p q = elim q [ ]
logged_up (open_with rs) none p q = p
logged_up (open_with rs) (open_with qs) p q = tt
logged_up (open_with rs) closed p q = tt
logged_up (open_with rs) bad p q = tt
logged_up closed none p q = p
logged_up closed (open_with qs) p q = tt
logged_up closed closed p q = tt
logged_up closed bad p q = tt
logged_up bad none p q = p
logged_up bad (open_with qs) p q = tt
logged_up bad closed p q = tt
logged_up bad bad p q = tt

pub fine_down : (a b : Story) → Below a b → (b ≡ bad → ⊥) → a ≡ bad → ⊥
fine_down none b p f e = never e
  where
    never : none ≡ bad → ⊥
    never p = let z : ◌≡◌ {A = ℕ} 0 1 = cc in omega arith
fine_down (open_with rs) b p f e = never e
  where
    never : open_with rs ≡ bad → ⊥
    never p = let z : ◌≡◌ {A = ℕ} 0 1 = cc in omega arith
fine_down closed b p f e = never e
  where
    never : closed ≡ bad → ⊥
    never p = let z : ◌≡◌ {A = ℕ} 0 1 = cc in omega arith
fine_down bad none p f e = p
fine_down bad (open_with rs) p f e = p
fine_down bad closed p f e = p
fine_down bad bad p f e = f refl

pub none_not_open : {s : Story} → s ≡ none → (rs : List Entry) → s ≡ open_with rs → ⊥
none_not_open e rs p = let z : ◌≡◌ {A = ℕ} 0 1 = cc in omega arith

pub closed_not_open : {s : Story} → s ≡ closed → (rs : List Entry) → s ≡ open_with rs → ⊥
closed_not_open e rs p = let z : ◌≡◌ {A = ℕ} 0 1 = cc in omega arith

-- ── the view of the transaction in a table ──────────────────────────────────────────────────────────────────────

pub data View : Type 0 where
  out : View
  -- Active or Phase Zero; Phase One; Single Phase; Committing; Aborting
  early voting single committing : List Enlistment → View
  aborting : View

-- The places that a claim of r rests on: its durable one has voted; it is told, or will be told.
abbrev pub Hopes : Id → Enlistment → Type 0
Hopes r e = Durable e × (e.rm.0 ≡ r) × (In enlistment.prepared e ⊎ In enlistment.prepared_lost e)

abbrev pub Waits : Id → Enlistment → Type 0
Waits r e = Durable e × (e.rm.0 ≡ r) × (In enlistment.told_commit e ⊎ In enlistment.failed_to_notify e)

-- number, resource manager and kind, as they were accepted
abbrev pub Is : ℕ → Id → ℕ → Enlistment → Type 0
Is n r k e = (e.number ≡ n) × (e.rm.0 ≡ r) × (e.kind ≡ k)

abbrev pub Unasked : ℕ → Id → ℕ → Enlistment → Type 0
Unasked n r k e = Is n r k e × Votes e.kind

abbrev pub Preparing : ℕ → Id → ℕ → Enlistment → Type 0
Preparing n r k e = Is n r k e × In enlistment.preparing e

abbrev pub NoDurable : List Enlistment → Type 0
NoDurable es = Each (λ e. Durable e → ⊥) es

pub durable_any : (es : List Enlistment) → Some Durable es → any is_durable es ≡ true
durable_any es s = some_any is_durable es (record { it = s.it; there = s.there; holds = eq-eqb s.it.kind kind.durable s.holds })

pub any_durable : (es : List Enlistment) → any is_durable es ≡ true → Some Durable es
any_durable es e = let s : Some (λ x. is_durable x ≡ true) es = any_some is_durable es e in record { it = s.it; there = s.there; holds = eqb-true s.it.kind kind.durable s.holds }

pub none_durable : (es : List Enlistment) → any is_durable es ≡ false → NoDurable es
none_durable es n e m = eqb-false e.kind kind.durable (none_each is_durable es n e m)

-- who waits is not Done
pub waits_undone : {r : Id} (e : Enlistment) → Waits r e → In enlistment.done e → ⊥
waits_undone e w d = by_either (λ q. omega (arith, q, d)) (λ q. omega (arith, q, d)) w.2

-- the resource managers that a record names
abbrev pub managers_of : List Entry → List Id
managers_of rs = map (λ d. d.rm) rs

-- the numbers of a record's entries are held
abbrev pub Entered : List Entry → List Enlistment → Type 0
Entered rs es = Each (λ d. Some (λ e. e.number ≡ d.number) es) rs

-- a transaction in Committing has its record in the log, unless it holds none that is durable
abbrev pub RecordOrNone : Story → List Enlistment → Type 0
RecordOrNone l es = ((rs : List Entry) × (l ≡ open_with rs) × Some Durable es × Entered rs es) ⊎ ((l ≡ none) × NoDurable es)

-- ── one transaction ─────────────────────────────────────────────────────────────────────────────────────────────

module _ (t : Id) where
  abbrev pub Begun : List Note → Type 0
  Begun h = Note.begun t ∈ h

  abbrev pub NoAsk : List Note → Type 0
  NoAsk h = (r : Id) → MayAsk t r h → ⊥

  abbrev pub Good : List Note → List Message → Type 0
  Good h ms = AllVotedYes t h ⊎ OnlyOneCommitted t h ms

  abbrev pub AsksIn : Story → List Note → Type 0
  AsksIn none h = Unit {0}
  AsksIn (open_with rs) h = (r : Id) → MayAsk t r h → r ∈ managers_of rs
  AsksIn closed h = NoAsk h
  AsksIn bad h = NoAsk h

  -- among new messages
  abbrev pub New : (Name → Type 0) → List Message → Type 0
  New P ms = Some (λ m. (m.about ≡ t) × P m.name) ms

  abbrev pub Any : (Name → Type 0) → List Issued → List Issued → Type 0
  Any P waiting sent = About t P waiting ⊎ About t P sent

  -- What is true at any time of the log, the disk, the history and the messages.
  pub record Base (story_of : List ℕ → Story) (log disk : Story) (h : List Note) (waiting sent : List Issued) (issued : List Message) : Type 0 where
    pub fine : log ≡ bad → ⊥
    pub below : Below disk log
    pub begun_log : Logged log → Begun h
    pub begun_committed : Any Committed waiting sent → Begun h
    pub begun_aborted : Any Aborted waiting sent → Begun h
    pub begun_enlisted : (n : ℕ) (r : Id) (k : ℕ) → Note.enlisted t n r k ∈ h → Begun h
    pub begun_ask : (r : Id) → MayAsk t r h → Begun h
    pub both : Any Committed waiting sent → Any Aborted waiting sent → ⊥
    pub good_committed : Any Committed waiting sent → Good h issued
    pub good_log : Logged log → Good h issued
    pub kept : Logged log → Any Aborted waiting sent → ⊥
    pub asks : AsksIn log h
    pub waits : (i : Issued) → i ∈ waiting → i.message.about ≡ t → Committed i.message.name → NoAsk h ⊎ Logged (story_of i.image)
    pub leaves : (i : Issued) → i ∈ sent → i.message.about ≡ t → Committed i.message.name → NoAsk h ⊎ Logged disk

  -- What is true of the view, where the table is sound.
  pub record Undecided (log : Story) (h : List Note) (waiting sent : List Issued) : Type 0 where
    pub log_none : log ≡ none
    pub begun : Begun h
    pub no_committed : Any Committed waiting sent → ⊥
    pub no_aborted : Any Aborted waiting sent → ⊥

  pub record ShapeOut (log : Story) (h : List Note) (waiting sent : List Issued) : Type 0 where
    pub not_open : (rs : List Entry) → log ≡ open_with rs → ⊥
    pub no_ask : Any Committed waiting sent → NoAsk h

  pub record ShapeEarly (es : List Enlistment) (log : Story) (h : List Note) (waiting sent : List Issued) : Type 0 where
    pub undecided : Undecided log h waiting sent
    pub no_ask : NoAsk h
    pub held : (n : ℕ) (r : Id) (k : ℕ) → Note.enlisted t n r k ∈ h → Votes k → Some (Unasked n r k) es
    pub noted : Each (λ e. Note.enlisted t e.number e.rm.0 e.kind ∈ h) es

  pub record ShapeVoting (es : List Enlistment) (log : Story) (h : List Note) (waiting sent : List Issued) : Type 0 where
    pub undecided : Undecided log h waiting sent
    pub held : (n : ℕ) (r : Id) (k : ℕ) → Note.enlisted t n r k ∈ h → Votes k → VotedYes t n r k h ⊎ Some (Preparing n r k) es
    pub hopes : (r : Id) → MayAsk t r h → Some (Hopes r) es

  pub record ShapeSingle (es : List Enlistment) (log : Story) (h : List Note) (waiting sent : List Issued) (issued : List Message) : Type 0 where
    pub undecided : Undecided log h waiting sent
    pub no_ask : NoAsk h
    pub number : ℕ
    pub numbers : Each (λ e. e.number ≡ number) es
    pub one : OnlyOne t number h
    pub asked : record { about = t; name = name.Single; number = number } ∈ issued

  pub record ShapeCommitting (es : List Enlistment) (log : Story) (h : List Note) (waiting sent : List Issued) (issued : List Message) : Type 0 where
    pub begun : Begun h
    pub no_aborted : Any Aborted waiting sent → ⊥
    pub good : Good h issued
    pub wait : (r : Id) → MayAsk t r h → Some (Waits r) es
    -- with a durable place it is open, and without one nobody asks
    pub record_or_none : RecordOrNone log es

  pub record ShapeAborting (log : Story) (h : List Note) (waiting sent : List Issued) : Type 0 where
    pub log_none : log ≡ none
    pub begun : Begun h
    pub no_committed : Any Committed waiting sent → ⊥

  abbrev pub Shape : View → Story → List Note → List Issued → List Issued → List Message → Type 0
  Shape out log h waiting sent issued = ShapeOut log h waiting sent
  Shape (early es) log h waiting sent issued = ShapeEarly es log h waiting sent
  Shape (voting es) log h waiting sent issued = ShapeVoting es log h waiting sent
  Shape (single es) log h waiting sent issued = ShapeSingle es log h waiting sent issued
  Shape (committing es) log h waiting sent issued = ShapeCommitting es log h waiting sent issued
  Shape aborting log h waiting sent issued = ShapeAborting log h waiting sent
