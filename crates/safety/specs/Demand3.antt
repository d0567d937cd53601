-- The claim, of every world that a run reaches.
use Rattle.std.specs.Prelude.{ℕ, ◌≡◌, ◌⊎◌, List}
use Rattle.lists.specs.Members.{◌∈◌, Some}
use Rattle.rules.specs.declared.Vote.{Vote}
use Rattle.rules.specs.declared.Vote.TheVariants as vote
use Rattle.rules.specs.declared.Reply.TheVariants as reply
use Rattle.rules.specs.declared.Name.{Name}
use Rattle.rules.specs.declared.Name.TheVariants as name
use Rattle.rules.specs.Kinds as kind
use Rattle.rules.specs.Signals.{Committed, Aborted}
use Rattle.rules.specs.Identifiers.{Id}
use Rattle.safety.specs.World.{Note, Message, Issued, World}
use Rattle.safety.specs.Host.{careful}
use Rattle.safety.specs.Run.{Run}

-- among these messages is one about t whose name is P
abbrev pub About : Id → (Name → Type 0) → List Issued → Type 0
About t P is = Some (λ i. (i.message.about ≡ t) × P i.message.name) is

-- ── "every volatile and durable enlistment voted prepared or read-only" ─────────────────────────────────────────

abbrev pub Votes : ℕ → Type 0
Votes k = (k ≡ kind.volatile) ⊎ (k ≡ kind.durable)

abbrev pub Yes : Vote → Type 0
Yes v = (v ≡ vote.Prepared) ⊎ (v ≡ vote.ReadOnly)

-- the vote is that of the enlistment itself: of its number, its resource manager and its kind
pub record VotedYes (t : Id) (n : ℕ) (r : Id) (k : ℕ) (h : List Note) : Type 0 where
  pub vote : Vote
  pub accepted : Note.voted t n r k vote ∈ h
  pub yes : Yes vote

abbrev pub AllVotedYes : Id → List Note → Type 0
AllVotedYes t h = (n : ℕ) (r : Id) (k : ℕ) → Note.enlisted t n r k ∈ h → Votes k → VotedYes t n r k h

-- ── "or the only one, asked in single phase, answered committed" ────────────────────────────────────────────────

-- a volatile or durable enlistment was accepted in t with this number, and no other one
pub record OnlyOne (t : Id) (number : ℕ) (h : List Note) : Type 0 where
  pub manager : Id
  pub kind : ℕ
  pub enlisted : Note.enlisted t number manager kind ∈ h
  pub votes : Votes kind
  pub only : (n : ℕ) (r : Id) (k : ℕ) → Note.enlisted t n r k ∈ h → Votes k → (n ≡ number) × (r ≡ manager) × (k ≡ kind)

pub record OnlyOneCommitted (t : Id) (h : List Note) (issued : List Message) : Type 0 where
  pub number : ℕ
  pub one : OnlyOne t number h
  pub asked : record { about = t; name = name.Single; number = number } ∈ issued
  pub answered : Note.replied t number reply.Committed ∈ h

-- ── the demand ──────────────────────────────────────────────────────────────────────────────────────────────────

pub record Safe (w : World) : Type 0 where
  -- "no transaction has both a committed and an aborted message sent"
  pub never_both : (t : Id) → About t Committed w.sent → About t Aborted w.sent → ⊥
  -- "Committed is sent only if .."
  pub only_if : (t : Id) → About t Committed w.sent → AllVotedYes t w.notes ⊎ OnlyOneCommitted t w.notes w.issued

-- "From an empty log, after any calls, power cuts and restarts": the claim holds of every world that is reached, so also at the moment
-- of sending.
unfoldable pub Demand3 : Type 0
Demand3 = (w : World) → Run careful w → Safe w
