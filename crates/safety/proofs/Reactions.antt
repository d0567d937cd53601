-- The events about one enlistment. Its state tells that of its transaction, since the table is sound; and then what becomes of the enlistment, and what follows, is
-- one of that transaction's moves.
use Prim.Native.Nat.{ℕ, ◌+◌, ◌≤◌}
use native.Mathlib.Omega.{arith}
use native.Mathlib.Decide.{ℕ_discrete}
use mathlib.Core.Path.{◌≡◌, refl, sym, ◌∙◌, ap, subst}
use mathlib.Core.Logic.{◌⊎◌, inl, inr}
use mathlib.Core.Bool.{true, false, ◌||◌, true≢false}
use mathlib.Core.List.{List, [], map}
use lib.ListN.{length}
use lib.Dec.{eqb}
use borrow.Author.Tests.{eqb-true, eqb-false, eq-eqb, ne_eqb}
use Rattle.lists.specs.Members.{◌∈◌, Some}
use Rattle.lists.specs.Lists.{any}
use Rattle.lists.proofs.Tests.{by_cases, by_either, true_or, none_each, member_some}
use Rattle.lists.proofs.Places.{in_places}
use Rattle.rules.specs.declared.Enlistment.{Enlistment}
use Rattle.rules.specs.declared.Table.{Table}
use Rattle.rules.specs.declared.TxId.{TxId}
use Rattle.rules.specs.declared.RmId.{RmId}
use Rattle.rules.specs.declared.Event.{Event}
use Rattle.rules.specs.declared.Act.{Act}
use Rattle.rules.specs.declared.Act.TheVariants as act
use Rattle.rules.specs.declared.Vote.{Vote}
use Rattle.rules.specs.declared.Vote.TheVariants as vote
use Rattle.rules.specs.declared.Reply.{Reply}
use Rattle.rules.specs.declared.Reply.TheVariants as reply
use Rattle.rules.specs.declared.Name.{Name}
use Rattle.rules.specs.declared.Name.TheVariants as name
use Rattle.rules.specs.declared.Reaction.{Reaction}
use Rattle.rules.specs.declared.Reaction.TheVariants as reaction
use Rattle.rules.specs.declared.FollowUp.TheVariants as then
use Rattle.rules.specs.Kinds as kind
use Rattle.rules.specs.TransactionState as transaction
use Rattle.rules.specs.EnlistmentState as enlistment
use Rattle.rules.specs.Sizes.{identifier_size}
use Rattle.rules.specs.Identifiers.{Id}
use Rattle.rules.specs.Table.{no_transaction, transaction_at, state_at, held, numbered, is_numbered, is_phase_zero, durable_kind, is_durable, is_in, in_state, freed, on_number, change_held, change_number, place_named}
use Rattle.rules.specs.Sound.{Sound, In, Durable, PhaseZero, is_open, open_places, Held}
use Rattle.rules.specs.Log.{forget_size}
use Rattle.rules.specs.Signals.{to_app}
use Rattle.rules.specs.Events.{quietly, to_vote, to_reply, to_lost, reaction_of, follow, react}
use Rattle.rules.specs.Refusals.{is_refused}
use Rattle.rules.proofs.Frames.{of_held, held_came, held_own, named_is, named_place, not_zero, Stands, stands_place}
use Rattle.safety.specs.World.{Note, owner_of, told, note_of, message_of, subject_of}
use Rattle.safety.specs.Host.{Prepares, Closes}
use Rattle.safety.specs.Demand3.{Votes, Yes}
use Rattle.safety.proofs.Alone as alone
use Rattle.safety.proofs.Alone.{Story, Hopes, Waits, Is, Unasked, Preparing, NoDurable, durable_any, any_durable}
use Rattle.safety.proofs.Move.{Calm, calm_note, nothing_calm, NotEnlisted, VoteOf, Doomed, from_early, from_voting, from_single, to_out, Move, gather, vote_on, abort, replied, told_on}
use Rattle.safety.proofs.View.{view_of, look, view_in, view_changes, stands_held, held_other}
use Rattle.safety.proofs.Given.{owner_held, Row, in_active, in_zero, in_voting, in_single, in_commit, in_abort, Named}
use Rattle.safety.proofs.Messages.{not_committed, not_aborted, only_nothing, only_one, Owned, addressed_nothing, none_committed, none_aborted, quiet}
use Rattle.safety.proofs.Own.{Own, Touched, unlogged, own_abort, Voted, own_decide, own_end_aborting, own_end_committing, own_start, own_end_saying}
use Rattle.rules.proofs.Kept.{SameKey, key_same, key_either, true_live, sound_kept, keeping_key}
use Rattle.rules.proofs.Put.{member_held}
use Rattle.rules.proofs.Preserved.{used_fits}
use Rattle.rules.proofs.Parts.{id_length}
use Rattle.rules.proofs.Only.{KeepsHeld, frees, kept_held, at_changed}
use Rattle.rules.proofs.Phases.{goes_to}
use Rattle.rules.proofs.Reacting.{on_number_lem}
use Rattle.rules.specs.declared.Transaction.{Transaction}

-- ── the state of the transaction, by that of its enlistment ─────────────────────────────────────────────────────

module _ (s : ℕ) (x : Enlistment) where
  of_active : Row s x → In enlistment.active x → (s ≡ transaction.active) ⊎ (s ≡ transaction.phase_zero)
  of_active (in_active q w) i = q
  of_active (in_zero q z w) i = absurd (omega arith)
  of_active (in_voting q w) i = absurd (by_either (λ y. omega arith) (λ y. by_either (λ v. omega arith) (λ v. omega arith) y) w)
  of_active (in_single q w) i = absurd (omega arith)
  of_active (in_commit q w) i = absurd (by_either (λ y. omega arith) (λ y. by_either (λ v. omega arith) (λ v. omega arith) y) w)
  of_active (in_abort q w) i = absurd (by_either (λ y. omega arith) (λ y. omega arith) w)

  of_zero : Row s x → In enlistment.zero x → (s ≡ transaction.phase_zero) × PhaseZero x
  of_zero (in_active q w) i = absurd (omega arith)
  of_zero (in_zero q z w) i = (q, z)
  of_zero (in_voting q w) i = absurd (by_either (λ y. omega arith) (λ y. by_either (λ v. omega arith) (λ v. omega arith) y) w)
  of_zero (in_single q w) i = absurd (omega arith)
  of_zero (in_commit q w) i = absurd (by_either (λ y. omega arith) (λ y. by_either (λ v. omega arith) (λ v. omega arith) y) w)
  of_zero (in_abort q w) i = absurd (by_either (λ y. omega arith) (λ y. omega arith) w)

  of_voting : Row s x → In enlistment.preparing x ⊎ In enlistment.prepared x → s ≡ transaction.phase_one
  of_voting (in_active q w) i = absurd (by_either (λ y. omega arith) (λ y. omega arith) i)
  of_voting (in_zero q z w) i = absurd (by_either (λ y. omega arith) (λ y. omega arith) i)
  of_voting (in_voting q w) i = q
  of_voting (in_single q w) i = absurd (by_either (λ y. omega arith) (λ y. omega arith) i)
  of_voting (in_commit q (inl w)) i = absurd (by_either (λ y. omega arith) (λ y. omega arith) i)
  of_voting (in_commit q (inr (inl w))) i = absurd (by_either (λ y. omega arith) (λ y. omega arith) i)
  of_voting (in_commit q (inr (inr w))) i = absurd (by_either (λ y. omega arith) (λ y. omega arith) i)
  of_voting (in_abort q (inl w)) i = absurd (by_either (λ y. omega arith) (λ y. omega arith) i)
  of_voting (in_abort q (inr w)) i = absurd (by_either (λ y. omega arith) (λ y. omega arith) i)

  of_single : Row s x → In enlistment.one_phase x → s ≡ transaction.single_phase
  of_single (in_active q w) i = absurd (omega arith)
  of_single (in_zero q z w) i = absurd (omega arith)
  of_single (in_voting q w) i = absurd (by_either (λ y. omega arith) (λ y. by_either (λ v. omega arith) (λ v. omega arith) y) w)
  of_single (in_single q w) i = q
  of_single (in_commit q w) i = absurd (by_either (λ y. omega arith) (λ y. by_either (λ v. omega arith) (λ v. omega arith) y) w)
  of_single (in_abort q w) i = absurd (by_either (λ y. omega arith) (λ y. omega arith) w)

  pub of_commit : Row s x → In enlistment.told_commit x ⊎ In enlistment.failed_to_notify x → s ≡ transaction.committing
  of_commit (in_active q w) i = absurd (by_either (λ y. omega arith) (λ y. omega arith) i)
  of_commit (in_zero q z w) i = absurd (by_either (λ y. omega arith) (λ y. omega arith) i)
  of_commit (in_voting q (inl w)) i = absurd (by_either (λ y. omega arith) (λ y. omega arith) i)
  of_commit (in_voting q (inr (inl w))) i = absurd (by_either (λ y. omega arith) (λ y. omega arith) i)
  of_commit (in_voting q (inr (inr w))) i = absurd (by_either (λ y. omega arith) (λ y. omega arith) i)
  of_commit (in_single q w) i = absurd (by_either (λ y. omega arith) (λ y. omega arith) i)
  of_commit (in_commit q w) i = q
  of_commit (in_abort q (inl w)) i = absurd (by_either (λ y. omega arith) (λ y. omega arith) i)
  of_commit (in_abort q (inr w)) i = absurd (by_either (λ y. omega arith) (λ y. omega arith) i)

  of_abort : Row s x → In enlistment.told_abort x → s ≡ transaction.aborting
  of_abort (in_active q w) i = absurd (omega arith)
  of_abort (in_zero q z w) i = absurd (omega arith)
  of_abort (in_voting q w) i = absurd (by_either (λ y. omega arith) (λ y. by_either (λ v. omega arith) (λ v. omega arith) y) w)
  of_abort (in_single q w) i = absurd (omega arith)
  of_abort (in_commit q w) i = absurd (by_either (λ y. omega arith) (λ y. by_either (λ v. omega arith) (λ v. omega arith) y) w)
  of_abort (in_abort q w) i = q

-- ── the table as it was given ───────────────────────────────────────────────────────────────────────────────────

module _ (tb : Table) (s : Sound tb) (t : Id) (p : ℕ) (at : Stands t p tb) where
  pub live : ((transaction_at p tb).state ≡ 0 → ⊥)
  live = true_live (transaction_at p tb) (named_is t (transaction_at p tb) at.here).0

  some_place : p ≡ 0 → ⊥
  some_place = not_zero (named_place t p tb at.here)

  -- who is held votes, but for P
  pub held_votes : {x : Enlistment} → x ∈ held p tb → is_phase_zero x ≡ false → Votes x.kind
  held_votes {x} m n = by_either (λ q. absurd (eqb-false x.kind kind.phase_zero n q)) (λ q. q) (s.kinds x (of_held p tb m).0 (member_held p tb some_place m)).0

  own_id_size : length t ≡ identifier_size
  own_id_size = ap length (sym (named_is t (transaction_at p tb) at.here).1) ∙ id_length p tb (sound_kept s) live

  pub untouched : Touched t p tb tb
  untouched = record {
    used = refl;
    capacity = refl;
    stands = at;
    other_view = λ u d. refl;
    kept = sound_kept s;
    owned = λ x m. inr (owner_held tb s t p at m).1;
    before = at;
    came = λ x m. record { it = x; there = m; holds = (refl, refl) };
  }

  -- where it is open, there is room for its forget record
  room_open : (log : List ℕ) → length log ≡ tb.capacity → state_at p tb ≡ transaction.committing → Some Durable (held p tb) → tb.used + forget_size ≤ length log
  unfolding open_places
  room_open log full state d = rw full (omega (arith, s.room, member_some (open_places tb) (in_places (λ q x. is_open x.state (held q tb)) no_transaction tb.transactions (named_place t p tb at.here) is_open_lem)))
    where
      is_open_lem : is_open (state_at p tb) (held p tb) ≡ true
      is_open_lem = rw (state, durable_any (held p tb) d) refl

-- ── one enlistment of the transaction changes ───────────────────────────────────────────────────────────────────

module _ (tb : Table) (log : List ℕ) (n : ℕ) (s : Sound tb) (full : length log ≡ tb.capacity) (named : Named tb n) (x : TxId) (y : RmId) where
  abbrev pub t : Id
  t = owner_of n tb

  abbrev pub p : ℕ
  p = (numbered n tb).holder

  abbrev me : Enlistment
  me = numbered n tb

  abbrev hs : List Enlistment
  hs = held p tb

  abbrev pub event : Act → Event
  event a = record { tx = x; rm = y; act = a }

  abbrev changed : (Enlistment → Enlistment) → Table
  changed f = change_number p n f tb

  somewhere : p ≡ 0 → ⊥
  somewhere = some_place tb s t p named.stands

  -- what is held was held, as the same
  abbrev Was : Enlistment → Type 0
  Was w = Some (λ e. SameKey e w) hs

  was : (f : Enlistment → Enlistment) → KeepsHeld f → {w : Enlistment} → w ∈ held p (changed f) → Was w
  was f keeps {w} m = record { it = c.it; there = c.there; holds = subst (SameKey c.it) (sym c.holds) (keeping_key (on_number_lem n keeps c.it (member_held p tb somewhere c.there)) (subst Held c.holds (member_held p (changed f) somewhere m))) }
    where
      c : Some (λ e. w ≡ on_number n f e) hs
      c = held_came p (on_number n f) tb m

  touched : (f : Enlistment → Enlistment) → KeepsHeld f → Touched t p tb (changed f)
  unfolding change_held
  touched f keeps = record {
    used = refl;
    capacity = refl;
    stands = stands_held t p p (on_number n f) tb named.stands;
    other_view = λ u d. held_other t p tb named.stands (on_number n f) u (on_number_lem n keeps) d;
    kept = kept_held p (on_number n f) tb somewhere (on_number_lem n keeps) (sound_kept s);
    owned = λ w m. owned w (was f keeps m);
    before = named.stands;
    came = λ w m. came w (was f keeps m);
  }
    where
      came : (w : Enlistment) → Was w → Some (λ e. (w.rm.0 ≡ e.rm.0) × (w.number ≡ e.number)) hs
      came w q = record { it = q.it; there = q.there; holds = (ap (λ (r : RmId). r.0) q.holds.rm, q.holds.number) }

      owned : (w : Enlistment) → Was w → Owned tb t w.number
      owned w q = inr (rw q.holds.number (owner_held tb s t p named.stands q.there).1)

  -- another number is left alone
  left_alone : (f : Enlistment → Enlistment) (e : Enlistment) → (e.number ≡ n → ⊥) → on_number n f e ≡ e
  left_alone f e d = rw (ne_eqb e.number n d) refl

  is_changed : (f : Enlistment → Enlistment) (e : Enlistment) → e.number ≡ n → on_number n f e ≡ f e
  is_changed f e d = rw (eq-eqb e.number n d) refl

  -- what had P keeps it, unless it is the event's own enlistment
  keep_others : (P : Enlistment → Type 0) (f : Enlistment → Enlistment) → (P me → ⊥) → Some P hs → Some P (held p (changed f))
  keep_others P f nope h = held_own P P p (on_number n f) tb (λ e m q. rw (left_alone f e (λ d. nope (subst P (sym (named.only m d)) q))) (q, refl)) h

  -- the event's own enlistment afterwards
  own_after : (P : Enlistment → Type 0) (f : Enlistment → Enlistment) → P (f me) → (f me).holder ≡ p → Some P (held p (changed f))
  own_after P f q h = held_own (λ e. me ≡ e) P p (on_number n f) tb (λ e m d. rw (← d, is_changed f me named.number) (q, h)) (record { it = me; there = named.mine; holds = refl })

  here : place_named t tb ≡ p
  here = stands_place t p tb named.stands

  -- by the state of the transaction
  view_after : (f : Enlistment → Enlistment) (k : ℕ) → state_at p tb ≡ k → view_of t (changed f) ≡ look k (held p (changed f))
  view_after f k q = view_changes t p tb named.stands (on_number n f) ∙ ap (λ k. look k (held p (changed f))) q

  state_after : (f : Enlistment → Enlistment) (k : ℕ) → state_at p tb ≡ k → state_at p (changed f) ≡ k
  state_after f k q = ap (λ (x : Transaction). x.state) (at_changed p p (on_number n f) tb) ∙ q

  -- ── vote ──────────────────────────────────────────────────────────────────────────────────────────────────────

  module _ (v : Vote) (state : In enlistment.preparing me) where
    abbrev this_event : Event
    this_event = event (act.Vote n v)

    abbrev cast : Note
    cast = Note.voted t n me.rm.0 me.kind v

    voting_state : state_at p tb ≡ transaction.phase_one
    voting_state = of_voting (state_at p tb) me named.line (inl state)

    vote_calm : NotEnlisted t cast
    vote_calm m r k q = let z : ◌≡◌ {A = ℕ} 0 1 = cc in omega arith

    not_hoping : (r : Id) → Hopes r me → ⊥
    not_hoping r h = by_either (λ q. omega arith) (λ q. omega arith) h.2

    voted_preparing : (f : Enlistment → Enlistment) → Yes v → (m : ℕ) (r : Id) (k : ℕ) → Some (Preparing m r k) hs → VoteOf t m r k cast ⊎ Some (Preparing m r k) (held p (changed f))
    voted_preparing f yes-vote m r k h = go (ℕ_discrete m n)
      where
        go : Dec (m ≡ n) → VoteOf t m r k cast ⊎ Some (Preparing m r k) (held p (changed f))
        go (yes q) = let i : Is m r k me = rw (named.only h.there (h.holds.0.0 ∙ q)) h.holds.0 in inl (v, rw (q, i.1, i.2) refl, yes-vote)
        go (no q) = inr (keep_others (Preparing m r k) f (λ w. q (sym w.0.0 ∙ named.number)) h)

    abbrev HasVoted : (f : Enlistment → Enlistment) → KeepsHeld f → Type 0
    HasVoted f keeps = Voted tb this_event log t p (changed f) (touched f keeps) refl hs (note_of tb this_event)

    -- not the last vote
    vote_more : (f : Enlistment → Enlistment) (keeps : KeepsHeld f) → HasVoted f keeps → Own tb this_event log t (quietly (changed f) log)
    vote_more f keeps w = unlogged tb this_event log t p (changed f) (touched f keeps) refl (changed f) [] (addressed_nothing tb this_event) refl (λ u d. refl)
        (λ h made l a. rw (view_in t p tb here transaction.phase_one voting_state, view_after f transaction.phase_one voting_state)
        (vote_on refl (quiet t tb this_event [] (only_nothing not_committed) (only_nothing not_aborted)) w.calm w.preparing w.hopes w.prepares))

    vote_decides : (f : Enlistment → Enlistment) (keeps : KeepsHeld f) → HasVoted f keeps → Own tb this_event log t (follow then.Decide p (changed f) log)
    unfolding follow
    vote_decides f keeps w = by_cases (Own tb this_event log t) (any (is_in enlistment.preparing) (held p (changed f))) _ _
        (λ _. vote_more f keeps w)
        (λ q. own_decide tb this_event log t p (changed f) (touched f keeps) refl hs (view_in t p tb here transaction.phase_one voting_state) (own_id_size tb s t p named.stands) w q
        (full ∙ sym (touched f keeps).capacity) (rw ((touched f keeps).used, (touched f keeps).capacity) (used_fits s))
        (λ c. omega (arith, c, state_after f transaction.phase_one voting_state)))

  own_vote : (v : Vote) → In enlistment.preparing me → Own tb (event (act.Vote n v)) log t (react (to_vote v) p n tb log)
  unfolding react follow told
  own_vote vote.Prepared state = vote_decides vote.Prepared state (in_state enlistment.prepared) (goes_to enlistment.prepared) (record {
    calm = vote_calm vote.Prepared state;
    preparing = voted_preparing vote.Prepared state (in_state enlistment.prepared) (inl refl);
    hopes = λ r h. keep_others (Hopes r) (in_state enlistment.prepared) (not_hoping vote.Prepared state r) h;
    prepares = λ r q. own_after (Hopes r) (in_state enlistment.prepared) (kind_of r q, rm_of r q, inl refl) refl;
  })
    where
      kind_of : (r : Id) → Prepares t r (Note.voted t n me.rm.0 me.kind vote.Prepared) → me.kind ≡ kind.durable
      kind_of r (m, q) = cc

      rm_of : (r : Id) → Prepares t r (Note.voted t n me.rm.0 me.kind vote.Prepared) → me.rm.0 ≡ r
      rm_of r (m, q) = cc
  own_vote vote.ReadOnly state = vote_decides vote.ReadOnly state freed frees (record {
    calm = vote_calm vote.ReadOnly state;
    preparing = voted_preparing vote.ReadOnly state freed (inr refl);
    hopes = λ r h. keep_others (Hopes r) freed (not_hoping vote.ReadOnly state r) h;
    prepares = λ r q. absurd (other r q);
  })
    where
      other : (r : Id) → Prepares t r (Note.voted t n me.rm.0 me.kind vote.ReadOnly) → ⊥
      other r (m, q) = let z : ◌≡◌ {A = ℕ} 0 1 = cc in omega arith
  own_vote vote.Aborted state = own_abort tb (event (act.Vote n vote.Aborted)) log t p (changed (in_state enlistment.done)) (touched (in_state enlistment.done) (goes_to enlistment.done)) refl (rw (view_in t p tb here transaction.phase_one (voting_state vote.Aborted state)) from_voting)

  -- ── after the decision ────────────────────────────────────────────────────────────────────────────────────────

  -- an enlistment in another state
  key : (k : ℕ) (e : Enlistment) → SameKey e (on_number n (in_state k) e)
  key k e = key_either (is_numbered n e) k (key_same e)

  durable_stays : (k : ℕ) → Some Durable hs → Some Durable (held p (changed (in_state k)))
  durable_stays k h = held_own Durable Durable p (on_number n (in_state k)) tb
      (λ e m q. ((key k e).kind ∙ q, (key k e).holder)) h

  numbers_stay : (k m : ℕ) → Some (λ e. e.number ≡ m) hs → Some (λ e. e.number ≡ m) (held p (changed (in_state k)))
  numbers_stay k m h = held_own (λ e. e.number ≡ m) (λ e. e.number ≡ m) p (on_number n (in_state k)) tb
      (λ e i q. ((key k e).number ∙ q, (key k e).holder)) h

  durable_came : (k : ℕ) {w : Enlistment} → w ∈ held p (changed (in_state k)) → Durable w → Some Durable hs
  durable_came k {w} m d = record { it = c.it; there = c.there; holds = sym (key k c.it).kind ∙ sym (ap (λ (e : Enlistment). e.kind) c.holds) ∙ d }
    where
      c : Some (λ e. w ≡ on_number n (in_state k) e) hs
      c = held_came p (on_number n (in_state k)) tb m

  none_stays : (k : ℕ) → NoDurable hs → NoDurable (held p (changed (in_state k)))
  none_stays k no_durable w m d = let c : Some Durable hs = durable_came k m d in no_durable c.it c.there c.holds

  -- who waits still waits, or it is the event's own enlistment
  waits_stays : (k : ℕ) (r : Id) → Some (Waits r) hs → Some (Waits r) (held p (changed (in_state k))) ⊎ ((me.rm.0 ≡ r) × Durable me)
  waits_stays k r h = go (ℕ_discrete h.it.number n)
    where
      go : Dec (h.it.number ≡ n) → Some (Waits r) (held p (changed (in_state k))) ⊎ ((me.rm.0 ≡ r) × Durable me)
      go (yes q) = inr (rw (named.only h.there q) (h.holds.1, h.holds.0))
      go (no q) = inl (held_own (λ e. h.it ≡ e) (Waits r) p (on_number n (in_state k)) tb
          (λ e m d. rw (← d, left_alone (in_state k) h.it q) (h.holds, refl)) (record { it = h.it; there = h.there; holds = refl }))

  -- its forget record fits, if it is open still
  room_after : (k : ℕ) → state_at p tb ≡ transaction.committing → any is_durable (held p (changed (in_state k))) ≡ true → (changed (in_state k)).used + forget_size ≤ length log
  room_after k state d = rw (touched (in_state k) (goes_to k)).used (room_open tb s t p named.stands log full state (durable_came k c.there c.holds))
    where
      c : Some Durable (held p (changed (in_state k)))
      c = any_durable (held p (changed (in_state k))) d

  module _ (a : Act) (about : subject_of tb (event a) ≡ t) (state : state_at p tb ≡ transaction.committing) (calm : Calm t (note_of tb (event a))) where
    -- it is Done
    done_committing : (Durable me → Closes t me.rm.0 (note_of tb (event a))) → Own tb (event a) log t (follow then.End p (changed (in_state enlistment.done)) log)
    unfolding follow
    done_committing closes = own_end_committing tb (event a) log t p (changed (in_state enlistment.done)) (touched (in_state enlistment.done) (goes_to enlistment.done)) about hs
        (view_in t p tb here transaction.committing state) (state_after (in_state enlistment.done) transaction.committing state)
        (record {
          calm = calm;
          waits = λ r h. by_either inl (λ q. inr (rw q.0 at (closes q.1))) (waits_stays enlistment.done r h);
          durable = durable_stays enlistment.done;
          no_durable = none_stays enlistment.done;
          numbers = numbers_stay enlistment.done;
        })
        (own_id_size tb s t p named.stands) (view_after (in_state enlistment.done) transaction.committing state) (room_after enlistment.done state)

  done_aborting : (a : Act) → subject_of tb (event a) ≡ t → state_at p tb ≡ transaction.aborting → Own tb (event a) log t (follow then.End p (changed (in_state enlistment.done)) log)
  unfolding follow
  done_aborting a about state = own_end_aborting tb (event a) log t p (changed (in_state enlistment.done)) (touched (in_state enlistment.done) (goes_to enlistment.done)) about
      (view_in t p tb here transaction.aborting state) (state_after (in_state enlistment.done) transaction.aborting state) (view_after (in_state enlistment.done) transaction.aborting state)

  own_ack : In enlistment.told_commit me ⊎ In enlistment.told_abort me → Own tb (event (act.Ack n)) log t (react (reaction.Becomes enlistment.done then.End) p n tb log)
  unfolding react told
  own_ack (inl state) = done_committing (act.Ack n) refl (of_commit (state_at p tb) me named.line (inl state)) (calm_note t (Note.acked t n me.rm.0 me.kind) refl) (λ d. inl (n, ap (Note.acked t n me.rm.0) d))
  own_ack (inr state) = done_aborting (act.Ack n) refl (of_abort (state_at p tb) me named.line state)

  -- ── the end of single phase ───────────────────────────────────────────────────────────────────────────────────

  single_ends : (a : Act) → subject_of tb (event a) ≡ t → (b : Name) → In enlistment.one_phase me
      → ((h : List Note) (l : Story) → Move t h (note_of tb (event a)) (map (message_of tb (event a)) (to_app b)) l l (alone.single hs) alone.out)
      → Own tb (event a) log t (follow (then.EndWith b) p (changed freed) log)
  unfolding follow
  single_ends a about b state moves = own_end_saying tb (event a) log t p (changed freed) (touched freed frees) about b (λ q. omega (arith, q, state_after freed transaction.single_phase four))
      (λ h made l g. rw (view_in t p tb here transaction.single_phase four) (moves h l))
    where
      four : state_at p tb ≡ transaction.single_phase
      four = of_single (state_at p tb) me named.line state

  own_reply : (r : Reply) → In enlistment.one_phase me → Own tb (event (act.Reply n r)) log t (react (reaction.Freed (then.EndWith (to_reply r))) p n tb log)
  unfolding react told
  own_reply reply.Committed state = single_ends (act.Reply n reply.Committed) refl name.AppCommitted state
      (λ h l. replied refl refl (record { it = me; there = named.mine; holds = named.number }) (none_aborted t tb (event (act.Reply n reply.Committed)) (to_app name.AppCommitted) (only_one not_aborted name.AppCommitted 0 refl)))
  own_reply reply.Aborted state = single_ends (act.Reply n reply.Aborted) refl name.AppAborted state
      (λ h l. abort refl from_single to_out (none_committed t tb (event (act.Reply n reply.Aborted)) (to_app name.AppAborted) (only_one not_committed name.AppAborted 0 refl)))
  own_reply reply.InDoubt state = single_ends (act.Reply n reply.InDoubt) refl name.AppInDoubt state
      (λ h l. abort refl from_single to_out (none_committed t tb (event (act.Reply n reply.InDoubt)) (to_app name.AppInDoubt) (only_one not_committed name.AppInDoubt 0 refl)))

  -- ── zero done ─────────────────────────────────────────────────────────────────────────────────────────────────

  own_zero_done : In enlistment.zero me → Own tb (event (act.ZeroDone n)) log t (react (reaction.Freed then.StartPhaseOne) p n tb log)
  unfolding react follow told
  own_zero_done state = by_cases (Own tb this_event log t) (any is_phase_zero (held p (changed freed))) _ _
      (λ _. unlogged tb this_event log t p (changed freed) (touched freed frees) refl (changed freed) [] (addressed_nothing tb this_event) refl (λ u d. refl)
      (λ h made l g. rw (view_in t p tb here transaction.phase_zero two.0, view_after freed transaction.phase_zero two.0)
      (gather refl (nothing_calm t).not_prepared (quiet t tb this_event [] (only_nothing not_committed) (only_nothing not_aborted)) unasked (λ m r k q w. absurd ((nothing_calm t).not_enlisted m r k q)) (λ e m. inl (same e (was freed frees m))))))
      (λ none. own_start tb this_event log t p (changed freed) (touched freed frees) refl hs (view_in t p tb here transaction.phase_zero two.0) (nothing_calm t) unasked (λ e m. voting e (none_each is_phase_zero (held p (changed freed)) none e m) (was freed frees m)) (λ c. omega (arith, c, state_after freed transaction.phase_zero two.0)))
    where
      this_event : Event
      this_event = event (act.ZeroDone n)

      two : (state_at p tb ≡ transaction.phase_zero) × PhaseZero me
      two = of_zero (state_at p tb) me named.line state

      no_vote : Votes me.kind → ⊥
      no_vote m = by_either (λ q. omega (arith, q, two.1)) (λ q. omega (arith, q, two.1)) m

      unasked : (m : ℕ) (r : Id) (k : ℕ) → Some (Unasked m r k) hs → Some (Unasked m r k) (held p (changed freed))
      unasked m r k h = keep_others (Unasked m r k) freed (λ q. no_vote q.1) h

      same : (e : Enlistment) → Was e → Some (Is e.number e.rm.0 e.kind) hs
      same e w = record { it = w.it; there = w.there; holds = (sym w.holds.number, sym (ap (λ (r : RmId). r.0) w.holds.rm), sym w.holds.kind) }

      voting : (e : Enlistment) → is_phase_zero e ≡ false → Was e → Some (Unasked e.number e.rm.0 e.kind) hs
      voting e q w = record { it = w.it; there = w.there; holds = ((same e w).holds, held_votes tb s t p named.stands w.there (ap (λ k. eqb k kind.phase_zero) (sym w.holds.kind) ∙ q)) }

  -- ── lost ──────────────────────────────────────────────────────────────────────────────────────────────────────

  abbrev lost : Event
  lost = event (act.Lost n)

  lost_abort : Doomed t (view_of t tb) → Own tb lost log t (react (reaction.Becomes enlistment.done then.Abort) p n tb log)
  unfolding react follow
  lost_abort d = own_abort tb lost log t p (changed (in_state enlistment.done)) (touched (in_state enlistment.done) (goes_to enlistment.done)) refl d

  lost_prepared : In enlistment.prepared me → Own tb lost log t (react (reaction.Becomes enlistment.prepared_lost then.Nothing) p n tb log)
  unfolding react follow told
  lost_prepared state = unlogged tb lost log t p (changed (in_state enlistment.prepared_lost)) (touched (in_state enlistment.prepared_lost) (goes_to enlistment.prepared_lost)) refl (changed (in_state enlistment.prepared_lost)) [] (addressed_nothing tb lost) refl (λ u d. refl)
      (λ h made l g. rw (view_in t p tb here transaction.phase_one three, view_after (in_state enlistment.prepared_lost) transaction.phase_one three)
      (vote_on refl (quiet t tb lost [] (only_nothing not_committed) (only_nothing not_aborted)) (nothing_calm t).not_enlisted
      (λ m r k w. inr (keep_others (Preparing m r k) (in_state enlistment.prepared_lost) (λ q. omega (arith, state, q.1)) w))
      (λ r w. held_own (Hopes r) (Hopes r) p (on_number n (in_state enlistment.prepared_lost)) tb (λ e m q. by_cases (λ (v : Enlistment). Hopes r v × (v.holder ≡ e.holder)) (is_numbered n e) (in_state enlistment.prepared_lost e) e (λ _. ((q.0, q.1, inr refl), refl)) (λ _. (q, refl))) w)
      (λ r q. absurd ((nothing_calm t).not_prepared r q))))
    where
      three : state_at p tb ≡ transaction.phase_one
      three = of_voting (state_at p tb) me named.line (inr state)

  lost_single : In enlistment.one_phase me → Own tb lost log t (react (reaction.Freed (then.EndWith name.AppInDoubt)) p n tb log)
  unfolding react
  lost_single state = single_ends (act.Lost n) refl name.AppInDoubt state
      (λ h l. abort refl from_single to_out (none_committed t tb lost (to_app name.AppInDoubt) (only_one not_committed name.AppInDoubt 0 refl)))

  lost_told : In enlistment.told_commit me → Own tb lost log t (react (reaction.Becomes enlistment.failed_to_notify then.Nothing) p n tb log)
  unfolding react follow told
  lost_told state = unlogged tb lost log t p (changed (in_state enlistment.failed_to_notify)) (touched (in_state enlistment.failed_to_notify) (goes_to enlistment.failed_to_notify)) refl (changed (in_state enlistment.failed_to_notify)) [] (addressed_nothing tb lost) refl (λ u d. refl)
      (λ h made l g. rw (view_in t p tb here transaction.committing five, view_after (in_state enlistment.failed_to_notify) transaction.committing five)
      (told_on refl (nothing_calm t) (none_aborted t tb lost [] (only_nothing not_aborted))
      (λ r w. inl (held_own (Waits r) (Waits r) p (on_number n (in_state enlistment.failed_to_notify)) tb (λ e m q. by_cases (λ (v : Enlistment). Waits r v × (v.holder ≡ e.holder)) (is_numbered n e) (in_state enlistment.failed_to_notify e) e (λ _. ((q.0, q.1, inr refl), refl)) (λ _. (q, refl))) w))
      (durable_stays enlistment.failed_to_notify) (none_stays enlistment.failed_to_notify) (numbers_stay enlistment.failed_to_notify)))
    where
      five : state_at p tb ≡ transaction.committing
      five = of_commit (state_at p tb) me named.line (inl state)

  lost_committing : In enlistment.told_commit me → durable_kind me.kind ≡ false → Own tb lost log t (react (reaction.Becomes enlistment.done then.End) p n tb log)
  unfolding react told
  lost_committing state no_durable = done_committing (act.Lost n) refl (of_commit (state_at p tb) me named.line (inl state)) (nothing_calm t) (λ d. absurd (eqb-false me.kind kind.durable no_durable d))

  lost_aborting : In enlistment.told_abort me → Own tb lost log t (react (reaction.Becomes enlistment.done then.End) p n tb log)
  unfolding react
  lost_aborting state = done_aborting (act.Lost n) refl (of_abort (state_at p tb) me named.line state)

  -- before the decision
  early_doomed : In enlistment.active me ⊎ In enlistment.zero me → Doomed t (view_of t tb)
  early_doomed (inl q) = by_either (λ w. rw (view_in t p tb here transaction.active w) from_early) (λ w. rw (view_in t p tb here transaction.phase_zero w) from_early) (of_active (state_at p tb) me named.line q)
  early_doomed (inr q) = rw (view_in t p tb here transaction.phase_zero (of_zero (state_at p tb) me named.line q).0) from_early

  voting_doomed : In enlistment.preparing me ⊎ In enlistment.prepared me → Doomed t (view_of t tb)
  voting_doomed q = rw (view_in t p tb here transaction.phase_one (of_voting (state_at p tb) me named.line q)) from_voting

  -- ── every reaction ────────────────────────────────────────────────────────────────────────────────────────────

  pub record Reacts (a : Act) (r : Reaction) : Type 0 where
    pub gives : is_refused r ≡ false → Own tb (event a) log t (react r p n tb log)

  refuses : (a : Act) → Reacts a reaction.Refused
  refuses a = record { gives = λ q. absurd (true≢false q) }

  reacts_lost : Reacts (act.Lost n) (to_lost me.kind me.state)
  unfolding to_lost
  reacts_lost = by_cases R (eqb k enlistment.active || eqb k enlistment.zero || eqb k enlistment.preparing) _ _
      (λ q. record { gives = λ _. lost_abort (soon q) })
      (λ _. by_cases R (eqb k enlistment.prepared) _ _
      (λ q. by_cases R (durable_kind me.kind) _ _ (λ _. record { gives = λ _. lost_prepared (eqb-true k enlistment.prepared q) }) (λ _. record { gives = λ _. lost_abort (voting_doomed (inr (eqb-true k enlistment.prepared q))) }))
      (λ _. by_cases R (eqb k enlistment.one_phase) _ _
      (λ q. record { gives = λ _. lost_single (eqb-true k enlistment.one_phase q) })
      (λ _. by_cases R (eqb k enlistment.told_commit) _ _
      (λ q. by_cases R (durable_kind me.kind) _ _ (λ _. record { gives = λ _. lost_told (eqb-true k enlistment.told_commit q) }) (λ d. record { gives = λ _. lost_committing (eqb-true k enlistment.told_commit q) d }))
      (λ _. by_cases R (eqb k enlistment.told_abort) _ _ (λ q. record { gives = λ _. lost_aborting (eqb-true k enlistment.told_abort q) }) (λ _. refuses (act.Lost n))))))
    where
      k : ℕ
      k = me.state

      R : Reaction → Type 0
      R = Reacts (act.Lost n)

      soon : (eqb k enlistment.active || eqb k enlistment.zero || eqb k enlistment.preparing) ≡ true → Doomed t (view_of t tb)
      soon q = by_either (λ w. by_either (λ v. early_doomed (inl (eqb-true k enlistment.active v))) (λ v. early_doomed (inr (eqb-true k enlistment.zero v))) (true_or (eqb k enlistment.active) (eqb k enlistment.zero) w)) (λ w. voting_doomed (inl (eqb-true k enlistment.preparing w))) (true_or (eqb k enlistment.active || eqb k enlistment.zero) (eqb k enlistment.preparing) q)

  abbrev ReactsTo : Act → Type 0
  ReactsTo a = Reacts a (reaction_of me.kind me.state a)

  pub reacts_zero_done : ReactsTo (act.ZeroDone n)
  unfolding reaction_of
  reacts_zero_done = by_cases (Reacts (act.ZeroDone n)) (eqb me.state enlistment.zero) _ _ (λ q. record { gives = λ _. own_zero_done (eqb-true me.state enlistment.zero q) }) (λ _. refuses (act.ZeroDone n))

  pub reacts_vote : (v : Vote) → ReactsTo (act.Vote n v)
  unfolding reaction_of
  reacts_vote v = by_cases (Reacts (act.Vote n v)) (eqb me.state enlistment.preparing) _ _ (λ q. record { gives = λ _. own_vote v (eqb-true me.state enlistment.preparing q) }) (λ _. refuses (act.Vote n v))

  pub reacts_reply : (r : Reply) → ReactsTo (act.Reply n r)
  unfolding reaction_of
  reacts_reply r = by_cases (Reacts (act.Reply n r)) (eqb me.state enlistment.one_phase) _ _ (λ q. record { gives = λ _. own_reply r (eqb-true me.state enlistment.one_phase q) }) (λ _. refuses (act.Reply n r))

  pub reacts_ack : ReactsTo (act.Ack n)
  unfolding reaction_of
  reacts_ack = by_cases (Reacts (act.Ack n)) (eqb me.state enlistment.told_commit || eqb me.state enlistment.told_abort) _ _
      (λ q. record { gives = λ _. own_ack (by_either (λ w. inl (eqb-true me.state enlistment.told_commit w)) (λ w. inr (eqb-true me.state enlistment.told_abort w)) (true_or (eqb me.state enlistment.told_commit) (eqb me.state enlistment.told_abort) q)) })
      (λ _. refuses (act.Ack n))

  pub reacts_to_lost : ReactsTo (act.Lost n)
  unfolding reaction_of
  reacts_to_lost = reacts_lost
