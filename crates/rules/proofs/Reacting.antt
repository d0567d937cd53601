-- The events about one enlistment. Its state says in which state its transaction is; then it alone changes, and what follows is a part of Parts or Phases.
use Prim.Native.Nat.{ℕ, ◌≤◌}
use native.Mathlib.Omega.{arith}
use mathlib.Core.Path.{◌≡◌, refl, sym, ◌∙◌, ap, subst}
use mathlib.Core.Logic.{◌⊎◌, inl, inr}
use mathlib.Core.Bool.{true, ◌||◌}
use mathlib.Core.List.{List}
use lib.Dec.{eqb}
use borrow.Author.Tests.{eqb-true, eqb-false, eq-eqb, ne_eqb}
use Rattle.lists.specs.Lists.{any}
use Rattle.lists.specs.Members.{◌∈◌, Each, Some}
use Rattle.lists.proofs.Tests.{by_test, by_either, true_or, any_some, none_each, in_filter, first_passes}
use Rattle.lists.proofs.Apart.{apart_one}
use Rattle.rules.specs.declared.Enlistment.{Enlistment}
use Rattle.rules.specs.declared.Table.{Table}
use Rattle.rules.specs.declared.Act.{Act}
use Rattle.rules.specs.declared.Act.TheVariants as act
use Rattle.rules.specs.declared.Name.{Name}
use Rattle.rules.specs.declared.Name.TheVariants as name
use Rattle.rules.specs.declared.FollowUp.TheVariants as then
use Rattle.rules.specs.declared.Vote.{Vote}
use Rattle.rules.specs.declared.Vote.TheVariants as vote
use Rattle.rules.specs.declared.Reply.{Reply}
use Rattle.rules.specs.TransactionState as transaction
use Rattle.rules.specs.EnlistmentState as enlistment
use Rattle.rules.specs.Table.{no_enlistment, is_numbered, numbered, is_phase_zero, is_held, durable_kind, is_in, held, transaction_at, state_at, in_state, freed, on_number, change_number}
use Rattle.rules.specs.Sound.{In, PhaseZero, Durable, HoldsWell, Live, Held, Sound, held_ones}
use Rattle.rules.specs.Events.{to_vote, to_reply, to_lost, reaction_of, follow, react, reacted_of}
use Rattle.rules.proofs.Frames.{of_held, in_held}
use Rattle.rules.proofs.Kept.{Kept, sound_kept, stays, live_some, held_true}
use Rattle.rules.proofs.Only.{only_same, KeepsHeld, frees, only_held, kept_held, at_changed, each_changed, some_changed, room_held}
use Rattle.rules.proofs.Parts.{Part, part_then, end_part, end_if_done_part, Abortable, abort_part, part_same}
use Rattle.rules.proofs.Phases.{goes_to, Zeroing, start_part, Voted, Committed, decide_part, voted_abortable}

-- ── which line of the table of states it is ─────────────────────────────────────────────────────────────────────

-- how an enlistment stands in Phase One, and in Aborting
abbrev Voting : Enlistment → Type 0
Voting e = In enlistment.preparing e ⊎ Voted e

abbrev pub Aborted : Enlistment → Type 0
Aborted e = In enlistment.told_abort e ⊎ In enlistment.done e

pub zeroing_range : (e : Enlistment) → Zeroing e → (1 ≤ e.state) × (e.state ≤ 2)
zeroing_range e (inl h) = (omega arith, omega arith)
zeroing_range e (inr h) = (omega arith, omega arith)

pub voting_range : (e : Enlistment) → Voting e → (3 ≤ e.state) × (e.state ≤ 5)
voting_range e (inl h) = (omega arith, omega arith)
voting_range e (inr (inl h)) = (omega arith, omega arith)
voting_range e (inr (inr h)) = (omega arith, omega arith)

committed_range : (e : Enlistment) → Committed e → (7 ≤ e.state) × (e.state ≡ 9 → ⊥)
committed_range e (inl h) = (omega arith, λ z. omega arith)
committed_range e (inr (inl h)) = (omega arith, λ z. omega arith)
committed_range e (inr (inr h)) = (omega arith, λ z. omega arith)

pub aborted_range : (e : Enlistment) → Aborted e → 9 ≤ e.state
aborted_range e (inl h) = omega arith
aborted_range e (inr h) = omega arith

module _ {s : ℕ} {hs : List Enlistment} (e : Enlistment) (m : e ∈ hs) where
  in_phase_zero : HoldsWell s hs → e.state ≡ enlistment.zero → (s ≡ transaction.phase_zero) × Each Zeroing hs
  in_phase_zero (HoldsWell.active q h) z = absurd (omega (arith, h e m))
  in_phase_zero (HoldsWell.phase_zero q h x) z = (q, h)
  in_phase_zero (HoldsWell.phase_one q n h x) z = absurd (omega (arith, voting_range e (h e m)))
  in_phase_zero (HoldsWell.single_phase q n h) z = absurd (omega (arith, (h e m).2))
  in_phase_zero (HoldsWell.committing q n h x) z = absurd (omega (arith, committed_range e (h e m)))
  in_phase_zero (HoldsWell.aborting q h x) z = absurd (omega (arith, aborted_range e (h e m)))

  in_phase_one : HoldsWell s hs → 3 ≤ e.state → e.state ≤ 5 → (s ≡ transaction.phase_one) × Each (λ e. PhaseZero e → ⊥) hs × Each Voting hs × Some (In enlistment.preparing) hs
  in_phase_one (HoldsWell.active q h) y z = absurd (omega (arith, h e m))
  in_phase_one (HoldsWell.phase_zero q h x) y z = absurd (omega (arith, zeroing_range e (h e m)))
  in_phase_one (HoldsWell.phase_one q n h x) y z = (q, n, h, x)
  in_phase_one (HoldsWell.single_phase q n h) y z = absurd (omega (arith, (h e m).2))
  in_phase_one (HoldsWell.committing q n h x) y z = absurd (omega (arith, committed_range e (h e m)))
  in_phase_one (HoldsWell.aborting q h x) y z = absurd (omega (arith, aborted_range e (h e m)))

  in_committing : HoldsWell s hs → e.state ≡ enlistment.told_commit → (s ≡ transaction.committing) × Each (λ e. PhaseZero e → ⊥) hs × Each Committed hs
  in_committing (HoldsWell.active q h) z = absurd (omega (arith, h e m))
  in_committing (HoldsWell.phase_zero q h x) z = absurd (omega (arith, zeroing_range e (h e m)))
  in_committing (HoldsWell.phase_one q n h x) z = absurd (omega (arith, voting_range e (h e m)))
  in_committing (HoldsWell.single_phase q n h) z = absurd (omega (arith, (h e m).2))
  in_committing (HoldsWell.committing q n h x) z = (q, n, h)
  in_committing (HoldsWell.aborting q h x) z = absurd (omega (arith, aborted_range e (h e m)))

  in_aborting : HoldsWell s hs → e.state ≡ enlistment.told_abort → (s ≡ transaction.aborting) × Each Aborted hs
  in_aborting (HoldsWell.active q h) z = absurd (omega (arith, h e m))
  in_aborting (HoldsWell.phase_zero q h x) z = absurd (omega (arith, zeroing_range e (h e m)))
  in_aborting (HoldsWell.phase_one q n h x) z = absurd (omega (arith, voting_range e (h e m)))
  in_aborting (HoldsWell.single_phase q n h) z = absurd (omega (arith, (h e m).2))
  in_aborting (HoldsWell.committing q n h x) z = absurd ((committed_range e (h e m)).1 z)
  in_aborting (HoldsWell.aborting q h x) z = (q, h)

  before_decision : HoldsWell s hs → e.state ≤ enlistment.prepared → s ≤ transaction.phase_one
  before_decision (HoldsWell.active q h) z = omega arith
  before_decision (HoldsWell.phase_zero q h x) z = omega arith
  before_decision (HoldsWell.phase_one q n h x) z = omega arith
  before_decision (HoldsWell.single_phase q n h) z = absurd (omega (arith, (h e m).2))
  before_decision (HoldsWell.committing q n h x) z = absurd (omega (arith, committed_range e (h e m)))
  before_decision (HoldsWell.aborting q h x) z = absurd (omega (arith, aborted_range e (h e m)))

voting_abortable : (e : Enlistment) → Voting e → Abortable e
voting_abortable e (inl a) = inl (omega arith, omega arith)
voting_abortable e (inr a) = voted_abortable e a

-- before the decision an abort can meet all that is held
pub may_abort : {s : ℕ} {hs : List Enlistment} → HoldsWell s hs → s ≤ transaction.phase_one → Each Abortable hs
may_abort (HoldsWell.active q h) z = λ e m. inl (omega (arith, h e m), omega (arith, h e m))
may_abort (HoldsWell.phase_zero q h x) z = λ e m. inl (omega (arith, zeroing_range e (h e m)), omega (arith, zeroing_range e (h e m)))
may_abort (HoldsWell.phase_one q n h x) z = λ e m. voting_abortable e (h e m)
may_abort (HoldsWell.single_phase q n h) z = absurd (omega arith)
may_abort (HoldsWell.committing q n h x) z = absurd (omega arith)
may_abort (HoldsWell.aborting q h x) z = absurd (omega arith)

-- ── one enlistment changes ──────────────────────────────────────────────────────────────────────────────────────

pub on_number_lem : (n : ℕ) {f : Enlistment → Enlistment} → KeepsHeld f → KeepsHeld (on_number n f)
on_number_lem n keeps e h = by_test (is_numbered n e) (λ t. rw t (keeps e h)) (λ t. rw t (stays refl))

-- the enlistment with number n, and the transaction that holds it
pub record Named (n : ℕ) (tb : Table) (e : Enlistment) : Type 0 where
  pub here : e ∈ held e.holder tb
  pub live : Live (transaction_at e.holder tb)
  pub number : e.number ≡ n
  pub alone : Each (λ f. f.number ≡ n → f ≡ e) tb.enlistments

pub is_named_lem : (n : ℕ) (tb : Table) → Sound tb → (n ≡ 0 → ⊥) → any (is_numbered n) tb.enlistments ≡ true → Named n tb (numbered n tb)
unfolding numbered
is_named_lem n tb s z t = record {
  here = in_held e.holder tb found.0 refl;
  live = s.holders_live e found.0 (is_held_lem found.0 of_n);
  number = of_n;
  alone = λ f m q. apart_one (λ x y. sym) s.numbers_differ (held_one m q) (held_one found.0 of_n) (q ∙ sym of_n);
}
  where
    e : Enlistment
    e = numbered n tb

    found : (e ∈ tb.enlistments) × (is_numbered n e ≡ true)
    found = first_passes no_enlistment (is_numbered n) tb.enlistments t

    of_n : e.number ≡ n
    of_n = eqb-true e.number n found.1

    -- an empty place has no number
    is_held_lem : {f : Enlistment} → f ∈ tb.enlistments → f.number ≡ n → Held f
    is_held_lem {f} m q c = z (sym q ∙ ap (λ x. x.number) (s.empty_enlistments f m c))

    held_one : {f : Enlistment} → f ∈ tb.enlistments → f.number ≡ n → f ∈ held_ones tb
    held_one {f} m q = in_filter is_held tb.enlistments m (held_true f (is_held_lem m q))

module _ (n : ℕ) (tb : Table) (log : List ℕ) (e : Enlistment) (s : Sound tb) (d : Named n tb e) where
  abbrev p : ℕ
  p = e.holder

  well : HoldsWell (state_at p tb) (held p tb)
  well = s.states p d.live

  each_one : (f : Enlistment → Enlistment) (P : Enlistment → Type 0) → ((f e).holder ≡ p → P (f e)) → Each P (held p tb) → Each P (held p (change_number p n f tb))
  each_one f P one rest = each_changed p (on_number n f) tb P (λ g m. by_test (is_numbered n g)
      (λ t. rw (t, d.alone g (of_held p tb m).0 (eqb-true g.number n t)) one)
      (λ t. rw t (λ h. rest g m)))

  -- what follows goes on from here
  module _ (f : Enlistment → Enlistment) (keeps : KeepsHeld f) where
    abbrev after : Table
    after = change_number p n f tb

    kept_one : Kept after
    kept_one = kept_held p (on_number n f) tb (live_some p tb d.live) (on_number_lem n keeps) (sound_kept s)

    live_one : Live (transaction_at p after)
    live_one = rw (at_changed p p (on_number n f) tb) d.live

    part_one : {tb' : Table} → Part p after tb' → Part p tb tb'
    part_one h = part_then (only_held p (on_number n f) tb (live_some p tb d.live) (on_number_lem n keeps)) (room_held p (on_number n f) tb d.live (on_number_lem n keeps)) h

    well_one : HoldsWell (state_at p tb) (held p after) → HoldsWell (state_at p after) (held p after)
    well_one w = subst (λ x. HoldsWell x.state (held p after)) (sym (at_changed p p (on_number n f) tb)) w

    -- nothing follows
    quiet_part : HoldsWell (state_at p tb) (held p after) → Part p tb after
    quiet_part w = part_one (record { only = only_same p after; kept = kept_one; well = λ m. well_one w; room = λ r. r })

  -- a refused reaction does nothing
  same_part : Part p tb tb
  same_part = part_same p s

  -- ── what follows ──────────────────────────────────────────────────────────────────────────────────────────────

  zero_done_part : In enlistment.zero e → Part p tb (follow then.StartPhaseOne p (change_number p n freed tb) log).table
  unfolding follow
  zero_done_part z =
      let (q, h) = in_phase_zero e d.here well z in
      by_test (any is_phase_zero (held p (change_number p n freed tb)))
      (λ t. let x = any_some is_phase_zero _ t in
      rw t (quiet_part freed frees (HoldsWell.phase_zero q (each_one freed Zeroing (λ c. absurd (live_some p tb d.live (sym c))) h)
      (record { it = x.it; there = x.there; holds = eqb-true _ _ x.holds }))))
      (λ t. rw t (part_one freed frees (start_part p (change_number p n freed tb) log (kept_one freed frees) (live_one freed frees)
      (λ g m. eqb-false _ _ (none_each is_phase_zero _ t g m)))))

  vote_part : (f : Enlistment → Enlistment) → KeepsHeld f → In enlistment.preparing e → ((f e).holder ≡ p → ((f e).kind ≡ e.kind) × Voted (f e)) → Part p tb (follow then.Decide p (change_number p n f tb) log).table
  unfolding follow
  vote_part f keeps z one =
      let (q, no-p, h, x) = in_phase_one e d.here well (omega arith) (omega arith) in
      let nots : Each (λ g. PhaseZero g → ⊥) (held p (change_number p n f tb)) = each_one f (λ g. PhaseZero g → ⊥) (λ c k. no-p e d.here (sym (one c).0 ∙ k)) no-p in
      let votes : Each Voting (held p (change_number p n f tb)) = each_one f Voting (λ c. inr (one c).1) h in
      by_test (any (is_in enlistment.preparing) (held p (change_number p n f tb)))
      (λ t. let y = any_some (is_in enlistment.preparing) _ t in
      rw t (quiet_part f keeps (HoldsWell.phase_one q nots votes (record { it = y.it; there = y.there; holds = eqb-true _ _ y.holds }))))
      (λ t. rw t (part_one f keeps (decide_part p (change_number p n f tb) (kept_one f keeps) (live_one f keeps) log nots
      (λ g m. by_either (λ c. absurd (eqb-false _ _ (none_each (is_in enlistment.preparing) _ t g m) c)) (λ c. c) (votes g m)))))

  then_abort : e.state ≤ enlistment.prepared → Part p tb (follow then.Abort p (change_number p n (in_state enlistment.done) tb) log).table
  unfolding follow
  then_abort z = part_one (in_state enlistment.done) (goes_to enlistment.done) (abort_part p _ log (kept_one _ (goes_to enlistment.done)) (live_one _ (goes_to enlistment.done))
      (each_one (in_state enlistment.done) Abortable (λ c. inr (inr refl)) (may_abort well (before_decision e d.here well z))))

  then_end_with : (a : Name) → Part p tb (follow (then.EndWith a) p (change_number p n freed tb) log).table
  unfolding follow
  then_end_with a = part_one freed frees (end_part p _ log (kept_one freed frees) (live_one freed frees))

  then_end : In enlistment.told_commit e ⊎ In enlistment.told_abort e → Part p tb (follow then.End p (change_number p n (in_state enlistment.done) tb) log).table
  unfolding follow
  then_end z = part_one (in_state enlistment.done) (goes_to enlistment.done)
      (end_if_done_part p _ log (kept_one _ (goes_to enlistment.done)) (live_one _ (goes_to enlistment.done))
      (λ x. well_one _ (goes_to enlistment.done) (by_either (λ c. committing c x) (λ c. aborting c x) z)))
    where
      committing : In enlistment.told_commit e → Some (λ g. In enlistment.done g → ⊥) (held p (change_number p n (in_state enlistment.done) tb))
          → HoldsWell (state_at p tb) (held p (change_number p n (in_state enlistment.done) tb))
      committing z x =
          let (q, no-p, h) = in_committing e d.here well z in
          HoldsWell.committing q (each_one (in_state enlistment.done) (λ g. PhaseZero g → ⊥) (λ c. no-p e d.here) no-p) (each_one (in_state enlistment.done) Committed (λ c. inr (inr refl)) h) x

      aborting : In enlistment.told_abort e → Some (λ g. In enlistment.done g → ⊥) (held p (change_number p n (in_state enlistment.done) tb))
          → HoldsWell (state_at p tb) (held p (change_number p n (in_state enlistment.done) tb))
      aborting z x =
          let (q, h) = in_aborting e d.here well z in
          let each : Each Aborted (held p (change_number p n (in_state enlistment.done) tb)) = each_one (in_state enlistment.done) Aborted (λ c. inr refl) h in
          HoldsWell.aborting q each (record { it = x.it; there = x.there; holds = by_either (λ c. c) (λ c. absurd (x.holds c)) (each x.it x.there) })

  -- "D in 4: 5": another one is still Preparing
  lost_prepared : In enlistment.prepared e → Durable e → Part p tb (change_number p n (in_state enlistment.prepared_lost) tb)
  lost_prepared z k =
      let (q, no-p, h, x) = in_phase_one e d.here well (omega arith) (omega arith) in
      quiet_part (in_state enlistment.prepared_lost) (goes_to enlistment.prepared_lost)
      (HoldsWell.phase_one q (each_one (in_state enlistment.prepared_lost) (λ g. PhaseZero g → ⊥) (λ c. no-p e d.here) no-p)
      (each_one (in_state enlistment.prepared_lost) Voting (λ c. inr (inr (refl, k))) h)
      (some_changed p (on_number n (in_state enlistment.prepared_lost)) tb (other x)))
    where
      other : Some (In enlistment.preparing) (held p tb)
          → Some (λ g. ((on_number n (in_state enlistment.prepared_lost) g).holder ≡ p) × In enlistment.preparing (on_number n (in_state enlistment.prepared_lost) g)) (held p tb)
      other x = record {
        it = x.it;
        there = x.there;
        holds = rw (ne_eqb x.it.number n (λ c. omega (arith, z, x.holds, ap (λ g. g.state) (d.alone x.it (of_held p tb x.there).0 c)))) ((of_held p tb x.there).1, x.holds);
      }

  -- "D in 7: 8"
  lost_told : In enlistment.told_commit e → Durable e → Part p tb (change_number p n (in_state enlistment.failed_to_notify) tb)
  lost_told z k =
      let (q, no-p, h) = in_committing e d.here well z in
      quiet_part (in_state enlistment.failed_to_notify) (goes_to enlistment.failed_to_notify)
      (HoldsWell.committing q (each_one (in_state enlistment.failed_to_notify) (λ g. PhaseZero g → ⊥) (λ c. no-p e d.here) no-p)
      (each_one (in_state enlistment.failed_to_notify) Committed (λ c. inr (inl (refl, k))) h)
      (some_changed p (on_number n (in_state enlistment.failed_to_notify)) tb (record { it = e; there = d.here; holds = itself })))
    where
      itself : ((on_number n (in_state enlistment.failed_to_notify) e).holder ≡ p) × (In enlistment.done (on_number n (in_state enlistment.failed_to_notify) e) → ⊥)
      itself = rw (eq-eqb e.number n d.number) (refl, λ c. omega arith)

  -- ── the reactions ─────────────────────────────────────────────────────────────────────────────────────────────

  -- what the event a does
  abbrev Reacts : Act → Type 0
  Reacts a = Part p tb (react (reaction_of e.kind e.state a) p n tb log).table

  react_zero_done : (m : ℕ) → Reacts (act.ZeroDone m)
  unfolding react reaction_of
  react_zero_done m = by_test (eqb e.state enlistment.zero) (λ t. rw t (zero_done_part (eqb-true _ _ t))) (λ t. rw t same_part)

  react_vote : (m : ℕ) (v : Vote) → Reacts (act.Vote m v)
  unfolding react reaction_of
  react_vote m v = by_test (eqb e.state enlistment.preparing) (λ t. rw t (by_vote v (eqb-true _ _ t))) (λ t. rw t same_part)
    where
      by_vote : (v : Vote) → In enlistment.preparing e → Part p tb (react (to_vote v) p n tb log).table
      by_vote vote.Prepared z = vote_part (in_state enlistment.prepared) (goes_to enlistment.prepared) z (λ c. (refl, inl refl))
      by_vote vote.ReadOnly z = vote_part freed frees z (λ c. absurd (live_some p tb d.live (sym c)))
      by_vote vote.Aborted z = then_abort (omega arith)

  react_reply : (m : ℕ) (r : Reply) → Reacts (act.Reply m r)
  unfolding react reaction_of
  react_reply m r = by_test (eqb e.state enlistment.one_phase) (λ t. rw t (then_end_with (to_reply r))) (λ t. rw t same_part)

  react_ack : (m : ℕ) → Reacts (act.Ack m)
  unfolding react reaction_of
  react_ack m = by_test (eqb e.state enlistment.told_commit || eqb e.state enlistment.told_abort)
      (λ t. rw t (then_end (by_either (λ c. inl (eqb-true _ _ c)) (λ c. inr (eqb-true _ _ c)) (true_or _ _ t))))
      (λ t. rw t same_part)

  early : (x : ℕ) → (eqb x enlistment.active || eqb x enlistment.zero || eqb x enlistment.preparing) ≡ true → x ≤ enlistment.prepared
  early x t = by_either
      (λ c. by_either (λ b. omega (arith, eqb-true x enlistment.active b)) (λ b. omega (arith, eqb-true x enlistment.zero b)) (true_or (eqb x enlistment.active) (eqb x enlistment.zero) c))
      (λ c. omega (arith, eqb-true x enlistment.preparing c))
      (true_or (eqb x enlistment.active || eqb x enlistment.zero) (eqb x enlistment.preparing) t)

  react_lost : (m : ℕ) → Reacts (act.Lost m)
  unfolding react reaction_of to_lost follow
  react_lost m = by_test (eqb e.state enlistment.active || eqb e.state enlistment.zero || eqb e.state enlistment.preparing)
      (λ t. rw t (then_abort (early e.state t)))
      (λ t. rw t (by_test (eqb e.state enlistment.prepared)
      (λ a. rw a (by_test (durable_kind e.kind) (λ c. rw c (lost_prepared (eqb-true _ _ a) (eqb-true _ _ c))) (λ c. rw c (then_abort (omega (arith, eqb-true e.state enlistment.prepared a))))))
      (λ a. rw a (by_test (eqb e.state enlistment.one_phase)
      (λ b. rw b (then_end_with name.AppInDoubt))
      (λ b. rw b (by_test (eqb e.state enlistment.told_commit)
      (λ u. rw u (by_test (durable_kind e.kind) (λ c. rw c (lost_told (eqb-true _ _ u) (eqb-true _ _ c))) (λ c. rw c (then_end (inl (eqb-true _ _ u))))))
      (λ u. rw u (by_test (eqb e.state enlistment.told_abort) (λ c. rw c (then_end (inr (eqb-true _ _ c)))) (λ c. rw c same_part)))))))))

  -- the others have no reaction
  react_part : (a : Act) → Reacts a
  unfolding react reaction_of
  react_part act.Begin = same_part
  react_part (act.Enlist m k y) = same_part
  react_part act.Commit = same_part
  react_part (act.ZeroDone m) = react_zero_done m
  react_part (act.Vote m v) = react_vote m v
  react_part act.Rollback = same_part
  react_part (act.Reply m r) = react_reply m r
  react_part (act.Ack m) = react_ack m
  react_part (act.Lost m) = react_lost m
  react_part act.Ask = same_part
  react_part act.Reenlisted = same_part

pub reacted_part : (n : ℕ) (a : Act) (tb : Table) (log : List ℕ) → Sound tb → Named n tb (numbered n tb) → Part (numbered n tb).holder tb (reacted_of n a tb log).table
unfolding reacted_of
reacted_part n a tb log s d = react_part n tb log (numbered n tb) s d a
