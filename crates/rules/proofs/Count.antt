-- "At most 17" signals: one to each enlistment that the transaction holds, of which there are at most 16, and one to the application.
use Prim.Native.Nat.{ℕ, zero, suc, ◌≤◌}
use native.Mathlib.Omega.{arith}
use mathlib.Core.Path.{◌≡◌, refl, ◌∙◌, ap}
use mathlib.Core.Bool.{◌&&◌}
use mathlib.Core.List.{List, [], ◌∷◌}
use lib.ListN.{length, take, length-map, length-append}
use lib.Dec.{eqb}
use Rattle.lists.specs.Lists.{all, any, none, filter}
use Rattle.lists.specs.Sorting.{sort_by}
use Rattle.lists.proofs.Tests.{by_test, length_filter}
use Rattle.lists.proofs.Sorting.{length_sort}
use Rattle.rules.specs.declared.Enlistment.{Enlistment}
use Rattle.rules.specs.declared.Table.{Table}
use Rattle.rules.specs.declared.Event.{Event}
use Rattle.rules.specs.declared.Signal.{Signal}
use Rattle.rules.specs.declared.Act.{Act}
use Rattle.rules.specs.declared.Act.TheVariants as act
use Rattle.rules.specs.declared.Name.{Name}
use Rattle.rules.specs.declared.Name.TheVariants as name
use Rattle.rules.specs.declared.Kind.{Kind}
use Rattle.rules.specs.declared.Mark.{Mark}
use Rattle.rules.specs.declared.Reaction.{Reaction}
use Rattle.rules.specs.declared.Reaction.TheVariants as reaction
use Rattle.rules.specs.declared.FollowUp.{FollowUp}
use Rattle.rules.specs.declared.FollowUp.TheVariants as then
use Rattle.rules.specs.RefusalNumber as refusal
use Rattle.rules.specs.TransactionState as transaction
use Rattle.rules.specs.EnlistmentState as enlistment
use Rattle.rules.specs.Sizes.{held_most, signals_most}
use Rattle.rules.specs.Identifiers.{Id}
use Rattle.rules.specs.Table.{state_at, held, is_phase_zero, is_durable, is_marked, is_in, is_done, in_state, freed, change_held, change_number}
use Rattle.rules.specs.Sound.{is_open, Sound}
use Rattle.rules.specs.Signals.{padded, by_number, to_each, to_app}
use Rattle.rules.specs.Events.{Outcome, hears_abort, abort_of, lacks_room, commit_signals, end_committed, decide_of, start_phase_one, begin_of, zero_at_once, enlist_of, commit_of, end_if_done, end_of, append, follow, react, reacted_of, is_over, ask_of, end_each, reenlisted_of, acted, accepted_of}
use Rattle.rules.specs.Refusals.{refusal_of}
use Rattle.rules.proofs.Frames.{held_shorter}
use Rattle.rules.proofs.Checks.{refusal_checks}
use Rattle.rules.proofs.Own.{commit_live, rollback_live, one_named}

abbrev Few : Outcome → Type 0
Few o = length o.signals ≤ signals_most

each_count : (a : Name) (es : List Enlistment) → length (to_each a es) ≡ length es
unfolding to_each
each_count a es = length-map (sort_by by_number es) _ ∙ length_sort by_number es

-- the row of an answer holds the signals that it was made of
pub pad_take : (k : ℕ) (ss : List Signal) → length ss ≤ k → take (length ss) (padded k ss) ≡ ss
unfolding padded
pad_take zero [] h = refl
pad_take zero (s ∷ ss) h = absurd (omega arith)
pad_take (suc k) [] h = refl
pad_take (suc k) (s ∷ ss) h = ap (λ l. s ∷ l) (pad_take k ss (omega arith))

-- ── nothing is said at an end itself ────────────────────────────────────────────────────────────────────────────

pub end_quiet : (p : ℕ) (tb : Table) (log : List ℕ) → (end_of p tb log).signals ≡ []
unfolding end_of append
end_quiet p tb log = by_test (is_open (state_at p tb) (held p tb)) (λ t. rw t) (λ t. rw t)

pub end_if_done_quiet : (p : ℕ) (tb : Table) (log : List ℕ) → (end_if_done p tb log).signals ≡ []
unfolding end_if_done
end_if_done_quiet p tb log = by_test (all is_done (held p tb)) (λ t. rw t (end_quiet p tb log)) (λ t. rw t)

pub end_each_quiet : (ps : List ℕ) (tb : Table) (log : List ℕ) → (end_each ps tb log).signals ≡ []
unfolding end_each
end_each_quiet [] tb log = refl
end_each_quiet (p ∷ ps) tb log = end_each_quiet ps (end_of p tb log).table (end_of p tb log).log

-- ── what a transaction that holds at most 16 says ───────────────────────────────────────────────────────────────

module _ (p : ℕ) (tb : Table) (log : List ℕ) (h : length (held p tb) ≤ held_most) where
  abort_few : Few (abort_of p tb log)
  unfolding abort_of
  abort_few = rw (length-append (to_each name.Abort (filter hears_abort (held p tb))) (to_app name.AppAborted), each_count name.Abort (filter hears_abort (held p tb)))
      (omega (arith, h, length_filter hears_abort (held p tb)))

  commit_signals_few : length (commit_signals (held p tb)) ≤ signals_most
  unfolding commit_signals
  commit_signals_few = rw (length-append (to_each name.Commit (filter (is_in enlistment.prepared) (held p tb))) (to_app name.AppCommitted), each_count name.Commit (filter (is_in enlistment.prepared) (held p tb)))
      (omega (arith, h, length_filter (is_in enlistment.prepared) (held p tb)))

  each_few : (a : Name) → length (to_each a (held p tb)) ≤ signals_most
  each_few a = rw (each_count a (held p tb)) (omega arith)

  decide_few : Few (decide_of p tb log)
  unfolding decide_of end_committed
  decide_few = by_test (eqb (length (held p tb)) 0)
      (λ t. rw t (omega arith))
      (λ t. rw t (by_test (none is_durable (held p tb))
      (λ c. rw c commit_signals_few)
      (λ c. rw c (by_test (lacks_room (length (filter is_durable (held p tb))) tb) (λ d. rw d abort_few) (λ d. rw d commit_signals_few)))))

  start_few : Few (start_phase_one p tb log)
  unfolding start_phase_one end_committed
  start_few = by_test (eqb (length (held p tb)) 0)
      (λ t. rw t (omega arith))
      (λ t. rw t (by_test (eqb (length (held p tb)) 1 && all is_marked (held p tb)) (λ c. rw c (each_few name.Single)) (λ c. rw c (each_few name.Prepare))))

  commit_few : Few (commit_of p tb log)
  unfolding commit_of
  commit_few = by_test (any is_phase_zero (held p tb))
      (λ t. rw (t, each_count name.Zero (filter is_phase_zero (held p tb))) (omega (arith, h, length_filter is_phase_zero (held p tb))))
      (λ t. rw t start_few)

  follow_few : (f : FollowUp) → Few (follow f p tb log)
  unfolding follow
  follow_few then.Nothing = omega arith
  follow_few then.StartPhaseOne = by_test (any is_phase_zero (held p tb)) (λ t. rw t (omega arith)) (λ t. rw t start_few)
  follow_few then.Decide = by_test (any (is_in enlistment.preparing) (held p tb)) (λ t. rw t (omega arith)) (λ t. rw t decide_few)
  follow_few then.End = rw (end_if_done_quiet p tb log) (omega arith)
  follow_few then.Abort = abort_few
  follow_few (then.EndWith a) = omega arith

-- a change makes no more of them
still_few : (p : ℕ) (f : Enlistment → Enlistment) (tb : Table) → length (held p tb) ≤ held_most → length (held p (change_held p f tb)) ≤ held_most
still_few p f tb h = omega (arith, h, held_shorter p f tb)

react_few : (x : Reaction) (p n : ℕ) (tb : Table) (log : List ℕ) → length (held p tb) ≤ held_most → Few (react x p n tb log)
unfolding react
react_few reaction.Refused p n tb log h = omega arith
react_few (reaction.Freed f) p n tb log h = follow_few p (change_number p n freed tb) log (still_few p _ tb h) f
react_few (reaction.Becomes s f) p n tb log h = follow_few p (change_number p n (in_state s) tb) log (still_few p _ tb h) f

ask_few : (p : ℕ) (r : Id) (tb : Table) (log : List ℕ) → Few (ask_of p r tb log)
unfolding ask_of
ask_few p r tb log = by_test (is_over (state_at p tb))
    (λ t. rw t (omega arith))
    (λ t. rw t (by_test (eqb (state_at p tb) transaction.committing) (λ c. rw c (omega arith)) (λ c. rw c (omega arith))))

enlist_few : (p n : ℕ) (r : Id) (k : Kind) (m : Mark) (tb : Table) (log : List ℕ) → Few (enlist_of p n r k m tb log)
unfolding enlist_of
enlist_few p n r k m tb log = by_test (zero_at_once k (state_at p tb)) (λ t. rw t (omega arith)) (λ t. rw t (omega arith))

-- ── of a step ───────────────────────────────────────────────────────────────────────────────────────────────────

module _ (tb : Table) (e : Event) (log : List ℕ) (fine : refusal_of tb e (length log) ≡ refusal.accepted) (s : Sound tb) where
  few : (a : Act) → e.act ≡ a → Few (acted a e.tx.0 e.rm.0 tb log)
  unfolding acted begin_of reacted_of reenlisted_of
  few act.Begin q = omega arith
  few (act.Enlist n k m) q = enlist_few _ n _ k m tb log
  few act.Commit q = commit_few _ tb log (s.few _ (commit_live tb e log fine q))
  few (act.ZeroDone n) q = react_few _ _ n tb log (s.few _ (one_named tb e log fine s n _ (refusal_checks tb e (length log) (act.ZeroDone n) q)).live)
  few (act.Vote n v) q = react_few _ _ n tb log (s.few _ (one_named tb e log fine s n _ (refusal_checks tb e (length log) (act.Vote n v) q)).live)
  few act.Rollback q = abort_few _ tb log (s.few _ (rollback_live tb e log fine q))
  few (act.Reply n a) q = react_few _ _ n tb log (s.few _ (one_named tb e log fine s n _ (refusal_checks tb e (length log) (act.Reply n a) q)).live)
  few (act.Ack n) q = react_few _ _ n tb log (s.few _ (one_named tb e log fine s n _ (refusal_checks tb e (length log) (act.Ack n) q)).live)
  few (act.Lost n) q = react_few _ _ n tb log (s.few _ (one_named tb e log fine s n _ (refusal_checks tb e (length log) (act.Lost n) q)).live)
  few act.Ask q = ask_few _ _ tb log
  few act.Reenlisted q = rw (end_each_quiet _ _ log) (omega arith)

  pub signals_few : length (accepted_of tb e log).signals ≤ signals_most
  signals_few = few e.act refl
