-- What an event does to a transaction, it does to that transaction alone: the rules look at the transaction's place p and at what it holds,
-- and change nothing else. So, where a table t shows of p all that the table w t shows, and a change of p passes through w, the outcome on w t
-- is the outcome on t, put through w.
use Prim.Native.Nat.{ℕ}
use mathlib.Core.Path.{◌≡◌, refl, ap}
use mathlib.Core.Logic.{◌⊎◌, inl, inr}
use mathlib.Core.Bool.{Bool, true, false, cond, ◌&&◌}
use mathlib.Core.List.{List}
use lib.Dec.{eqb}
use lib.ListN.{length}
use Rattle.lists.specs.Lists.{all, any, none, filter}
use Rattle.lists.proofs.Tests.{by_cond}
use Rattle.rules.specs.declared.Transaction.{Transaction}
use Rattle.rules.specs.declared.Enlistment.{Enlistment}
use Rattle.rules.specs.declared.Table.{Table}
use Rattle.rules.specs.declared.Signal.{Signal}
use Rattle.rules.specs.declared.FollowUp.{FollowUp}
use Rattle.rules.specs.declared.FollowUp.TheVariants as then
use Rattle.rules.specs.declared.Reaction.{Reaction}
use Rattle.rules.specs.declared.Reaction.TheVariants as reaction
use Rattle.rules.specs.TransactionState as transaction
use Rattle.rules.specs.EnlistmentState as enlistment
use Rattle.rules.specs.Identifiers.{Id}
use Rattle.rules.specs.Log.{Record, record_bytes, written}
use Rattle.rules.specs.Table.{transaction_at, state_at, id_at, held, is_numbered, is_phase_zero, is_durable, is_marked, is_in, is_done, in_state, freed, ended, in_transaction_state, on_number, change_held, change_number, change_transaction, go_to, emptied, use_more}
use Rattle.rules.specs.Sound.{is_open}
use Rattle.rules.proofs.Frames.{Keeps}
use Rattle.rules.specs.Events.{Outcome, quietly, saying, append, end_of, end_if_done, aborted_of, abort_of, lacks_room, committing, committed_of, end_committed, decide_of, start_phase_one, zeroed_of, commit_of, follow, react, is_over, told_again, ask_of}

-- w puts what stands at place p of a table into another, if it fits
pub record Through (p : ℕ) (w : Table → Table) (Fits : Table → Type 0) : Type 0 where
  pub same_transaction : (t : Table) → Fits t → transaction_at p (w t) ≡ transaction_at p t
  pub same_held : (t : Table) → Fits t → held p (w t) ≡ held p t
  pub same_used : (t : Table) → (w t).used ≡ t.used
  pub changed : (f : Enlistment → Enlistment) (t : Table) → Fits t → change_held p f (w t) ≡ w (change_held p f t)
  pub moved : (f : Transaction → Transaction) (t : Table) → Fits t → change_transaction p f (w t) ≡ w (change_transaction p f t)
  pub grown : (n : ℕ) (t : Table) → use_more n (w t) ≡ w (use_more n t)
  pub changed_fits : (f : Enlistment → Enlistment) (t : Table) → Fits t → Fits (change_held p f t)
  pub moved_fits : (f : Transaction → Transaction) (t : Table) → Fits t → Fits (change_transaction p f t)

abbrev pub through : (Table → Table) → Outcome → Outcome
through w o = record { table = w o.table; log = o.log; signals = o.signals }

-- the same choice of outcomes that each go through
choose : (w : Table → Table) (b : Bool) {o o' q q' : Outcome} → q ≡ through w o → q' ≡ through w o' → cond b q q' ≡ through w (cond b o o')
choose w true e e' = e
choose w false e e' = e'

said : (w : Table → Table) (ss : List Signal) {o q : Outcome} → q ≡ through w o → saying ss q ≡ through w (saying ss o)
said w ss e = ap (λ x. saying ss x) e

-- a place is freed, or its enlistment stays with its transaction
keeps_freed : (n : ℕ) → Keeps (on_number n freed)
keeps_freed n e = by_cond (λ (x : Enlistment). (x.holder ≡ e.holder) ⊎ (x.holder ≡ 0)) (is_numbered n e) (inr refl) (inl refl)

keeps_state : (n s : ℕ) → Keeps (on_number n (in_state s))
keeps_state n s e = by_cond (λ (x : Enlistment). (x.holder ≡ e.holder) ⊎ (x.holder ≡ 0)) (is_numbered n e) (inl refl) (inl refl)

module _ {p : ℕ} {w : Table → Table} {Fits : Table → Type 0} (v : Through p w Fits) where
  -- as much room in the log
  abbrev SameRoom : Table → Type 0
  SameRoom t = (n : ℕ) → lacks_room n (w t) ≡ lacks_room n t

  same_state : (t : Table) → Fits t → state_at p (w t) ≡ state_at p t
  same_state t f = ap (λ x. x.state) (v.same_transaction t f)

  same_id : (t : Table) → Fits t → id_at p (w t) ≡ id_at p t
  same_id t f = ap (λ x. x.id.0) (v.same_transaction t f)

  appended : (r : Record) (t : Table) (log : List ℕ) → append r (w t) log ≡ through w (append r t log)
  unfolding append
  appended r t log = λ i. quietly (v.grown (length (record_bytes r)) t i) (written (v.same_used t i) (record_bytes r) log)

  gone_through : (s : ℕ) (f : Enlistment → Enlistment) (t : Table) → Fits t → go_to p s (change_held p f (w t)) ≡ w (go_to p s (change_held p f t))
  gone_through s f t h = rw (v.changed f t h) (v.moved (in_transaction_state s) (change_held p f t) (v.changed_fits f t h))

  emptied_through : (t : Table) → Fits t → emptied p (w t) ≡ w (emptied p t)
  emptied_through t h = rw (v.changed freed t h) (v.moved ended (change_held p freed t) (v.changed_fits freed t h))

  pub end_through : (t : Table) (log : List ℕ) → Fits t → end_of p (w t) log ≡ through w (end_of p t log)
  unfolding end_of
  end_through t log h =
      rw (same_state t h, same_id t h, v.same_held t h, emptied_through t h)
      (choose w (is_open (state_at p t) (held p t)) (appended (Record.forget (id_at p t)) (emptied p t) log) refl)

  end_if_done_through : (t : Table) (log : List ℕ) → Fits t → end_if_done p (w t) log ≡ through w (end_if_done p t log)
  unfolding end_if_done
  end_if_done_through t log h = rw (v.same_held t h, end_through t log h) (choose w (all is_done (held p t)) refl refl)

  moved_changed_fits : (s : ℕ) (f : Enlistment → Enlistment) (t : Table) → Fits t → Fits (go_to p s (change_held p f t))
  moved_changed_fits s f t h = v.moved_fits (in_transaction_state s) (change_held p f t) (v.changed_fits f t h)

  pub abort_through : (t : Table) (log : List ℕ) → Fits t → abort_of p (w t) log ≡ through w (abort_of p t log)
  unfolding abort_of
  abort_through t log h =
      rw (v.same_held t h, gone_through transaction.aborting aborted_of t h)
      (said w _ (end_if_done_through (go_to p transaction.aborting (change_held p aborted_of t)) log (moved_changed_fits transaction.aborting aborted_of t h)))

  end_committed_through : (t : Table) (log : List ℕ) → Fits t → end_committed p (w t) log ≡ through w (end_committed p t log)
  unfolding end_committed
  end_committed_through t log h = said w _ (end_through t log h)

  decide_through : (t : Table) (log : List ℕ) → Fits t → SameRoom t → decide_of p (w t) log ≡ through w (decide_of p t log)
  unfolding decide_of
  decide_through t log h room =
      rw (v.same_held t h, same_id t h, room (length (filter is_durable (held p t))), gone_through transaction.committing committed_of t h)
      (choose w (eqb (length (held p t)) 0) (end_committed_through t log h)
      (choose w (none is_durable (held p t)) refl
      (choose w (lacks_room (length (filter is_durable (held p t))) t) (abort_through t log h)
      (said w _ (appended _ (committing p t) log)))))

  start_through : (t : Table) (log : List ℕ) → Fits t → start_phase_one p (w t) log ≡ through w (start_phase_one p t log)
  unfolding start_phase_one
  start_through t log h =
      rw (v.same_held t h, gone_through transaction.single_phase (in_state enlistment.one_phase) t h, gone_through transaction.phase_one (in_state enlistment.preparing) t h)
      (choose w (eqb (length (held p t)) 0) (end_committed_through t log h)
      (choose w (eqb (length (held p t)) 1 && all is_marked (held p t)) refl refl))

  pub commit_through : (t : Table) (log : List ℕ) → Fits t → commit_of p (w t) log ≡ through w (commit_of p t log)
  unfolding commit_of
  commit_through t log h =
      rw (v.same_held t h, gone_through transaction.phase_zero zeroed_of t h)
      (choose w (any is_phase_zero (held p t)) refl (start_through t log h))

  pub ask_through : (r : Id) (t : Table) (log : List ℕ) → Fits t → ask_of p r (w t) log ≡ through w (ask_of p r t log)
  unfolding ask_of
  ask_through r t log h =
      rw (same_state t h, v.same_held t h, v.changed (told_again r) t h)
      (choose w (is_over (state_at p t)) refl (choose w (eqb (state_at p t) transaction.committing) refl refl))

  follow_through : (f : FollowUp) (t : Table) (log : List ℕ) → Fits t → SameRoom t → follow f p (w t) log ≡ through w (follow f p t log)
  unfolding follow
  follow_through then.Nothing t log h room = refl
  follow_through then.StartPhaseOne t log h room = rw (v.same_held t h) (choose w (any is_phase_zero (held p t)) refl (start_through t log h))
  follow_through then.Decide t log h room = rw (v.same_held t h) (choose w (any (is_in enlistment.preparing) (held p t)) refl (decide_through t log h room))
  follow_through then.End t log h room = end_if_done_through t log h
  follow_through then.Abort t log h room = abort_through t log h
  follow_through (then.EndWith a) t log h room = said w _ (end_through t log h)

  pub react_through : (r : Reaction) (n : ℕ) (t : Table) (log : List ℕ) → Fits t → ((f : Enlistment → Enlistment) → Keeps f → SameRoom (change_held p f t)) → react r p n (w t) log ≡ through w (react r p n t log)
  unfolding react
  react_through reaction.Refused n t log h room = refl
  react_through (reaction.Freed f) n t log h room =
      rw (v.changed (on_number n freed) t h) (follow_through f (change_number p n freed t) log (v.changed_fits (on_number n freed) t h) (room (on_number n freed) (keeps_freed n)))
  react_through (reaction.Becomes s f) n t log h room =
      rw (v.changed (on_number n (in_state s)) t h) (follow_through f (change_number p n (in_state s) t) log (v.changed_fits (on_number n (in_state s)) t h) (room (on_number n (in_state s)) (keeps_state n s)))
