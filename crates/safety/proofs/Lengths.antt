-- A step keeps how many places the table has, the capacity, and the length of the log: each verb does, and so does all that is made of them.
use Prim.Native.Nat.{ℕ}
use mathlib.Core.Path.{◌≡◌, refl, ◌∙◌}
use mathlib.Core.Bool.{◌&&◌}
use mathlib.Core.List.{List, [], ◌∷◌, map}
use lib.Dec.{eqb}
use lib.ListN.{length, length-map}
use Rattle.lists.specs.Lists.{all, any, none, filter}
use Rattle.lists.proofs.Places.{length_change, length_put}
use Rattle.rules.specs.declared.Transaction.{Transaction}
use Rattle.rules.specs.declared.Enlistment.{Enlistment}
use Rattle.rules.specs.declared.Table.{Table}
use Rattle.rules.specs.declared.Event.{Event}
use Rattle.rules.specs.declared.Act.{Act}
use Rattle.rules.specs.declared.Act.TheVariants as act
use Rattle.rules.specs.declared.Kind.{Kind}
use Rattle.rules.specs.declared.Mark.{Mark}
use Rattle.rules.specs.declared.FollowUp.{FollowUp}
use Rattle.rules.specs.declared.FollowUp.TheVariants as then
use Rattle.rules.specs.declared.Reaction.{Reaction}
use Rattle.rules.specs.declared.Reaction.TheVariants as reaction
use Rattle.rules.specs.TransactionState as transaction
use Rattle.rules.specs.EnlistmentState as enlistment
use Rattle.rules.specs.Identifiers.{Id}
use Rattle.rules.specs.Table.{state_at, id_at, is_free, is_vacant, held, numbered, is_phase_zero, is_durable, is_marked, is_in, is_done, in_state, freed, ended, on_held, on_number, in_transaction_state, with_enlistments, change_held, change_transaction, change_number, go_to, emptied, use_more, place_named}
use Rattle.rules.specs.Sound.{is_open}
use Rattle.rules.specs.Log.{Record, record_bytes}
use Rattle.rules.specs.Events.{Outcome, append, end_of, end_if_done, aborted_of, abort_of, lacks_room, committed_of, committing, commit_record, end_committed, decide_of, start_phase_one, begin_of, new_enlistment, enlist_of, zeroed_of, commit_of, follow, react, reacted_of, reaction_of, is_over, told_again, ask_of, done_for, finished, end_each, reenlisted_of, acted}
use Rattle.rules.specs.Step.{step_of}
use Rattle.rules.proofs.Frames.{length_written}
use Rattle.lists.proofs.Tests.{by_cases}
use Rattle.rules.proofs.Preserved.{by_step}

pub record Same (tb : Table) (log : List ℕ) (tb' : Table) (log' : List ℕ) : Type 0 where
  pub transactions : length tb'.transactions ≡ length tb.transactions
  pub enlistments : length tb'.enlistments ≡ length tb.enlistments
  pub capacity : tb'.capacity ≡ tb.capacity
  pub bytes : length log' ≡ length log

module _ (tb₀ : Table) (log₀ : List ℕ) where
  -- the same as at first
  abbrev S : Table → List ℕ → Type 0
  S tb log = Same tb₀ log₀ tb log

  record SameOutcome (o : Outcome) : Type 0 where
    is : S o.table o.log

  module _ {tb : Table} {log : List ℕ} (s : S tb log) where
    same_held : (p : ℕ) (f : Enlistment → Enlistment) → S (change_held p f tb) log
    unfolding change_held
    same_held p f = record { transactions = s.transactions; enlistments = length-map tb.enlistments (on_held p f) ∙ s.enlistments; capacity = s.capacity; bytes = s.bytes }

    same_transaction : (p : ℕ) (f : Transaction → Transaction) → S (change_transaction p f tb) log
    unfolding change_transaction
    same_transaction p f = record { transactions = length_change f 1 p tb.transactions ∙ s.transactions; enlistments = s.enlistments; capacity = s.capacity; bytes = s.bytes }

  same_goes : (p n : ℕ) (f : Enlistment → Enlistment) {tb : Table} {log : List ℕ} → S tb log → S (go_to p n (change_held p f tb)) log
  same_goes p n f s = same_transaction (same_held s p f) p (in_transaction_state n)

  same_emptied : (p : ℕ) {tb : Table} {log : List ℕ} → S tb log → S (emptied p tb) log
  same_emptied p s = same_transaction (same_held s p freed) p ended

  append_same : (r : Record) (tb : Table) (log : List ℕ) → S tb log → SameOutcome (append r tb log)
  unfolding append use_more
  append_same r tb log s = record { is = record { transactions = s.transactions; enlistments = s.enlistments; capacity = s.capacity; bytes = length_written tb.used (record_bytes r) log ∙ s.bytes } }

  end_same : (p : ℕ) (tb : Table) (log : List ℕ) → S tb log → SameOutcome (end_of p tb log)
  unfolding end_of
  end_same p tb log s = by_cases SameOutcome (is_open (state_at p tb) (held p tb)) _ _ (λ _. append_same _ (emptied p tb) log (same_emptied p s)) (λ _. record { is = same_emptied p s })

  end_if_same : (p : ℕ) (tb : Table) (log : List ℕ) → S tb log → SameOutcome (end_if_done p tb log)
  unfolding end_if_done
  end_if_same p tb log s = by_cases SameOutcome (all is_done (held p tb)) _ _ (λ _. end_same p tb log s) (λ _. record { is = s })

  abort_same : (p : ℕ) (tb : Table) (log : List ℕ) → S tb log → SameOutcome (abort_of p tb log)
  unfolding abort_of
  abort_same p tb log s = record { is = (end_if_same p (go_to p transaction.aborting (change_held p aborted_of tb)) log (same_goes p transaction.aborting aborted_of s)).is }

  end_committed_same : (p : ℕ) (tb : Table) (log : List ℕ) → S tb log → SameOutcome (end_committed p tb log)
  unfolding end_committed
  end_committed_same p tb log s = record { is = (end_same p tb log s).is }

  decide_same : (p : ℕ) (tb : Table) (log : List ℕ) → S tb log → SameOutcome (decide_of p tb log)
  unfolding decide_of
  decide_same p tb log s = by_cases SameOutcome (eqb (length (held p tb)) 0) _ _ (λ _. end_committed_same p tb log s) (λ _. by_cases SameOutcome (none is_durable (held p tb)) _ _ (λ _. record { is = same_goes p transaction.committing committed_of s })
      (λ _. by_cases SameOutcome (lacks_room (length (filter is_durable (held p tb))) tb) _ _ (λ _. abort_same p tb log s) (λ _. record { is = (append_same (commit_record (id_at p tb) (held p tb)) (committing p tb) log (same_goes p transaction.committing committed_of s)).is })))

  start_same : (p : ℕ) (tb : Table) (log : List ℕ) → S tb log → SameOutcome (start_phase_one p tb log)
  unfolding start_phase_one
  start_same p tb log s = by_cases SameOutcome (eqb (length (held p tb)) 0) _ _ (λ _. end_committed_same p tb log s) (λ _. by_cases SameOutcome (eqb (length (held p tb)) 1 && all is_marked (held p tb)) _ _
      (λ _. record { is = same_goes p transaction.single_phase (in_state enlistment.one_phase) s }) (λ _. record { is = same_goes p transaction.phase_one (in_state enlistment.preparing) s }))

  follow_same : (f : FollowUp) (p : ℕ) (tb : Table) (log : List ℕ) → S tb log → SameOutcome (follow f p tb log)
  unfolding follow
  follow_same then.Nothing p tb log s = record { is = s }
  follow_same then.StartPhaseOne p tb log s = by_cases SameOutcome (any is_phase_zero (held p tb)) _ _ (λ _. record { is = s }) (λ _. start_same p tb log s)
  follow_same then.Decide p tb log s = by_cases SameOutcome (any (is_in enlistment.preparing) (held p tb)) _ _ (λ _. record { is = s }) (λ _. decide_same p tb log s)
  follow_same then.End p tb log s = end_if_same p tb log s
  follow_same then.Abort p tb log s = abort_same p tb log s
  follow_same (then.EndWith a) p tb log s = record { is = (end_same p tb log s).is }

  react_same : (r : Reaction) (p n : ℕ) (tb : Table) (log : List ℕ) → S tb log → SameOutcome (react r p n tb log)
  unfolding react
  react_same reaction.Refused p n tb log s = record { is = s }
  react_same (reaction.Freed f) p n tb log s = follow_same f p (change_number p n freed tb) log (same_held s p (on_number n freed))
  react_same (reaction.Becomes k f) p n tb log s = follow_same f p (change_number p n (in_state k) tb) log (same_held s p (on_number n (in_state k)))

  reacted_same : (n : ℕ) (a : Act) (tb : Table) (log : List ℕ) → S tb log → SameOutcome (reacted_of n a tb log)
  unfolding reacted_of
  reacted_same n a tb log s = react_same (reaction_of (numbered n tb).kind (numbered n tb).state a) (numbered n tb).holder n tb log s

  each_same : (ps : List ℕ) (tb : Table) (log : List ℕ) → S tb log → SameOutcome (end_each ps tb log)
  unfolding end_each
  each_same [] tb log s = record { is = s }
  each_same (p ∷ ps) tb log s = each_same ps (end_of p tb log).table (end_of p tb log).log (end_same p tb log s).is

  begin_same : (t : Id) (tb : Table) (log : List ℕ) → S tb log → SameOutcome (begin_of t tb log)
  unfolding begin_of
  begin_same t tb log s = record { is = record { transactions = length_put is_free (record { id = record { 0 = t }; state = transaction.active }) tb.transactions ∙ s.transactions; enlistments = s.enlistments; capacity = s.capacity; bytes = s.bytes } }

  enlist_same : (p n : ℕ) (r : Id) (k : Kind) (m : Mark) (tb : Table) (log : List ℕ) → S tb log → SameOutcome (enlist_of p n r k m tb log)
  unfolding enlist_of
  enlist_same p n r k m tb log s = record { is = record { transactions = s.transactions; enlistments = length_put is_vacant (new_enlistment p (state_at p tb) n r k m) tb.enlistments ∙ s.enlistments; capacity = s.capacity; bytes = s.bytes } }

  commit_same : (p : ℕ) (tb : Table) (log : List ℕ) → S tb log → SameOutcome (commit_of p tb log)
  unfolding commit_of
  commit_same p tb log s = by_cases SameOutcome (any is_phase_zero (held p tb)) _ _ (λ _. record { is = same_goes p transaction.phase_zero zeroed_of s }) (λ _. start_same p tb log s)

  ask_same : (p : ℕ) (r : Id) (tb : Table) (log : List ℕ) → S tb log → SameOutcome (ask_of p r tb log)
  unfolding ask_of
  ask_same p r tb log s = by_cases SameOutcome (is_over (state_at p tb)) _ _ (λ _. record { is = s }) (λ _. by_cases SameOutcome (eqb (state_at p tb) transaction.committing) _ _ (λ _. record { is = same_held s p (told_again r) }) (λ _. record { is = s }))

  reenlisted_same : (r : Id) (tb : Table) (log : List ℕ) → S tb log → SameOutcome (reenlisted_of r tb log)
  unfolding reenlisted_of
  reenlisted_same r tb log s = each_same (finished (with_enlistments (map (done_for r) tb.enlistments) tb)) (with_enlistments (map (done_for r) tb.enlistments) tb) log
      (record { transactions = s.transactions; enlistments = length-map tb.enlistments (done_for r) ∙ s.enlistments; capacity = s.capacity; bytes = s.bytes })

  acted_same : (a : Act) (t r : Id) (tb : Table) (log : List ℕ) → S tb log → SameOutcome (acted a t r tb log)
  unfolding acted
  acted_same act.Begin t r tb log s = begin_same t tb log s
  acted_same (act.Enlist n k m) t r tb log s = enlist_same (place_named t tb) n r k m tb log s
  acted_same act.Commit t r tb log s = commit_same (place_named t tb) tb log s
  acted_same (act.ZeroDone n) t r tb log s = reacted_same n (act.ZeroDone n) tb log s
  acted_same (act.Vote n v) t r tb log s = reacted_same n (act.Vote n v) tb log s
  acted_same act.Rollback t r tb log s = abort_same (place_named t tb) tb log s
  acted_same (act.Reply n a) t r tb log s = reacted_same n (act.Reply n a) tb log s
  acted_same (act.Ack n) t r tb log s = reacted_same n (act.Ack n) tb log s
  acted_same (act.Lost n) t r tb log s = reacted_same n (act.Lost n) tb log s
  acted_same act.Ask t r tb log s = ask_same (place_named t tb) r tb log s
  acted_same act.Reenlisted t r tb log s = reenlisted_same r tb log s

pub step_same : (tb : Table) (e : Event) (log : List ℕ) → Same tb log (step_of tb e log).table (step_of tb e log).log
step_same tb e log = by_step (λ s. Same tb log s.table s.log) tb e log (λ fine. (acted_same tb log e.act e.tx.0 e.rm.0 tb log at_first).is) (λ why. at_first)
  where
    at_first : Same tb log tb log
    at_first = record { transactions = refl; enlistments = refl; capacity = refl; bytes = refl }
