-- What an event writes: records behind the used bytes, and nothing else. Each part of an event writes none or one, and what follows goes on behind it.
use Prim.Native.Nat.{ℕ, ◌+◌, ◌≤◌}
use native.Mathlib.Omega.{arith}
use mathlib.Core.Path.{◌≡◌, refl, sym, ◌∙◌, ap}
use mathlib.Core.Bool.{◌&&◌}
use lib.Dec.{eqb}
use Rattle.lists.specs.Lists.{all, any, none, filter}
use mathlib.Core.List.{List, [], ◌∷◌, ◌++◌, append-nil}
use lib.ListN.{length, take, drop, length-append}
use lib.Seq.{sets-eq, drop_at, length-take-le}
use Rattle.lists.proofs.Tests.{by_test}
use Rattle.lists.proofs.Stores.{sets_append}
use Rattle.rules.specs.declared.Table.{Table}
use Rattle.rules.specs.declared.Signal.{Signal}
use Rattle.rules.specs.declared.Act.{Act}
use Rattle.rules.specs.declared.Act.TheVariants as act
use Rattle.rules.specs.declared.Reaction.{Reaction}
use Rattle.rules.specs.declared.Reaction.TheVariants as reaction
use Rattle.rules.specs.declared.FollowUp.{FollowUp}
use Rattle.rules.specs.declared.FollowUp.TheVariants as then
use Rattle.rules.specs.Identifiers.{Id}
use Rattle.rules.specs.TransactionState as transaction
use Rattle.rules.specs.EnlistmentState as enlistment
use Rattle.rules.specs.Sound.{is_open}
use Rattle.rules.specs.Table.{state_at, held, is_phase_zero, is_durable, is_marked, is_in, is_done, change_held, change_transaction, use_more}
use Rattle.rules.specs.Log.{Record, record_bytes, all_bytes, written}
use Rattle.rules.specs.Events.{Outcome, saying, append, end_of, end_if_done, abort_of, end_committed, lacks_room, decide_of, start_phase_one, begin_of, enlist_of, commit_of, follow, react, reacted_of, is_over, ask_of, end_each, reenlisted_of, acted}
use Rattle.rules.proofs.Records.{all_append}
use Rattle.rules.proofs.Frames.{written_used}

-- These records are written behind the used bytes, and no others.
pub record Writes (tb : Table) (log : List ℕ) (o : Outcome) : Type 0 where
  pub records : List Record
  pub used : o.table.used ≡ tb.used + length (all_bytes records)
  pub log_is : o.log ≡ written tb.used (all_bytes records) log

-- ── one after another ───────────────────────────────────────────────────────────────────────────────────────────

writes_none : {tb : Table} {log : List ℕ} {o : Outcome} → o.table.used ≡ tb.used → o.log ≡ log → Writes tb log o
unfolding all_bytes written
writes_none u l = record { records = []; used = omega arith; log_is = l }

-- an append to a table with as many used bytes
writes_one : (r : Record) (tb tb' : Table) (log : List ℕ) → tb'.used ≡ tb.used → Writes tb log (append r tb' log)
unfolding append use_more all_bytes written
writes_one r tb tb' log u = record {
  records = r ∷ [];
  used = rw (append-nil (record_bytes r), u);
  log_is = rw (append-nil (record_bytes r), u);
}

writes_after : {tb tb' : Table} {log : List ℕ} {o : Outcome} → tb'.used ≡ tb.used → Writes tb' log o → Writes tb log o
writes_after {log = log} u w = record { records = w.records; used = w.used ∙ ap (λ n. n + length (all_bytes w.records)) u; log_is = w.log_is ∙ ap (λ n. written n (all_bytes w.records) log) u }

writes_then : {tb : Table} {log : List ℕ} {o o' : Outcome} → Writes tb log o → Writes o.table o.log o' → Writes tb log o'
unfolding written
writes_then {tb} {log} {o} {o'} v w = record {
  records = v.records ++ w.records;
  used = rw (all_append v.records w.records, length-append (all_bytes v.records) (all_bytes w.records)) (omega (arith, v.used, w.used));
  log_is = w.log_is ∙ rw (v.used, v.log_is) (sym (sets_append log tb.used (all_bytes v.records) (all_bytes w.records))) ∙ ap (λ bs. written tb.used bs log) (sym (all_append v.records w.records));
}

writes_saying : {tb : Table} {log : List ℕ} {o : Outcome} (ss : List Signal) → Writes tb log o → Writes tb log (saying ss o)
writes_saying ss w = record { records = w.records; used = w.used; log_is = w.log_is }

-- ── each part ───────────────────────────────────────────────────────────────────────────────────────────────────

module _ (p : ℕ) (tb : Table) (log : List ℕ) where
  end_writes : Writes tb log (end_of p tb log)
  unfolding end_of change_transaction change_held
  end_writes = by_test (is_open (state_at p tb) (held p tb)) (λ t. rw t (writes_one _ tb _ log refl)) (λ t. rw t (writes_none refl refl))

  end_if_done_writes : Writes tb log (end_if_done p tb log)
  unfolding end_if_done
  end_if_done_writes = by_test (all is_done (held p tb)) (λ t. rw t end_writes) (λ t. rw t (writes_none refl refl))

  end_committed_writes : Writes tb log (end_committed p tb log)
  unfolding end_committed
  end_committed_writes = writes_saying _ end_writes

module _ (p : ℕ) (tb : Table) (log : List ℕ) where
  abort_writes : Writes tb log (abort_of p tb log)
  unfolding abort_of change_transaction change_held
  abort_writes = writes_saying _ (writes_after refl (end_if_done_writes p _ log))

  decide_writes : Writes tb log (decide_of p tb log)
  unfolding decide_of change_transaction change_held
  decide_writes = by_test (eqb (length (held p tb)) 0)
      (λ t. rw t (end_committed_writes p tb log))
      (λ t. rw t (by_test (none is_durable (held p tb))
      (λ c. rw c (writes_none refl refl))
      (λ c. rw c (by_test (lacks_room (length (filter is_durable (held p tb))) tb) (λ d. rw d abort_writes) (λ d. rw d (writes_saying _ (writes_one _ tb _ log refl)))))))

  start_writes : Writes tb log (start_phase_one p tb log)
  unfolding start_phase_one change_transaction change_held
  start_writes = by_test (eqb (length (held p tb)) 0)
      (λ t. rw t (end_committed_writes p tb log))
      (λ t. rw t (by_test (eqb (length (held p tb)) 1 && all is_marked (held p tb))
      (λ c. rw c (writes_none refl refl))
      (λ c. rw c (writes_none refl refl))))

  commit_writes : Writes tb log (commit_of p tb log)
  unfolding commit_of change_transaction change_held
  commit_writes = by_test (any is_phase_zero (held p tb)) (λ t. rw t (writes_none refl refl)) (λ t. rw t start_writes)

  follow_writes : (f : FollowUp) → Writes tb log (follow f p tb log)
  unfolding follow
  follow_writes then.Nothing = writes_none refl refl
  follow_writes then.StartPhaseOne = by_test (any is_phase_zero (held p tb)) (λ t. rw t (writes_none refl refl)) (λ t. rw t start_writes)
  follow_writes then.Decide = by_test (any (is_in enlistment.preparing) (held p tb)) (λ t. rw t (writes_none refl refl)) (λ t. rw t decide_writes)
  follow_writes then.End = end_if_done_writes p tb log
  follow_writes then.Abort = abort_writes
  follow_writes (then.EndWith a) = writes_saying _ (end_writes p tb log)

react_writes : (x : Reaction) (p n : ℕ) (tb : Table) (log : List ℕ) → Writes tb log (react x p n tb log)
unfolding react change_held
react_writes reaction.Refused p n tb log = writes_none refl refl
react_writes (reaction.Freed f) p n tb log = writes_after refl (follow_writes p _ log f)
react_writes (reaction.Becomes s f) p n tb log = writes_after refl (follow_writes p _ log f)

ask_writes : (p : ℕ) (r : Id) (tb : Table) (log : List ℕ) → Writes tb log (ask_of p r tb log)
unfolding ask_of change_held
ask_writes p r tb log = by_test (is_over (state_at p tb))
    (λ t. rw t (writes_none refl refl))
    (λ t. rw t (by_test (eqb (state_at p tb) transaction.committing) (λ c. rw c (writes_none refl refl)) (λ c. rw c (writes_none refl refl))))

end_each_writes : (ps : List ℕ) (tb : Table) (log : List ℕ) → Writes tb log (end_each ps tb log)
unfolding end_each
end_each_writes [] tb log = writes_none refl refl
end_each_writes (p ∷ ps) tb log = writes_then (end_writes p tb log) (end_each_writes ps (end_of p tb log).table (end_of p tb log).log)

pub writes : (a : Act) (t r : Id) (tb : Table) (log : List ℕ) → Writes tb log (acted a t r tb log)
unfolding acted begin_of enlist_of reacted_of reenlisted_of
writes act.Begin t r tb log = writes_none refl refl
writes (act.Enlist n k m) t r tb log = writes_none refl refl
writes act.Commit t r tb log = commit_writes _ tb log
writes (act.ZeroDone n) t r tb log = react_writes _ _ n tb log
writes (act.Vote n v) t r tb log = react_writes _ _ n tb log
writes act.Rollback t r tb log = abort_writes _ tb log
writes (act.Reply n a) t r tb log = react_writes _ _ n tb log
writes (act.Ack n) t r tb log = react_writes _ _ n tb log
writes (act.Lost n) t r tb log = react_writes _ _ n tb log
writes act.Ask t r tb log = ask_writes _ r tb log
writes act.Reenlisted t r tb log = writes_after refl (end_each_writes _ _ log)

-- ── where they fit ──────────────────────────────────────────────────────────────────────────────────────────────

-- the bytes stored, and what stands beyond them
pub written_whole : (u : ℕ) (bs log : List ℕ) → u + length bs ≤ length log
    → (take (u + length bs) (written u bs log) ≡ take u log ++ bs) × (drop (u + length bs) (written u bs log) ≡ drop (u + length bs) log)
unfolding written
written_whole u bs log h =
    let e : length (take u log ++ bs) ≡ u + length bs = length-append (take u log) bs ∙ ap (λ n. n + length bs) (length-take-le u log (omega arith)) in
    (written_used u bs log h, rw (sets-eq bs log u h) (drop_at (take u log ++ bs) (drop (u + length bs) log) (u + length bs) e))
