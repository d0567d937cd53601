-- The events: what each does to the table and the log, and which signals it sends. Whether it is refused is said in Refusals.
use Rattle.std.specs.Prelude.{ℕ, ◌+◌, ◌*◌, ◌-◌, Bool, cond, not, ◌&&◌, ◌||◌, List, [], ◌∷◌, ◌++◌, map, eqb, ltb, leb, length}
use Rattle.lists.specs.Lists.{all, any, none, filter, first_or}
use Rattle.lists.specs.Places.{put_lowest, places_where}
use Rattle.lists.specs.Sorting.{sort_by}
use Rattle.rules.specs.declared.Enlistment.{Enlistment}
use Rattle.rules.specs.declared.Table.{Table}
use Rattle.rules.specs.declared.Signal.{Signal}
use Rattle.rules.specs.declared.Event.{Event}
use Rattle.rules.specs.declared.Act.{Act}
use Rattle.rules.specs.declared.Act.TheVariants as act
use Rattle.rules.specs.declared.Kind.{Kind}
use Rattle.rules.specs.declared.Kind.TheVariants as asked
use Rattle.rules.specs.declared.Mark.{Mark}
use Rattle.rules.specs.declared.Mark.TheVariants as marking
use Rattle.rules.specs.declared.Vote.{Vote}
use Rattle.rules.specs.declared.Vote.TheVariants as vote
use Rattle.rules.specs.declared.Reply.{Reply}
use Rattle.rules.specs.declared.Reply.TheVariants as reply
use Rattle.rules.specs.declared.Name.{Name}
use Rattle.rules.specs.declared.Name.TheVariants as name
use Rattle.rules.specs.declared.FollowUp.{FollowUp}
use Rattle.rules.specs.declared.FollowUp.TheVariants as then
use Rattle.rules.specs.declared.Reaction.{Reaction}
use Rattle.rules.specs.declared.Reaction.TheVariants as reaction
use Rattle.rules.specs.Kinds as kind
use Rattle.rules.specs.Marks as mark
use Rattle.rules.specs.TransactionState as transaction
use Rattle.rules.specs.EnlistmentState as enlistment
use Rattle.rules.specs.Identifiers.{Id, less_bytes}
use Rattle.rules.specs.Table.{no_enlistment, place_named, state_at, id_at, is_free, is_vacant, held, numbered, is_phase_zero, durable_kind, is_durable, is_durable_of, is_marked, is_in, is_done, in_state, freed, with_transactions, with_enlistments, change_held, change_number, go_to, emptied, use_more}
use Rattle.rules.specs.Sound.{is_open, open_count}
use Rattle.rules.specs.Signals.{by_number, signal, to_each, to_app}
use Rattle.rules.specs.Log.{Entry, Record, record_bytes, commit_size, forget_size, written}

-- What an event that is not refused gives.
pub record Outcome : Type 0 where
  pub table : Table
  pub log : List ℕ
  pub signals : List Signal

abbrev pub quietly : Table → List ℕ → Outcome
quietly tb log = record { table = tb; log = log; signals = [] }

abbrev pub saying : List Signal → Outcome → Outcome
saying ss o = record { table = o.table; log = o.log; signals = ss }

-- a record is written behind the used bytes
unfoldable pub append : Record → Table → List ℕ → Outcome
append r tb log = quietly (use_more (length (record_bytes r)) tb) (written tb.used (record_bytes r) log)

-- ── the end of a transaction: p is its place, here and below ────────────────────────────────────────────────────

-- "it ends and its places are emptied. Ending an open transaction appends its forget record"
unfoldable pub end_of : ℕ → Table → List ℕ → Outcome
end_of p tb log =
    cond (is_open (state_at p tb) (held p tb))
    (append (Record.forget (id_at p tb)) (emptied p tb) log)
    (quietly (emptied p tb) log)

-- "After a decision places stay held until all of the transaction's enlistments are Done (or none is held); then it ends"
unfoldable pub end_if_done : ℕ → Table → List ℕ → Outcome
end_if_done p tb log = cond (all is_done (held p tb)) (end_of p tb log) (quietly tb log)

-- ── Abort: "enlistments in 1, 2, 3, 4 become 9 with signal abort; 5 becomes Done; app-aborted" ──────────────────

abbrev pub hears_abort : Enlistment → Bool
hears_abort e = ltb 0 e.state && leb e.state enlistment.prepared

unfoldable pub aborted_of : Enlistment → Enlistment
aborted_of e =
    cond (hears_abort e) (in_state enlistment.told_abort e)
    (cond (is_in enlistment.prepared_lost e) (in_state enlistment.done e)
    e)

unfoldable pub abort_of : ℕ → Table → List ℕ → Outcome
abort_of p tb log =
    saying (to_each name.Abort (filter hears_abort (held p tb)) ++ to_app name.AppAborted)
    (end_if_done p (go_to p transaction.aborting (change_held p aborted_of tb)) log)

-- ── Decide ──────────────────────────────────────────────────────────────────────────────────────────────────────

-- "commit: .. T, then n times RM and number, ascending by number": of the D held
abbrev pub entry_of : Enlistment → Entry
entry_of e = record { rm = e.rm.0; number = e.number }

unfoldable pub commit_record : Id → List Enlistment → Record
commit_record t hs = Record.commit t (map entry_of (sort_by by_number (filter is_durable hs)))

-- "capacity − used < 18 + 20n + 18 × (1 + open)": the record itself, and the forget records of this transaction and of the open ones
unfoldable pub lacks_room : ℕ → Table → Bool
lacks_room n tb = ltb (tb.capacity - tb.used) (commit_size n + forget_size * (1 + open_count tb))

-- "4 becomes 7 with signal commit, 5 becomes 8"
unfoldable pub committed_of : Enlistment → Enlistment
committed_of e =
    cond (is_in enlistment.prepared e) (in_state enlistment.told_commit e)
    (cond (is_in enlistment.prepared_lost e) (in_state enlistment.failed_to_notify e)
    e)

-- "app-committed follows"
unfoldable pub commit_signals : List Enlistment → List Signal
commit_signals hs = to_each name.Commit (filter (is_in enlistment.prepared) hs) ++ to_app name.AppCommitted

abbrev pub committing : ℕ → Table → Table
committing p tb = go_to p transaction.committing (change_held p committed_of tb)

-- "nothing held: app-committed, ends"
unfoldable pub end_committed : ℕ → Table → List ℕ → Outcome
end_committed p tb log = saying (to_app name.AppCommitted) (end_of p tb log)

unfoldable pub decide_of : ℕ → Table → List ℕ → Outcome
decide_of p tb log =
    let hs = held p tb in
    cond (eqb (length hs) 0) (end_committed p tb log)
    -- "Without a D no record is written."
    (cond (none is_durable hs) (saying (commit_signals hs) (quietly (committing p tb) log))
    (cond (lacks_room (length (filter is_durable hs)) tb) (abort_of p tb log)
    (saying (commit_signals hs) (append (commit_record (id_at p tb) hs) (committing p tb) log))))

-- ── Start phase one ─────────────────────────────────────────────────────────────────────────────────────────────

-- "One held, marked yes: single to it. Else prepare to all."
unfoldable pub start_phase_one : ℕ → Table → List ℕ → Outcome
start_phase_one p tb log =
    let hs = held p tb in
    cond (eqb (length hs) 0) (end_committed p tb log)
    (cond (eqb (length hs) 1 && all is_marked hs)
    (saying (to_each name.Single hs) (quietly (go_to p transaction.single_phase (change_held p (in_state enlistment.one_phase) tb)) log))
    (saying (to_each name.Prepare hs) (quietly (go_to p transaction.phase_one (change_held p (in_state enlistment.preparing) tb)) log)))

-- ── Begin, Enlist, Commit, Rollback ─────────────────────────────────────────────────────────────────────────────

-- "Begin T: Active." "a new entry takes the lowest empty one"
unfoldable pub begin_of : Id → Table → List ℕ → Outcome
begin_of t tb log =
    quietly (with_transactions (put_lowest is_free (record { id = record { 0 = t }; state = transaction.active }) tb.transactions) tb) log

-- the kind and the mark that are stored; "for P the mark is always stored as no"
abbrev pub kind_of : Kind → ℕ
kind_of asked.PhaseZero = kind.phase_zero
kind_of asked.Volatile = kind.volatile
kind_of asked.Durable = kind.durable

abbrev pub mark_asked : Mark → ℕ
mark_asked marking.No = mark.unmarked
mark_asked marking.Yes = mark.marked

abbrev pub mark_of : Kind → Mark → ℕ
mark_of asked.PhaseZero m = mark.unmarked
mark_of asked.Volatile m = mark_asked m
mark_of asked.Durable m = mark_asked m

-- "P in Phase Zero is signalled zero at once and stands in 2"
abbrev pub zero_at_once : Kind → ℕ → Bool
zero_at_once k s = eqb (kind_of k) kind.phase_zero && eqb s transaction.phase_zero

unfoldable pub new_enlistment : ℕ → ℕ → ℕ → Id → Kind → Mark → Enlistment
new_enlistment p s n r k m = record {
  holder = p;
  rm = record { 0 = r };
  number = n;
  kind = kind_of k;
  mark = mark_of k m;
  state = cond (zero_at_once k s) enlistment.zero enlistment.active;
}

unfoldable pub enlist_of : ℕ → ℕ → Id → Kind → Mark → Table → List ℕ → Outcome
enlist_of p n r k m tb log =
    saying (cond (zero_at_once k (state_at p tb)) (signal name.Zero n ∷ []) [])
    (quietly (with_enlistments (put_lowest is_vacant (new_enlistment p (state_at p tb) n r k m) tb.enlistments) tb) log)

-- "With P held: Phase Zero, signal zero to each P. Else start phase one."
abbrev pub zeroed_of : Enlistment → Enlistment
zeroed_of e = cond (is_phase_zero e) (in_state enlistment.zero e) e

unfoldable pub commit_of : ℕ → Table → List ℕ → Outcome
commit_of p tb log =
    cond (any is_phase_zero (held p tb))
    (saying (to_each name.Zero (filter is_phase_zero (held p tb))) (quietly (go_to p transaction.phase_zero (change_held p zeroed_of tb)) log))
    (start_phase_one p tb log)

-- ── the events about one enlistment: what becomes of it, by its kind k and state s, and what follows ────────────

-- "Vote N: in 3. Prepared: 4. Read-only: place freed. Aborted: Done, then abort. If no Preparing is left and none aborted, decide."
abbrev pub to_vote : Vote → Reaction
to_vote vote.Prepared = reaction.Becomes enlistment.prepared then.Decide
to_vote vote.ReadOnly = reaction.Freed then.Decide
to_vote vote.Aborted = reaction.Becomes enlistment.done then.Abort

-- "Single-phase reply N: in 6. app-committed, app-aborted or app-in-doubt; ends."
abbrev pub to_reply : Reply → Name
to_reply reply.Committed = name.AppCommitted
to_reply reply.Aborted = name.AppAborted
to_reply reply.InDoubt = name.AppInDoubt

-- "Lost N: in 1, 2, 3, or V in 4: Done, then abort. D in 4: 5. In 6: app-in-doubt, ends. V in 7: Done. D in 7: 8. In 9: Done."
unfoldable pub to_lost : ℕ → ℕ → Reaction
to_lost k s =
    cond (eqb s enlistment.active || eqb s enlistment.zero || eqb s enlistment.preparing) (reaction.Becomes enlistment.done then.Abort)
    (cond (eqb s enlistment.prepared)
    (cond (durable_kind k) (reaction.Becomes enlistment.prepared_lost then.Nothing) (reaction.Becomes enlistment.done then.Abort))
    (cond (eqb s enlistment.one_phase) (reaction.Freed (then.EndWith name.AppInDoubt))
    (cond (eqb s enlistment.told_commit)
    (cond (durable_kind k) (reaction.Becomes enlistment.failed_to_notify then.Nothing) (reaction.Becomes enlistment.done then.End))
    (cond (eqb s enlistment.told_abort) (reaction.Becomes enlistment.done then.End)
    reaction.Refused))))

unfoldable pub reaction_of : ℕ → ℕ → Act → Reaction
-- "Zero done N: in 2. Place freed; if no P is left, start phase one."
reaction_of k s (act.ZeroDone n) = cond (eqb s enlistment.zero) (reaction.Freed then.StartPhaseOne) reaction.Refused
reaction_of k s (act.Vote n v) = cond (eqb s enlistment.preparing) (to_vote v) reaction.Refused
reaction_of k s (act.Reply n r) = cond (eqb s enlistment.one_phase) (reaction.Freed (then.EndWith (to_reply r))) reaction.Refused
-- "Ack N: in 7 or 9. Done."
reaction_of k s (act.Ack n) = cond (eqb s enlistment.told_commit || eqb s enlistment.told_abort) (reaction.Becomes enlistment.done then.End) reaction.Refused
reaction_of k s (act.Lost n) = to_lost k s
-- the others are not about one enlistment
reaction_of k s act.Begin = reaction.Refused
reaction_of k s (act.Enlist n j m) = reaction.Refused
reaction_of k s act.Commit = reaction.Refused
reaction_of k s act.Rollback = reaction.Refused
reaction_of k s act.Ask = reaction.Refused
reaction_of k s act.Reenlisted = reaction.Refused

unfoldable pub follow : FollowUp → ℕ → Table → List ℕ → Outcome
follow then.Nothing p tb log = quietly tb log
follow then.StartPhaseOne p tb log = cond (any is_phase_zero (held p tb)) (quietly tb log) (start_phase_one p tb log)
follow then.Decide p tb log = cond (any (is_in enlistment.preparing) (held p tb)) (quietly tb log) (decide_of p tb log)
follow then.End p tb log = end_if_done p tb log
follow then.Abort p tb log = abort_of p tb log
follow (then.EndWith a) p tb log = saying (to_app a) (end_of p tb log)

-- number n, held by the transaction at place p
unfoldable pub react : Reaction → ℕ → ℕ → Table → List ℕ → Outcome
react reaction.Refused p n tb log = quietly tb log
react (reaction.Freed f) p n tb log = follow f p (change_number p n freed tb) log
react (reaction.Becomes s f) p n tb log = follow f p (change_number p n (in_state s) tb) log

unfoldable pub reacted_of : ℕ → Act → Table → List ℕ → Outcome
reacted_of n a tb log =
    let e = numbered n tb in
    react (reaction_of e.kind e.state a) e.holder n tb log

-- ── Ask ─────────────────────────────────────────────────────────────────────────────────────────────────────────

-- "the RM needs a D in T that isn't Done"
abbrev pub is_undone : Id → Enlistment → Bool
is_undone r e = is_durable_of r e && not (is_done e)

-- "T not live, or Aborting"
abbrev pub is_over : ℕ → Bool
is_over s = eqb s 0 || eqb s transaction.aborting

-- "and 8 becomes 7"
abbrev pub told_again : Id → Enlistment → Enlistment
told_again r e = cond (is_undone r e && is_in enlistment.failed_to_notify e) (in_state enlistment.told_commit e) e

-- "These two carry the D's number."
unfoldable pub ask_of : ℕ → Id → Table → List ℕ → Outcome
ask_of p r tb log =
    let n = (first_or no_enlistment (is_undone r) (held p tb)).number in
    cond (is_over (state_at p tb)) (saying (signal name.AnswerAborted 0 ∷ []) (quietly tb log))
    (cond (eqb (state_at p tb) transaction.committing)
    (saying (signal name.AnswerCommitted n ∷ []) (quietly (change_held p (told_again r) tb) log))
    (saying (signal name.AnswerNotYet n ∷ []) (quietly tb log)))

-- ── Re-enlisted ─────────────────────────────────────────────────────────────────────────────────────────────────

-- "every D of that RM that isn't Done stands in 8 ..; all of these become Done"
abbrev pub done_for : Id → Enlistment → Enlistment
done_for r e = cond (is_durable_of r e && is_in enlistment.failed_to_notify e) (in_state enlistment.done e) e

-- Those that end by it, since "all of the transaction's enlistments are Done": only Committing ones hold a D in 8.
abbrev pub by_identifier : Table → ℕ → ℕ → Bool
by_identifier tb p q = less_bytes (id_at p tb) (id_at q tb)

unfoldable pub finished : Table → List ℕ
finished tb =
    sort_by (by_identifier tb)
    (places_where (λ p x. eqb x.state transaction.committing && all is_done (held p tb)) tb.transactions)

-- "several in one event go by ascending identifier"
unfoldable pub end_each : List ℕ → Table → List ℕ → Outcome
end_each [] tb log = quietly tb log
end_each (p ∷ ps) tb log = let o = end_of p tb log in end_each ps o.table o.log

unfoldable pub reenlisted_of : Id → Table → List ℕ → Outcome
reenlisted_of r tb log =
    let after = with_enlistments (map (done_for r) tb.enlistments) tb in
    end_each (finished after) after log

-- ── every event ─────────────────────────────────────────────────────────────────────────────────────────────────

unfoldable pub acted : Act → Id → Id → Table → List ℕ → Outcome
acted act.Begin t r tb log = begin_of t tb log
acted (act.Enlist n k m) t r tb log = enlist_of (place_named t tb) n r k m tb log
acted act.Commit t r tb log = commit_of (place_named t tb) tb log
acted (act.ZeroDone n) t r tb log = reacted_of n (act.ZeroDone n) tb log
acted (act.Vote n v) t r tb log = reacted_of n (act.Vote n v) tb log
-- "Rollback T: in Active or Phase Zero, abort."
acted act.Rollback t r tb log = abort_of (place_named t tb) tb log
acted (act.Reply n a) t r tb log = reacted_of n (act.Reply n a) tb log
acted (act.Ack n) t r tb log = reacted_of n (act.Ack n) tb log
acted (act.Lost n) t r tb log = reacted_of n (act.Lost n) tb log
acted act.Ask t r tb log = ask_of (place_named t tb) r tb log
acted act.Reenlisted t r tb log = reenlisted_of r tb log

abbrev pub accepted_of : Table → Event → List ℕ → Outcome
accepted_of tb e log = acted e.act e.tx.0 e.rm.0 tb log
