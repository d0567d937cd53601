-- Every accepted step is a move of every transaction: of the one that the event is about by what was shown of each event, and none of the others, since record,
-- place, note and messages are about that one.
use Prim.Native.Nat.{ℕ}
use native.Mathlib.Omega.{arith}
use mathlib.Core.Path.{◌≡◌, refl, sym, ◌∙◌, ap, subst}
use mathlib.Core.Logic.{◌⊎◌}
use mathlib.Core.Bool.{true, false, not, ◌||◌}
use mathlib.Core.List.{List, ◌++◌, map}
use lib.ListN.{length, take}
use lib.Dec.{eqb, leb}
use borrow.Author.Tests.{eqb-true, eqb-false, not-false}
use Rattle.lists.specs.Lists.{any, none}
use Rattle.lists.specs.Members.{Each}
use Rattle.lists.proofs.Tests.{by_test, no_clash, is_false, false_or}
use Rattle.rules.specs.declared.Table.{Table}
use Rattle.rules.specs.declared.TxId.{TxId}
use Rattle.rules.specs.declared.RmId.{RmId}
use Rattle.rules.specs.declared.Event.{Event}
use Rattle.rules.specs.declared.Act.{Act}
use Rattle.rules.specs.declared.Act.TheVariants as act
use Rattle.rules.specs.RefusalNumber as refusal
use Rattle.rules.specs.TransactionState as transaction
use Rattle.rules.specs.Sizes.{held_most}
use Rattle.rules.specs.Identifiers.{Id, same_bytes}
use Rattle.rules.specs.Table.{is_free, is_vacant, place_named, state_at, held, numbered}
use Rattle.rules.specs.Sound.{Sound, sound_of}
use Rattle.rules.specs.Log.{Record, all_bytes}
use Rattle.rules.specs.Events.{Outcome, acted, reacted_of, reaction_of, end_each, reenlisted_of}
use Rattle.rules.specs.Refusals.{is_number_held, is_refused, refusal_of, is_one_of, names_zero, is_not_live, is_not_held, is_already_live, is_state_wrong, is_reaction_refused, is_full}
use Rattle.rules.specs.Step.{done_step, step_of}
use Rattle.rules.proofs.Identifiers.{same_refl, same_equal}
use Rattle.rules.proofs.Soundness.{sound_sentences}
use Rattle.rules.proofs.Records.{Valid}
use Rattle.rules.proofs.Checks as checks
use Rattle.rules.proofs.Checks.{accepted}
use Rattle.rules.proofs.Refused.{step_done, step_refusal, refused_step_lem}
use Rattle.rules.proofs.Count.{end_each_quiet}
use Rattle.safety.specs.World.{Note, owner_of, told, note_of, message_of, subject, subject_of, used_part}
use Rattle.safety.specs.Host.{careful, Makes}
use Rattle.safety.proofs.Alone.{Story}
use Rattle.safety.proofs.Move.{Calm, Move, stay}
use Rattle.safety.proofs.Top.{Agrees, Refused, Accepted}
use Rattle.safety.proofs.Story.{story, story_of, Formed, formed_append, story_more}
use Rattle.safety.proofs.View.{view_of}
use Rattle.safety.proofs.Given.{Named, named_sound}
use Rattle.safety.proofs.Fitting.{Written}
use Rattle.safety.proofs.Messages.{quiet_other}
use Rattle.safety.proofs.Own.{Own}
use Rattle.safety.proofs.Reactions.{Reacts, reacts_zero_done, reacts_vote, reacts_reply, reacts_ack, reacts_to_lost}
use Rattle.safety.proofs.Calls.{own_begin, own_enlist, own_commit, own_rollback, own_ask}
use Rattle.safety.proofs.Ends.{forgets, each_valid, each_bytes}
use Rattle.safety.proofs.Reenlisted.{after, ps, reenlisted_is, roomy_after, finished_places, reenlisted_move, reenlisted_judged}
use Rattle.rules.proofs.Own.{active_or_zero}

-- ── notes of one transaction are calm for every other ───────────────────────────────────────────────────────────

-- the transaction that a note is about, if it tells of an enlistment or a vote
noted : Note → Id → Id
noted (Note.begun t) d = d
noted (Note.enlisted t n r k) d = t
noted (Note.voted t n r k v) d = t
noted (Note.replied t n r) d = d
noted (Note.acked t n r k) d = d
noted (Note.reenlisted r) d = d
noted Note.nothing d = d

calm_other : (u : Id) (x : Note) (d : Id) → (u ≡ noted x d → ⊥) → Calm u x
unfolding noted
calm_other u x d f = record {
  not_enlisted = λ n r k q. f (sym (ap (λ y. noted y d) q));
  not_prepared = λ r q. f (sym (ap (λ y. noted y d) q.1));
}

noted_subject : (a : Act) (t r : Id) (tb : Table) → noted (told a t r tb) (subject a t tb) ≡ subject a t tb
unfolding noted told
noted_subject act.Begin t r tb = refl
noted_subject (act.Enlist n k m) t r tb = refl
noted_subject act.Commit t r tb = refl
noted_subject (act.ZeroDone n) t r tb = refl
noted_subject (act.Vote n v) t r tb = refl
noted_subject act.Rollback t r tb = refl
noted_subject (act.Reply n a) t r tb = refl
noted_subject (act.Ack n) t r tb = refl
noted_subject (act.Lost n) t r tb = refl
noted_subject act.Ask t r tb = refl
noted_subject act.Reenlisted t r tb = refl

-- ── from an outcome's own move to the moves of all ──────────────────────────────────────────────────────────────

record Moved (tb : Table) (e : Event) (log : List ℕ) (o : Outcome) : Type 0 where
  accepts : Accepted view_of story_of Formed tb e log (done_step o)
  written : Written tb log o.table o.log

accept : (tb : Table) (e : Event) (log : List ℕ) (o : Outcome) → Formed (used_part tb log) → (w : Written tb log o.table o.log)
    → ((h : List Note) → Makes careful h e → (t : Id) → Agrees (view_of t tb) (story_of t (used_part tb log))
    → Move t h (note_of tb e) (map (message_of tb e) o.signals) (story_of t (used_part tb log)) (story t (story_of t (used_part tb log)) w.records) (view_of t tb) (view_of t o.table))
    → Moved tb e log o
accept tb e log o f w moves = record {
  written = w;
  accepts = record {
    formed = formed_append f w.records w.valid w.bytes;
    added = all_bytes w.records;
    appended = w.bytes;
    moves = λ h made t a. rw (w.bytes, story_more t (used_part tb log) f w.records w.valid) (moves h made t a);
  };
}

own_all : (tb : Table) (e : Event) (log : List ℕ) (o : Outcome) → Formed (used_part tb log) → Own tb e log (subject_of tb e) o → Moved tb e log o
own_all tb e log o f w = accept tb e log o f w.wrote (λ h made t a. by_test (same_bytes t (subject_of tb e))
    (λ b. own h made t (same_equal t (subject_of tb e) b) a)
    (λ b. other h t (λ q. no_clash (same_bytes t (subject_of tb e)) (rw q (same_refl (subject_of tb e))) b)))
  where
    l : Id → Story
    l t = story_of t (used_part tb log)

    Moves : List Note → Id → Type 0
    Moves h t = Move t h (note_of tb e) (map (message_of tb e) o.signals) (l t) (story t (l t) w.wrote.records) (view_of t tb) (view_of t o.table)

    own : (h : List Note) → Makes careful h e → (t : Id) → t ≡ subject_of tb e → Agrees (view_of t tb) (l t) → Moves h t
    own h made t q a = subst (λ t. Agrees (view_of t tb) (l t) → Moves h t) (sym q) (λ a. w.move h made (l (subject_of tb e)) a) a

    other : (h : List Note) (t : Id) → (t ≡ subject_of tb e → ⊥) → Moves h t
    other h t n = rw (w.other_story t n (l t), w.other_view t n) (stay refl (calm_other t (note_of tb e) (subject_of tb e) (λ q. n (q ∙ noted_subject e.act e.tx.0 e.rm.0 tb))) (quiet_other t tb e o.signals n w.addressed))

-- a finished re-enlistment is about no single transaction
reenlisted_all : (tb : Table) (x : TxId) (y : RmId) (log : List ℕ) → Sound tb → length log ≡ tb.capacity → Formed (used_part tb log)
    → Moved tb (record { tx = x; rm = y; act = act.Reenlisted }) log (reenlisted_of y.0 tb log)
unfolding after told
reenlisted_all tb x y log s full f = rw (reenlisted_is y.0 tb log s full) (accept tb (record { tx = x; rm = y; act = act.Reenlisted }) log (end_each places table log) f
    (record { records = rs; valid = valid; bytes = bytes; judged = reenlisted_judged y.0 tb log s full })
    (λ h made t a. rw (end_each_quiet places table log) (reenlisted_move y.0 tb log s full t h (story_of t (used_part tb log)) a)))
  where
    table : Table
    table = after y.0 tb log s full

    places : List ℕ
    places = ps y.0 tb log s full

    rs : List Record
    rs = forgets places table log

    valid : Each Valid rs
    valid = each_valid places table log (roomy_after y.0 tb log s full) (finished_places y.0 tb log s full)

    bytes : take (end_each places table log).table.used (end_each places table log).log ≡ take tb.used log ++ all_bytes rs
    bytes = each_bytes places table log (roomy_after y.0 tb log s full) (finished_places y.0 tb log s full)

-- ── every event ─────────────────────────────────────────────────────────────────────────────────────────────────

module _ (tb : Table) (x : TxId) (y : RmId) (log : List ℕ) (f : Formed (used_part tb log)) where
  abbrev event : Act → Event
  event a = record { tx = x; rm = y; act = a }

  module _ (a : Act) (c : checks.Accepted tb (event a) (length log)) where
    sound : Sound tb
    sound = sound_sentences tb c.sound

    full : length log ≡ tb.capacity
    full = c.log_length

  abbrev place : ℕ
  place = place_named x.0 tb

  early_state : (not (eqb (state_at place tb) transaction.active || eqb (state_at place tb) transaction.phase_zero) || false) ≡ false → (state_at place tb ≡ transaction.active) ⊎ (state_at place tb ≡ transaction.phase_zero)
  early_state q = active_or_zero (state_at place tb) (false_or (not (eqb (state_at place tb) transaction.active || eqb (state_at place tb) transaction.phase_zero)) false q).0

  -- an event about one enlistment
  reacted : (n : ℕ) (a : Act) (c : checks.Accepted tb (event a) (length log)) → eqb n 0 ≡ false → not (is_number_held n tb) ≡ false → is_refused (reaction_of (numbered n tb).kind (numbered n tb).state a) ≡ false
      → (named : Named tb n) → subject_of tb (event a) ≡ owner_of n tb → Reacts tb log n (sound a c) (full a c) named x y a (reaction_of (numbered n tb).kind (numbered n tb).state a)
      → Moved tb (event a) log (reacted_of n a tb log)
  unfolding reacted_of
  reacted n a c nonzero h ok named about r = own_all tb (event a) log _ f (rw about (r.gives ok))

  one : (n : ℕ) (a : Act) (c : checks.Accepted tb (event a) (length log)) → eqb n 0 ≡ false → not (is_number_held n tb) ≡ false → Named tb n
  one n a c nonzero h = named_sound tb (sound a c) n (eqb-false n 0 nonzero) (not-false (is_number_held n tb) h)

  moved : (a : Act) → checks.Accepted tb (event a) (length log) → Moved tb (event a) log (acted a x.0 y.0 tb log)
  unfolding acted names_zero is_not_live is_not_held is_already_live is_state_wrong is_reaction_refused is_full is_one_of any
  moved act.Begin c = own_all tb (event act.Begin) log _ f (own_begin tb log (sound act.Begin c) x y
      (eqb-true place 0 (not-false (eqb place 0) c.not_already_live)) (not-false (any is_free tb.transactions) (false_or (none is_free tb.transactions) false c.not_full).0))
  moved (act.Enlist n k m) c = own_all tb (event (act.Enlist n k m)) log _ f (own_enlist tb log (sound (act.Enlist n k m) c) x y (eqb-false place 0 c.live) n k m
      (early_state c.state_right) (not-false (any is_vacant tb.enlistments) (false_or (none is_vacant tb.enlistments) (leb held_most (length (held place tb))) c.not_full).0))
  moved act.Commit c = own_all tb (event act.Commit) log _ f (own_commit tb log (sound act.Commit c) x y (eqb-false place 0 c.live) (eqb-true (state_at place tb) transaction.active (not-false (eqb (state_at place tb) transaction.active) c.state_right)))
  moved (act.ZeroDone n) c = let named : Named tb n = one n (act.ZeroDone n) c c.zero_not_named c.number_held in
      reacted n (act.ZeroDone n) c c.zero_not_named c.number_held c.reaction_not_refused named refl (reacts_zero_done tb log n (sound (act.ZeroDone n) c) (full (act.ZeroDone n) c) named x y)
  moved (act.Vote n v) c = let named : Named tb n = one n (act.Vote n v) c c.zero_not_named c.number_held in
      reacted n (act.Vote n v) c c.zero_not_named c.number_held c.reaction_not_refused named refl (reacts_vote tb log n (sound (act.Vote n v) c) (full (act.Vote n v) c) named x y v)
  moved act.Rollback c = own_all tb (event act.Rollback) log _ f (own_rollback tb log (sound act.Rollback c) x y (eqb-false place 0 c.live) (early_state c.state_right))
  moved (act.Reply n r) c = let named : Named tb n = one n (act.Reply n r) c c.zero_not_named c.number_held in
      reacted n (act.Reply n r) c c.zero_not_named c.number_held c.reaction_not_refused named refl (reacts_reply tb log n (sound (act.Reply n r) c) (full (act.Reply n r) c) named x y r)
  moved (act.Ack n) c = let named : Named tb n = one n (act.Ack n) c c.zero_not_named c.number_held in
      reacted n (act.Ack n) c c.zero_not_named c.number_held c.reaction_not_refused named refl (reacts_ack tb log n (sound (act.Ack n) c) (full (act.Ack n) c) named x y)
  moved (act.Lost n) c = let named : Named tb n = one n (act.Lost n) c c.zero_not_named c.number_held in
      reacted n (act.Lost n) c c.zero_not_named c.number_held c.reaction_not_refused named refl (reacts_to_lost tb log n (sound (act.Lost n) c) (full (act.Lost n) c) named x y)
  moved act.Ask c = own_all tb (event act.Ask) log _ f (own_ask tb log (sound act.Ask c) x y)
  moved act.Reenlisted c = reenlisted_all tb x y log (sound act.Reenlisted c) (full act.Reenlisted c) f

-- ── a step ──────────────────────────────────────────────────────────────────────────────────────────────────────

done : (tb : Table) (e : Event) (log : List ℕ) → eqb (step_of tb e log).refusal 0 ≡ true → refusal_of tb e (length log) ≡ refusal.accepted
done tb e log q = sym (step_refusal tb e log) ∙ eqb-true (step_of tb e log).refusal 0 q

pub step_accepts : (tb : Table) (e : Event) (log : List ℕ) → eqb (step_of tb e log).refusal 0 ≡ true → Formed (used_part tb log) → Accepted view_of story_of Formed tb e log (step_of tb e log)
step_accepts tb e log q f = rw (step_done tb e log (done tb e log q)) (moved tb e.tx e.rm log f e.act (accepted tb e (length log) (done tb e log q))).accepts

pub step_writes : (tb : Table) (e : Event) (log : List ℕ) → eqb (step_of tb e log).refusal 0 ≡ true → Formed (used_part tb log) → Written tb log (step_of tb e log).table (step_of tb e log).log
step_writes tb e log q f = rw (step_done tb e log (done tb e log q)) (moved tb e.tx e.rm log f e.act (accepted tb e (length log) (done tb e log q))).written

pub step_refuses : (tb : Table) (e : Event) (log : List ℕ) → eqb (step_of tb e log).refusal 0 ≡ false → Refused tb log (step_of tb e log)
step_refuses tb e log q = rw (refused_step_lem tb e log (step_of tb e log).refusal refl (eqb-false (step_of tb e log).refusal 0 q)) (record { table_kept = refl; log_kept = refl; silent = refl })

pub step_needs_sound : (tb : Table) (e : Event) (log : List ℕ) → eqb (step_of tb e log).refusal 0 ≡ true → sound_of tb ≡ true
step_needs_sound tb e log q = (accepted tb e (length log) (done tb e log q)).sound

-- a table whose log is not used is not sound
pub zero_unsound : (tb : Table) → tb.used ≡ 0 → sound_of tb ≡ false
zero_unsound tb q = is_false (sound_of tb) (λ s. omega (arith, q, (sound_sentences tb s).header_used))
