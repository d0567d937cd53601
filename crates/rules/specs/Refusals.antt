-- Refusals of a step: what each number is given when, and their order.
use Rattle.std.specs.Prelude.{ℕ, Bool, cond, not, ◌&&◌, ◌||◌, List, [], ◌∷◌, eqb, leb, length}
use Rattle.lists.specs.Lists.{any, none}
use Rattle.rules.specs.declared.Enlistment.{Enlistment}
use Rattle.rules.specs.declared.Table.{Table}
use Rattle.rules.specs.declared.Event.{Event}
use Rattle.rules.specs.declared.Act.{Act}
use Rattle.rules.specs.declared.Act.TheVariants as act
use Rattle.rules.specs.declared.Reaction.{Reaction}
use Rattle.rules.specs.declared.Reaction.TheVariants as reaction
use Rattle.rules.specs.EventName as event
use Rattle.rules.specs.RefusalNumber as refusal
use Rattle.rules.specs.TransactionState as transaction
use Rattle.rules.specs.EnlistmentState as enlistment
use Rattle.rules.specs.Sizes.{held_most}
use Rattle.rules.specs.Identifiers.{is_zero}
use Rattle.rules.specs.Table.{place_named, state_at, is_free, is_vacant, held, is_numbered, numbered, durable_kind, is_durable_of, is_in}
use Rattle.rules.specs.Sound.{sound_of}
use Rattle.rules.specs.Events.{kind_of, reaction_of, is_undone, is_over}

-- ── what an event names ─────────────────────────────────────────────────────────────────────────────────────────

abbrev pub name_of : Act → ℕ
name_of act.Begin = event.begin
name_of (act.Enlist n k m) = event.enlist
name_of act.Commit = event.commit
name_of (act.ZeroDone n) = event.zero_done
name_of (act.Vote n v) = event.vote
name_of act.Rollback = event.rollback
name_of (act.Reply n r) = event.reply
name_of (act.Ack n) = event.ack
name_of (act.Lost n) = event.lost
name_of act.Ask = event.ask
name_of act.Reenlisted = event.reenlisted

-- 0 where no number is named
abbrev pub number_in : Act → ℕ
number_in act.Begin = 0
number_in (act.Enlist n k m) = n
number_in act.Commit = 0
number_in (act.ZeroDone n) = n
number_in (act.Vote n v) = n
number_in act.Rollback = 0
number_in (act.Reply n r) = n
number_in (act.Ack n) = n
number_in (act.Lost n) = n
number_in act.Ask = 0
number_in act.Reenlisted = 0

-- the kind that Enlist names, 0 for any other event
abbrev pub kind_in : Act → ℕ
kind_in act.Begin = 0
kind_in (act.Enlist n k m) = kind_of k
kind_in act.Commit = 0
kind_in (act.ZeroDone n) = 0
kind_in (act.Vote n v) = 0
kind_in act.Rollback = 0
kind_in (act.Reply n r) = 0
kind_in (act.Ack n) = 0
kind_in (act.Lost n) = 0
kind_in act.Ask = 0
kind_in act.Reenlisted = 0

unfoldable pub is_one_of : List ℕ → Act → Bool
is_one_of names a = any (eqb (name_of a)) names

abbrev pub names_transaction : Act → Bool
names_transaction a = is_one_of (event.begin ∷ event.enlist ∷ event.commit ∷ event.rollback ∷ event.ask ∷ []) a

abbrev pub names_manager : Act → Bool
names_manager a = is_one_of (event.enlist ∷ event.ask ∷ event.reenlisted ∷ []) a

-- the events about one enlistment
abbrev pub is_about_one : Act → Bool
is_about_one a = is_one_of (event.zero_done ∷ event.vote ∷ event.reply ∷ event.ack ∷ event.lost ∷ []) a

abbrev pub names_number : Act → Bool
names_number a = is_one_of (event.enlist ∷ []) a || is_about_one a

-- ── given when ──────────────────────────────────────────────────────────────────────────────────────────────────

abbrev pub is_number_held : ℕ → Table → Bool
is_number_held n tb = any (is_numbered n) tb.enlistments

-- a reaction in the paper's numbers: 7, or 0 where it is no refusal
abbrev pub reaction_refusal : Reaction → ℕ
reaction_refusal reaction.Refused = refusal.enlistment_state
reaction_refusal (reaction.Freed f) = refusal.accepted
reaction_refusal (reaction.Becomes s f) = refusal.accepted

abbrev pub is_refused : Reaction → Bool
is_refused r = not (eqb (reaction_refusal r) refusal.accepted)

module _ (tb : Table) (e : Event) where
  abbrev place_of_event : ℕ
  place_of_event = place_named e.tx.0 tb

  abbrev state_of_event : ℕ
  state_of_event = state_at place_of_event tb

  abbrev held_of_event : List Enlistment
  held_of_event = held place_of_event tb

  -- 1: "a named identifier or number is zero"
  unfoldable pub names_zero : Bool
  names_zero =
      (names_transaction e.act && is_zero e.tx.0)
      || (names_manager e.act && is_zero e.rm.0)
      || (names_number e.act && eqb (number_in e.act) 0)

  -- 2: "transaction not live (not for Begin, Ask)"
  unfoldable pub is_not_live : Bool
  is_not_live = names_transaction e.act && not (is_one_of (event.begin ∷ event.ask ∷ []) e.act) && eqb place_of_event 0

  -- 3: "number not held (not for Enlist)"
  unfoldable pub is_not_held : Bool
  is_not_held = is_about_one e.act && not (is_number_held (number_in e.act) tb)

  -- 4: "Begin of a live transaction"
  unfoldable pub is_already_live : Bool
  is_already_live = is_one_of (event.begin ∷ []) e.act && not (eqb place_of_event 0)

  -- 6: "Enlist, Commit, Rollback: T is in a state not named for it".
  -- "Enlist ..: in Active or Phase Zero." "Commit T: in Active." "Rollback T: in Active or Phase Zero"
  unfoldable pub is_state_wrong : Bool
  is_state_wrong =
      (is_one_of (event.enlist ∷ event.rollback ∷ []) e.act && not (eqb state_of_event transaction.active || eqb state_of_event transaction.phase_zero))
      || (is_one_of (event.commit ∷ []) e.act && not (eqb state_of_event transaction.active))

  -- 7: "enlistment in a state not named for this event"
  unfoldable pub is_reaction_refused : Bool
  is_reaction_refused =
      is_about_one e.act && is_refused (reaction_of (numbered (number_in e.act) tb).kind (numbered (number_in e.act) tb).state e.act)

  -- 5: "Enlist: number held, or second D of this RM in T"
  unfoldable pub is_already_held : Bool
  is_already_held =
      is_one_of (event.enlist ∷ []) e.act
      && (is_number_held (number_in e.act) tb || (durable_kind (kind_in e.act) && any (is_durable_of e.rm.0) held_of_event))

  -- 8: "no free place, or T holds 16"
  unfoldable pub is_full : Bool
  is_full =
      (is_one_of (event.begin ∷ []) e.act && none is_free tb.transactions)
      || (is_one_of (event.enlist ∷ []) e.act && (none is_vacant tb.enlistments || leb held_most (length held_of_event)))

  -- 9: "Ask: no such D"
  unfoldable pub lacks_durable : Bool
  lacks_durable = is_one_of (event.ask ∷ []) e.act && not (is_over state_of_event) && none (is_undone e.rm.0) held_of_event

  -- 10: "Re-enlisted: condition above fails": "only if every D of that RM that isn't Done stands in 8 (or there is none)"
  unfoldable pub stands_elsewhere : Bool
  stands_elsewhere = is_one_of (event.reenlisted ∷ []) e.act && any (λ f. is_undone e.rm.0 f && not (is_in enlistment.failed_to_notify f)) tb.enlistments

-- ── in order ────────────────────────────────────────────────────────────────────────────────────────────────────

pub record Check : Type 0 where
  pub applies : Bool
  pub number : ℕ

abbrev pub check : Bool → ℕ → Check
check b n = record { applies = b; number = n }

-- "the first that applies is given, and none otherwise"
unfoldable pub first_of : List Check → ℕ
first_of [] = refusal.accepted
first_of (c ∷ cs) = cond c.applies c.number (first_of cs)

-- "A step checks in this order: 15, 12, 1, 2 or 3, 4, 6, 7, 5, 8, 9, 10": of a table, an event and the lent log's length
unfoldable pub checks_of : Table → Event → ℕ → List Check
checks_of tb e n =
    check (not (sound_of tb)) refusal.not_sound
    ∷ check (not (eqb n tb.capacity)) refusal.log_length
    ∷ check (names_zero tb e) refusal.zero_named
    ∷ check (is_not_live tb e) refusal.not_live
    ∷ check (is_not_held tb e) refusal.not_held
    ∷ check (is_already_live tb e) refusal.already_live
    ∷ check (is_state_wrong tb e) refusal.transaction_state
    ∷ check (is_reaction_refused tb e) refusal.enlistment_state
    ∷ check (is_already_held tb e) refusal.already_held
    ∷ check (is_full tb e) refusal.full
    ∷ check (lacks_durable tb e) refusal.no_such_durable
    ∷ check (stands_elsewhere tb e) refusal.not_failed_to_notify
    ∷ []

unfoldable pub refusal_of : Table → Event → ℕ → ℕ
refusal_of tb e n = first_of (checks_of tb e n)
