-- The checks of `Refusals` event by event, as the code asks them: of what is looked up for them; and, of a table, at what is found there. That they refuse alike is proved (`refusal_checks`).
use Rattle.std.specs.Prelude.{ℕ, Bool, not, ◌&&◌, ◌||◌, List, [], ◌∷◌, eqb, leb, length}
use Rattle.lists.specs.Lists.{any, none}
use Rattle.rules.specs.declared.Table.{Table}
use Rattle.rules.specs.declared.Act.{Act}
use Rattle.rules.specs.declared.Act.TheVariants as act
use Rattle.rules.specs.declared.Reaction.{Reaction}
use Rattle.rules.specs.RefusalNumber as refusal
use Rattle.rules.specs.TransactionState as transaction
use Rattle.rules.specs.EnlistmentState as enlistment
use Rattle.rules.specs.Sizes.{held_most}
use Rattle.rules.specs.Identifiers.{Id, is_zero}
use Rattle.rules.specs.Table.{place_named, state_at, is_free, is_vacant, held, numbered, durable_kind, is_durable_of, is_in}
use Rattle.rules.specs.Events.{kind_of, reaction_of, is_undone, is_over}
use Rattle.rules.specs.Refusals.{Check, check, is_number_held, is_refused}

-- ── of what is looked up ────────────────────────────────────────────────────────────────────────────────────────

-- every event's, before its own
abbrev pub first : Bool → ℕ → ℕ → List Check
first sound lent capacity =
    check (not sound) refusal.not_sound
    ∷ check (not (eqb lent capacity)) refusal.log_length
    ∷ []

-- named: the place of the transaction t, 0 if it is not live; state: its state
abbrev pub begin : Id → ℕ → Bool → List Check
begin t named full =
    check (is_zero t) refusal.zero_named
    ∷ check (not (eqb named 0)) refusal.already_live
    ∷ check full refusal.full
    ∷ []

-- "Enlist ..: in Active or Phase Zero", "Rollback T: in Active or Phase Zero"
abbrev pub is_early : ℕ → Bool
is_early state = eqb state transaction.active || eqb state transaction.phase_zero

abbrev pub enlist : Id → Id → ℕ → ℕ → ℕ → Bool → Bool → List Check
enlist t r n named state already full =
    check (is_zero t || is_zero r || eqb n 0) refusal.zero_named
    ∷ check (eqb named 0) refusal.not_live
    ∷ check (not (is_early state)) refusal.transaction_state
    ∷ check already refusal.already_held
    ∷ check full refusal.full
    ∷ []

abbrev pub commit : Id → ℕ → ℕ → List Check
commit t named state =
    check (is_zero t) refusal.zero_named
    ∷ check (eqb named 0) refusal.not_live
    ∷ check (not (eqb state transaction.active)) refusal.transaction_state
    ∷ []

abbrev pub rollback : Id → ℕ → ℕ → List Check
rollback t named state =
    check (is_zero t) refusal.zero_named
    ∷ check (eqb named 0) refusal.not_live
    ∷ check (not (is_early state)) refusal.transaction_state
    ∷ []

-- of the events about the enlistment with number n
abbrev pub about_one : ℕ → Bool → Reaction → List Check
about_one n is_held reaction =
    check (eqb n 0) refusal.zero_named
    ∷ check (not is_held) refusal.not_held
    ∷ check (is_refused reaction) refusal.enlistment_state
    ∷ []

-- lacks: no D of r that isn't Done
abbrev pub ask : Id → Id → ℕ → Bool → List Check
ask t r state lacks =
    check (is_zero t || is_zero r) refusal.zero_named
    ∷ check (not (is_over state) && lacks) refusal.no_such_durable
    ∷ []

-- elsewhere: a D of r that isn't Done stands in another state than 8
abbrev pub reenlisted : Id → Bool → List Check
reenlisted r elsewhere =
    check (is_zero r) refusal.zero_named
    ∷ check elsewhere refusal.not_failed_to_notify
    ∷ []

-- ── at what is found in a table ─────────────────────────────────────────────────────────────────────────────────

abbrev pub begin_checks : Table → Id → List Check
begin_checks tb t = begin t (place_named t tb) (none is_free tb.transactions)

abbrev pub held_already : Table → ℕ → Id → ℕ → ℕ → Bool
held_already tb p r n k = is_number_held n tb || (durable_kind k && any (is_durable_of r) (held p tb))

abbrev pub full_for : Table → ℕ → Bool
full_for tb p = none is_vacant tb.enlistments || leb held_most (length (held p tb))

abbrev pub enlist_checks : Table → Id → Id → ℕ → ℕ → List Check
enlist_checks tb t r n k = let p = place_named t tb in enlist t r n p (state_at p tb) (held_already tb p r n k) (full_for tb p)

abbrev pub commit_checks : Table → Id → List Check
commit_checks tb t = let p = place_named t tb in commit t p (state_at p tb)

abbrev pub rollback_checks : Table → Id → List Check
rollback_checks tb t = let p = place_named t tb in rollback t p (state_at p tb)

abbrev pub about_one_checks : Table → ℕ → Act → List Check
about_one_checks tb n a = about_one n (is_number_held n tb) (reaction_of (numbered n tb).kind (numbered n tb).state a)

abbrev pub ask_checks : Table → Id → Id → List Check
ask_checks tb t r = let p = place_named t tb in ask t r (state_at p tb) (none (is_undone r) (held p tb))

abbrev pub reenlisted_checks : Table → Id → List Check
reenlisted_checks tb r = reenlisted r (any (λ f. is_undone r f && not (is_in enlistment.failed_to_notify f)) tb.enlistments)

-- t and r are the identifiers that the event names
abbrev pub own_checks : Act → Id → Id → Table → List Check
own_checks act.Begin t r tb = begin_checks tb t
own_checks (act.Enlist n k m) t r tb = enlist_checks tb t r n (kind_of k)
own_checks act.Commit t r tb = commit_checks tb t
own_checks (act.ZeroDone n) t r tb = about_one_checks tb n (act.ZeroDone n)
own_checks (act.Vote n v) t r tb = about_one_checks tb n (act.Vote n v)
own_checks act.Rollback t r tb = rollback_checks tb t
own_checks (act.Reply n a) t r tb = about_one_checks tb n (act.Reply n a)
own_checks (act.Ack n) t r tb = about_one_checks tb n (act.Ack n)
own_checks (act.Lost n) t r tb = about_one_checks tb n (act.Lost n)
own_checks act.Ask t r tb = ask_checks tb t r
own_checks act.Reenlisted t r tb = reenlisted_checks tb r
