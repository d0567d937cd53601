-- An accepted step leaves a sound table sound: it is a part of Parts at the place of its own transaction, and at every other place nothing changes. Re-enlisted is
-- one for each transaction that holds this RM.
use Prim.Native.Nat.{ℕ, ◌≤◌}
use native.Mathlib.Omega.{arith}
use mathlib.Core.Path.{◌≡◌, refl, sym, ◌∙◌, subst}
use mathlib.Core.Logic.{◌⊎◌, inl, inr}
use mathlib.Core.Bool.{true, false, not, ◌&&◌, ◌||◌}
use mathlib.Core.List.{List, map}
use lib.ListN.{length, get_or}
use lib.Dec.{eqb, leb}
use borrow.Author.Tests.{eqb-true, eqb-false, leb-false, not-false}
use Rattle.lists.specs.Lists.{all, any, none}
use Rattle.lists.specs.Members.{Each, Some}
use Rattle.lists.proofs.Tests.{by_test, by_either, is_false, true_or, false_or}
use Rattle.rules.specs.declared.Enlistment.{Enlistment}
use Rattle.rules.specs.declared.Table.{Table}
use Rattle.rules.specs.declared.Event.{Event}
use Rattle.rules.specs.declared.Act.{Act}
use Rattle.rules.specs.declared.Act.TheVariants as act
use Rattle.rules.specs.declared.Kind.{Kind}
use Rattle.rules.specs.declared.Mark.{Mark}
use Rattle.rules.specs.RefusalNumber as refusal
use Rattle.rules.specs.TransactionState as transaction
use Rattle.rules.specs.EnlistmentState as enlistment
use Rattle.rules.specs.Sizes.{identifier_size, largest_number, held_most}
use Rattle.rules.specs.Identifiers.{Id, is_zero}
use Rattle.rules.specs.Table.{is_vacant, is_durable_of, durable_kind, place_named, transaction_at, state_at, held, numbered}
use Rattle.rules.specs.Sound.{In, HoldsWell, Live, Sound}
use Rattle.rules.specs.Events.{kind_of, reacted_of, acted, accepted_of}
use Rattle.rules.specs.Refusals.{number_in, is_number_held, Check, first_of, refusal_of}
use Rattle.rules.specs.Checks.{about_one_checks}
use Rattle.rules.proofs.Identifiers.{nonzero_identifier}
use Rattle.rules.proofs.Checks.{are_numbered, passes_at, first_two, refusal_checks}
use Rattle.rules.proofs.Put.{free_place}
use Rattle.rules.proofs.Parts.{Part, abort_part}
use Rattle.rules.proofs.Kept.{Kept, sound_kept, live_some}
use Rattle.rules.proofs.Only.{Room}
use Rattle.rules.proofs.Phases.{commit_part}
use Rattle.rules.proofs.Reacting.{Named, is_named_lem, reacted_part, may_abort}
use Rattle.rules.proofs.Entered.{named_live, begin_part, enlist_part}
use Rattle.rules.proofs.Told.{ask_part, reenlisted_well, reenlisted_kept, reenlisted_room, reenlisted_capacity, reenlisted_others}

-- what the types of an event say: identifiers have 16 bytes, and a number has 32 bits
pub record Typed (e : Event) : Type 0 where
  pub tx : length e.tx.0 ≡ identifier_size
  pub rm : length e.rm.0 ≡ identifier_size
  pub number : number_in e.act ≤ largest_number

-- The transaction at place q is the event's own, t and r being the identifiers that it names.
abbrev pub IsOwn : Act → Id → Id → Table → ℕ → Type 0
-- the place that it takes, where it stands from then on
IsOwn act.Begin t r tb q = q ≡ free_place tb
-- the transaction that is named
IsOwn (act.Enlist n k m) t r tb q = q ≡ place_named t tb
IsOwn act.Commit t r tb q = q ≡ place_named t tb
IsOwn act.Rollback t r tb q = q ≡ place_named t tb
IsOwn act.Ask t r tb q = q ≡ place_named t tb
-- the one that holds the enlistment
IsOwn (act.ZeroDone n) t r tb q = q ≡ (numbered n tb).holder
IsOwn (act.Vote n v) t r tb q = q ≡ (numbered n tb).holder
IsOwn (act.Reply n a) t r tb q = q ≡ (numbered n tb).holder
IsOwn (act.Ack n) t r tb q = q ≡ (numbered n tb).holder
IsOwn (act.Lost n) t r tb q = q ≡ (numbered n tb).holder
-- those that hold a D of this RM
IsOwn act.Reenlisted t r tb q = Some (λ f. is_durable_of r f ≡ true) (held q tb)

-- the transaction at place q, and what it holds, is as it was
abbrev pub SameAt : ℕ → Table → Table → Type 0
SameAt q tb tb' = (transaction_at q tb' ≡ transaction_at q tb) × (held q tb' ≡ held q tb)

-- What an accepted step gives.
pub record Accepts (a : Act) (t r : Id) (tb tb' : Table) : Type 0 where
  pub sound : Sound tb'
  pub same_capacity : tb'.capacity ≡ tb.capacity
  pub others : (q : ℕ) → (q ≡ 0 → ⊥) → (IsOwn a t r tb q → ⊥) → SameAt q tb tb'

sound_of : {tb : Table} → Kept tb → Room tb → ((q : ℕ) → Live (transaction_at q tb) → HoldsWell (state_at q tb) (held q tb)) → Sound tb
sound_of k r w = record {
  states = w;
  kinds = λ e m. (k.enlistments.proper e m).kind;
  transaction_identifiers = λ x m. (k.transactions.named x m).identifier;
  manager_identifiers = λ e m. (k.enlistments.proper e m).manager;
  numbers = λ e m. (k.enlistments.proper e m).number;
  transactions_differ = k.transactions.differ;
  numbers_differ = k.enlistments.numbers_differ;
  holders_live = k.holders_live;
  managers_differ = k.enlistments.managers_differ;
  few = k.few;
  phase_zero_unmarked = λ e m. (k.enlistments.proper e m).unmarked;
  empty_transactions = λ x m. (k.transactions.named x m).empty;
  empty_enlistments = λ e m. (k.enlistments.proper e m).empty;
  header_used = k.header_used;
  room = r;
  capacity_small = k.capacity_small;
}

-- the other places are well since they were, and its own since the part says so
sound_part : (p : ℕ) (tb tb' : Table) → Sound tb → Part p tb tb' → Sound tb'
sound_part p tb tb' s h = sound_of h.kept (h.room s.room) (λ q l. by_test (eqb q p)
    (λ e. subst (λ z. HoldsWell (state_at z tb') (held z tb')) (sym (eqb-true q p e)) (h.well (subst (λ z. Live (transaction_at z tb')) (eqb-true q p e) l)))
    (λ e. let n : q ≡ p → ⊥ = eqb-false q p e in
    let c : transaction_at q tb' ≡ transaction_at q tb = h.only.transactions q n in
    subst (λ x. HoldsWell x.state (held q tb')) (sym c)
    (subst (HoldsWell (state_at q tb)) (sym (h.only.enlistments q n (live_some q tb' l))) (s.states q (subst Live c l)))))

at_place : {a : Act} {t r : Id} {p : ℕ} {tb tb' : Table} → Sound tb → ((q : ℕ) → q ≡ p → IsOwn a t r tb q) → Part p tb tb' → Accepts a t r tb tb'
at_place {p = p} {tb = tb} {tb' = tb'} s own h = record {
  sound = sound_part p tb tb' s h;
  same_capacity = h.only.same_capacity;
  others = λ q z n. (h.only.transactions q (λ c. n (own q c)), h.only.enlistments q (λ c. n (own q c)) z);
}

-- ── what is not refused ─────────────────────────────────────────────────────────────────────────────────────────

in_active : {s : ℕ} {hs : List Enlistment} → HoldsWell s hs → s ≡ transaction.active → Each (In enlistment.active) hs
in_active (HoldsWell.active q h) z = h
in_active (HoldsWell.phase_zero q h x) z = absurd (omega arith)
in_active (HoldsWell.phase_one q n h x) z = absurd (omega arith)
in_active (HoldsWell.single_phase q n h) z = absurd (omega arith)
in_active (HoldsWell.committing q n h x) z = absurd (omega arith)
in_active (HoldsWell.aborting q h x) z = absurd (omega arith)

pub active_or_zero : (s : ℕ) → not (eqb s transaction.active || eqb s transaction.phase_zero) ≡ false → (s ≡ transaction.active) ⊎ (s ≡ transaction.phase_zero)
active_or_zero s t = by_either (λ c. inl (eqb-true s transaction.active c)) (λ c. inr (eqb-true s transaction.phase_zero c)) (true_or (eqb s transaction.active) (eqb s transaction.phase_zero) (not-false _ t))

module _ (tb : Table) (e : Event) (log : List ℕ) (fine : refusal_of tb e (length log) ≡ refusal.accepted) where
  abbrev t : Id
  t = e.tx.0

  abbrev r : Id
  r = e.rm.0

  abbrev p : ℕ
  p = place_named t tb

  -- the check at index i does not apply
  fails : (cs : List Check) (i : ℕ) → are_numbered cs ≡ true → refusal_of tb e (length log) ≡ first_of cs → get_or (map (λ c. c.applies) cs) i false ≡ false
  fails cs i g q = passes_at cs i g (sym q ∙ fine)

  -- Commit and Rollback name a live transaction
  pub commit_live : e.act ≡ act.Commit → Live (transaction_at p tb)
  unfolding all
  commit_live q = named_live t tb (eqb-false p 0 (fails _ 3 refl (refusal_checks tb e (length log) act.Commit q)))

  pub rollback_live : e.act ≡ act.Rollback → Live (transaction_at p tb)
  unfolding all
  rollback_live q = named_live t tb (eqb-false p 0 (fails _ 3 refl (refusal_checks tb e (length log) act.Rollback q)))

  module _ (s : Sound tb) where
    -- an event about the enlistment with number n
    pub one_named : (n : ℕ) (a : Act) → refusal_of tb e (length log) ≡ first_of (first_two tb (length log) (about_one_checks tb n a)) → Named n tb (numbered n tb)
    unfolding all
    one_named n a c = is_named_lem n tb s (eqb-false n 0 (fails _ 2 refl c)) (not-false _ (fails _ 3 refl c))

    module _ (y : Typed e) where
      begin_own : e.act ≡ act.Begin → Part (free_place tb) tb (acted act.Begin t r tb log).table
      unfolding acted all
      begin_own q = begin_part t tb log s (nonzero_identifier t y.tx (fails _ 2 refl (refusal_checks tb e (length log) act.Begin q)))
          (eqb-true p 0 (not-false _ (fails _ 3 refl (refusal_checks tb e (length log) act.Begin q))))
          (not-false _ (fails _ 4 refl (refusal_checks tb e (length log) act.Begin q)))

      enlist_own : (n : ℕ) (k : Kind) (m : Mark) → e.act ≡ act.Enlist n k m → Part p tb (acted (act.Enlist n k m) t r tb log).table
      unfolding acted all
      enlist_own n k m q =
          let c = refusal_checks tb e (length log) (act.Enlist n k m) q in
          enlist_part p n r k m tb log s (record {
            live = named_live t tb (eqb-false p 0 (fails _ 3 refl c));
            state = active_or_zero (state_at p tb) (fails _ 4 refl c);
            rm = nonzero_identifier r y.rm (false_or (is_zero t) (is_zero r) (false_or (is_zero t || is_zero r) (eqb n 0) (fails _ 2 refl c)).0).1;
            number = (eqb-false n 0 (false_or (is_zero t || is_zero r) (eqb n 0) (fails _ 2 refl c)).1, subst (λ a. number_in a ≤ largest_number) q y.number);
            not_numbered = (false_or (is_number_held n tb) (durable_kind (kind_of k) && any (is_durable_of r) (held p tb)) (fails _ 5 refl c)).0;
            no_second = (false_or (is_number_held n tb) (durable_kind (kind_of k) && any (is_durable_of r) (held p tb)) (fails _ 5 refl c)).1;
            some_left = leb-false held_most (length (held p tb)) (false_or (none is_vacant tb.enlistments) (leb held_most (length (held p tb))) (fails _ 6 refl c)).1;
          })

      commit_own : e.act ≡ act.Commit → Part p tb (acted act.Commit t r tb log).table
      unfolding acted all
      commit_own q =
          let c = refusal_checks tb e (length log) act.Commit q in
          let l : Live (transaction_at p tb) = commit_live q in
          commit_part p tb log (sound_kept s) l (in_active (s.states p l) (eqb-true (state_at p tb) transaction.active (not-false _ (fails _ 4 refl c))))

      rollback_own : e.act ≡ act.Rollback → Part p tb (acted act.Rollback t r tb log).table
      unfolding acted all
      rollback_own q =
          let c = refusal_checks tb e (length log) act.Rollback q in
          let l : Live (transaction_at p tb) = rollback_live q in
          abort_part p tb log (sound_kept s) l (may_abort (s.states p l) (by_either (λ z. omega arith) (λ z. omega arith) (active_or_zero (state_at p tb) (fails _ 4 refl c))))

      ask_own : Part p tb (acted act.Ask t r tb log).table
      unfolding acted
      ask_own = ask_part r p tb log s

      one_own : (n : ℕ) (a : Act) → refusal_of tb e (length log) ≡ first_of (first_two tb (length log) (about_one_checks tb n a)) → Part (numbered n tb).holder tb (reacted_of n a tb log).table
      one_own n a c = reacted_part n a tb log s (one_named n a c)

      -- ── the step ──────────────────────────────────────────────────────────────────────────────────────────────────

      own : (a : Act) → e.act ≡ a → Accepts a t r tb (acted a t r tb log).table
      unfolding acted
      own act.Begin q = at_place s (λ z c. c) (begin_own q)
      own (act.Enlist n k m) q = at_place s (λ z c. c) (enlist_own n k m q)
      own act.Commit q = at_place s (λ z c. c) (commit_own q)
      own (act.ZeroDone n) q = at_place s (λ z c. c) (one_own n (act.ZeroDone n) (refusal_checks tb e (length log) (act.ZeroDone n) q))
      own (act.Vote n v) q = at_place s (λ z c. c) (one_own n (act.Vote n v) (refusal_checks tb e (length log) (act.Vote n v) q))
      own act.Rollback q = at_place s (λ z c. c) (rollback_own q)
      own (act.Reply n a) q = at_place s (λ z c. c) (one_own n (act.Reply n a) (refusal_checks tb e (length log) (act.Reply n a) q))
      own (act.Ack n) q = at_place s (λ z c. c) (one_own n (act.Ack n) (refusal_checks tb e (length log) (act.Ack n) q))
      own (act.Lost n) q = at_place s (λ z c. c) (one_own n (act.Lost n) (refusal_checks tb e (length log) (act.Lost n) q))
      own act.Ask q = at_place s (λ z c. c) ask_own
      own act.Reenlisted q = record {
        sound = sound_of (reenlisted_kept r tb log s) (reenlisted_room r tb log s) (reenlisted_well r tb log s);
        same_capacity = reenlisted_capacity r tb log s;
        others = λ z n c. reenlisted_others r tb log s z n (λ f m. is_false _ (λ d. c (record { it = f; there = m; holds = d })));
      }

      -- An accepted step on a sound table gives a sound table, and changes places of its own transaction only.
      pub accepted_step : Accepts e.act t r tb (accepted_of tb e log).table
      accepted_step = own e.act refl
