-- What an accepted step may take for granted of the table that it is given: it is sound, so that names stand at one place, a number is
-- one enlistment's, no two that are held are alike, and the state of an enlistment tells that of its transaction.
use Prim.Native.Nat.{ℕ, ◌≤◌}
use mathlib.Core.Path.{◌≡◌, refl, sym, ◌∙◌, ap}
use mathlib.Core.Logic.{◌⊎◌, inl, inr}
use mathlib.Core.Bool.{true, ◌&&◌}
use mathlib.Core.List.{List}
use borrow.Author.Tests.{eq-eqb, eqb-true}
use Rattle.lists.specs.Members.{◌∈◌, Apart}
use Rattle.lists.proofs.Tests.{by_either, some_any, filter_filter, and_true, true_and}
use Rattle.rules.specs.declared.Enlistment.{Enlistment}
use Rattle.rules.specs.declared.Table.{Table}
use Rattle.rules.specs.TransactionState as transaction
use Rattle.rules.specs.EnlistmentState as enlistment
use Rattle.rules.specs.Identifiers.{Id}
use Rattle.rules.specs.Table.{no_transaction, is_live, is_named, transaction_at, state_at, id_at, held, is_numbered, numbered, held_by, is_held, is_durable}
use Rattle.rules.specs.Sound.{Sound, HoldsWell, In, PhaseZero, active, phase_zero, phase_one, single_phase, committing, aborting, Live, SameNumber, Held}
use Rattle.rules.specs.Refusals.{is_number_held}
use Rattle.rules.proofs.Reacting as reacting
use Rattle.rules.proofs.Frames.{of_held, named_is, is_named_lem, named_place, not_zero, Stands}
use Rattle.lists.proofs.Apart.{one_place, apart_narrower}
use Rattle.safety.specs.World.{owner_of}
use Rattle.rules.proofs.Kept.{Kept, sound_kept, live_true, true_live, Proper, by_held}
use Rattle.rules.proofs.Put.{member_held}
use Rattle.lists.specs.Lists.{filter}
use Rattle.rules.specs.Sizes.{identifier_size, largest_number}
use lib.ListN.{length}

-- no two live transactions have one name
pub one_place_named : {tb : Table} → Kept tb → (p q : ℕ) → Live (transaction_at p tb) → Live (transaction_at q tb) → id_at p tb ≡ id_at q tb → p ≡ q
one_place_named {tb} k p q a b e = one_place (λ x y r. sym r) is_live no_transaction refl 1 p q tb.transactions k.transactions.differ (live_true (transaction_at p tb) a) (live_true (transaction_at q tb) b) e

-- ── what a live transaction holds ───────────────────────────────────────────────────────────────────────────────

module _ {tb : Table} (k : Kept tb) (p : ℕ) (somewhere : p ≡ 0 → ⊥) where
  pub held_sized : {x : Enlistment} → x ∈ held p tb → (length x.rm.0 ≡ identifier_size) × (x.number ≤ largest_number)
  held_sized {x} m = ((proper.manager is_held_lem).0, (proper.number is_held_lem).1)
    where
      is_held_lem : Held x
      is_held_lem = member_held p tb somewhere m

      proper : Proper x
      proper = k.enlistments.proper x (of_held p tb m).0

  pub numbers_apart : Apart SameNumber (held p tb)
  unfolding held
  numbers_apart = apart_narrower is_held (held_by p) (by_held p somewhere) (λ x y a b r. r) tb.enlistments k.enlistments.numbers_differ

  pub managers_apart : Apart (λ x y. x.rm.0 ≡ y.rm.0) (filter is_durable (held p tb))
  unfolding held
  managers_apart = rw (filter_filter is_durable (held_by p) tb.enlistments) (apart_narrower (λ x. is_held x && is_durable x) (λ x. held_by p x && is_durable x)
      (λ x h. and_true (by_held p somewhere x (true_and (held_by p x) (is_durable x) h).0) (true_and (held_by p x) (is_durable x) h).1)
      (λ x y a b r. (eqb-true x.holder p (true_and (held_by p x) (is_durable x) a).0 ∙ sym (eqb-true y.holder p (true_and (held_by p y) (is_durable y) b).0), r))
      tb.enlistments (rw (filter_filter is_durable is_held tb.enlistments) at k.enlistments.managers_differ))

-- ── names and numbers ───────────────────────────────────────────────────────────────────────────────────────────

module _ (tb : Table) (s : Sound tb) where
  pub stands_sound : (t : Id) (p : ℕ) → is_named t (transaction_at p tb) ≡ true → Stands t p tb
  stands_sound t p e = record { here = e; alone = λ q n. one_place_named (sound_kept s) q p (live q n) (live p e) ((named_is t (transaction_at q tb) n).1 ∙ sym (named_is t (transaction_at p tb) e).1) }
    where
      live : (q : ℕ) → is_named t (transaction_at q tb) ≡ true → Live (transaction_at q tb)
      live q n = true_live (transaction_at q tb) (named_is t (transaction_at q tb) n).0

  -- numbers differ, so that the enlistment with a number is the one
  numbered_is : (n : ℕ) → (n ≡ 0 → ⊥) → {x : Enlistment} → x ∈ tb.enlistments → x.number ≡ n → numbered n tb ≡ x
  numbered_is n nonzero {x} m e = sym ((reacting.is_named_lem n tb s nonzero (some_any (is_numbered n) tb.enlistments (record { it = x; there = m; holds = eq-eqb x.number n e }))).alone x m e)

  -- what a live transaction holds is its own
  pub owner_held : (t : Id) (p : ℕ) → Stands t p tb → {x : Enlistment} → x ∈ held p tb → (x.number ≡ 0 → ⊥) × (owner_of x.number tb ≡ t)
  owner_held t p at {x} m = (nonzero, ap (λ (e : Enlistment). id_at e.holder tb) (numbered_is x.number nonzero (of_held p tb m).0 refl) ∙ ap (λ q. id_at q tb) (of_held p tb m).1 ∙ (named_is t (transaction_at p tb) at.here).1)
    where
      nonzero : x.number ≡ 0 → ⊥
      nonzero = (s.numbers x (of_held p tb m).0 (member_held p tb (not_zero (named_place t p tb at.here)) m)).0

-- ── by the state of an enlistment ───────────────────────────────────────────────────────────────────────────────

-- the lines of the table of states, for one enlistment
pub data Row (s : ℕ) (e : Enlistment) : Type 0 where
  in_active : (s ≡ transaction.active) ⊎ (s ≡ transaction.phase_zero) → In enlistment.active e → Row s e
  in_zero : s ≡ transaction.phase_zero → PhaseZero e → In enlistment.zero e → Row s e
  in_voting : s ≡ transaction.phase_one → In enlistment.preparing e ⊎ (In enlistment.prepared e ⊎ In enlistment.prepared_lost e) → Row s e
  in_single : s ≡ transaction.single_phase → In enlistment.one_phase e → Row s e
  in_commit : s ≡ transaction.committing → In enlistment.told_commit e ⊎ (In enlistment.failed_to_notify e ⊎ In enlistment.done e) → Row s e
  in_abort : s ≡ transaction.aborting → In enlistment.told_abort e ⊎ In enlistment.done e → Row s e

pub row : {s : ℕ} {hs : List Enlistment} → HoldsWell s hs → {e : Enlistment} → e ∈ hs → Row s e
row (active q a) {e} m = in_active (inl q) (a e m)
row (phase_zero q a i) {e} m = by_either (λ w. in_zero q w.0 w.1) (λ w. in_active (inr q) w.1) (a e m)
row (phase_one q p a i) {e} m = in_voting q (by_either inl (λ w. inr (by_either inl (λ v. inr v.0) w)) (a e m))
row (single_phase q l a) {e} m = in_single q (a e m).2
row (committing q p a i) {e} m = in_commit q (by_either inl (λ w. inr (by_either (λ v. inl v.0) inr w)) (a e m))
row (aborting q a i) {e} m = in_abort q (a e m)

-- ── an event about one enlistment ───────────────────────────────────────────────────────────────────────────────

pub record Named (tb : Table) (n : ℕ) : Type 0 where
  pub number : (numbered n tb).number ≡ n
  pub stands : Stands (owner_of n tb) (numbered n tb).holder tb
  pub line : Row (state_at (numbered n tb).holder tb) (numbered n tb)
  pub mine : numbered n tb ∈ held (numbered n tb).holder tb
  pub only : {x : Enlistment} → x ∈ held (numbered n tb).holder tb → x.number ≡ n → numbered n tb ≡ x

pub named_sound : (tb : Table) → Sound tb → (n : ℕ) → (n ≡ 0 → ⊥) → is_number_held n tb ≡ true → Named tb n
named_sound tb s n nonzero h = record {
  number = d.number;
  stands = stands_sound tb s (owner_of n tb) (numbered n tb).holder (is_named_lem (transaction_at (numbered n tb).holder tb) (live_true (transaction_at (numbered n tb).holder tb) d.live));
  line = row (s.states (numbered n tb).holder d.live) d.here;
  mine = d.here;
  only = λ {x} m e. sym (d.alone x (of_held (numbered n tb).holder tb m).0 e);
}
  where
    d : reacting.Named n tb (numbered n tb)
    d = reacting.is_named_lem n tb s nonzero h
