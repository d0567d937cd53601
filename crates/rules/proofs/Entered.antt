-- Begin and Enlist: the new entry is like nothing that stands there, since a step that names such a one is refused.
use Prim.Native.Nat.{ℕ, ◌≤◌, ◌<◌}
use native.Mathlib.Omega.{arith}
use mathlib.Core.Path.{◌≡◌, refl, sym, ◌∙◌, ap, subst}
use mathlib.Core.Logic.{◌⊎◌, inl, inr}
use mathlib.Core.Bool.{true, false, ◌&&◌}
use mathlib.Core.List.{List, []}
use lib.ListN.{length}
use lib.Dec.{eqb}
use borrow.Author.Tests.{eqb-true, eqb-false, eq-eqb, ne_eqb}
use Rattle.lists.specs.Lists.{any}
use Rattle.lists.specs.Members.{◌∈◌, Each, Some}
use Rattle.lists.specs.Places.{put_lowest}
use Rattle.lists.proofs.Tests.{by_test, by_either, no_clash, and_true, and_false, none_each, each_nothing}
use Rattle.lists.proofs.Places.{place_first, place_none, of_put, put_keeps}
use Rattle.rules.specs.declared.Transaction.{Transaction}
use Rattle.rules.specs.declared.Enlistment.{Enlistment}
use Rattle.rules.specs.declared.Table.{Table}
use Rattle.rules.specs.declared.Kind.{Kind}
use Rattle.rules.specs.declared.Kind.TheVariants as asked
use Rattle.rules.specs.declared.Mark.{Mark}
use Rattle.rules.specs.declared.Mark.TheVariants as marking
use Rattle.rules.specs.Sizes.{held_most}
use Rattle.rules.specs.Kinds as kind
use Rattle.rules.specs.Marks as mark
use Rattle.rules.specs.TransactionState as transaction
use Rattle.rules.specs.EnlistmentState as enlistment
use Rattle.rules.specs.Identifiers.{Id}
use Rattle.rules.specs.Table.{no_transaction, is_free, is_vacant, is_named, is_numbered, is_durable_of, durable_kind, place_named, transaction_at, state_at, held, with_transactions, with_enlistments}
use Rattle.rules.specs.Sound.{is_open, In, PhaseZero, Durable, HoldsWell, Live, Held, Identifier, Number, Sound, Known}
use Rattle.rules.specs.Events.{begin_of, kind_of, new_enlistment, enlist_of}
use Rattle.rules.proofs.Frames.{of_held, in_held, named_is, named_found}
use Rattle.rules.proofs.Identifiers.{equal_same}
use Rattle.rules.proofs.Kept.{sound_kept, live_true, true_live, live_place, live_some}
use Rattle.rules.proofs.Put.{free_place, at_new, new_holds_nothing, kept_begin, New, kept_enlist}
use Rattle.rules.proofs.Only.{only_begin, only_enlist, open_at, room_kept}
use Rattle.rules.proofs.Parts.{Part, open_committing}
use Rattle.rules.proofs.Phases.{Zeroing}

-- a transaction that is named stands at its place
pub named_live : (t : Id) (tb : Table) → (place_named t tb ≡ 0 → ⊥) → Live (transaction_at (place_named t tb) tb)
named_live t tb n = true_live (transaction_at (place_named t tb) tb) (named_is t (transaction_at (place_named t tb) tb) (named_found t tb n)).0

-- ── Begin ───────────────────────────────────────────────────────────────────────────────────────────────────────

pub begin_part : (t : Id) (tb : Table) (log : List ℕ) → Sound tb → Identifier t → place_named t tb ≡ 0 → any is_free tb.transactions ≡ true
    → Part (free_place tb) tb (begin_of t tb log).table
unfolding begin_of held
begin_part t tb log s i n some = record {
  only = only_begin x tb some;
  kept = kept_begin x tb some (sound_kept s) (λ z. omega arith) i new;
  well = λ m. subst (λ y. HoldsWell y.state (held (free_place tb) after)) (sym (at_new x tb some)) (subst (HoldsWell transaction.active) (sym nothing) (HoldsWell.active refl (each_nothing _)));
  room = room_kept (free_place tb) tb after (only_begin x tb some) (place_first is_free no_transaction tb.transactions some).is_place refl
      (λ o. no_clash _ o (ap (λ y. is_open y.state (held (free_place tb) after)) (at_new x tb some)));
}
  where
    x : Transaction
    x = record { id = record { 0 = t }; state = transaction.active }

    after : Table
    after = with_transactions (put_lowest is_free x tb.transactions) tb

    nothing : held (free_place tb) after ≡ []
    nothing = new_holds_nothing x tb some (sound_kept s)

    new : Each (λ y. Live y → t ≡ y.id.0 → ⊥) tb.transactions
    new y m l q = no_clash (is_named t y) (and_true (live_true y l) (equal_same y.id.0 t (sym q))) (none_each (is_named t) tb.transactions (place_none (is_named t) tb.transactions n) y m)

-- ── Enlist ──────────────────────────────────────────────────────────────────────────────────────────────────────

new_kind : (p s n : ℕ) (r : Id) (k : Kind) (m : Mark)
    → Known (new_enlistment p s n r k m) × (PhaseZero (new_enlistment p s n r k m) → (new_enlistment p s n r k m).mark ≡ mark.unmarked)
unfolding new_enlistment
new_kind p s n r asked.PhaseZero m = ((inl refl, omega arith), λ z. refl)
new_kind p s n r asked.Volatile marking.No = ((inr (inl refl), omega arith), λ z. refl)
new_kind p s n r asked.Volatile marking.Yes = ((inr (inl refl), omega arith), λ z. absurd (omega arith))
new_kind p s n r asked.Durable marking.No = ((inr (inr refl), omega arith), λ z. refl)
new_kind p s n r asked.Durable marking.Yes = ((inr (inr refl), omega arith), λ z. absurd (omega arith))

module _ (e : Enlistment) (tb : Table) where
  abbrev after : Table
  after = with_enlistments (put_lowest is_vacant e tb.enlistments) tb

  each_put : (P : Enlistment → Type 0) → P e → Each P (held e.holder tb) → Each P (held e.holder after)
  each_put P one rest x m =
      let (i, h) = of_held e.holder after m in
      by_either (λ q. subst P (sym q) one) (λ q. rest x (in_held e.holder tb q h)) (of_put is_vacant e tb.enlistments i)

  pub some_put : {P : Enlistment → Type 0} → Held e → Some P (held e.holder tb) → Some P (held e.holder after)
  some_put n s =
      let (i, h) = of_held e.holder tb s.there in
      record { it = s.it; there = in_held e.holder after (put_keeps is_vacant e tb.enlistments i (ne_eqb _ 0 (λ z. n (sym h ∙ z)))) h; holds = s.holds }

-- what is not refused
pub record Enlistable (p n : ℕ) (r : Id) (k : Kind) (tb : Table) : Type 0 where
  pub live : Live (transaction_at p tb)
  pub state : (state_at p tb ≡ transaction.active) ⊎ (state_at p tb ≡ transaction.phase_zero)
  pub rm : Identifier r
  pub number : Number n
  pub not_numbered : any (is_numbered n) tb.enlistments ≡ false
  pub no_second : (durable_kind (kind_of k) && any (is_durable_of r) (held p tb)) ≡ false
  pub some_left : length (held p tb) < held_most

module _ (p n : ℕ) (r : Id) (k : Kind) (m : Mark) (tb : Table) (log : List ℕ) (s : Sound tb) (h : Enlistable p n r k tb) where
  abbrev entry : Enlistment
  entry = new_enlistment p (state_at p tb) n r k m

  entry_new : New entry tb
  unfolding new_enlistment
  entry_new = record {
    kind = (new_kind p (state_at p tb) n r k m).0;
    rm = h.rm;
    number = h.number;
    live = h.live;
    is_held_lem = live_some p tb h.live;
    unmarked = (new_kind p (state_at p tb) n r k m).1;
    room = h.some_left;
    not_numbered = λ f i l q. eqb-false f.number n (none_each (is_numbered n) tb.enlistments h.not_numbered f i) (sym q);
    no_second = λ f i l d d' q c. no_clash _ (and_true (eq-eqb (kind_of k) kind.durable d) (some_durable f i d' q c)) h.no_second;
  }
    where
      some_durable : (f : Enlistment) → f ∈ tb.enlistments → Durable f → p ≡ f.holder → r ≡ f.rm.0 → any (is_durable_of r) (held p tb) ≡ true
      some_durable f i d q c = Rattle.lists.proofs.Tests.some_any (is_durable_of r) (held p tb)
          (record { it = f; there = in_held p tb i (sym q); holds = and_true (eq-eqb f.kind kind.durable d) (equal_same f.rm.0 r (sym c)) })

  entry_active : state_at p tb ≡ transaction.active → In enlistment.active entry
  unfolding new_enlistment
  entry_active q = rw (and_false (eqb (kind_of k) kind.phase_zero) (eqb (state_at p tb) transaction.phase_zero) (inr (ne_eqb (state_at p tb) transaction.phase_zero (λ z. omega arith))))

  entry_zero : state_at p tb ≡ transaction.phase_zero → Zeroing entry
  unfolding new_enlistment
  entry_zero q = by_test (eqb (kind_of k) kind.phase_zero)
      (λ t. inl (eqb-true (kind_of k) kind.phase_zero t, rw (and_true t (eq-eqb (state_at p tb) transaction.phase_zero q))))
      (λ t. inr (eqb-false (kind_of k) kind.phase_zero t, rw (and_false (eqb (kind_of k) kind.phase_zero) (eqb (state_at p tb) transaction.phase_zero) (inl t))))

  -- in any other state it is refused
  not_in : {C : Type 0} {x : ℕ} → state_at p tb ≡ x → 3 ≤ x → C
  not_in q l = absurd (by_either (λ z. omega (arith, z, q, l)) (λ z. omega (arith, z, q, l)) h.state)

  well_entered : HoldsWell (state_at p tb) (held p tb) → HoldsWell (state_at p tb) (held p (after entry tb))
  unfolding new_enlistment
  well_entered (HoldsWell.active q g) = HoldsWell.active q (each_put entry tb (In enlistment.active) (entry_active q) g)
  well_entered (HoldsWell.phase_zero q g x) = HoldsWell.phase_zero q (each_put entry tb Zeroing (entry_zero q) g) (some_put entry tb (live_some p tb h.live) x)
  well_entered (HoldsWell.phase_one q n g x) = not_in q (omega arith)
  well_entered (HoldsWell.single_phase q n g) = not_in q (omega arith)
  well_entered (HoldsWell.committing q n g x) = not_in q (omega arith)
  well_entered (HoldsWell.aborting q g x) = not_in q (omega arith)

  pub enlist_part : Part p tb (enlist_of p n r k m tb log).table
  unfolding enlist_of new_enlistment
  enlist_part = record {
    only = only_enlist entry tb;
    kept = kept_enlist entry tb (sound_kept s) entry_new;
    well = λ l. well_entered (s.states p l);
    room = room_kept p tb (after entry tb) (only_enlist entry tb) (live_place p tb h.live) refl
        (λ o. absurd (by_either (λ q. omega (arith, q, committing o)) (λ q. omega (arith, q, committing o)) h.state));
  }
    where
      committing : open_at p (after entry tb) ≡ true → state_at p tb ≡ transaction.committing
      committing o = open_committing (state_at p tb) (held p (after entry tb)) o
