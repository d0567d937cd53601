-- A table shows a transaction by what stands at its place. No two stand at one place, and what is held names the place: so that a change at one place shows in the
-- view of the transaction there, and in no other.
use Prim.Native.Nat.{ℕ, zero, suc}
use native.Mathlib.Omega.{arith}
use mathlib.Core.Path.{◌≡◌, refl, sym, ◌∙◌, ap}
use mathlib.Core.Bool.{false}
use mathlib.Core.List.{List}
use lib.Dec.{eqb}
use borrow.Author.Tests.{eqb-true, eqb-false}
use Rattle.lists.proofs.Tests.{by_test, no_clash}
use Rattle.lists.proofs.Places.{at_below}
use Rattle.rules.specs.declared.Transaction.{Transaction}
use Rattle.rules.specs.declared.Enlistment.{Enlistment}
use Rattle.rules.specs.declared.Table.{Table}
use Rattle.rules.specs.TransactionState as transaction
use Rattle.rules.specs.Identifiers.{Id}
use Rattle.rules.specs.Table.{no_transaction, is_named, place_named, transaction_at, state_at, held, in_transaction_state, freed, change_held, go_to, emptied, use_more}
use Rattle.rules.proofs.Frames.{held_transaction, Stands, Absent, stands_place, absent_place, named_found, named_other, state_goes, stands_goes, other_goes, absent_ended, same_place, not_zero, named_place, at_own}
use Rattle.safety.proofs.Alone.{View, out, early, voting, single, committing, aborting}
use Rattle.rules.proofs.Only.{Only, KeepsHeld, only_held, only_then, only_transaction, only_emptied, at_emptied_place}

abbrev pub look : ℕ → List Enlistment → View
look zero hs = out
look (suc zero) hs = early hs
look (suc (suc zero)) hs = early hs
look (suc (suc (suc zero))) hs = voting hs
look (suc (suc (suc (suc zero)))) hs = single hs
look (suc (suc (suc (suc (suc zero))))) hs = committing hs
look (suc (suc (suc (suc (suc (suc zero)))))) hs = aborting
look (suc (suc (suc (suc (suc (suc (suc n))))))) hs = out

unfoldable pub view_of : Id → Table → View
view_of t tb = look (state_at (place_named t tb) tb) (held (place_named t tb) tb)

-- by its place, and the state there
pub view_in : (t : Id) (p : ℕ) (tb : Table) → place_named t tb ≡ p → (k : ℕ) → state_at p tb ≡ k → view_of t tb ≡ look k (held p tb)
unfolding view_of
view_in t p tb e k q = ap (λ q. look (state_at q tb) (held q tb)) e ∙ ap (λ k. look k (held p tb)) q

pub view_stands : (t : Id) (p : ℕ) (tb : Table) → Stands t p tb → view_of t tb ≡ look (state_at p tb) (held p tb)
view_stands t p tb s = view_in t p tb (stands_place t p tb s) (state_at p tb) refl

pub state_none : (tb : Table) → state_at 0 tb ≡ 0
state_none tb = ap (λ (x : Transaction). x.state) (at_below no_transaction 1 0 tb.transactions (omega arith))

pub view_absent : (t : Id) (tb : Table) → Absent t tb → view_of t tb ≡ out
view_absent t tb a = view_in t 0 tb (absent_place t tb a) 0 (state_none tb)

-- the same place, the same state and the same enlistments there
view_same : (u : Id) (tb tb' : Table) → place_named u tb' ≡ place_named u tb
    → ((place_named u tb ≡ 0 → ⊥) → (state_at (place_named u tb) tb' ≡ state_at (place_named u tb) tb) × (held (place_named u tb) tb' ≡ held (place_named u tb) tb))
    → view_of u tb' ≡ view_of u tb
unfolding view_of
view_same u tb tb' e f = rw e (by_test (eqb (place_named u tb) 0)
    (λ z. rw (eqb-true (place_named u tb) 0 z, state_none tb, state_none tb') refl)
    (λ z. rw ((f (eqb-false (place_named u tb) 0 z)).0, (f (eqb-false (place_named u tb) 0 z)).1) refl))

-- a change at p is none of a transaction that stands elsewhere
pub view_only : (u : Id) (p : ℕ) (tb tb' : Table) → Only p tb tb' → is_named u (transaction_at p tb) ≡ false → is_named u (transaction_at p tb') ≡ false → view_of u tb' ≡ view_of u tb
view_only u p tb tb' o b a = view_same u tb tb' (same_place u tb tb' o.as_many named)
    (λ n. (ap (λ (x : Transaction). x.state) (o.transactions (place_named u tb) (elsewhere n)), o.enlistments (place_named u tb) (elsewhere n) n))
  where
    named : (q : ℕ) → is_named u (transaction_at q tb') ≡ is_named u (transaction_at q tb)
    named q = by_test (eqb q p) (λ e. rw (eqb-true q p e) (a ∙ sym b)) (λ e. ap (is_named u) (o.transactions q (eqb-false q p e)))

    elsewhere : (place_named u tb ≡ 0 → ⊥) → place_named u tb ≡ p → ⊥
    elsewhere n e = no_clash _ (ap (λ q. is_named u (transaction_at q tb)) (sym e) ∙ named_found u tb n) b

pub view_more : (u : Id) (n : ℕ) (tb : Table) → view_of u (use_more n tb) ≡ view_of u tb
unfolding view_of use_more held
view_more u n tb = refl

-- ── the transaction at p itself ─────────────────────────────────────────────────────────────────────────────────

pub stands_held : (t : Id) (p q : ℕ) (g : Enlistment → Enlistment) (tb : Table) → Stands t p tb → Stands t p (change_held q g tb)
unfolding change_held
stands_held t p q g tb s = record { here = s.here; alone = s.alone }

module _ (t : Id) (p : ℕ) (tb : Table) (s : Stands t p tb) where
  pub view_goes : (n : ℕ) (g : Enlistment → Enlistment) → (n ≡ 0 → ⊥) → view_of t (go_to p n (change_held p g tb)) ≡ look n (held p (change_held p g tb))
  view_goes n g nonzero = view_stands t p (go_to p n (change_held p g tb)) (stands_goes t p n (change_held p g tb) at nonzero)
      ∙ rw (state_goes t p n (change_held p g tb) at, held_transaction p p (in_transaction_state n) (change_held p g tb)) refl
    where
      at : Stands t p (change_held p g tb)
      at = stands_held t p p g tb s

  somewhere : p ≡ 0 → ⊥
  somewhere = not_zero (named_place t p tb s.here)

  -- another one, whatever becomes of what t holds, of its state, and of it
  pub held_other : (g : Enlistment → Enlistment) (u : Id) → KeepsHeld g → (u ≡ t → ⊥) → view_of u (change_held p g tb) ≡ view_of u tb
  held_other g u k d = view_only u p tb (change_held p g tb) (only_held p g tb somewhere k) (named_other t u (transaction_at p tb) s.here d)
      (named_other t u (transaction_at p (change_held p g tb)) (stands_held t p p g tb s).here d)

  pub goes_other : (n : ℕ) (g : Enlistment → Enlistment) (u : Id) → KeepsHeld g → (u ≡ t → ⊥) → view_of u (go_to p n (change_held p g tb)) ≡ view_of u tb
  goes_other n g u k d = view_only u p tb (go_to p n (change_held p g tb)) (only_then (only_held p g tb somewhere k) (only_transaction p (in_transaction_state n) (change_held p g tb))) (named_other t u (transaction_at p tb) s.here d)
      (ap (is_named u) (at_own p (in_transaction_state n) (change_held p g tb) (named_place t p (change_held p g tb) (stands_held t p p g tb s).here)) ∙ other_goes t p n (change_held p g tb) (stands_held t p p g tb s) u d)

  pub ends_other : (u : Id) → (u ≡ t → ⊥) → view_of u (emptied p tb) ≡ view_of u tb
  ends_other u d = view_only u p tb (emptied p tb) (only_emptied p tb somewhere) (named_other t u (transaction_at p tb) s.here d) (ap (is_named u) (at_emptied_place p tb))

  pub view_ends : view_of t (emptied p tb) ≡ out
  view_ends = view_absent t (emptied p tb) (absent_ended t p (change_held p freed tb) (stands_held t p p freed tb s).alone)

  pub view_changes : (g : Enlistment → Enlistment) → view_of t (change_held p g tb) ≡ look (state_at p tb) (held p (change_held p g tb))
  unfolding change_held
  view_changes g = view_stands t p (change_held p g tb) (stands_held t p p g tb s)

-- only Committing looks so
looks_committing : (k : ℕ) (hs es : List Enlistment) → look k hs ≡ committing es → (k ≡ transaction.committing) × (hs ≡ es)
looks_committing zero hs es q = let z : ◌≡◌ {A = ℕ} 0 1 = cc in absurd (omega arith)
looks_committing (suc zero) hs es q = let z : ◌≡◌ {A = ℕ} 0 1 = cc in absurd (omega arith)
looks_committing (suc (suc zero)) hs es q = let z : ◌≡◌ {A = ℕ} 0 1 = cc in absurd (omega arith)
looks_committing (suc (suc (suc zero))) hs es q = let z : ◌≡◌ {A = ℕ} 0 1 = cc in absurd (omega arith)
looks_committing (suc (suc (suc (suc zero)))) hs es q = let z : ◌≡◌ {A = ℕ} 0 1 = cc in absurd (omega arith)
looks_committing (suc (suc (suc (suc (suc zero))))) hs es q = (refl, cc)
looks_committing (suc (suc (suc (suc (suc (suc zero)))))) hs es q = let z : ◌≡◌ {A = ℕ} 0 1 = cc in absurd (omega arith)
looks_committing (suc (suc (suc (suc (suc (suc (suc k))))))) hs es q = let z : ◌≡◌ {A = ℕ} 0 1 = cc in absurd (omega arith)

-- a view of Committing, of whose enlistments P holds
pub record Shows (P : List Enlistment → Type 0) (v : View) : Type 0 where
  pub es : List Enlistment
  pub is : v ≡ committing es
  pub holds : P es

pub shows_committing : (P : List Enlistment → Type 0) (t : Id) (tb : Table) → Shows P (view_of t tb) → (state_at (place_named t tb) tb ≡ transaction.committing) × P (held (place_named t tb) tb)
unfolding view_of
shows_committing P t tb w = let q = looks_committing (state_at (place_named t tb) tb) (held (place_named t tb) tb) w.es w.is in (q.0, rw q.1 w.holds)
