-- A check asks no more of a table than what was found there for it: a place that is not 0 is one that is held, and what stands behind a check that applies is not asked.
use Prim.Native.Nat.{ℕ}
use mathlib.Core.Path.{◌≡◌, ◌∙◌}
use mathlib.Core.Bool.{Bool, false, not, ◌&&◌, ◌||◌}
use mathlib.Core.List.{List}
use lib.Dec.{eqb}
use Rattle.lists.specs.Lists.{any, none}
use Rattle.lists.specs.Places.{place_of}
use Rattle.lists.proofs.Tests.{by_test, false_or}
use Rattle.rules.specs.declared.Enlistment.{Enlistment}
use Rattle.rules.specs.declared.Table.{Table}
use Rattle.rules.specs.declared.Act.{Act}
use Rattle.rules.specs.EnlistmentState as enlistment
use Rattle.rules.specs.Identifiers.{Id, is_zero}
use Rattle.rules.specs.Table.{place_named, state_at, is_free, held, numbered, is_in}
use Rattle.rules.specs.Events.{reaction_of, is_undone, is_over}
use Rattle.rules.specs.Refusals.{Check, first_of}
use Rattle.rules.specs.Checks as checks
use Rattle.rules.specs.Checks.{held_already, full_for, begin_checks, enlist_checks, about_one_checks, ask_checks, reenlisted_checks}
use Rattle.refusals.proofs.Laws.{none_place, held_has}

module _ (tb : Table) {why : ℕ} where
  -- of Commit and Rollback
  pub state_found : (cs : ℕ → ℕ → List Check) (id : Id) {named state : ℕ} → why ≡ first_of (cs named state) → named ≡ place_named id tb → state ≡ state_at named tb
      → why ≡ first_of (cs (place_named id tb) (state_at (place_named id tb) tb))
  state_found cs id w p q = w ∙ rw (q, p)

  pub begin_found : (id : Id) {named free : ℕ} → why ≡ first_of (checks.begin id named (eqb free 0)) → named ≡ place_named id tb → free ≡ place_of is_free tb.transactions → why ≡ first_of (begin_checks tb id)
  unfolding first_of
  begin_found id w p q = w ∙ rw (p, q, none_place is_free tb.transactions)

  pub enlist_found : (id rm : Id) (n k : ℕ) {named state : ℕ} {already full : Bool} → why ≡ first_of (checks.enlist id rm n named state already full)
      → named ≡ place_named id tb → state ≡ state_at named tb → (eqb n 0 ≡ false → already ≡ held_already tb named rm n k) → full ≡ full_for tb named
      → why ≡ first_of (enlist_checks tb id rm n k)
  unfolding first_of
  enlist_found id rm n k w p q h f = w ∙ by_test (is_zero id || is_zero rm || eqb n 0)
      (λ z. rw z)
      (λ z. rw (h (false_or (is_zero id || is_zero rm) (eqb n 0) z).1, f, q, p))

  pub about_one_found : (n : ℕ) (a : Act) {e : Enlistment} → why ≡ first_of (checks.about_one n (eqb e.number n) (reaction_of e.kind e.state a)) → e ≡ numbered n tb → why ≡ first_of (about_one_checks tb n a)
  unfolding first_of
  about_one_found n a w q = w ∙ by_test (eqb n 0) (λ z. rw z) (λ z. rw (q, held_has n tb z))

  pub ask_found : (id rm : Id) {state : ℕ} {lacks : Bool} → why ≡ first_of (checks.ask id rm state lacks)
      → state ≡ state_at (place_named id tb) tb → (is_over state ≡ false → lacks ≡ none (is_undone rm) (held (place_named id tb) tb))
      → why ≡ first_of (ask_checks tb id rm)
  unfolding first_of
  ask_found id rm {state} w q l = w ∙ by_test (is_over state) (λ o. rw (← q, o)) (λ o. rw (← q, l o))

  pub reenlisted_found : (rm : Id) {elsewhere : Bool} → why ≡ first_of (checks.reenlisted rm elsewhere)
      → elsewhere ≡ any (λ f. is_undone rm f && not (is_in enlistment.failed_to_notify f)) tb.enlistments → why ≡ first_of (reenlisted_checks tb rm)
  reenlisted_found rm w q = w ∙ rw q
