-- Nothing stands at place 0; what a transaction holds in the table it holds alone; and one that isn't live holds nothing.
use Prim.Native.Nat.{ℕ, ◌≤◌}
use native.Mathlib.Omega.{arith}
use mathlib.Core.Path.{◌≡◌, sym, ◌∙◌, ap, subst}
use mathlib.Core.Bool.{false, not, ◌&&◌}
use mathlib.Core.List.{List, [], ◌∷◌}
use lib.Dec.{eqb}
use lib.ListN.{length, length-map}
use borrow.Author.Tests.{eqb-true, eqb-false, ne_eqb}
use Rattle.lists.specs.Lists.{any, none, first_or}
use Rattle.lists.specs.Places.{place_of}
use Rattle.lists.proofs.Tests.{by_test, first_passes, first_none, filter_none}
use Rattle.lists.proofs.Loops.{any_place}
use Rattle.lists.proofs.Places.{IsPlace, at_below}
use Rattle.rules.specs.declared.Enlistment.{Enlistment}
use Rattle.rules.specs.declared.Table.{Table}
use Rattle.rules.specs.declared.Name.TheVariants as name
use Rattle.rules.specs.Sizes.{transaction_places, enlistment_places}
use Rattle.rules.specs.EnlistmentState as enlistment
use Rattle.rules.specs.Identifiers.{Id}
use Rattle.rules.specs.Table.{no_transaction, no_enlistment, place_named, transaction_at, state_at, held_by, held, is_in}
use Rattle.rules.specs.Signals.{signal}
use Rattle.rules.specs.Sound.{Sound, Live}
use Rattle.rules.specs.Events.{quietly, saying, is_undone, ask_of}
use Rattle.rules.proofs.Soundness.{sound_sentences}
use Rattle.rules.proofs.Entered.{named_live}
use Rattle.rules.proofs.Frames.{of_held}
use Rattle.holdings.specs.declared.Holding.{Holding}
use Rattle.holdings.specs.Holdings.{alone}
use Rattle.holdings.specs.Within.{taken}
use Rattle.holdings.proofs.Within.{passes_through}
use Rattle.holdings.proofs.Taken.{taken_fits, taken_back}
use Rattle.reenlisting.specs.Ends.{Few, ReadyIn}
use Rattle.rows.specs.Memory.{transaction_in, table_in}
use Rattle.entering.specs.StepIn.{Fine}
use Rattle.events.proofs.Takes.{Takes, live_takes}

-- ── Ask ─────────────────────────────────────────────────────────────────────────────────────────────────────────

pub unknown_state : (p : ℕ) (tb : Table) → p ≡ 0 → state_at p tb ≡ 0
unknown_state p tb z = ap (λ x. x.state) (at_below no_transaction 1 p tb.transactions (omega arith))

pub unknown_asked : (p : ℕ) (rm : Id) (tb : Table) (log : List ℕ) → p ≡ 0 → ask_of p rm tb log ≡ saying (signal name.AnswerAborted 0 ∷ []) (quietly tb log)
unfolding ask_of
unknown_asked p rm tb log z = rw (unknown_state p tb z)

-- the first is an empty one if and only if there is none
first_lacks : (p : ℕ) (rm : Id) (tb : Table) → 1 ≤ p → eqb (first_or no_enlistment (is_undone rm) (held p tb)).holder 0 ≡ none (is_undone rm) (held p tb)
first_lacks p rm tb low = by_test (any (is_undone rm) (held p tb))
    (λ t. let h : (first_or no_enlistment (is_undone rm) (held p tb)).holder ≡ p = (of_held p tb (first_passes no_enlistment (is_undone rm) (held p tb) t).0).1 in rw t (ne_eqb (first_or no_enlistment (is_undone rm) (held p tb)).holder 0 (λ z. omega (arith, h, z, low))))
    (λ t. rw (t, first_none no_enlistment (is_undone rm) (held p tb) t))

module _ (heads rows : List (List ℕ)) (capacity used : ℕ) (long : length heads ≡ transaction_places) (id rm : Id) where
  abbrev tb : Table
  tb = table_in heads rows capacity used

  pub known_takes : {p : ℕ} → Fine heads rows capacity used → p ≡ place_named id tb → (p ≡ 0 → ⊥) → Takes heads rows used p
  known_takes {p} f named n = live_takes heads rows capacity used long f (subst (λ k. Live (transaction_at k tb)) (sym named) (named_live id tb (λ z. n (named ∙ z))))

  pub asked_state : {p : ℕ} {h : Holding} → p ≡ place_named id tb → h ≡ taken p 0 tb → h.transaction.state ≡ state_at (place_named id tb) tb
  asked_state named out = ap (λ g. g.transaction.state) out ∙ ap (λ q. state_at q tb) named

  pub asked_lacks : {p : ℕ} {h : Holding} {e : Enlistment} → Takes heads rows used p → p ≡ place_named id tb → h ≡ taken p 0 tb
      → e ≡ first_or no_enlistment (is_undone rm) (held h.place (alone h)) → eqb e.holder 0 ≡ none (is_undone rm) (held (place_named id tb) tb)
  unfolding held
  asked_lacks {p} {h} {e} k named out first =
      let there : IsPlace tb.transactions p = record { low = k.low; high = omega (arith, k.high, long, length-map heads transaction_in) } in
      let same : held h.place (alone h) ≡ held p tb =
      ap (λ g. held g.place (alone g)) out
      ∙ sym ((passes_through tb p there).same_held (alone (taken p 0 tb)) (taken_fits p 0 tb k.low k.high k.few))
      ∙ ap (held p) (taken_back p 0 tb k.low k.high k.few) in
      ap (λ f. eqb f.holder 0) (first ∙ ap (first_or no_enlistment (is_undone rm)) same) ∙ first_lacks p rm tb k.low ∙ ap (λ q. none (is_undone rm) (held q tb)) named

-- ── Re-enlisted ─────────────────────────────────────────────────────────────────────────────────────────────────

pub elsewhere_any : (rm : Id) (tb : Table) {table : Table} {p : ℕ} → p ≡ place_of (λ e. is_undone rm e && not (is_in enlistment.failed_to_notify e)) table.enlistments → table ≡ tb
    → not (eqb p 0) ≡ any (λ f. is_undone rm f && not (is_in enlistment.failed_to_notify f)) tb.enlistments
elsewhere_any rm tb e t =
    ap (λ q. not (eqb q 0)) (e ∙ ap (λ u. place_of (λ f. is_undone rm f && not (is_in enlistment.failed_to_notify f)) u.enlistments) t)
    ∙ sym (any_place (λ f. is_undone rm f && not (is_in enlistment.failed_to_notify f)) tb.enlistments)

sound_few : (tb : Table) → Sound tb → Few tb
unfolding held
sound_few tb s p low = by_test (eqb (state_at p tb) 0)
    (λ t. omega (arith, ap (λ l. length l) (filter_none (held_by p) tb.enlistments (λ e m. ne_eqb e.holder p (λ q. s.holders_live e m (λ z. omega (arith, z, q, low)) (ap (λ k. state_at k tb) q ∙ eqb-true _ 0 t))))))
    (λ t. s.few p (eqb-false _ 0 t))

pub fine_ready : {heads rows : List (List ℕ)} {capacity used : ℕ} → length heads ≡ transaction_places → length rows ≡ enlistment_places → Fine heads rows capacity used → ReadyIn heads rows capacity used
fine_ready {heads} {rows} {capacity} {used} lh lr f =
    let s : Sound (table_in heads rows capacity used) = sound_sentences (table_in heads rows capacity used) f in
    record { used_first = omega (arith, s.room, s.capacity_small); few = sound_few (table_in heads rows capacity used) s }
