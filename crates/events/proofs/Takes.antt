-- Of a sound table, a live transaction can be taken out: it stands at a place and holds few. What the
-- event makes of it alone, put back, is what it makes of the table.
use Prim.Native.Nat.{ℕ, ◌≤◌}
use native.Mathlib.Omega.{arith}
use mathlib.Core.Path.{◌≡◌, refl, sym, ◌∙◌, ap, subst}
use mathlib.Core.Bool.{Bool, true}
use mathlib.Core.List.{List, [], ◌∷◌, map}
use lib.Dec.{eqb}
use lib.ListN.{length, length-map}
use borrow.Author.Tests.{eqb-true, eqb-false}
use Rattle.lists.specs.Lists.{all, filter, count}
use Rattle.lists.proofs.Tests.{count_filter}
use Rattle.lists.proofs.Places.{IsPlace}
use Rattle.std.specs.Prelude.{Ok}
use Rattle.rules.specs.declared.Table.{Table}
use Rattle.rules.specs.RefusalNumber as refusal
use Rattle.rules.specs.RefusalNumber.{accepted}
use Rattle.rules.specs.Sizes.{transaction_places, held_most, largest_capacity}
use Rattle.rules.specs.Identifiers.{Id}
use Rattle.rules.specs.Table.{place_named, transaction_at, held_by, held}
use Rattle.rules.specs.Sound.{Sound, Live}
use Rattle.rules.specs.Events.{Outcome}
use Rattle.rules.specs.Refusals.{Check, check, first_of}
use Rattle.rules.proofs.Soundness.{sound_sentences}
use Rattle.rules.proofs.Checks.{passes_at}
use Rattle.rules.proofs.Entered.{named_live}
use Rattle.rules.proofs.Kept.{live_place}
use Rattle.rules.proofs.Local.{through}
use Rattle.holdings.specs.declared.Holding.{Holding}
use Rattle.holdings.specs.Holdings.{alone}
use Rattle.holdings.specs.Within.{taken, within}
use Rattle.holdings.proofs.Within.{Fits}
use Rattle.holdings.proofs.Taken.{taken_fits, taken_back}
use Rattle.endings.specs.declared.Accepted.{Accepted}
use Rattle.endings.specs.Gives.{Gives, Ready}
use Rattle.rows.specs.Memory.{transaction_in, enlistment_in, table_in}
use Rattle.entering.specs.declared.Answer.{Answer}
use Rattle.entering.specs.StepIn.{Fine, Does, answered}
use Rattle.events.specs.PutsBack.{PutsBack}
use Rattle.events.proofs.PutBack.{put_does}

-- the transaction at place p can be
pub record Takes (heads rows : List (List ℕ)) (used p : ℕ) : Type 0 where
  pub low : 1 ≤ p
  pub high : p ≤ transaction_places
  pub few : length (filter (held_by p) (map enlistment_in rows)) ≤ held_most
  pub small : used ≤ largest_capacity

module _ (heads rows : List (List ℕ)) (capacity used : ℕ) (long : length heads ≡ transaction_places) where
  abbrev tb : Table
  tb = table_in heads rows capacity used

  pub live_takes : {p : ℕ} → Fine heads rows capacity used → Live (transaction_at p tb) → Takes heads rows used p
  unfolding held
  live_takes {p} f live =
      let s : Sound tb = sound_sentences tb f in
      let there : IsPlace (map transaction_in heads) p = live_place p tb live in
      record {
        low = there.low;
        high = omega (arith, there.high, length-map heads transaction_in, long);
        few = s.few p live;
        small = omega (arith, s.room, s.capacity_small);
      }

  -- of Commit and Rollback: zero asks for the identifier, and wrong for the state
  pub named_takes : {p : ℕ} (id : Id) (zero wrong : Bool) → Fine heads rows capacity used → p ≡ place_named id tb
      → accepted ≡ first_of (check zero refusal.zero_named ∷ check (eqb p 0) refusal.not_live ∷ check wrong refusal.transaction_state ∷ [])
      → Takes heads rows used p
  unfolding all
  named_takes {p} id zero wrong f named q =
      let live : Live (transaction_at (place_named id tb) tb) = named_live id tb (λ z. eqb-false p 0 (passes_at _ 1 refl (sym q)) (named ∙ z)) in
      live_takes f (subst (λ k. Live (transaction_at k tb)) (sym named) live)

  module _ {p room : ℕ} {h : Holding} (k : Takes heads rows used p) (out : h ≡ taken p room tb) where
    pub takes_ready : Ready h
    takes_ready = subst Ready (sym out) ((k.low, k.high), omega (arith, k.small))

    pub takes_few : (d : Accepted) → d.holding.place ≡ h.place → count (held_by d.holding.place) (map enlistment_in rows) ≤ held_most
    takes_few d q = subst (λ j. count (held_by j) (map enlistment_in rows) ≤ held_most) (sym (q ∙ ap (λ g. g.place) out)) (omega (arith, k.few, count_filter (held_by p) (map enlistment_in rows)))

    abbrev own : Table
    own = alone (taken p room tb)

    -- o is the outcome, of a place and a table
    pub takes_does : (cs : List Check) (o : ℕ → Table → Outcome) (log : List ℕ) {whole : Outcome} {d : Accepted} {r : Answer} {heads' rows' : List (List ℕ)} {after : List ℕ}
        → whole ≡ o p tb → accepted ≡ first_of cs
        → (IsPlace tb.transactions p → Fits tb p own → o p (within tb p own) ≡ through (within tb p) (o p own))
        → Gives h.place (o h.place (alone h)) d after → PutsBack heads rows d r heads' rows'
        → Does cs whole tb log (answered used (Ok r)) heads' rows' after
    unfolding held
    takes_does cs o log {whole} {d} {r} {heads'} {rows'} {after} is q law g back =
        let there : IsPlace (map transaction_in heads) p = record { low = k.low; high = omega (arith, k.high, long, length-map heads transaction_in) } in
        put_does heads rows capacity used cs (o p own) whole log k.low k.high q
        (is ∙ ap (o p) (sym (taken_back p room tb k.low k.high k.few)) ∙ law there (taken_fits p room tb k.low k.high k.few))
        (subst (λ j. Gives j.place (o j.place (alone j)) d after) out g) back
