-- A holding with a place is determined by its table: the transaction is what stands at its place there, and all else is the table's own. So a contract that gives the table
-- and the place gives the holding.
use Prim.Native.Nat.{ℕ}
use mathlib.Core.Path.{◌≡◌, sym, ◌∙◌}
use mathlib.Core.List.{List}
use Rattle.rules.specs.Table.{transaction_at}
use Rattle.rules.specs.Events.{Outcome}
use Rattle.holdings.specs.declared.Holding.{Holding}
use Rattle.holdings.specs.Holdings.{alone, Placed}
use Rattle.holdings.proofs.Laws.{alone_at}
use Rattle.endings.specs.declared.Accepted.{Accepted}
use Rattle.endings.specs.Gives.{Gives, Leaves}

pub alone_determined : {p : ℕ} {g h : Holding} → Placed p → g.place ≡ p → h.place ≡ p → alone g ≡ alone h → g ≡ h
unfolding alone
alone_determined {p} {g} {h} i a b e = λ j. record {
  enlistments = (e j).enlistments;
  transaction = same j;
  place = (a ∙ sym b) j;
  capacity = (e j).capacity;
  used = (e j).used;
}
  where
    same : g.transaction ≡ h.transaction
    same = sym (alone_at g (rw a i)) ∙ (λ j. transaction_at ((a ∙ sym b) j) (e j)) ∙ alone_at h (rw b i)

module _ {p : ℕ} {o : Outcome} {after later : List ℕ} (i : Placed p) where
  pub leaves_determined : {r s : Holding} → Leaves p o r after → Leaves p o s later → (r ≡ s) × (after ≡ later)
  leaves_determined l m = (alone_determined i l.place m.place (l.table ∙ sym m.table), l.log ∙ sym m.log)

  pub gives_determined : {r s : Accepted} → Gives p o r after → Gives p o s later → (r ≡ s) × (after ≡ later)
  gives_determined g k =
      let same = alone_determined i g.place k.place (g.table ∙ sym k.table) in
      ((λ j. record { holding = same j; signals = (g.signals ∙ sym k.signals) j }), g.log ∙ sym k.log)
