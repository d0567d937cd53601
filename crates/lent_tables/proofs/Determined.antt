-- What is taken out equals one holding, whatever capacity the table in the memory is said to have; and memory into which one is put back means the same lists, which
-- determine its bytes.
use Prim.Native.Nat.{ℕ}
use mathlib.Core.Path.{◌≡◌, sym, ◌∙◌}
use mathlib.Core.List.{List, map}
use Rattle.lists.specs.Places.{change_at}
use Rattle.rules.specs.Table.{held_by}
use Rattle.holdings.specs.declared.Holding.{Holding}
use Rattle.holdings.specs.Within.{taken, refill}
use Rattle.rows.specs.Memory.{transaction_in, enlistment_in, table_in, OfBytes}
use Rattle.rows.proofs.Determined.{heads_determined, rows_determined}

module _ (heads rows : List (List ℕ)) where
  pub take_out_determined : (p capacity used : ℕ) {r s : Holding} → ((size : ℕ) → r ≡ taken p capacity (table_in heads rows size used)) → ((size : ℕ) → s ≡ taken p capacity (table_in heads rows size used)) → r ≡ s
  take_out_determined p capacity used a b = a 0 ∙ sym (b 0)

  abbrev Back : Holding → List (List ℕ) → List (List ℕ) → Type 0
  Back h heads' rows' =
      (map transaction_in heads' ≡ change_at h.place (λ x. h.transaction) (map transaction_in heads))
      × (map enlistment_in rows' ≡ refill (held_by h.place) h.enlistments (map enlistment_in rows))

  pub put_back_determined : (h : Holding) {heads' rows' heads'' rows'' : List (List ℕ)} → OfBytes heads' rows' → OfBytes heads'' rows'' → Back h heads' rows' → Back h heads'' rows''
      → (heads' ≡ heads'') × (rows' ≡ rows'')
  put_back_determined h b c (x, e) (y, f) = (heads_determined b.each_head c.each_head x y, rows_determined b.each_row c.each_row e f)
