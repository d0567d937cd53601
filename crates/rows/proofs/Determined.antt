-- Memory is determined by the table that it means: 17 bytes spell a transaction, and 24 an enlistment, in one way, so that what is spelt anew from what
-- they mean is what was there.
use Prim.Native.Nat.{ℕ, ◌<◌}
use native.Mathlib.Omega.{arith}
use mathlib.Core.Path.{◌≡◌, refl, sym, ◌∙◌, ap, subst}
use mathlib.Core.List.{List, [], ◌∷◌, ◌++◌, map}
use lib.ListN.{get_or, take, drop, length-drop, take-append-drop}
use lib.Seq.{take-suc, take_all}
use Rattle.lists.specs.Members.{Each}
use Rattle.lists.proofs.Tests.{each_head, each_rest, each_take, each_drop}
use Rattle.rules.specs.declared.Transaction.{Transaction}
use Rattle.rules.specs.declared.Enlistment.{Enlistment}
use Rattle.rules.specs.Log.{low4}
use Rattle.rules.proofs.Bytes.{low_of_number}
use Rattle.rows.specs.Memory.{transaction_in, number_in, enlistment_in, table_in, Bytes, OfBytes}
use Rattle.rows.proofs.Spelling.{spelt, spelt_is}

abbrev head_of : Transaction → List ℕ
head_of x = x.id.0 ++ (x.state ∷ [])

abbrev row_of : Enlistment → List ℕ
row_of e = e.rm.0 ++ (low4 e.number ++ (e.holder ∷ e.kind ∷ e.mark ∷ e.state ∷ []))

head_again : (head : List ℕ) → Bytes 17 head → head_of (transaction_in head) ≡ head
unfolding transaction_in
head_again head b = sym (take-suc head 16 0 (omega (arith, b.long))) ∙ take_all 17 head (omega (arith, b.long))

module _ (row : List ℕ) (b : Bytes 24 row) where
  number_again : low4 (number_in row) ≡ spelt 4 16 row
  unfolding spelt
  number_again = low_of_number (spelt 4 16 row) refl (subst (Each (λ x. x < 256)) (sym (spelt_is 4 16 row (omega (arith, b.long)))) (each_take 4 (each_drop 16 b.small)))

  rest_again : spelt 8 16 row ≡ drop 16 row
  rest_again = spelt_is 8 16 row (omega (arith, b.long)) ∙ take_all 8 (drop 16 row) (omega (arith, b.long, length-drop 16 row))

  row_again : row_of (enlistment_in row) ≡ row
  unfolding enlistment_in spelt
  row_again =
      ap (λ l. take 16 row ++ (l ++ (get_or row 20 0 ∷ get_or row 21 0 ∷ get_or row 22 0 ∷ get_or row 23 0 ∷ []))) number_again
      ∙ ap (λ l. take 16 row ++ l) rest_again
      ∙ take-append-drop 16 row

each_again : {A : Type 0} {n : ℕ} (f : List ℕ → A) (g : A → List ℕ) → ((l : List ℕ) → Bytes n l → g (f l) ≡ l) → (ls : List (List ℕ)) → Each (Bytes n) ls → map g (map f ls) ≡ ls
each_again f g h [] bs = refl
each_again f g h (l ∷ ls) bs = λ i. h l (each_head bs) i ∷ each_again f g h ls (each_rest bs) i

-- a head that means this transaction, as `head_of` gives it; and heads that mean these, as they are left where one was stored
pub head_determined : {x : Transaction} {head head' : List ℕ} → Bytes 17 head → Bytes 17 head' → transaction_in head ≡ x → transaction_in head' ≡ x → head ≡ head'
head_determined {head = head} {head'} b b' p q = sym (head_again head b) ∙ ap head_of (p ∙ sym q) ∙ head_again head' b'

pub heads_determined : {l : List Transaction} {heads heads' : List (List ℕ)} → Each (Bytes 17) heads → Each (Bytes 17) heads' → map transaction_in heads ≡ l → map transaction_in heads' ≡ l → heads ≡ heads'
heads_determined {heads = heads} {heads'} b b' p q = sym (each_again transaction_in head_of head_again heads b) ∙ ap (map head_of) (p ∙ sym q) ∙ each_again transaction_in head_of head_again heads' b'

-- the same of enlistments, by `row_of` and in rows
pub row_determined : {e : Enlistment} {row row' : List ℕ} → Bytes 24 row → Bytes 24 row' → enlistment_in row ≡ e → enlistment_in row' ≡ e → row ≡ row'
row_determined {row = row} {row'} b b' p q = sym (row_again row b) ∙ ap row_of (p ∙ sym q) ∙ row_again row' b'

pub rows_determined : {l : List Enlistment} {rows rows' : List (List ℕ)} → Each (Bytes 24) rows → Each (Bytes 24) rows' → map enlistment_in rows ≡ l → map enlistment_in rows' ≡ l → rows ≡ rows'
rows_determined {rows = rows} {rows'} b b' p q = sym (each_again enlistment_in row_of row_again rows b) ∙ ap (map row_of) (p ∙ sym q) ∙ each_again enlistment_in row_of row_again rows' b'

pub table_determined : {heads rows heads' rows' : List (List ℕ)} {capacity used capacity' used' : ℕ} → OfBytes heads rows → OfBytes heads' rows'
    → table_in heads rows capacity used ≡ table_in heads' rows' capacity' used' → (heads ≡ heads') × (rows ≡ rows')
table_determined b b' e = (heads_determined b.each_head b'.each_head (ap (λ t. t.transactions) e) refl, rows_determined b.each_row b'.each_row (ap (λ t. t.enlistments) e) refl)
