-- Identifiers are compared byte by byte: the same are equal, and less is a total order. Each law goes along both lists.
use Prim.Native.Nat.{ℕ, ◌≤◌}
use native.Mathlib.Omega.{arith}
use mathlib.Core.Path.{◌≡◌, refl, sym, ◌∙◌, ap, ap₂}
use mathlib.Core.Bool.{Bool, true, false, cond, ◌&&◌, true≢false, false≢true}
use mathlib.Core.List.{List, [], ◌∷◌}
use lib.ListN.{length, replicate}
use lib.Dec.{eqb, ltb}
use lib.Pointwise.{pointwise}
use Rattle.std.specs.Cmp.Lexicographic.{slice_partial_cmp}
use Rattle.std.specs.Ordering.{nat_cmp, is_lt, is_some_and}
use Rattle.std.specs.Prelude.{Some}
use Rattle.std.proofs.lemmas.Bool.Decides.{nat_tests}
use Rattle.std.proofs.lemmas.Cmp.{same_from_slice_cmp_tested}
use borrow.Author.Tests.{eqb-true, eqb-false, eq-eqb, ne_eqb, ltb-true, ltb-false, le-ltb}
use Rattle.lists.specs.Lists.{all}
use Rattle.lists.proofs.Tests.{by_test, true_and, is_false, no_clash}
use Rattle.lists.proofs.Sorting.{Orders}
use Rattle.rules.specs.Sizes.{identifier_size}
use Rattle.rules.specs.Identifiers.{Id, zero_id, is_zero, same_bytes, less_bytes}
use Rattle.rules.specs.Sound.{Identifier}

-- ── the same ────────────────────────────────────────────────────────────────────────────────────────────────────

pub same_refl : (a : List ℕ) → same_bytes a a ≡ true
unfolding same_bytes
same_refl [] = refl
same_refl (x ∷ a) = rw (eq-eqb x x refl) (same_refl a)

pub same_equal : (a b : List ℕ) → same_bytes a b ≡ true → a ≡ b
unfolding same_bytes
same_equal [] [] e = refl
same_equal [] (y ∷ b) e = absurd (false≢true e)
same_equal (x ∷ a) [] e = absurd (false≢true e)
same_equal (x ∷ a) (y ∷ b) e = let (p, q) = true_and (eqb x y) (same_bytes a b) e in ap₂ ◌∷◌ (eqb-true x y p) (same_equal a b q)

pub equal_same : (a b : List ℕ) → a ≡ b → same_bytes a b ≡ true
equal_same a b e = rw e (same_refl b)

pub other_not_same : (a b : List ℕ) → (a ≡ b → ⊥) → same_bytes a b ≡ false
other_not_same a b n = is_false (same_bytes a b) (λ e. n (same_equal a b e))

-- the library's test of two lists, byte by byte, is the same test
pub pointwise_same : (a b : List ℕ) → pointwise eqb a b ≡ same_bytes a b
unfolding same_bytes
pointwise_same [] [] = refl
pointwise_same [] (y ∷ b) = refl
pointwise_same (x ∷ a) [] = refl
pointwise_same (x ∷ a) (y ∷ b) = ap (λ t. eqb x y && t) (pointwise_same a b)

-- its test with zeros is the test that each byte is zero
pub pointwise_zero : (t : List ℕ) → pointwise eqb t (replicate (length t) 0) ≡ is_zero t
unfolding all
pointwise_zero [] = refl
pointwise_zero (b ∷ t) = ap (λ s. eqb b 0 && s) (pointwise_zero t)

-- ── zero ────────────────────────────────────────────────────────────────────────────────────────────────────────

zeros : (t : List ℕ) → is_zero t ≡ true → t ≡ replicate (length t) 0
unfolding all
zeros [] e = refl
zeros (b ∷ t) e = let (p, q) = true_and (eqb b 0) (is_zero t) e in ap₂ ◌∷◌ (eqb-true b 0 p) (zeros t q)

pub zero_equal : (t : Id) → length t ≡ identifier_size → is_zero t ≡ true → t ≡ zero_id
zero_equal t l e = zeros t e ∙ rw l

zero_is : is_zero zero_id ≡ true
unfolding all
zero_is = refl

pub equal_zero : (t : Id) → t ≡ zero_id → is_zero t ≡ true
equal_zero t e = rw e zero_is

pub identifier_nonzero : (t : Id) → Identifier t → is_zero t ≡ false
identifier_nonzero t i = is_false (is_zero t) (λ e. i.1 (zero_equal t i.0 e))

pub nonzero_identifier : (t : Id) → length t ≡ identifier_size → is_zero t ≡ false → Identifier t
nonzero_identifier t l z = (l, λ e. no_clash (is_zero t) (equal_zero t e) z)

-- ── less ────────────────────────────────────────────────────────────────────────────────────────────────────────

less_asymmetric : (a b : List ℕ) → less_bytes a b ≡ true → less_bytes b a ≡ false
unfolding less_bytes
less_asymmetric [] [] e = refl
less_asymmetric [] (y ∷ b) e = refl
less_asymmetric (x ∷ a) [] e = absurd (false≢true e)
less_asymmetric (x ∷ a) (y ∷ b) e = by_test (eqb x y)
    (λ p. rw (eq-eqb y x (sym (eqb-true x y p))) (less_asymmetric a b (rw p at e)))
    (λ p. rw (ne_eqb y x (λ q. eqb-false x y p (sym q))) (le-ltb y x (omega (arith, ltb-true x y (rw p at e)))))

-- the library's order of two lists, in which the first pair that differs decides, is the same order
pub lexicographic_less : (a b : List ℕ) (r : Bool) → r ≡ is_some_and is_lt (slice_partial_cmp (λ x y. Some (nat_cmp x y)) a b) → r ≡ less_bytes a b
unfolding less_bytes
lexicographic_less = same_from_slice_cmp_tested nat_cmp is_lt less_bytes refl (λ _ _. refl) (λ _ _. refl) (λ x y a b o h. grind (arith, nat_tests))

-- what the first bytes say
head_not_less : (x y : ℕ) (b : Bool) → cond (eqb x y) b (ltb x y) ≡ false → y ≤ x
head_not_less x y b e = by_test (eqb x y) (λ p. omega (arith, eqb-true x y p)) (λ p. ltb-false x y (rw p at e))

less_transitive : (a b c : List ℕ) → less_bytes a b ≡ false → less_bytes b c ≡ false → less_bytes a c ≡ false
unfolding less_bytes
less_transitive [] [] c e g = g
less_transitive [] (y ∷ b) c e g = absurd (true≢false e)
less_transitive (x ∷ a) b [] e g = refl
less_transitive (x ∷ a) [] (z ∷ c) e g = absurd (true≢false g)
less_transitive (x ∷ a) (y ∷ b) (z ∷ c) e g =
    let l : y ≤ x = head_not_less x y (less_bytes a b) e in
    let m : z ≤ y = head_not_less y z (less_bytes b c) g in
    by_test (eqb x z)
    (λ p. let q : x ≡ z = eqb-true x z p in rw p (less_transitive a b c (rw (eq-eqb x y (omega arith)) at e) (rw (eq-eqb y z (omega arith)) at g)))
    (λ p. rw p (le-ltb x z (omega arith)))

pub orders_bytes : Orders less_bytes
orders_bytes = record { asymmetric = less_asymmetric; transitive = less_transitive }
