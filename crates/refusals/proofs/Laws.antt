-- None passes if and only if no place is found, and an enlistment with a number that is not zero is held if and only if the one that is found has it.
use Prim.Native.Nat.{ℕ}
use mathlib.Core.Path.{◌≡◌, sym}
use mathlib.Core.Bool.{Bool, false, not-not}
use mathlib.Core.List.{List, [], ◌∷◌}
use lib.Dec.{eqb}
use borrow.Author.Tests.{ne_eqb, eqb-false}
use Rattle.lists.specs.Lists.{any, none, first_or}
use Rattle.lists.specs.Places.{place_of}
use Rattle.lists.proofs.Tests.{by_test}
use Rattle.lists.proofs.Loops.{any_place}
use Rattle.rules.specs.declared.Enlistment.{Enlistment}
use Rattle.rules.specs.declared.Table.{Table}
use Rattle.rules.specs.Table.{no_enlistment, is_numbered, numbered}

pub none_place : {A : Type 0} (f : A → Bool) (xs : List A) → none f xs ≡ eqb (place_of f xs) 0
none_place f xs = rw (any_place f xs) (not-not _)

first_has : (n : ℕ) (es : List Enlistment) → eqb n 0 ≡ false → any (is_numbered n) es ≡ is_numbered n (first_or no_enlistment (is_numbered n) es)
unfolding any first_or
first_has n [] z = sym (ne_eqb 0 n (λ e. eqb-false n 0 z (sym e)))
first_has n (e ∷ es) z = by_test (is_numbered n e) (λ t. rw (t, t)) (λ t. rw t (first_has n es z))

pub held_has : (n : ℕ) (tb : Table) → eqb n 0 ≡ false → any (is_numbered n) tb.enlistments ≡ eqb (numbered n tb).number n
unfolding numbered
held_has n tb z = first_has n tb.enlistments z
