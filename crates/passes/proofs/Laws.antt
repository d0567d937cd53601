-- What one more enlistment, or one more place, adds to a count. Each law splits on the test of the new one.
use Prim.Native.Nat.{ℕ, ◌+◌, ◌<◌}
use native.Mathlib.Numerals.{add-one}
use native.Mathlib.Omega.{arith}
use mathlib.Core.Path.{◌≡◌}
use mathlib.Core.Bool.{Bool, cond}
use mathlib.Core.List.{List, [], ◌∷◌, ◌++◌, append-nil}
use lib.ListN.{length, get_or, take, length-take}
use Rattle.std.proofs.lemmas.List.{take_more, length_push}
use Rattle.lists.specs.Lists.{filter, count}
use Rattle.lists.proofs.Tests.{by_test, length_filter, filter_append}
use Rattle.lists.proofs.Loops.{count_most}
use Rattle.rules.specs.declared.Enlistment.{Enlistment}
use Rattle.rules.specs.EnlistmentState as enlistment
use Rattle.rules.specs.Table.{held_by, is_phase_zero, is_durable, is_marked, is_in, is_done}
use Rattle.passes.specs.declared.Census.{Census}
use Rattle.passes.specs.Census.{census_of, more_of, counted_of, Below}

-- what is read past the end of an array: the code reads nothing there
abbrev pub nowhere : Enlistment
nowhere = record { holder = 0; rm = record { 0 = [] }; number = 0; kind = 0; mark = 0; state = 0 }

-- the census of those that p holds among some
abbrev pub census_held : ℕ → List Enlistment → Census
census_held p es = census_of (filter (held_by p) es)

count_last : {A : Type 0} (f : A → Bool) (xs : List A) (x : A) → count f (xs ++ x ∷ []) ≡ more_of (f x) (count f xs)
unfolding count
count_last f [] x = by_test (f x) (λ t. rw t) (λ t. rw t)
count_last f (y ∷ ys) x = by_test (f y) (λ t. rw (t, count_last f ys x) (by_test (f x) (λ q. rw q) (λ q. rw q))) (λ t. rw t (count_last f ys x))

census_last : (hs : List Enlistment) (e : Enlistment) → census_of (hs ++ e ∷ []) ≡ counted_of e (census_of hs)
unfolding census_of counted_of
census_last hs e = rw (count_last is_phase_zero hs e, count_last is_durable hs e, count_last is_marked hs e, count_last (is_in enlistment.preparing) hs e, count_last (is_in enlistment.told_abort) hs e, count_last is_done hs e, length_push hs e, add-one)

-- one more place, behind the first i
pub census_next : (p : ℕ) (es : List Enlistment) (i : ℕ) (d : Enlistment) → i < length es
    → census_held p (take (i + 1) es) ≡ cond (held_by p (get_or es i d)) (counted_of (get_or es i d) (census_held p (take i es))) (census_held p (take i es))
unfolding filter
census_next p es i d h = rw (take_more es i d h, filter_append (held_by p) (take i es) (get_or es i d ∷ []))
    (by_test (held_by p (get_or es i d)) (λ t. rw t (census_last (filter (held_by p) (take i es)) (get_or es i d))) (λ t. rw (t, append-nil)))

below : (n : ℕ) (hs : List Enlistment) → length hs < n → Below n (census_of hs)
unfolding census_of
below n hs h = record {
  held = h;
  phase_zero = omega (arith, count_most is_phase_zero hs);
  durable = omega (arith, count_most is_durable hs);
  marked = omega (arith, count_most is_marked hs);
  preparing = omega (arith, count_most (is_in enlistment.preparing) hs);
  told_abort = omega (arith, count_most (is_in enlistment.told_abort) hs);
  done = omega (arith, count_most is_done hs);
}

-- of fewer places than n there is room for one more
pub census_below : (p n : ℕ) (es : List Enlistment) (i : ℕ) → i < n → Below n (census_held p (take i es))
census_below p n es i h = below n (filter (held_by p) (take i es)) (omega (arith, length_filter (held_by p) (take i es), length-take i es))
