-- A loop along an array that puts f(x) for each x: behind each turn stands what f makes of those passed, and then the others as they were.
use Prim.Native.Nat.{ℕ, ◌<◌, ◌+◌}
use native.Mathlib.Omega.{arith}
use mathlib.Core.Path.{◌≡◌, ap, ◌∙◌}
use mathlib.Core.Bool.{true, false}
use mathlib.Core.List.{List, ◌++◌, map}
use lib.ListN.{length, get_or, set, take, drop, length-append, length-map, length-take, length-drop}
use Rattle.std.proofs.lemmas.List.{get_or_default}
use Rattle.std.proofs.lemmas.List.Edits.{map_over_more}
use Rattle.rules.specs.declared.Enlistment.{Enlistment}
use Rattle.rules.specs.Table.{held_by, on_held}

module _ {A : Type 0} (f : A → A) (es : List A) {us : List A} {n i : ℕ} (long : length es ≡ n) (l : i < n) (q : us ≡ map f (take i es) ++ drop i es) (d : A) where
  there : i < length us
  there = rw (q, length-append, length-map, length-take, length-drop) (omega (arith, long, l))

  pub put_next : {y : A} → y ≡ f (get_or us i d) → set us i y ≡ map f (take (i + 1) es) ++ drop (i + 1) es
  put_next e = ap (set us i) e ∙ map_over_more f es us i (get_or us i d) (omega (arith, long, l)) q (get_or_default us i d (get_or us i d) there)

-- what is put for one that is held, and for another
module _ (p : ℕ) (f : Enlistment → Enlistment) {e : Enlistment} where
  pub held_changes : {y : Enlistment} → held_by p e ≡ true → y ≡ f e → y ≡ on_held p f e
  held_changes h q = rw h q

  pub other_stays : held_by p e ≡ false → e ≡ on_held p f e
  other_stays h = rw h
