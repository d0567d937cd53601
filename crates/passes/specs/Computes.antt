-- What a function that takes a closure knows of its results.
use Rattle.std.specs.Prelude.{◌≡◌}

-- each result that may be given at x is f(x)
abbrev pub Computes : {A B : Type 0} → (A → B → Type 0) → (A → B) → Type 0
Computes {A} {B} post f = (x : A) (r : B) → post x r → r ≡ f x
