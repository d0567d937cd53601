-- Identifiers have 16 bytes, so that it is enough to ask that they are not zero.
use mathlib.Core.Path.{◌≡◌}
use mathlib.Core.Bool.{Bool, true, false, cond, not}
use lib.ListN.{length}
use borrow.Author.Tests.{eq-eqb}
use Rattle.lists.proofs.Tests.{same_test}
use Rattle.rules.specs.Sizes.{identifier_size}
use Rattle.rules.specs.Identifiers.{Id, zero_id, is_zero, same_bytes}
use Rattle.rules.specs.Sound.{is_identifier}
use Rattle.rules.proofs.Identifiers.{same_equal, equal_same, zero_equal, equal_zero}

pub zero_same : (t : Id) → length t ≡ identifier_size → is_zero t ≡ same_bytes t zero_id
zero_same t l = same_test (is_zero t) (same_bytes t zero_id) (λ e. equal_same t zero_id (zero_equal t l e)) (λ e. equal_zero t (same_equal t zero_id e))

pub identifier_is : (t : Id) → length t ≡ identifier_size → not (is_zero t) ≡ is_identifier t
identifier_is t l = rw (eq-eqb (length t) identifier_size l)

-- the one of two that a test chooses
pub chosen : {A : Type 0} (b : Bool) (x y : A) → b ≡ true → cond b x y ≡ x
chosen b x y e = rw e

pub other : {A : Type 0} (b : Bool) (x y : A) → b ≡ false → cond b x y ≡ y
other b x y e = rw e
