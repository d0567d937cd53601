-- The first two checks stand before the event's own: what they refuse is refused, and of a sound table and a log of its capacity they don't apply, so that only its own refuse it.
use Prim.Native.Nat.{ℕ}
use mathlib.Core.Path.{◌≡◌, refl, sym, ◌∙◌, ap}
use mathlib.Core.Bool.{Bool, true, false}
use mathlib.Core.List.{map}
use lib.ListN.{get_or}
use borrow.Author.Tests.{eqb-true, eq-eqb, ne_eqb, not-false}
use Rattle.lists.specs.Lists.{all}
use Rattle.rules.specs.declared.Table.{Table}
use Rattle.rules.specs.declared.Event.{Event}
use Rattle.rules.specs.declared.Act.{Act}
use Rattle.rules.specs.RefusalNumber as refusal
use Rattle.rules.specs.Sound.{sound_of}
use Rattle.rules.specs.Refusals.{first_of, checks_of, refusal_of}
use Rattle.rules.specs.Checks as checks
use Rattle.rules.specs.Checks.{own_checks}
use Rattle.rules.proofs.Checks.{passes_at, refused_before, refusal_checks}

module _ (tb : Table) (n : ℕ) {sound : Bool} {why : ℕ} (told : sound ≡ sound_of tb) (q : why ≡ first_of (checks.first sound n tb.capacity)) where
  is_first : why ≡ first_of (checks.first (sound_of tb) n tb.capacity)
  is_first = q ∙ ap (λ b. first_of (checks.first b n tb.capacity)) told

  pub first_refuses : (e : Event) → (why ≡ refusal.accepted → ⊥) → why ≡ refusal_of tb e n
  unfolding refusal_of checks_of
  first_refuses e z = is_first ∙ sym (refused_before (checks.first (sound_of tb) n tb.capacity) _ (ne_eqb _ refusal.accepted (λ t. z (is_first ∙ t))))

  pub first_passes : why ≡ refusal.accepted → (sound_of tb ≡ true) × (n ≡ tb.capacity)
  unfolding all
  first_passes z = (not-false _ (passes 0), eqb-true n tb.capacity (not-false _ (passes 1)))
    where
      passes : (i : ℕ) → get_or (map (λ c. c.applies) (checks.first (sound_of tb) n tb.capacity)) i false ≡ false
      passes i = passes_at _ i refl (sym is_first ∙ z)

pub event_refusal : (tb : Table) (e : Event) (n : ℕ) → sound_of tb ≡ true → n ≡ tb.capacity → (a : Act) → e.act ≡ a → refusal_of tb e n ≡ first_of (own_checks a e.tx.0 e.rm.0 tb)
unfolding first_of
event_refusal tb e n sound long a q = refusal_checks tb e n a q ∙ rw (sound, eq-eqb n tb.capacity long)
