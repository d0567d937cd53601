-- What is left alone equals what was given; and the change of a holding is, by `alone_held`, the change of its table, so that what follows of the one follows of the other.
use Prim.Native.Nat.{ℕ}
use mathlib.Core.Path.{◌≡◌, refl}
use mathlib.Core.Bool.{true, false}
use mathlib.Core.List.{List, []}
use borrow.Author.Tests.{ne_eqb}
use Rattle.std.proofs.Common.{◌⊎◌, inl, inr}
use Rattle.rules.specs.declared.Enlistment.{Enlistment}
use Rattle.rules.specs.declared.FollowUp.{FollowUp}
use Rattle.rules.specs.Table.{change_held}
use Rattle.rules.specs.Signals.{row_of}
use Rattle.rules.specs.Events.{is_over, quietly, follow}
use Rattle.holdings.specs.declared.Holding.{Holding}
use Rattle.holdings.specs.Holdings.{alone, with_held}
use Rattle.holdings.proofs.Laws.{alone_held}
use Rattle.endings.specs.declared.Accepted.{Accepted}
use Rattle.endings.specs.Gives.{Gives, Ready}

pub quiet_gives : (h : Holding) {r : Accepted} → r ≡ record { holding = h; signals = row_of [] } → (log : List ℕ) → Gives h.place (quietly (alone h) log) r log
quiet_gives h e log = rw e (record { table = refl; place = refl; signals = refl; log = refl })

module _ (f : Enlistment → Enlistment) (h : Holding) {u : Holding} (e : u ≡ with_held f h) where
  pub changed_ready : Ready h → Ready u
  changed_ready r = rw e r

  -- what follows then follows of the table as it was changed
  pub changed_follows : (w : FollowUp) (log : List ℕ) {r : Accepted} {out : List ℕ} → Gives u.place (follow w u.place (alone u) log) r out
      → Gives h.place (follow w h.place (change_held h.place f (alone h)) log) r out
  changed_follows w log g = rw (e, alone_held f h) at g

-- which states Ask finds over
module _ {s : ℕ} where
  pub over : (s ≡ 0) ⊎ (s ≡ 6) → is_over s ≡ true
  over (inl e) = rw e
  over (inr e) = rw e

  pub not_over : (s ≡ 0 → ⊥) → (s ≡ 6 → ⊥) → is_over s ≡ false
  not_over m n = rw (ne_eqb s 0 m, ne_eqb s 6 n)
