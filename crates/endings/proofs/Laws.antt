-- What the pieces of an ending make together: each is what the definition names, so that the whole is.
use Prim.Native.Nat.{ℕ, ◌+◌}
use mathlib.Core.Path.{◌≡◌, refl, sym, ap, ◌∙◌}
use mathlib.Core.Bool.{Bool, true, false}
use mathlib.Core.List.{List}
use lib.ListN.{length}
use Rattle.rules.specs.declared.Enlistment.{Enlistment}
use Rattle.rules.specs.declared.Signal.{Signal}
use Rattle.rules.specs.declared.Signals.{Signals}
use Rattle.rules.specs.declared.Transaction.{Transaction}
use Rattle.rules.specs.Table.{state_at, held, freed, ended, emptied, change_held, go_to}
use Rattle.rules.specs.Sound.{is_open}
use Rattle.rules.specs.Signals.{row_of}
use Rattle.rules.specs.Log.{Record, record_bytes, written}
use Rattle.rules.specs.Events.{quietly, saying, append, end_of, end_if_done}
use Rattle.holdings.specs.declared.Holding.{Holding}
use Rattle.holdings.specs.Holdings.{alone, Placed, with_held, with_transaction, with_used, going}
use Rattle.holdings.proofs.Laws.{alone_at, alone_used}
use Rattle.holdings.proofs.Alone.{alone_emptied, alone_going}
use Rattle.endings.specs.Gives.{Gives, Leaves, Ready}
use Rattle.rules.proofs.Parts.{open_end, closed_end}

module _ (h : Holding) (i : Placed h.place) (log : List ℕ) {after : Holding} {b : Bool} (test : b ≡ is_open h.transaction.state (held h.place (alone h))) (so : after ≡ with_transaction (ended h.transaction) (with_held freed h)) where
  opens : is_open (state_at h.place (alone h)) (held h.place (alone h)) ≡ b
  opens = ap (λ (x : Transaction). is_open x.state (held h.place (alone h))) (alone_at h i) ∙ sym test

  empty : alone after ≡ emptied h.place (alone h)
  empty = ap alone so ∙ alone_emptied h

  used : after.used ≡ (emptied h.place (alone h)).used
  unfolding alone
  used = ap (λ t. t.used) empty

  pub end_open : {r : Holding} {out : List ℕ} (n : ℕ) → b ≡ true → out ≡ written after.used (record_bytes (Record.forget h.transaction.id.0)) log
      → n ≡ length (record_bytes (Record.forget h.transaction.id.0)) → r ≡ with_used (after.used + n) after → Leaves h.place (end_of h.place (alone h) log) r out
  unfolding append
  end_open n t o size u = rw (open_end h.place (alone h) log (opens ∙ t) ∙ ap (λ (x : Transaction). append (Record.forget x.id.0) (emptied h.place (alone h)) log) (alone_at h i)) (record {
    table = ap alone u ∙ (alone_used n after ∙ rw (size, empty));
    place = ap (λ g. g.place) u ∙ ap (λ g. g.place) so;
    log = o ∙ rw used;
  })

  pub end_quiet : b ≡ false → Leaves h.place (end_of h.place (alone h) log) after log
  end_quiet t = rw (closed_end h.place (alone h) log (opens ∙ t)) (record { table = empty; place = ap (λ g. g.place) so; log = refl })

-- going on keeps the place and the used length
module _ (s : ℕ) (f : Enlistment → Enlistment) (h : Holding) {g : Holding} (e : g ≡ going s f h) where
  pub going_ready : Ready h → Ready g
  going_ready r = rw e r

  pub going_leaves : (log : List ℕ) {out : List ℕ} {after : Holding} → Leaves g.place (end_if_done g.place (alone g) log) after out
      → Leaves h.place (end_if_done h.place (go_to h.place s (change_held h.place f (alone h))) log) after out
  going_leaves log l = rw (e, alone_going s f h) at l

  -- it says this, and no more
  pub going_gives : (ss : List Signal) {signals : Signals} → signals ≡ row_of ss → (log : List ℕ)
      → Gives h.place (saying ss (quietly (go_to h.place s (change_held h.place f (alone h))) log)) (record { holding = g; signals = signals }) log
  going_gives ss so log = record { table = ap alone e ∙ alone_going s f h; place = ap (λ g. g.place) e; signals = so; log = refl }
