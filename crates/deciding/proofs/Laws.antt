-- The room for a commit, and its record: the row of the durable enlistments, as far as it is full, is their list.
use Prim.Native.Nat.{ℕ, ◌+◌, ◌≤◌}
use mathlib.Core.Path.{◌≡◌, sym, ap, ◌∙◌}
use mathlib.Core.Bool.{Bool}
use mathlib.Core.List.{List, map}
use lib.ListN.{length, take}
use Rattle.lists.specs.Lists.{filter}
use Rattle.lists.specs.Sorting.{sort_by}
use Rattle.rules.specs.declared.Enlistment.{Enlistment}
use Rattle.rules.specs.declared.Signals.{Signals}
use Rattle.rules.specs.Sizes.{signals_most}
use Rattle.rules.specs.TransactionState as transaction
use Rattle.rules.specs.Identifiers.{Id}
use Rattle.rules.specs.Table.{no_enlistment, id_at, held, is_durable}
use Rattle.rules.specs.Sound.{is_open, open_count}
use Rattle.rules.specs.Signals.{by_number, row_of}
use Rattle.rules.specs.Log.{Record, record_bytes, written}
use Rattle.rules.specs.Events.{saying, append, entry_of, commit_record, commit_signals, committed_of, committing}
use Rattle.passes.specs.Census.{more_of}
use Rattle.holdings.specs.declared.Holding.{Holding}
use Rattle.holdings.specs.Holdings.{alone, Placed, with_used, going}
use Rattle.holdings.proofs.Laws.{alone_used}
use Rattle.holdings.proofs.Alone.{alone_going, one_open}
use Rattle.insertion.specs.declared.Line.{Line}
use Rattle.signals.specs.Lines.{line_of}
use Rattle.insertion.proofs.Rows.{line_take}
use Rattle.endings.specs.Gives.{Gives}

-- it counts itself, if it is open
module _ (h : Holding) {so : Bool} {n : ℕ} (test : so ≡ is_open h.transaction.state (held h.place (alone h))) (more : n ≡ more_of so 0) where
  pub open_alone : Placed h.place → n ≡ open_count (alone h)
  open_alone i = more ∙ (ap (λ b. more_of b 0) test ∙ sym (one_open h i))

module _ (h : Holding) {told : Holding} (so : told ≡ going transaction.committing committed_of h) where
  told_alone : alone told ≡ committing h.place (alone h)
  told_alone = ap alone so ∙ alone_going transaction.committing committed_of h

  told_used : told.used ≡ (committing h.place (alone h)).used
  unfolding alone
  told_used = ap (λ t. t.used) told_alone

  pub commit_done : (log : List ℕ) {t : Id} {l : Line Enlistment signals_most} {u : Holding} {s : Signals} {out : List ℕ} (n : ℕ)
      → t ≡ id_at h.place (alone h) → l ≡ line_of (sort_by by_number (filter is_durable (held h.place (alone h)))) → l.count ≤ signals_most
      → out ≡ written told.used (record_bytes (Record.commit t (map entry_of (take l.count l.items)))) log
      → n ≡ length (record_bytes (Record.commit t (map entry_of (take l.count l.items)))) → u ≡ with_used (told.used + n) told
      → s ≡ row_of (commit_signals (held h.place (alone h)))
      → Gives h.place (saying (commit_signals (held h.place (alone h))) (append (commit_record (id_at h.place (alone h)) (held h.place (alone h))) (committing h.place (alone h)) log)) (record { holding = u; signals = s }) out
  unfolding append commit_record line_of
  commit_done log n at line few o size more say =
      let k = line_take no_enlistment (sort_by by_number (filter is_durable (held h.place (alone h)))) line few in
      record {
        table = ap alone more ∙ (alone_used n told ∙ rw (size, k, at, told_alone));
        place = ap (λ g. g.place) more ∙ ap (λ g. g.place) so;
        signals = say;
        log = o ∙ rw (k, at, told_used);
      }
