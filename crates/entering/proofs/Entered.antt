-- The place that is found is the lowest empty one, so that an entry put there is the one that the definition puts.
use Prim.Native.Nat.{ℕ}
use mathlib.Core.Path.{◌≡◌, sym, ◌∙◌, ap}
use mathlib.Core.List.{List, map}
use Rattle.lists.specs.Places.{place_of, change_at}
use Rattle.lists.proofs.Places.{put_is}
use Rattle.rules.specs.declared.Transaction.{Transaction}
use Rattle.rules.specs.declared.Enlistment.{Enlistment}
use Rattle.rules.specs.declared.Table.{Table}
use Rattle.rules.specs.declared.Kind.{Kind}
use Rattle.rules.specs.declared.Mark.{Mark}
use Rattle.rules.specs.TransactionState as transaction
use Rattle.rules.specs.Identifiers.{Id}
use Rattle.rules.specs.Table.{place_named, state_at, is_free, is_vacant}
use Rattle.rules.specs.Events.{begin_of, new_enlistment, enlist_of}
use Rattle.rows.specs.Memory.{transaction_in, enlistment_in, table_in}

module _ (heads rows : List (List ℕ)) (capacity used : ℕ) (id : Id) (log : List ℕ) where
  abbrev before : Table
  before = table_in heads rows capacity used

  pub begun_in : {xs : List Transaction} {free : ℕ} → free ≡ place_of is_free (map transaction_in heads)
      → xs ≡ change_at free (λ y. record { id = record { 0 = id }; state = transaction.active }) (map transaction_in heads)
      → record { transactions = xs; enlistments = map enlistment_in rows; capacity = capacity; used = used } ≡ (begin_of id before log).table
  unfolding begin_of
  begun_in q e = λ i. record {
    transactions = (e ∙ ap (λ p. change_at p (λ y. x) (map transaction_in heads)) q ∙ sym (put_is is_free x (map transaction_in heads))) i;
    enlistments = map enlistment_in rows;
    capacity = capacity;
    used = used;
  }
    where
      x : Transaction
      x = record { id = record { 0 = id }; state = transaction.active }

  pub enlisted_in : (n : ℕ) (rm : Id) (kind : Kind) (mark : Mark) {es : List Enlistment} {p s vacant : ℕ} {e : Enlistment} → p ≡ place_named id before → s ≡ state_at p before
      → e ≡ new_enlistment p s n rm kind mark → vacant ≡ place_of is_vacant (map enlistment_in rows)
      → es ≡ change_at vacant (λ y. e) (map enlistment_in rows)
      → record { transactions = map transaction_in heads; enlistments = es; capacity = capacity; used = used } ≡ (enlist_of (place_named id before) n rm kind mark before log).table
  unfolding enlist_of
  enlisted_in n rm kind mark {es} {p} {s} {vacant} {e} named state new q c = λ i. record {
    transactions = map transaction_in heads;
    enlistments = (c ∙ ap (λ k. change_at k (λ y. e) (map enlistment_in rows)) q ∙ ap (λ y. change_at (place_of is_vacant (map enlistment_in rows)) (λ z. y) (map enlistment_in rows)) is ∙ sym (put_is is_vacant _ (map enlistment_in rows))) i;
    capacity = capacity;
    used = used;
  }
    where
      is : e ≡ new_enlistment (place_named id before) (state_at (place_named id before) before) n rm kind mark
      is = new ∙ ap (λ t. new_enlistment p t n rm kind mark) state ∙ ap (λ k. new_enlistment k (state_at k before) n rm kind mark) named
