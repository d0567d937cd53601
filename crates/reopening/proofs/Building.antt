-- The table of the open records: their transactions and entries are stored one by one, and what is left to store gives the whole.
use Prim.Native.Nat.{ℕ, zero, suc, ◌+◌, ◌-◌, ◌*◌, ◌≤◌, ◌<◌}
use native.Mathlib.Omega.{arith}
use native.Mathlib.Numerals.{add-one}
use mathlib.Core.Path.{◌≡◌, refl, sym, ◌∙◌}
use mathlib.Core.List.{List, [], ◌∷◌, ◌++◌, map}
use lib.ListN.{length, drop, set, replicate, length-map, length-replicate}
use lib.Seq.{sets, sets-eq}
use Rattle.lists.proofs.Loops.{Ahead, ahead_next, ahead_done}
use Rattle.lists.proofs.Stores.{sets_append}
use Rattle.rules.specs.declared.Transaction.{Transaction}
use Rattle.rules.specs.declared.Enlistment.{Enlistment}
use Rattle.rules.specs.declared.Table.{Table}
use Rattle.rules.specs.Sizes.{transaction_places, enlistment_places}
use Rattle.rules.specs.Table.{no_transaction, no_enlistment, with_transactions, with_enlistments}
use Rattle.rules.specs.Log.{Entry}
use Rattle.rules.specs.Restart.{Open, entries_open, reopened, reenlistment, reenlistments, table_of}
use Rattle.rules.proofs.Restarts.{reenlistments_long}
use Rattle.places.specs.Empty.{empty_table}
use Rattle.reopening.specs.Reopened.{transactions_put, entries_put, enlistments_put}

-- ── rows of stores ──────────────────────────────────────────────────────────────────────────────────────────────

drop_replicate : {A : Type 0} (k n : ℕ) (x : A) → drop k (replicate n x) ≡ replicate (n - k) x
drop_replicate zero n x = let e : n - 0 ≡ n = omega arith in rw e
drop_replicate (suc k) zero x = let e : 0 - suc k ≡ 0 = omega arith in rw e
drop_replicate (suc k) (suc n) x = let e : suc n - suc k ≡ n - k = omega arith in rw e (drop_replicate k n x)

-- stored from the first place of an empty row
in_front : {A : Type 0} (n : ℕ) (x : A) (l : List A) → length l ≤ n → sets (replicate n x) 0 l ≡ l ++ replicate (n - length l) x
in_front n x l h =
    let e : 0 + length l ≡ length l = omega arith in
    rw (sets-eq l (replicate n x) 0 (rw (length-replicate n x, e) h), e, drop_replicate (length l) n x)

-- ── the transactions ────────────────────────────────────────────────────────────────────────────────────────────

pub record Naming (os : List Open) (t u : Table) (i : ℕ) : Type 0 where
  pub ahead : Ahead (λ os. with_transactions (sets u.transactions i (map reopened os)) u) os (transactions_put os t) i

module _ {os : List Open} {t : Table} where
  pub naming_start : Naming os t t 0
  unfolding transactions_put
  naming_start = record { ahead = record { same = refl } }

  pub naming_again : {u : Table} {i : ℕ} {o : Open} {x : Transaction} → Naming os t u i → drop i os ≡ o ∷ drop (i + 1) os → x ≡ reopened o
      → Naming os t (with_transactions (set u.transactions i x) u) (i + 1)
  naming_again {u} {i} p n e = record { ahead = ahead_next p.ahead n (rw (e, add-one i)) }

  pub naming_done : {u : Table} {i : ℕ} → Naming os t u i → drop i os ≡ [] → u ≡ transactions_put os t
  naming_done p n = ahead_done p.ahead n refl

-- ── the entries of one record ───────────────────────────────────────────────────────────────────────────────────

pub record Entering (p : ℕ) (es : List Entry) (k : ℕ) (t u : Table) (j : ℕ) : Type 0 where
  pub ahead : Ahead (λ es. with_enlistments (sets u.enlistments (k + j) (map (reenlistment p) es)) u) es (entries_put p es k t) j

module _ {p : ℕ} {es : List Entry} {k : ℕ} {t : Table} where
  pub entering_start : Entering p es k t t 0
  unfolding entries_put
  entering_start = record { ahead = record { same = let e : k + 0 ≡ k = omega arith in rw e } }

  pub entering_again : {u v : Table} {j : ℕ} {x : Entry} {e : Enlistment} → Entering p es k t u j → drop j es ≡ x ∷ drop (j + 1) es → e ≡ reenlistment p x
      → v ≡ with_enlistments (set u.enlistments (k + j) e) u → Entering p es k t v (j + 1)
  entering_again {u} {v} {j} r n e q =
      let s : suc (k + j) ≡ k + (j + 1) = omega arith in
      record { ahead = ahead_next r.ahead n (rw (q, e, ← s)) }

  pub entering_done : {u : Table} {j : ℕ} → Entering p es k t u j → drop j es ≡ [] → u ≡ entries_put p es k t
  entering_done r n = ahead_done r.ahead n refl

-- ── the entries of all ──────────────────────────────────────────────────────────────────────────────────────────

pub record Enlisting (os : List Open) (t u : Table) (k i : ℕ) : Type 0 where
  pub within : i ≤ transaction_places
  pub few : k ≤ 255 * i
  pub ahead : Ahead (λ os. with_enlistments (sets u.enlistments k (reenlistments (i + 1) os)) u) os (enlistments_put os t) i

module _ {os : List Open} {t : Table} where
  pub enlisting_start : Enlisting os t t 0 0
  unfolding enlistments_put
  enlisting_start = record { within = omega arith; few = omega arith; ahead = record { same = refl } }

  pub enlisting_again : {u v : Table} {k i m : ℕ} {o : Open} → Enlisting os t u k i → i < transaction_places → drop i os ≡ o ∷ drop (i + 1) os → v ≡ entries_put (i + 1) o.entries k u
      → m ≡ length o.entries → m ≤ 255 → Enlisting os t v (k + m) (i + 1)
  unfolding reenlistments entries_put
  enlisting_again {u} {v} {k} {i} {m} {o} p h n q e few =
      let l : length (map (reenlistment (i + 1)) o.entries) ≡ m = length-map o.entries (reenlistment (i + 1)) ∙ sym e in
      record {
        within = omega arith;
        few = omega (arith, p.few);
        ahead = ahead_next p.ahead n (rw (q, add-one (i + 1), sets_append u.enlistments k (map (reenlistment (i + 1)) o.entries) (reenlistments (suc (i + 1)) (drop (i + 1) os)), l));
      }

  pub enlisting_done : {u : Table} {k i : ℕ} → Enlisting os t u k i → drop i os ≡ [] → u ≡ enlistments_put os t
  unfolding reenlistments
  enlisting_done p n = ahead_done p.ahead n refl

-- ── the whole table ─────────────────────────────────────────────────────────────────────────────────────────────

pub table_is : (capacity used : ℕ) (os : List Open) → length os ≤ transaction_places → length (entries_open os) ≤ enlistment_places
    → enlistments_put os (transactions_put os (empty_table capacity used)) ≡ table_of capacity used os
unfolding enlistments_put transactions_put table_of
table_is capacity used os h k =
    let a : sets (replicate transaction_places no_transaction) 0 (map reopened os) ≡ map reopened os ++ replicate (transaction_places - length os) no_transaction =
    rw (in_front transaction_places no_transaction (map reopened os) (rw (length-map os reopened) h), length-map os reopened) in
    let b : sets (replicate enlistment_places no_enlistment) 0 (reenlistments 1 os) ≡ reenlistments 1 os ++ replicate (enlistment_places - length (reenlistments 1 os)) no_enlistment =
    in_front enlistment_places no_enlistment (reenlistments 1 os) (rw (reenlistments_long 1 os) k) in
    rw (a, b)
