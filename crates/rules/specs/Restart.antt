-- Restart: from the lent log, whose length is the capacity, and the count of stored bytes to a table.
use Rattle.std.specs.Prelude.{ℕ, suc, ◌+◌, ◌*◌, ◌-◌, ◌≡◌, Bool, true, cond, not, ◌&&◌, ◌||◌, List, [], ◌∷◌, ◌++◌, map, eqb, ltb, leb, length, take, drop, replicate}
use Rattle.lists.specs.Lists.{any, none, filter, differ}
use Rattle.rules.specs.declared.Transaction.{Transaction}
use Rattle.rules.specs.declared.Enlistment.{Enlistment}
use Rattle.rules.specs.declared.Table.{Table}
use Rattle.rules.specs.declared.Restarted.{Restarted}
use Rattle.rules.specs.RefusalNumber as refusal
use Rattle.rules.specs.Kinds as kind
use Rattle.rules.specs.Marks as mark
use Rattle.rules.specs.TransactionState as transaction
use Rattle.rules.specs.EnlistmentState as enlistment
use Rattle.rules.specs.Sizes.{transaction_places, enlistment_places, header_size, least_capacity, largest_capacity}
use Rattle.rules.specs.Identifiers.{Id, is_zero, same_bytes}
use Rattle.rules.specs.Table.{no_transaction, no_enlistment, fresh_of, zero_table}
use Rattle.rules.specs.Log.{Entry, Record, header, forget_size, scan, behind, begins_none}

-- ── the open transactions ───────────────────────────────────────────────────────────────────────────────────────

-- A commit record whose forget record was not read.
pub record Open : Type 0 where
  pub id : Id
  pub entries : List Entry

abbrev pub is_open_as : Id → Open → Bool
is_open_as t o = same_bytes o.id t

-- "by order of commit records"
unfoldable pub after_record : List Open → Record → List Open
after_record os (Record.commit t es) = os ++ (record { id = t; entries = es } ∷ [])
after_record os (Record.forget t) = filter (λ o. not (is_open_as t o)) os

unfoldable pub open_after : List Open → List Record → List Open
open_after os [] = os
open_after os (r ∷ rs) = open_after (after_record os r) rs

unfoldable pub entries_open : List Open → List Entry
entries_open [] = []
entries_open (o ∷ os) = o.entries ++ entries_open os

-- ── "Also 11, judged at each whole record as it is read" ────────────────────────────────────────────────────────

-- "numbers not ascending", and the first is not zero
unfoldable pub ascend_from : ℕ → List Entry → Bool
ascend_from n [] = true
ascend_from n (e ∷ es) = ltb n e.number && ascend_from e.number es

abbrev pub same_entry_manager : Entry → Entry → Bool
same_entry_manager d e = same_bytes e.rm d.rm

-- with the transactions that are open before it
unfoldable pub is_fitting : List Open → Record → Bool
is_fitting os (Record.commit t es) =
    -- "a zero identifier or number"
    not (is_zero t) && none (λ e. is_zero e.rm) es
    -- "a commit of an open T"
    && none (is_open_as t) os
    -- "numbers not ascending"
    && ascend_from 0 es
    -- "a number held in another open record"
    && none (λ e. any (λ d. eqb d.number e.number) (entries_open os)) es
    -- "an RM twice in one record"
    && differ same_entry_manager es
    -- "more than 32 open transactions, more than 128 entries open"
    && leb (length os + 1) transaction_places && leb (length (entries_open os) + length es) enlistment_places
is_fitting os (Record.forget t) =
    -- "a zero identifier", "a forget of one not open"
    not (is_zero t) && any (is_open_as t) os

unfoldable pub all_fitting : List Open → List Record → Bool
all_fitting os [] = true
all_fitting os (r ∷ rs) = is_fitting os r && all_fitting (after_record os r) rs

-- ── the result ──────────────────────────────────────────────────────────────────────────────────────────────────

-- "each open T in Committing"
abbrev pub reopened : Open → Transaction
reopened o = record { id = record { 0 = o.id }; state = transaction.committing }

-- "each entry a D marked no in 8": of the transaction at place p
abbrev pub reenlistment : ℕ → Entry → Enlistment
reenlistment p e = record {
  holder = p;
  rm = record { 0 = e.rm };
  number = e.number;
  kind = kind.durable;
  mark = mark.unmarked;
  state = enlistment.failed_to_notify;
}

unfoldable pub reenlistments : ℕ → List Open → List Enlistment
reenlistments p [] = []
reenlistments p (o ∷ os) = map (reenlistment p) o.entries ++ reenlistments (suc p) os

unfoldable pub table_of : ℕ → ℕ → List Open → Table
table_of capacity used os = record {
  transactions = map reopened os ++ replicate (transaction_places - length os) no_transaction;
  enlistments = reenlistments 1 os ++ replicate (enlistment_places - length (reenlistments 1 os)) no_enlistment;
  capacity = capacity;
  used = used;
}

-- The answer of a restart, and the lent log as it leaves it.
pub record Restart : Type 0 where
  pub refusal : ℕ
  pub table : Table
  pub log : List ℕ

-- "Refused restart: an all-zero table, log untouched."
abbrev pub refused_restart : ℕ → List ℕ → Restart
refused_restart why log = record { refusal = why; table = zero_table; log = log }

-- "The host then trims the stored log to used": the used length of this table is where
abbrev pub done_restart : Table → List ℕ → Restart
done_restart tb log = record { refusal = refusal.accepted; table = tb; log = log }

-- the stored bytes behind the header: their whole records, and where these end
abbrev pub used_of : List ℕ → ℕ
used_of body = header_size + (length body - length (behind 0 body))

abbrev pub is_damaged : List ℕ → Bool
is_damaged body = begins_none (behind 0 body) || not (all_fitting [] (scan 0 body))

-- "If used + 18 × open exceeds capacity: 13."
abbrev pub is_too_short : List ℕ → ℕ → Bool
is_too_short body capacity = ltb capacity (used_of body + forget_size * length (open_after [] (scan 0 body)))

-- the stored bytes behind the header
abbrev pub body_of : List ℕ → ℕ → List ℕ
body_of log stored = drop header_size (take stored log)

unfoldable pub read_back : List ℕ → List ℕ → Restart
read_back body log =
    cond (is_damaged body) (refused_restart refusal.damaged_log log)
    (cond (is_too_short body (length log)) (refused_restart refusal.log_too_short log)
    (done_restart (table_of (length log) (used_of body) (open_after [] (scan 0 body))) log))

-- "capacity outside 8 to 65,536, or stored above capacity: 11"
abbrev pub is_outside : List ℕ → ℕ → Bool
is_outside log stored = ltb (length log) least_capacity || ltb largest_capacity (length log) || ltb (length log) stored

-- "Stored below 8: if the bytes begin the header (none does too), write the header, used 8; else 11. A wrong header: 11. Then records"
unfoldable pub restart_of : List ℕ → ℕ → Restart
restart_of log stored =
    cond (is_outside log stored) (refused_restart refusal.damaged_log log)
    (cond (ltb stored header_size)
    (cond (same_bytes (take stored log) (take stored header))
    (done_restart (fresh_of (length log)) (header ++ drop header_size log))
    (refused_restart refusal.damaged_log log))
    (cond (same_bytes (take header_size log) header)
    (read_back (body_of log stored) log)
    (refused_restart refusal.damaged_log log)))

-- the answer as the code gives it
abbrev pub restarted_of : Restart → Restarted
restarted_of r = record { refusal = r.refusal; table = r.table }

-- What `restart` promises: its answer, and the log as it leaves it.
abbrev pub IsRestart : List ℕ → ℕ → Restarted → List ℕ → Type 0
IsRestart log stored r after = (r ≡ restarted_of (restart_of log stored)) × (after ≡ (restart_of log stored).log)
