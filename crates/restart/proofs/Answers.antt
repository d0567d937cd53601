-- Each test of the code decides one test of the definition, so that the answer that they lead to is the definition's.
use Prim.Native.Nat.{ℕ, ◌+◌, ◌*◌, ◌≤◌, ◌<◌}
use native.Mathlib.Omega.{arith}
use mathlib.Core.Path.{◌≡◌, sym, ◌∙◌, ap}
use mathlib.Core.Bool.{true, false}
use mathlib.Core.List.{List, [], ◌++◌}
use lib.Dec.{ltb}
use lib.ListN.{length, take, drop}
use lib.Seq.{take-take, sets-eq}
use borrow.Author.Tests.{lt-ltb, le-ltb}
use Rattle.lists.proofs.Tests.{by_test}
use Rattle.rules.specs.declared.Table.{Table}
use Rattle.std.specs.Prelude.{Ok, Err}
use Rattle.rules.specs.declared.Refusal.{Refusal}
use Rattle.rules.specs.declared.Refusal.TheVariants.{DamagedLog}
use Rattle.rules.specs.RefusalNumber as refusal
use Rattle.rules.specs.Sizes.{header_size}
use Rattle.rules.specs.Identifiers.{same_bytes}
use Rattle.rules.specs.Table.{fresh_of}
use Rattle.rules.specs.Log.{header, forget_size, scan, written}
use Rattle.rules.specs.Restart.{open_after, table_of, refused_restart, done_restart, used_of, is_damaged, is_too_short, body_of, read_back, is_outside, restart_of, restarted_of}
use Rattle.rules.proofs.Restarts.{inside, read_is}
use Rattle.log_reader.specs.Reading.{bytes_at}
use Rattle.log_reader.proofs.Scanning.{bytes_are}
use Rattle.open_records.specs.Opening.{starts_of, opens_of, none_open}
use Rattle.open_records.proofs.Rows.{opens_long}
use Rattle.read_records.specs.declared.Readings.{Readings}
use Rattle.read_records.specs.Readback.{open_from, Read}
use Rattle.places.specs.Empty.{empty_table}
use Rattle.reopening.specs.Reopened.{transactions_put, enlistments_put}
use Rattle.reopening.proofs.Building.{table_is}
use Rattle.restart.specs.Answers.{refused_as, done_with}

-- ── behind the header ───────────────────────────────────────────────────────────────────────────────────────────

module _ {log : List ℕ} {stored : ℕ} where
  pub answer_damaged : {why : Refusal} → Read log stored (Err why) → refused_as (refusal.refusal_number why) ≡ restarted_of (read_back (body_of log stored) log)
  unfolding read_back
  answer_damaged {why} read = by_test (is_damaged (body_of log stored))
      (λ t. let e : Err why ≡ Err DamagedLog = rw t at read.gives in let w : why ≡ DamagedLog = cc in rw (t, w))
      (λ t. let e : Err why ≡ Ok (record { used = used_of (body_of log stored); records = open_from log stored none_open header_size (scan 0 (body_of log stored)) }) = rw t at read.gives in absurd (cc))

module _ {log : List ℕ} {stored : ℕ} {r : Readings} (read : Read log stored (Ok r)) where
  whole_log : (is_damaged (body_of log stored) ≡ false) × (r.used ≡ used_of (body_of log stored))
  whole_log = by_test (is_damaged (body_of log stored))
      (λ t. let e : Ok r ≡ Err DamagedLog = rw t at read.gives in absurd (cc))
      (λ t.
      let e : Ok r ≡ Ok (record { used = used_of (body_of log stored); records = open_from log stored none_open header_size (scan 0 (body_of log stored)) }) = rw t at read.gives in
      let w : r ≡ record { used = used_of (body_of log stored); records = open_from log stored none_open header_size (scan 0 (body_of log stored)) } = cc in
      (t, ap (λ (x : Readings). x.used) w))

  module _ {n : ℕ} (owed : n ≡ length (starts_of r.records)) where
    counted : r.used + forget_size * n ≡ used_of (body_of log stored) + forget_size * length (open_after [] (scan 0 (body_of log stored)))
    counted =
        let m : n ≡ length (open_after [] (scan 0 (body_of log stored))) = owed ∙ sym (opens_long log r.records) ∙ ap length read.else.opens in
        rw (← m, ← whole_log.1)

    pub answer_short : ltb (length log) (r.used + forget_size * n) ≡ true → refused_as refusal.log_too_short ≡ restarted_of (read_back (body_of log stored) log)
    unfolding read_back
    answer_short s = rw (whole_log.0, sym (ap (ltb (length log)) counted) ∙ s)

    pub answer_done : {y : Table} → ltb (length log) (r.used + forget_size * n) ≡ false
        → y ≡ enlistments_put (opens_of log r.records) (transactions_put (opens_of log r.records) (empty_table (length log) r.used))
        → done_with y ≡ restarted_of (read_back (body_of log stored) log)
    unfolding read_back
    answer_done {y} s f =
        let u = read.else in
        let w : y ≡ table_of (length log) (used_of (body_of log stored)) (open_after [] (scan 0 (body_of log stored))) =
        rw (← whole_log.1, ← u.opens) (f ∙ table_is (length log) r.used (opens_of log r.records) u.few u.few_entries) in
        rw (whole_log.0, sym (ap (ltb (length log)) counted) ∙ s, ← w)

pub read_leaves : (body log : List ℕ) → (read_back body log).log ≡ log
unfolding read_back
read_leaves body log = by_test (is_damaged body) (λ t. rw t) (λ t. by_test (is_too_short body (length log)) (λ u. rw (t, u)) (λ u. rw (t, u)))

-- ── the whole ───────────────────────────────────────────────────────────────────────────────────────────────────

bytes_front : (log : List ℕ) (n : ℕ) → n ≤ length log → bytes_at log 0 n ≡ take n log
bytes_front log n h = sym (bytes_are log n h n 0 (omega arith)) ∙ take-take n n log (omega arith)

module _ (log : List ℕ) (stored : ℕ) where
  pub outside_is : is_outside log stored ≡ true → restart_of log stored ≡ refused_restart refusal.damaged_log log
  unfolding restart_of
  outside_is e = rw e

  module _ (e : is_outside log stored ≡ false) where
    module _ (h : stored < header_size) where
      begun : same_bytes (take stored log) (take stored header) ≡ same_bytes (bytes_at log 0 stored) (bytes_at header 0 stored)
      begun = rw (bytes_front log stored (inside log stored e).below, bytes_front header stored (omega arith))

      pub begun_is : same_bytes (bytes_at log 0 stored) (bytes_at header 0 stored) ≡ true → restart_of log stored ≡ done_restart (fresh_of (length log)) (header ++ drop header_size log)
      unfolding restart_of
      begun_is b = rw (e, lt-ltb stored header_size h, begun ∙ b)

      pub not_begun_is : same_bytes (bytes_at log 0 stored) (bytes_at header 0 stored) ≡ false → restart_of log stored ≡ refused_restart refusal.damaged_log log
      unfolding restart_of
      not_begun_is b = rw (e, lt-ltb stored header_size h, begun ∙ b)

    module _ (h : header_size ≤ stored) where
      headed : same_bytes (take header_size log) header ≡ same_bytes (bytes_at log 0 header_size) (bytes_at header 0 header_size)
      headed = rw (bytes_front log header_size (inside log stored e).least, bytes_front header header_size (omega arith))

      pub headed_is : same_bytes (bytes_at log 0 header_size) (bytes_at header 0 header_size) ≡ true → restart_of log stored ≡ read_back (body_of log stored) log
      headed_is b = read_is log stored e h (headed ∙ b)

      pub not_headed_is : same_bytes (bytes_at log 0 header_size) (bytes_at header 0 header_size) ≡ false → restart_of log stored ≡ refused_restart refusal.damaged_log log
      unfolding restart_of
      not_headed_is b = rw (e, le-ltb stored header_size h, headed ∙ b)

pub header_written : (log : List ℕ) → header_size ≤ length log → written 0 header log ≡ header ++ drop header_size log
unfolding written
header_written log h = sets-eq header log 0 h
