-- A restart of what a restart accepted gives the same again: the bytes that it says are used hold the same records, and nothing behind them.
-- And bytes of a last record that are stored in part tell nothing: reading stops before them.
use Prim.Native.Nat.{ℕ, zero, suc, ◌+◌, ◌-◌, ◌≤◌, ◌<◌}
use native.Mathlib.Omega.{arith}
use mathlib.Core.Path.{◌≡◌, refl, sym, ◌∙◌, ap}
use mathlib.Core.Bool.{Bool, true, false, not, ◌||◌}
use mathlib.Core.List.{List, [], ◌∷◌, ◌++◌, map, append_assoc}
use lib.Dec.{ltb, leb}
use lib.ListN.{length, take, drop, length-append, length-map, length-drop, take-append-drop}
use lib.Seq.{length-take-le, take-nil, take-take, take-append-le, take-append-add}
use borrow.Author.Tests.{ltb-true, ltb-false, leb-true, le-ltb, le-leb, lt-ltb, not-false}
use Rattle.lists.specs.Lists.{filter}
use Rattle.lists.specs.Members.{Each}
use Rattle.lists.proofs.Tests.{by_test, true_and, and_true, false_or}
use Rattle.rules.specs.Sizes.{header_size, least_capacity, largest_capacity}
use Rattle.rules.specs.RefusalNumber as refusal
use Rattle.rules.specs.Identifiers.{same_bytes}
use Rattle.rules.specs.Table.{fresh_of}
use Rattle.rules.specs.Log.{Record, header, record_bytes, all_bytes, size_of, is_whole, scan, behind, begins_none}
use Rattle.rules.specs.Restart.{Open, entries_open, open_after, all_fitting, table_of, reenlistment, reenlistments, refused_restart, done_restart, used_of, is_damaged, is_too_short, body_of, read_back, is_outside, restart_of}
use Rattle.rules.proofs.Records.{Valid, Torn, torn_begins, scan_all, behind_all, scan_length, size_least}

-- ── the open ones and their entries ─────────────────────────────────────────────────────────────────────────────

pub entries_append : (os ps : List Open) → entries_open (os ++ ps) ≡ entries_open os ++ entries_open ps
unfolding entries_open
entries_append [] ps = refl
entries_append (o ∷ os) ps = rw (entries_append os ps) (sym (append_assoc o.entries (entries_open os) (entries_open ps)))

pub entries_fewer : (f : Open → Bool) (os : List Open) → length (entries_open (filter f os)) ≤ length (entries_open os)
unfolding entries_open filter
entries_fewer f [] = omega arith
entries_fewer f (o ∷ os) = by_test (f o)
    (λ t. rw (t, length-append o.entries (entries_open (filter f os)), length-append o.entries (entries_open os)) (omega (arith, entries_fewer f os)))
    (λ t. rw (t, length-append o.entries (entries_open os)) (omega (arith, entries_fewer f os)))

pub reenlistments_long : (p : ℕ) (os : List Open) → length (reenlistments p os) ≡ length (entries_open os)
unfolding reenlistments entries_open
reenlistments_long p [] = refl
reenlistments_long p (o ∷ os) =
    rw (length-append (map (reenlistment p) o.entries) (reenlistments (suc p) os), length-map o.entries (reenlistment p), reenlistments_long (suc p) os, length-append o.entries (entries_open os))

-- ── the used bytes hold the same records ────────────────────────────────────────────────────────────────────────

behind_short : (k : ℕ) (bs : List ℕ) → length (behind k bs) ≤ length bs
unfolding behind
behind_short k [] = omega arith
behind_short (suc k) (b ∷ bs) = omega (arith, behind_short k bs)
behind_short zero (b ∷ []) = omega arith
behind_short zero (b ∷ c ∷ bs) = by_test (is_whole b c bs)
    (λ t. rw t (omega (arith, behind_short (size_of b c - 2) bs)))
    (λ t. rw t (omega arith))

-- how many of the bytes the records take, with k that are passed over
abbrev used_in : ℕ → List ℕ → ℕ
used_in k bs = length bs - length (behind k bs)

-- these bytes say what all do
record Suffices (k : ℕ) (bs : List ℕ) : Type 0 where
  scanned : scan k (take (used_in k bs) bs) ≡ scan k bs
  nothing : behind k (take (used_in k bs) bs) ≡ []

suffices : (k : ℕ) (bs : List ℕ) → k ≤ length bs → Suffices k bs
unfolding scan behind
suffices k [] h = record { scanned = refl; nothing = refl }
suffices (suc k) (b ∷ bs) h =
    let i = suffices k bs (omega arith) in
    let n : suc (length bs) - length (behind k bs) ≡ suc (used_in k bs) = omega (arith, behind_short k bs) in
    record { scanned = rw n i.scanned; nothing = rw n i.nothing }
suffices zero (b ∷ []) h = record { scanned = refl; nothing = refl }
suffices zero (b ∷ c ∷ bs) h = by_test (is_whole b c bs) (λ t. whole t (suffices (size_of b c - 2) bs (fits t))) torn
  where
    n : ℕ
    n = size_of b c - 2

    m : ℕ
    m = used_in n bs

    fits : is_whole b c bs ≡ true → n ≤ length bs
    fits t = let (p, q) = true_and (ltb 0 (size_of b c)) (leb (size_of b c) (2 + length bs)) t in omega (arith, leb-true (size_of b c) (2 + length bs) q)

    whole : is_whole b c bs ≡ true → Suffices n bs → Suffices zero (b ∷ c ∷ bs)
    whole t i =
        let (p, q) = true_and (ltb 0 (size_of b c)) (leb (size_of b c) (2 + length bs)) t in
        let least : 2 ≤ size_of b c = size_least b c p in
        let long : n ≤ m = omega (arith, scan_length n bs (fits t)) in
        let e : suc (suc (length bs)) - length (behind n bs) ≡ suc (suc m) = omega (arith, behind_short n bs) in
        let w : is_whole b c (take m bs) ≡ true = and_true p (le-leb (size_of b c) (2 + length (take m bs)) (rw (length-take-le m bs (omega arith)) (omega arith))) in
        record {
          scanned = rw (t, e, w, take-take n m bs long, i.scanned);
          nothing = rw (t, e, w, i.nothing);
        }

    torn : is_whole b c bs ≡ false → Suffices zero (b ∷ c ∷ bs)
    torn t = let e : suc (suc (length bs)) - suc (suc (length bs)) ≡ 0 = omega arith in record { scanned = rw (t, e); nothing = rw (t, e) }

-- ── a restart of what a restart accepted ────────────────────────────────────────────────────────────────────────

-- what a log is read back to depends on its records, on where they end and on what is behind them
same_readings : (a b log : List ℕ) → scan 0 a ≡ scan 0 b → used_of a ≡ used_of b → begins_none (behind 0 a) ≡ begins_none (behind 0 b) → read_back a log ≡ read_back b log
unfolding read_back
same_readings a b log s u n = rw (s, u, n)

drop_take : {A : Type 0} (k m : ℕ) (l : List A) → drop k (take (k + m) l) ≡ take m (drop k l)
drop_take zero m l = let e : 0 + m ≡ m = omega arith in rw e
drop_take (suc k) m [] = let e : suc k + m ≡ suc (k + m) = omega arith in rw e (sym (take-nil m))
drop_take (suc k) m (x ∷ l) = let e : suc k + m ≡ suc (k + m) = omega arith in rw e (drop_take k m l)

pub record Inside (log : List ℕ) (stored : ℕ) : Type 0 where
  pub least : least_capacity ≤ length log
  pub most : length log ≤ largest_capacity
  pub below : stored ≤ length log

pub inside : (log : List ℕ) (stored : ℕ) → is_outside log stored ≡ false → Inside log stored
inside log stored e =
    let p = false_or (ltb (length log) least_capacity || ltb largest_capacity (length log)) (ltb (length log) stored) e in
    let q = false_or (ltb (length log) least_capacity) (ltb largest_capacity (length log)) p.0 in
    record { least = ltb-false _ _ q.0; most = ltb-false _ _ q.1; below = ltb-false _ _ p.1 }

pub not_outside : (log : List ℕ) (stored : ℕ) → Inside log stored → is_outside log stored ≡ false
not_outside log stored i =
    rw (le-ltb (length log) least_capacity i.least, le-ltb largest_capacity (length log) i.most, le-ltb (length log) stored i.below)

-- of less than a header, which begins it
pub fresh_is : (log : List ℕ) (stored : ℕ) → is_outside log stored ≡ false → stored < header_size → same_bytes (take stored log) (take stored header) ≡ true
    → restart_of log stored ≡ done_restart (fresh_of (length log)) (header ++ drop header_size log)
unfolding restart_of
fresh_is log stored o h s = rw (o, lt-ltb stored header_size h, s)

pub read_is : (log : List ℕ) (stored : ℕ) → is_outside log stored ≡ false → header_size ≤ stored → same_bytes (take header_size log) header ≡ true → restart_of log stored ≡ read_back (body_of log stored) log
unfolding restart_of
read_is log stored o h s = rw (o, le-ltb stored header_size h, s)

-- the two ways to be accepted
pub data Accepted (log : List ℕ) (stored : ℕ) : Type 0 where
  fresh : Inside log stored → stored < header_size → restart_of log stored ≡ done_restart (fresh_of (length log)) (header ++ drop header_size log) → Accepted log stored
  read : Inside log stored → header_size ≤ stored → same_bytes (take header_size log) header ≡ true → is_damaged (body_of log stored) ≡ false
      → is_too_short (body_of log stored) (length log) ≡ false
      → restart_of log stored ≡ done_restart (table_of (length log) (used_of (body_of log stored)) (open_after [] (scan 0 (body_of log stored)))) log → Accepted log stored

pub accepted : (log : List ℕ) (stored : ℕ) → (restart_of log stored).refusal ≡ refusal.accepted → Accepted log stored
unfolding restart_of read_back
accepted log stored e = by_test (is_outside log stored)
    (λ o. absurd (omega (arith, rw o at e)))
    (λ o. by_test (ltb stored header_size)
    (λ h. by_test (same_bytes (take stored log) (take stored header))
    (λ s. fresh (inside log stored o) (ltb-true _ _ h) (fresh_is log stored o (ltb-true _ _ h) s))
    (λ s. absurd (omega (arith, rw (o, h, s) at e))))
    (λ h. by_test (same_bytes (take header_size log) header)
    (λ s. by_test (is_damaged (body_of log stored))
    (λ d. absurd (omega (arith, rw (o, h, s, d) at e)))
    (λ d. by_test (is_too_short (body_of log stored) (length log))
    (λ t. absurd (omega (arith, rw (o, h, s, d, t) at e)))
    (λ t. read (inside log stored o) (ltb-false _ _ h) s d t (rw (o, h, s, d, t)))))
    (λ s. absurd (omega (arith, rw (o, h, s) at e)))))

-- whose records fit
pub undamaged : (body : List ℕ) → is_damaged body ≡ false → all_fitting [] (scan 0 body) ≡ true
undamaged body d = not-false (all_fitting [] (scan 0 body)) (false_or (begins_none (behind 0 body)) (not (all_fitting [] (scan 0 body))) d).1

fresh_again : (log : List ℕ) → least_capacity ≤ length log → length log ≤ largest_capacity
    → restart_of (header ++ drop header_size log) header_size ≡ done_restart (fresh_of (length log)) (header ++ drop header_size log)
unfolding restart_of same_bytes read_back scan behind begins_none all_fitting open_after table_of reenlistments
fresh_again log low high =
    let n : length (header ++ drop header_size log) ≡ length log = omega (arith, length-append header (drop header_size log), length-drop header_size log) in
    let o : is_outside (header ++ drop header_size log) header_size ≡ false = not_outside (header ++ drop header_size log) header_size (record { least = omega arith; most = omega arith; below = omega arith }) in
    let s : ltb (length (header ++ drop header_size log)) header_size ≡ false = le-ltb (length (header ++ drop header_size log)) header_size (omega arith) in
    rw (o, s, n)

-- "restart of what restart accepted gives the same table again": with the used bytes as stored
pub again : (log : List ℕ) (stored : ℕ) → (restart_of log stored).refusal ≡ refusal.accepted
    → restart_of (restart_of log stored).log (restart_of log stored).table.used ≡ restart_of log stored
unfolding table_of begins_none
again log stored e = go (accepted log stored e)
  where
    go : Accepted log stored → restart_of (restart_of log stored).log (restart_of log stored).table.used ≡ restart_of log stored
    go (fresh i h r) = rw r (fresh_again log i.least i.most)
    go (read i h s d t r) =
        let body : List ℕ = body_of log stored in
        let m : ℕ = used_in 0 body in
        let k = suffices 0 body (omega arith) in
        let n : length body ≡ stored - header_size = rw (length-drop header_size (take stored log), length-take-le stored log i.below) in
        let b : body_of log (header_size + m) ≡ take m body =
        drop_take header_size m log ∙ sym (sym (drop_take header_size m (take stored log)) ∙ ap (drop header_size) (take-take (header_size + m) stored log (omega arith)) ∙ drop_take header_size m log) in
        let same : read_back (take m body) log ≡ read_back body log =
        same_readings (take m body) body log k.scanned
        (rw k.nothing (omega (arith, length-take-le m body (omega arith))))
        (rw k.nothing (sym (false_or (begins_none (behind 0 body)) (not (all_fitting [] (scan 0 body))) d).0)) in
        rw r (read_is log (header_size + m) (not_outside log (header_size + m) (record { least = i.least; most = i.most; below = omega arith })) (omega arith) s ∙ ap (λ (x : List ℕ). read_back x log) b ∙ same
        ∙ sym (read_is log stored (not_outside log stored i) h s) ∙ r)

-- ── bytes of a last record, stored in part ──────────────────────────────────────────────────────────────────────

module _ (rs : List Record) (r : Record) (vs : Each Valid rs) (v : Valid r) (spare : List ℕ) where
  abbrev before : List ℕ
  before = header ++ all_bytes rs

  abbrev log : List ℕ
  log = before ++ (record_bytes r ++ spare)

  torn : (j : ℕ) → j < length (record_bytes r) → Torn (take j (record_bytes r))
  torn j h = record {
    whole = r;
    valid = v;
    rest = drop j (record_bytes r);
    begins = take-append-drop j (record_bytes r);
    missing = rw (length-drop j (record_bytes r)) (omega arith);
  }

  part : (j : ℕ) → j < length (record_bytes r) → body_of log (length before + j) ≡ all_bytes rs ++ take j (record_bytes r)
  part j h = rw (take-append-add before (record_bytes r ++ spare) j, take-append-le j (record_bytes r) spare (omega arith))

  same_body : (j : ℕ) → j < length (record_bytes r) → read_back (all_bytes rs ++ take j (record_bytes r)) log ≡ read_back (all_bytes rs ++ []) log
  same_body j h = same_readings (all_bytes rs ++ take j (record_bytes r)) (all_bytes rs ++ []) log
      (scan_all rs vs (torn j h) ∙ sym (scan_all rs vs (torn 0 (omega arith))))
      (rw (behind_all rs vs (torn j h), behind_all rs vs (torn 0 (omega arith))) (omega (arith, length-append (all_bytes rs) (take j (record_bytes r)), length-append (all_bytes rs) [])))
      (rw (behind_all rs vs (torn j h), behind_all rs vs (torn 0 (omega arith))) (torn_begins (torn j h) ∙ sym (torn_begins (torn 0 (omega arith)))))

  outside_same : (j : ℕ) → j < length (record_bytes r) → is_outside log (length before + j) ≡ is_outside log (length before + 0)
  outside_same j h =
      let n : length log ≡ length before + (length (record_bytes r) + length spare) = rw (length-append before (record_bytes r ++ spare), length-append (record_bytes r) spare) in
      rw (le-ltb (length log) (length before + j) (omega arith), le-ltb (length log) (length before + 0) (omega arith))

  headed : same_bytes (take header_size log) header ≡ true
  unfolding same_bytes
  headed = refl

  refused : (s : ℕ) → is_outside log s ≡ true → restart_of log s ≡ refused_restart refusal.damaged_log log
  unfolding restart_of
  refused s o = rw o

  reads : (j : ℕ) → j < length (record_bytes r) → is_outside log (length before + j) ≡ false → restart_of log (length before + j) ≡ read_back (all_bytes rs ++ take j (record_bytes r)) log
  reads j h o = read_is log (length before + j) o (omega arith) headed ∙ ap (λ (x : List ℕ). read_back x log) (part j h)

  -- "restarting after any cut of the last appended bytes gives the table without them"
  pub cut_last : (j : ℕ) → j < length (record_bytes r) → restart_of log (length before + j) ≡ restart_of log (length before + 0)
  cut_last j h = by_test (is_outside log (length before + 0))
      (λ o. refused (length before + j) (outside_same j h ∙ o) ∙ sym (refused (length before + 0) o))
      (λ o. reads j h (outside_same j h ∙ o) ∙ same_body j h ∙ sym (reads 0 (omega arith) o))
