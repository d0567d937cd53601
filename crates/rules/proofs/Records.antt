-- The records that are written are the records that are read: a record's first two bytes say how long it is, and its bytes say the rest.
use Prim.Native.Nat.{ℕ, zero, suc, ◌+◌, ◌*◌, ◌-◌, ◌≤◌, ◌<◌}
use native.Mathlib.Omega.{arith}
use mathlib.Core.Path.{◌≡◌, refl, sym, ◌∙◌, ap, ap₂}
use mathlib.Core.Logic.{◌⊎◌, inl, inr}
use mathlib.Core.Bool.{true, false, ◌&&◌, ◌||◌, false≢true}
use mathlib.Core.List.{List, [], ◌∷◌, ◌++◌, append_assoc, nil≢cons, head-eq_of_cons-eq, tail-eq_of_cons-eq}
use lib.Dec.{eqb, ltb, leb}
use lib.ListN.{length, take, drop, length-append, length-drop, take-append-drop}
use lib.Seq.{length-take-le, take_all, take-append-le, drop-append-le, take_at, drop_at}
use borrow.Author.Tests.{eqb-true, ltb-true, leb-true, leb-false, lt-ltb, le-leb, lt-leb, ne_eqb}
use Rattle.lists.specs.Members.{Each}
use Rattle.lists.proofs.Tests.{by_test, by_either, true_and, and_true, each_nothing, each_more, each_head, each_rest, each_take, each_drop}
use Rattle.rules.specs.Sizes.{identifier_size, entry_size, held_most, largest_number}
use Rattle.rules.specs.Identifiers.{zero_id}
use Rattle.rules.specs.Log.{Entry, Record, low4, number4, commit_tag, forget_tag, entry_bytes, entries_bytes, record_bytes, all_bytes, commit_size, forget_size, size_of, entries_of, record_of, is_whole, scan, behind, begins_none}
use Rattle.rules.proofs.Bytes.{number_of_low, number_small}

-- ── records that can be written ─────────────────────────────────────────────────────────────────────────────────

pub record ValidEntry (e : Entry) : Type 0 where
  pub rm_size : length e.rm ≡ identifier_size
  pub number_small : e.number ≤ largest_number

pub data Valid : Record → Type 0 where
  valid_commit : {t : List ℕ} {es : List Entry} → length t ≡ identifier_size → 0 < length es → length es ≤ held_most → Each ValidEntry es → Valid (Record.commit t es)
  valid_forget : {t : List ℕ} → length t ≡ identifier_size → Valid (Record.forget t)

-- ── their bytes ─────────────────────────────────────────────────────────────────────────────────────────────────

entry_length : (e : Entry) → length e.rm ≡ identifier_size → length (entry_bytes e) ≡ entry_size
entry_length e h = rw (length-append e.rm (low4 e.number), h)

pub entries_length : (es : List Entry) → Each (λ e. length e.rm ≡ identifier_size) es → length (entries_bytes es) ≡ entry_size * length es
unfolding entries_bytes
entries_length [] v = refl
entries_length (e ∷ es) v = rw (length-append (entry_bytes e) (entries_bytes es), entry_length e (each_head v), entries_length es (each_rest v)) (omega arith)

pub forget_size_lem : (t : List ℕ) → length t ≡ identifier_size → length (record_bytes (Record.forget t)) ≡ forget_size
unfolding record_bytes
forget_size_lem t e = omega arith

entries_read : (es : List Entry) → Each ValidEntry es → entries_of (length es) (entries_bytes es) ≡ es
unfolding entries_of entries_bytes
entries_read [] v = refl
entries_read (e ∷ es) v = ap₂ ◌∷◌ one (rw (drop_at (entry_bytes e) (entries_bytes es) entry_size (entry_length e (each_head v).rm_size)) (entries_read es (each_rest v)))
  where
    bytes : List ℕ
    bytes = entry_bytes e ++ entries_bytes es

    apart : bytes ≡ e.rm ++ (low4 e.number ++ entries_bytes es)
    apart = append_assoc e.rm (low4 e.number) (entries_bytes es)

    rm_is : take identifier_size bytes ≡ e.rm
    rm_is = rw apart (take_at e.rm _ identifier_size (each_head v).rm_size)

    number_is : number4 (take 4 (drop identifier_size bytes)) ≡ e.number
    number_is = rw (apart, drop_at e.rm (low4 e.number ++ entries_bytes es) identifier_size (each_head v).rm_size) (number_of_low e.number (each_head v).number_small)

    one : ◌≡◌ {A = Entry} (record { rm = take identifier_size bytes; number = number4 (take 4 (drop identifier_size bytes)) }) e
    one = λ i. record { rm = rm_is i; number = number_is i }

-- a record's bytes as the reader meets them
record Frame (r : Record) : Type 0 where
  first : ℕ
  second : ℕ
  body : List ℕ
  bytes : record_bytes r ≡ first ∷ second ∷ body
  tag : (eqb first commit_tag || eqb first forget_tag) ≡ true
  size : size_of first second ≡ 2 + length body
  read : record_of first second body ≡ r

frame : {r : Record} → Valid r → Frame r
unfolding record_bytes size_of record_of
frame (valid_commit {t = t} {es = es} l some few v) = record {
  first = commit_tag;
  second = length es;
  body = t ++ entries_bytes es;
  bytes = refl;
  tag = refl;
  size = rw (lt-ltb 0 (length es) some, le-leb (length es) held_most few, length-append t (entries_bytes es), l, entries_length es (λ e m. (v e m).rm_size)) (omega arith);
  read = ap₂ Record.commit (take_at t (entries_bytes es) identifier_size l) (rw (drop_at t (entries_bytes es) identifier_size l) (entries_read es v));
}
frame (valid_forget {t = t} l) = record {
  first = forget_tag;
  second = 0;
  body = t;
  bytes = refl;
  tag = refl;
  size = rw l;
  read = ap Record.forget (take_all identifier_size t (omega arith));
}

-- ── what is written is read ─────────────────────────────────────────────────────────────────────────────────────

skip_scan : (a b : List ℕ) (k : ℕ) → k ≡ length a → scan k (a ++ b) ≡ scan 0 b
unfolding scan
skip_scan [] b zero e = refl
skip_scan [] b (suc k) e = absurd (omega arith)
skip_scan (x ∷ a) b zero e = absurd (omega arith)
skip_scan (x ∷ a) b (suc k) e = skip_scan a b k (omega arith)

skip_behind : (a b : List ℕ) (k : ℕ) → k ≡ length a → behind k (a ++ b) ≡ behind 0 b
unfolding behind
skip_behind [] b zero e = refl
skip_behind [] b (suc k) e = absurd (omega arith)
skip_behind (x ∷ a) b zero e = absurd (omega arith)
skip_behind (x ∷ a) b (suc k) e = skip_behind a b k (omega arith)

module _ {r : Record} (v : Valid r) (rest : List ℕ) where
  f : Frame r
  f = frame v

  whole : is_whole f.first f.second (f.body ++ rest) ≡ true
  whole = rw (f.size, length-append f.body rest) (and_true (lt-ltb 0 (2 + length f.body) (omega arith)) (le-leb (2 + length f.body) (2 + (length f.body + length rest)) (omega arith)))

  scan_one : scan 0 (record_bytes r ++ rest) ≡ r ∷ scan 0 rest
  unfolding scan
  scan_one = rw (f.bytes, whole, f.size, take_at f.body rest (2 + length f.body - 2) (omega arith), f.read, skip_scan f.body rest (2 + length f.body - 2) (omega arith))

  behind_one : behind 0 (record_bytes r ++ rest) ≡ behind 0 rest
  unfolding behind
  behind_one = rw (f.bytes, whole, f.size, skip_behind f.body rest (2 + length f.body - 2) (omega arith))

-- the beginning of a record that the bytes end inside, or nothing
pub record Torn (bs : List ℕ) : Type 0 where
  pub whole : Record
  pub valid : Valid whole
  pub rest : List ℕ
  pub begins : bs ++ rest ≡ record_bytes whole
  pub missing : 0 < length rest

-- what is read of it, and what the reader says of it
torn_frame : (d : List ℕ) (b c : ℕ) (body rest : List ℕ) → (eqb b commit_tag || eqb b forget_tag) ≡ true → size_of b c ≡ 2 + length body → d ++ rest ≡ b ∷ c ∷ body → 0 < length rest
    → (scan 0 d ≡ []) × (behind 0 d ≡ d) × (begins_none d ≡ false)
unfolding scan behind begins_none
torn_frame [] b c body rest t s e h = (refl, refl, refl)
torn_frame (x ∷ []) b c body rest t s e h = (refl, refl, rw (head-eq_of_cons-eq e, t))
torn_frame (x ∷ y ∷ d) b c body rest t s e h =
    let n : is_whole b c d ≡ false = rw s (rw (lt-ltb 0 (2 + length body) (omega arith)) (lt-leb (2 + length body) (2 + length d) (omega (arith, simp length-append at (ap length e))))) in
    rw (head-eq_of_cons-eq e, head-eq_of_cons-eq (tail-eq_of_cons-eq e), n) (refl, refl, rw s (ne_eqb (2 + length body) 0 (omega arith)))

torn_read : {bs : List ℕ} → Torn bs → (scan 0 bs ≡ []) × (behind 0 bs ≡ bs) × (begins_none bs ≡ false)
torn_read {bs} p = let f = frame p.valid in torn_frame bs f.first f.second f.body p.rest f.tag f.size (p.begins ∙ f.bytes) p.missing

pub torn_begins : {bs : List ℕ} → Torn bs → begins_none bs ≡ false
torn_begins p = (torn_read p).2

pub torn_nothing : Torn []
unfolding record_bytes
torn_nothing = record { whole = Record.forget zero_id; valid = valid_forget refl; rest = record_bytes (Record.forget zero_id); begins = refl; missing = omega arith }

pub all_append : (rs ss : List Record) → all_bytes (rs ++ ss) ≡ all_bytes rs ++ all_bytes ss
unfolding all_bytes
all_append [] ss = refl
all_append (r ∷ rs) ss = rw (all_append rs ss) (sym (append_assoc (record_bytes r) (all_bytes rs) (all_bytes ss)))

pub scan_all : (rs : List Record) {bs : List ℕ} → Each Valid rs → Torn bs → scan 0 (all_bytes rs ++ bs) ≡ rs
unfolding all_bytes
scan_all [] v p = (torn_read p).0
scan_all (r ∷ rs) {bs} v p = rw (append_assoc (record_bytes r) (all_bytes rs) bs) (scan_one (each_head v) (all_bytes rs ++ bs) ∙ ap (λ l. r ∷ l) (scan_all rs (each_rest v) p))

pub behind_all : (rs : List Record) {bs : List ℕ} → Each Valid rs → Torn bs → behind 0 (all_bytes rs ++ bs) ≡ bs
unfolding all_bytes
behind_all [] v p = (torn_read p).1
behind_all (r ∷ rs) {bs} v p = rw (append_assoc (record_bytes r) (all_bytes rs) bs) (behind_one (each_head v) (all_bytes rs ++ bs) ∙ behind_all rs (each_rest v) p)

-- ── any part from the start ─────────────────────────────────────────────────────────────────────────────────────

-- b begins with a
pub record Begins {A : Type 0} (a b : List A) : Type 0 where
  pub more : List A
  pub split : b ≡ a ++ more

-- longer bytes hold the same records, and perhaps more: of any bytes
pub scan_longer : (k : ℕ) (a b : List ℕ) → Begins (scan k a) (scan k (a ++ b))
unfolding scan
scan_longer k [] b = record { more = scan k b; split = refl }
scan_longer (suc k) (x ∷ a) b = scan_longer k a b
scan_longer zero (x ∷ []) b = record { more = scan zero (x ∷ b); split = refl }
scan_longer zero (x ∷ y ∷ a) b = by_test (is_whole x y a)
    (λ t. let m = scan_longer (size_of x y - 2) a b in rw (t, wide t, cut t) (record { more = m.more; split = ap (λ l. record_of x y (take (size_of x y - 2) a) ∷ l) m.split }))
    (λ t. rw t (record { more = _; split = refl }))
  where
    fits : is_whole x y a ≡ true → (ltb 0 (size_of x y) ≡ true) × (size_of x y ≤ 2 + length a)
    fits t = let (p, q) = true_and (ltb 0 (size_of x y)) (leb (size_of x y) (2 + length a)) t in (p, leb-true _ _ q)

    wide : is_whole x y a ≡ true → is_whole x y (a ++ b) ≡ true
    wide t = let (p, q) = fits t in and_true p (le-leb (size_of x y) (2 + length (a ++ b)) (rw (length-append a b) (omega arith)))

    cut : is_whole x y a ≡ true → take (size_of x y - 2) (a ++ b) ≡ take (size_of x y - 2) a
    cut t = let (p, q) = fits t in take-append-le (size_of x y - 2) a b (omega arith)

-- a part of the bytes of records is the bytes of the first of them, and a torn one
pub record Cut (bs : List ℕ) (rs : List Record) : Type 0 where
  pub kept : List Record
  pub lost : List Record
  pub torn : List ℕ
  pub records : rs ≡ kept ++ lost
  pub bytes : bs ≡ all_bytes kept ++ torn
  pub is_torn : Torn torn

pub cut : (rs : List Record) → Each Valid rs → (bs rest : List ℕ) → bs ++ rest ≡ all_bytes rs → Cut bs rs
unfolding all_bytes
cut [] v [] rest e = record { kept = []; lost = []; torn = []; records = refl; bytes = refl; is_torn = torn_nothing }
cut [] v (x ∷ bs) rest e = absurd (nil≢cons (sym e))
cut (r ∷ rs) v bs rest e = by_test (leb (length (record_bytes r)) (length bs))
    (λ t. one_more t (cut rs (each_rest v) (drop (length (record_bytes r)) bs) rest (there (leb-true _ _ t))))
    (λ t. record { kept = []; lost = r ∷ rs; torn = bs; records = refl; bytes = refl; is_torn = inside (leb-false _ _ t) })
  where
    n : ℕ
    n = length (record_bytes r)

    front : n ≤ length bs → take n bs ≡ record_bytes r
    front h = sym (take-append-le n bs rest h) ∙ ap (take n) e ∙ take_at (record_bytes r) (all_bytes rs) n refl

    there : n ≤ length bs → drop n bs ++ rest ≡ all_bytes rs
    there h = sym (drop-append-le n bs rest h) ∙ ap (drop n) e ∙ drop_at (record_bytes r) (all_bytes rs) n refl

    one_more : leb n (length bs) ≡ true → Cut (drop n bs) rs → Cut bs (r ∷ rs)
    one_more t c = record {
      kept = r ∷ c.kept;
      lost = c.lost;
      torn = c.torn;
      records = ap (λ l. r ∷ l) c.records;
      bytes = sym (take-append-drop n bs) ∙ ap₂ ◌++◌ (front (leb-true _ _ t)) c.bytes ∙ sym (append_assoc (record_bytes r) (all_bytes c.kept) c.torn);
      is_torn = c.is_torn;
    }

    begun : length bs < n → bs ≡ take (length bs) (record_bytes r)
    begun h = sym (take_at bs rest (length bs) refl) ∙ ap (take (length bs)) e ∙ take-append-le (length bs) (record_bytes r) (all_bytes rs) (omega arith)

    inside : length bs < n → Torn bs
    inside h = record {
      whole = r;
      valid = each_head v;
      rest = drop (length bs) (record_bytes r);
      begins = ap (λ l. l ++ drop (length bs) (record_bytes r)) (begun h) ∙ take-append-drop (length bs) (record_bytes r);
      missing = rw (length-drop (length bs) (record_bytes r)) (omega arith);
    }

-- ── what is read of any bytes ───────────────────────────────────────────────────────────────────────────────────

entries_of_count : (n : ℕ) (bs : List ℕ) → length (entries_of n bs) ≡ n
unfolding entries_of
entries_of_count zero bs = refl
entries_of_count (suc n) bs = ap suc (entries_of_count n (drop entry_size bs))

entries_of_sizes : (n : ℕ) (bs : List ℕ) → entry_size * n ≤ length bs → Each (λ e. length e.rm ≡ identifier_size) (entries_of n bs)
unfolding entries_of
entries_of_sizes zero bs h = each_nothing _
entries_of_sizes (suc n) bs h = each_more {P = λ e. length e.rm ≡ identifier_size}
    (length-take-le identifier_size bs (omega arith))
    (entries_of_sizes n (drop entry_size bs) (rw (length-drop entry_size bs) (omega arith)))

-- the two kinds of record that two bytes begin
sized : (b c : ℕ) → ltb 0 (size_of b c) ≡ true
    → ((b ≡ commit_tag) × (0 < c) × (c ≤ held_most) × (size_of b c ≡ commit_size c)) ⊎ ((b ≡ forget_tag) × (c ≡ 0) × (size_of b c ≡ forget_size))
unfolding size_of
sized b c h = by_test (eqb b commit_tag && (ltb 0 c && leb c held_most))
    (λ t. let (p, q) = true_and (eqb b commit_tag) (ltb 0 c && leb c held_most) t in
    let (l, m) = true_and (ltb 0 c) (leb c held_most) q in
    inl (eqb-true b commit_tag p, ltb-true 0 c l, leb-true c held_most m, rw t))
    (λ t. by_test (eqb b forget_tag && eqb c 0)
    (λ u. let (p, q) = true_and (eqb b forget_tag) (eqb c 0) u in inr (eqb-true b forget_tag p, eqb-true c 0 q, rw (t, u)))
    (λ u. absurd (false≢true (rw (t, u) at h))))

pub size_least : (b c : ℕ) → ltb 0 (size_of b c) ≡ true → 2 ≤ size_of b c
size_least b c h = by_either
    (λ (p : (b ≡ commit_tag) × (0 < c) × (c ≤ held_most) × (size_of b c ≡ commit_size c)). omega (arith, p.3))
    (λ (p : (b ≡ forget_tag) × (c ≡ 0) × (size_of b c ≡ forget_size)). omega (arith, p.2))
    (sized b c h)

-- a record that is read has the size that its first bytes say
read_size : (b c : ℕ) (bs : List ℕ) → ltb 0 (size_of b c) ≡ true → 2 + length bs ≡ size_of b c → length (record_bytes (record_of b c bs)) ≡ size_of b c
unfolding record_of record_bytes
read_size b c bs h l = by_either
    (λ (p : (b ≡ commit_tag) × (0 < c) × (c ≤ held_most) × (size_of b c ≡ commit_size c)).
    let m : length bs ≡ identifier_size + entry_size * c = omega (arith, l, p.3) in
    let es : List Entry = entries_of c (drop identifier_size bs) in
    rw (
      p.3,
      p.0,
      length-append (take identifier_size bs) (entries_bytes es),
      length-take-le identifier_size bs (omega arith),
      entries_length es (entries_of_sizes c (drop identifier_size bs) (rw (length-drop identifier_size bs) (omega arith))),
      entries_of_count c (drop identifier_size bs),
    ) (omega arith))
    (λ (p : (b ≡ forget_tag) × (c ≡ 0) × (size_of b c ≡ forget_size)).
    rw (p.2, p.0, length-take-le identifier_size bs (omega (arith, l, p.2))))
    (sized b c h)

-- the bytes are those of the records and those behind; k of them are passed over
pub scan_length : (k : ℕ) (bs : List ℕ) → k ≤ length bs → length bs ≡ k + (length (all_bytes (scan k bs)) + length (behind k bs))
unfolding scan behind all_bytes
scan_length zero [] h = refl
scan_length (suc k) [] h = absurd (omega arith)
scan_length (suc k) (b ∷ bs) h = let i : length bs ≡ k + (length (all_bytes (scan k bs)) + length (behind k bs)) = scan_length k bs (omega arith) in omega arith
scan_length zero (b ∷ []) h = refl
scan_length zero (b ∷ c ∷ bs) h = by_test (is_whole b c bs)
    (λ t. let (p, q) = true_and (ltb 0 (size_of b c)) (leb (size_of b c) (2 + length bs)) t in
    let g : 0 < size_of b c = ltb-true 0 (size_of b c) p in
    let m : size_of b c ≤ 2 + length bs = leb-true _ _ q in
    let n : 2 ≤ size_of b c = size_least b c p in
    let r : List ℕ = take (size_of b c - 2) bs in
    let i : length bs ≡ size_of b c - 2 + (length (all_bytes (scan (size_of b c - 2) bs)) + length (behind (size_of b c - 2) bs)) = scan_length (size_of b c - 2) bs (omega arith) in
    rw (t, length-append (record_bytes (record_of b c r)) (all_bytes (scan (size_of b c - 2) bs)), read_size b c r p (rw (length-take-le (size_of b c - 2) bs (omega arith)) (omega arith))) (omega arith))
    (λ t. rw t (omega arith))

-- ── what is read of bytes can be written ────────────────────────────────────────────────────────────────────────

entries_of_numbers : (n : ℕ) (bs : List ℕ) → Each (λ b. b < 256) bs → Each (λ e. e.number ≤ largest_number) (entries_of n bs)
unfolding entries_of
entries_of_numbers zero bs h = each_nothing _
entries_of_numbers (suc n) bs h = each_more {P = λ e. e.number ≤ largest_number}
    (number_small (take 4 (drop identifier_size bs)) (each_take 4 (each_drop identifier_size h)))
    (entries_of_numbers n (drop entry_size bs) (each_drop entry_size h))

read_valid : (b c : ℕ) (bs : List ℕ) → Each (λ b. b < 256) bs → ltb 0 (size_of b c) ≡ true → 2 + length bs ≡ size_of b c → Valid (record_of b c bs)
unfolding record_of
read_valid b c bs h s l = by_either
    (λ (p : (b ≡ commit_tag) × (0 < c) × (c ≤ held_most) × (size_of b c ≡ commit_size c)).
    let m : length bs ≡ identifier_size + entry_size * c = omega (arith, l, p.3) in
    let es : List Entry = entries_of c (drop identifier_size bs) in
    let n : length es ≡ c = entries_of_count c (drop identifier_size bs) in
    rw p.0 (valid_commit {es = es}
    (length-take-le identifier_size bs (omega arith))
    (omega (arith, n, p.1))
    (omega (arith, n, p.2))
    (λ e i. record {
      rm_size = entries_of_sizes c (drop identifier_size bs) (rw (length-drop identifier_size bs) (omega arith)) e i;
      number_small = entries_of_numbers c (drop identifier_size bs) (each_drop identifier_size h) e i;
    })))
    (λ (p : (b ≡ forget_tag) × (c ≡ 0) × (size_of b c ≡ forget_size)). rw p.0 (valid_forget (length-take-le identifier_size bs (omega (arith, l, p.2)))))
    (sized b c s)

pub scan_valid : (k : ℕ) (bs : List ℕ) → Each (λ b. b < 256) bs → Each Valid (scan k bs)
unfolding scan
scan_valid k [] h = each_nothing _
scan_valid (suc k) (b ∷ bs) h = scan_valid k bs (each_rest h)
scan_valid zero (b ∷ []) h = each_nothing _
scan_valid zero (b ∷ c ∷ bs) h = by_test (is_whole b c bs)
    (λ t. let (p, q) = true_and (ltb 0 (size_of b c)) (leb (size_of b c) (2 + length bs)) t in
    let m : size_of b c ≤ 2 + length bs = leb-true _ _ q in
    let n : 2 ≤ size_of b c = size_least b c p in
    let r : List ℕ = take (size_of b c - 2) bs in
    rw t (each_more {P = Valid}
    (read_valid b c r (each_take (size_of b c - 2) (each_rest (each_rest h))) p (rw (length-take-le (size_of b c - 2) bs (omega arith)) (omega arith)))
    (scan_valid (size_of b c - 2) bs (each_rest (each_rest h)))))
    (λ t. rw t (each_nothing _))
