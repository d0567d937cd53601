-- What is open behind a record, as the code holds it, is what the rules say: a commit record is put behind the others, a forget record takes its transaction away.
use Prim.Native.Nat.{ℕ, zero, suc, ◌+◌, ◌≤◌, ◌<◌}
use native.Mathlib.Omega.{arith}
use native.Mathlib.Numerals.{add-one}
use mathlib.Core.Path.{◌≡◌, refl, sym, ◌∙◌, ap}
use mathlib.Core.Bool.{Bool, true, not, cond}
use mathlib.Core.List.{List, [], ◌∷◌, ◌++◌, map, append_assoc, append-nil}
use lib.ListN.{length, take, length-take, length-set, length-append}
use lib.Seq.{take-suc-set}
use borrow.Author.Tests.{lt-ltb}
use Rattle.lists.specs.Lists.{filter}
use Rattle.lists.proofs.Tests.{by_test}
use Rattle.rules.specs.Sizes.{transaction_places}
use Rattle.rules.specs.Identifiers.{Id, same_bytes}
use Rattle.rules.specs.Restart.{is_open_as, after_record}
use Rattle.log_reader.specs.Reading.{identifier_at, is_commit_at, record_at}
use Rattle.open_records.specs.declared.OpenRecords.{OpenRecords}
use Rattle.open_records.specs.Opening.{starts_of, open_at, opens_of, none_open, with_start, kept_from, open_behind}

map_append : {A B : Type 0} (f : A → B) (xs ys : List A) → map f (xs ++ ys) ≡ map f xs ++ map f ys
map_append f [] ys = refl
map_append f (x ∷ xs) ys = ap (λ l. f x ∷ l) (map_append f xs ys)

take_taken : {A : Type 0} (n : ℕ) (l : List A) → take (length (take n l)) l ≡ take n l
take_taken zero l = refl
take_taken (suc n) [] = refl
take_taken (suc n) (x ∷ l) = ap (λ m. x ∷ m) (take_taken n l)

-- ── one more ────────────────────────────────────────────────────────────────────────────────────────────────────

-- it holds 32 places, as its array has
abbrev pub Long : OpenRecords → Type 0
Long rs = length rs.starts ≡ transaction_places

module _ (rs : OpenRecords) (p : ℕ) (long : Long rs) (room : length (starts_of rs) < transaction_places) where
  pub with_starts : starts_of (with_start rs p) ≡ starts_of rs ++ (p ∷ [])
  unfolding with_start
  with_starts =
      rw (lt-ltb (length (starts_of rs)) transaction_places room, add-one (length (starts_of rs)), take-suc-set rs.starts (length (starts_of rs)) p (omega (arith, long)), take_taken rs.count rs.starts)

  pub with_long : Long (with_start rs p)
  unfolding with_start
  with_long = rw (lt-ltb (length (starts_of rs)) transaction_places room, length-set rs.starts (length (starts_of rs)) p) long

-- ── without one ─────────────────────────────────────────────────────────────────────────────────────────────────

kept : (log : List ℕ) (t : Id) (left : OpenRecords) (ps : List ℕ) → Long left → length (starts_of left) + length ps ≤ transaction_places
    → Long (kept_from log t left ps) × (map (open_at log) (starts_of (kept_from log t left ps)) ≡ map (open_at log) (starts_of left) ++ filter (λ o. not (is_open_as t o)) (map (open_at log) ps))
unfolding kept_from filter
kept log t left [] long room = (long, sym (append-nil (map (open_at log) (starts_of left))))
kept log t left (p ∷ ps) long room = by_test (same_bytes (identifier_at log p) t)
    (λ e.
    let s : kept_from log t left (p ∷ ps) ≡ kept_from log t left ps = ap (λ (b : Bool). kept_from log t (cond b left (with_start left p)) ps) e in
    rw (s, e) (kept log t left ps long (omega arith)))
    (λ e.
    let s : kept_from log t left (p ∷ ps) ≡ kept_from log t (with_start left p) ps = ap (λ (b : Bool). kept_from log t (cond b left (with_start left p)) ps) e in
    let with : starts_of (with_start left p) ≡ starts_of left ++ (p ∷ []) = with_starts left p long (omega arith) in
    let n : length (starts_of (with_start left p)) + length ps ≤ transaction_places = omega (arith, ap length with, length-append (starts_of left) (p ∷ [])) in
    let k = kept log t (with_start left p) ps (with_long left p long (omega arith)) n in
    rw (s, e) (k.0, k.1 ∙ rw (with, map_append (open_at log) (starts_of left) (p ∷ [])) (append_assoc (map (open_at log) (starts_of left)) (open_at log p ∷ []) (filter (λ o. not (is_open_as t o)) (map (open_at log) ps)))))

-- ── behind a record ─────────────────────────────────────────────────────────────────────────────────────────────

module _ (log : List ℕ) (rs : OpenRecords) (p : ℕ) (long : Long rs) where
  behind : (is_commit_at log p ≡ true → length (starts_of rs) < transaction_places) → Long (open_behind log rs p) × (opens_of log (open_behind log rs p) ≡ after_record (opens_of log rs) (record_at log p))
  unfolding open_behind opens_of record_at after_record
  behind room = by_test (is_commit_at log p)
      (λ e. rw e (with_long rs p long (room e), rw (with_starts rs p long (room e)) (map_append (open_at log) (starts_of rs) (p ∷ []))))
      (λ e. rw e (kept log (identifier_at log p) none_open (starts_of rs) refl (omega (arith, length-take rs.count rs.starts, long))))

  module _ (room : is_commit_at log p ≡ true → length (starts_of rs) < transaction_places) where
    pub behind_long : Long (open_behind log rs p)
    behind_long = (behind room).0

    pub behind_opens : opens_of log (open_behind log rs p) ≡ after_record (opens_of log rs) (record_at log p)
    behind_opens = (behind room).1
