-- What the rules read from the front of the stored bytes, the code reads at places: a whole record is the one that stands there, and reading goes on behind it.
use Prim.Native.Nat.{ℕ, zero, suc, ◌+◌, ◌*◌, ◌-◌, ◌≤◌, ◌<◌}
use native.Mathlib.Omega.{arith}
use native.Mathlib.Numerals.{add-one, add-two}
use native.Mathlib.Nat.{sub-zero, suc-sub-suc}
use mathlib.Core.Path.{◌≡◌, refl, sym, ◌∙◌, ap}
use mathlib.Core.Logic.{◌⊎◌, inl, inr}
use mathlib.Core.Bool.{true, false, ◌&&◌}
use mathlib.Core.List.{List, [], ◌∷◌}
use lib.Dec.{eqb, ltb, leb}
use lib.ListN.{length, get_or, take, drop, length-drop}
use lib.Seq.{length-take-le, take-nil, drop-cons, get_or-take, take-take, drop-drop}
use borrow.Author.Tests.{ltb-true, ltb-false, leb-true, lt-ltb, le-ltb, le-leb, lt-leb, leb-false, eqb-true, eqb-false, eq-eqb, ne_eqb}
use Rattle.lists.proofs.Loops.{drop_done}
use Rattle.lists.proofs.Tests.{by_test, by_either, and_true}
use Rattle.rules.specs.Sizes.{identifier_size, entry_size, record_size, held_most}
use Rattle.rules.specs.Log.{number4, commit_tag, forget_tag, size_of, entries_of, record_of, is_whole, scan, behind, begins_none}
use Rattle.log_reader.specs.Reading.{bytes_at, identifier_at, manager_at, number_at, entries_from, entries_count, entries_at, is_commit_at, record_at, size_at, whole_at, none_at}

-- ── the first byte of a record ──────────────────────────────────────────────────────────────────────────────────

not_forget : (b : ℕ) → eqb b commit_tag ≡ true → eqb b forget_tag ≡ false
not_forget b t = ne_eqb b forget_tag (λ e. omega (arith, eqb-true b commit_tag t))

-- ── bytes that are passed over ──────────────────────────────────────────────────────────────────────────────────

scan_skip : (k : ℕ) (bs : List ℕ) → scan k bs ≡ scan 0 (drop k bs)
unfolding scan
scan_skip zero bs = refl
scan_skip (suc k) [] = refl
scan_skip (suc k) (b ∷ bs) = scan_skip k bs

behind_skip : (k : ℕ) (bs : List ℕ) → behind k bs ≡ behind 0 (drop k bs)
unfolding behind
behind_skip zero bs = refl
behind_skip (suc k) [] = refl
behind_skip (suc k) (b ∷ bs) = behind_skip k bs

drop_take : {A : Type 0} (m n : ℕ) (l : List A) → drop m (take n l) ≡ take (n - m) (drop m l)
drop_take zero n l = rw (sub-zero n)
drop_take (suc m) zero l = let k : 0 - suc m ≡ 0 = omega arith in rw k
drop_take (suc m) (suc n) [] = sym (take-nil (suc n - suc m))
drop_take (suc m) (suc n) (x ∷ l) = rw (suc-sub-suc n m) (drop_take m n l)

-- ── the entries that bytes hold ─────────────────────────────────────────────────────────────────────────────────

-- no byte behind them is read
entries_cut : (n : ℕ) (bs : List ℕ) → entries_of n (take (entry_size * n) bs) ≡ entries_of n bs
unfolding entries_of
entries_cut zero bs = refl
entries_cut (suc n) bs =
    let m : ℕ = entry_size * suc n in
    let a : 16 ≤ m = omega arith in
    let b : 4 ≤ m - 16 = omega arith in
    let r : m - 20 ≡ entry_size * n = omega arith in
    rw (take-take 16 m bs a, drop_take 16 m bs, take-take 4 (m - 16) (drop 16 bs) b, drop_take 20 m bs, r, entries_cut n (drop 20 bs))

-- ── the two sizes of a record ───────────────────────────────────────────────────────────────────────────────────

size_cases : (b c : ℕ) → 0 < size_of b c
    → ((eqb b commit_tag ≡ true) × (size_of b c ≡ record_size + entry_size * c)) ⊎ ((eqb b commit_tag ≡ false) × (size_of b c ≡ record_size))
unfolding size_of
size_cases b c h = by_test (eqb b commit_tag)
    (λ t. by_test (ltb 0 c && leb c held_most)
    (λ u. inl (t, rw (t, u)))
    (λ u. absurd (omega (arith, rw (t, u, not_forget b t) at h))))
    (λ t. by_test (eqb b forget_tag && eqb c 0)
    (λ u. inr (t, rw (t, u)))
    (λ u. absurd (omega (arith, rw (t, u) at h))))

-- ── the stored bytes ────────────────────────────────────────────────────────────────────────────────────────────

module _ (log : List ℕ) (stored : ℕ) (fits : stored ≤ length log) where
  stored_length : length (take stored log) ≡ stored
  stored_length = length-take-le stored log fits

  pub rest_length : (p : ℕ) → length (drop p (take stored log)) ≡ stored - p
  rest_length p = rw (length-drop p (take stored log), stored_length)

  next_byte : (p : ℕ) → p < stored → drop p (take stored log) ≡ get_or log p 0 ∷ drop (suc p) (take stored log)
  next_byte p h = rw (← get_or-take stored log p 0 h) (drop-cons (take stored log) p 0 (rw stored_length h))

  rest_none : (p : ℕ) → stored ≤ p → drop p (take stored log) ≡ []
  rest_none p h = drop_done (take stored log) p (rw stored_length h)

  rest_one : (p : ℕ) → stored ≡ suc p → drop p (take stored log) ≡ get_or log p 0 ∷ []
  rest_one p h = rw (next_byte p (omega arith), rest_none (suc p) (omega arith))

  rest_more : (p : ℕ) → p + 2 ≤ stored → drop p (take stored log) ≡ get_or log p 0 ∷ get_or log (p + 1) 0 ∷ drop (p + 2) (take stored log)
  rest_more p h = rw (next_byte p (omega arith), next_byte (suc p) (omega arith), add-one p, add-two p)

  pub bytes_are : (n p : ℕ) → p + n ≤ stored → take n (drop p (take stored log)) ≡ bytes_at log p n
  unfolding bytes_at
  bytes_are zero p h = refl
  bytes_are (suc n) p h = rw (next_byte p (omega arith)) (ap (λ (l : List ℕ). get_or log p 0 ∷ l) (bytes_are n (suc p) (omega arith)))

  entries_are : (n p j q : ℕ) → q ≡ p + (record_size + entry_size * j) → q + entry_size * n ≤ stored → entries_of n (drop q (take stored log)) ≡ entries_from log p j n
  unfolding entries_of entries_from manager_at number_at
  entries_are zero p j q e h = refl
  entries_are (suc n) p j q e h =
      let k : q + 16 ≡ p + (record_size + identifier_size + entry_size * j) = omega arith in
      let r : q + 20 ≡ p + (record_size + entry_size * suc j) = omega arith in
      let m : take 16 (drop q (take stored log)) ≡ manager_at log p j = rw (bytes_are 16 q (omega arith), e) in
      let n4 : number4 (take 4 (drop 16 (drop q (take stored log)))) ≡ number_at log p j = rw (drop-drop 16 q (take stored log), bytes_are 4 (q + 16) (omega arith), k) in
      let rest : entries_of n (drop 20 (drop q (take stored log))) ≡ entries_from log p (suc j) n = rw (drop-drop 20 q (take stored log)) (entries_are n p (suc j) (q + 20) r (omega arith)) in
      rw (m, n4, rest)

  -- ── a whole record ────────────────────────────────────────────────────────────────────────────────────────────

  record_is : (p n : ℕ) → size_at log p ≡ n → 0 < n → p + n ≤ stored → record_of (get_or log p 0) (get_or log (p + 1) 0) (take (n - 2) (drop (p + 2) (take stored log))) ≡ record_at log p
  unfolding record_of record_at is_commit_at identifier_at entries_at entries_count
  record_is p n e z h = by_either
      (λ (w : (eqb (get_or log p 0) commit_tag ≡ true) × (size_at log p ≡ record_size + entry_size * get_or log (p + 1) 0)).
      let c : ℕ = get_or log (p + 1) 0 in
      let x : List ℕ = drop (p + 2) (take stored log) in
      let k : n - 2 ≡ 16 + entry_size * c = omega (arith, w.1) in
      let cut : 16 ≤ n - 2 = omega arith in
      let r : n - 2 - 16 ≡ entry_size * c = omega arith in
      let t : take 16 (take (n - 2) x) ≡ bytes_at log (p + 2) 16 = rw (take-take 16 (n - 2) x cut, bytes_are 16 (p + 2) (omega (arith, w.1))) in
      let es : entries_of c (drop 16 (take (n - 2) x)) ≡ entries_from log p 0 c =
      rw (drop_take 16 (n - 2) x, r, entries_cut c (drop 16 x), drop-drop 16 (p + 2) (take stored log)) (entries_are c p 0 (p + 2 + 16) (omega arith) (omega (arith, w.1))) in
      rw (w.0, t, es))
      (λ (w : (eqb (get_or log p 0) commit_tag ≡ false) × (size_at log p ≡ record_size)).
      let x : List ℕ = drop (p + 2) (take stored log) in
      let cut : 16 ≤ n - 2 = omega (arith, w.1) in
      let t : take 16 (take (n - 2) x) ≡ bytes_at log (p + 2) 16 = rw (take-take 16 (n - 2) x cut, bytes_are 16 (p + 2) (omega (arith, w.1))) in
      rw (w.0, t))
      (size_cases (get_or log p 0) (get_or log (p + 1) 0) (omega (arith, e)))

  -- what the size of a whole record says
  module _ (p n : ℕ) (e : whole_at log stored p ≡ n) (z : 0 < n) where
    whole_size : (size_at log p ≡ n) × (p + n ≤ stored)
    unfolding whole_at
    whole_size = by_test (ltb (stored - p) 2)
        (λ t. absurd (omega (arith, rw t at e)))
        (λ t. by_test (ltb (stored - p) (size_at log p))
        (λ u. absurd (omega (arith, rw (t, u) at e)))
        (λ u. let s : size_at log p ≡ n = rw (t, u) at e in (s, omega (arith, ltb-false (stored - p) (size_at log p) u, ltb-false (stored - p) 2 t))))

    pub whole_within : p + n ≤ stored
    whole_within = whole_size.1

    whole_least : 2 ≤ n
    whole_least = by_either
        (λ (w : (eqb (get_or log p 0) commit_tag ≡ true) × (size_at log p ≡ record_size + entry_size * get_or log (p + 1) 0)). omega (arith, w.1, whole_size.0))
        (λ (w : (eqb (get_or log p 0) commit_tag ≡ false) × (size_at log p ≡ record_size)). omega (arith, w.1, whole_size.0))
        (size_cases (get_or log p 0) (get_or log (p + 1) 0) (omega (arith, whole_size.0)))

    whole : is_whole (get_or log p 0) (get_or log (p + 1) 0) (drop (p + 2) (take stored log)) ≡ true
    whole = rw (whole_size.0, rest_length (p + 2)) (and_true (lt-ltb 0 n z) (le-leb n (2 + (stored - (p + 2))) (omega (arith, whole_within, whole_least))))

    behind_it : drop (n - 2) (drop (p + 2) (take stored log)) ≡ drop (p + n) (take stored log)
    behind_it =
        let k : p + 2 + (n - 2) ≡ p + n = omega (arith, whole_least) in
        drop-drop (n - 2) (p + 2) (take stored log) ∙ ap (λ (m : ℕ). drop m (take stored log)) k

    pub scan_next : scan 0 (drop p (take stored log)) ≡ record_at log p ∷ scan 0 (drop (p + n) (take stored log))
    unfolding scan
    scan_next =
        rw (
          rest_more p (omega (arith, whole_within, whole_least)),
          whole,
          whole_size.0,
          record_is p n whole_size.0 z whole_within,
          scan_skip (n - 2) (drop (p + 2) (take stored log)),
          behind_it,
        )

    pub behind_next : behind 0 (drop p (take stored log)) ≡ behind 0 (drop (p + n) (take stored log))
    unfolding behind
    behind_next = rw (rest_more p (omega (arith, whole_within, whole_least)), whole, whole_size.0, behind_skip (n - 2) (drop (p + 2) (take stored log)), behind_it)

  -- ── no whole record ───────────────────────────────────────────────────────────────────────────────────────────

  -- by how many bytes are left: none, one, or more
  by_left : (p : ℕ) → p ≤ stored → {C : Type 0} → (stored ≡ p → C) → (stored ≡ suc p → C) → (p + 2 ≤ stored → C) → C
  by_left p h f g k = by_test (eqb stored p)
      (λ t. f (eqb-true _ _ t))
      (λ t. by_test (eqb stored (suc p))
      (λ u. g (eqb-true _ _ u))
      (λ u. k (by_test (leb (p + 2) stored) (λ v. leb-true _ _ v) (λ v. absurd (between (eqb-false _ _ t) (eqb-false _ _ u) (leb-false _ _ v))))))
    where
      between : (stored ≡ p → ⊥) → (stored ≡ suc p → ⊥) → stored < p + 2 → ⊥
      between a b c = omega (arith, a, b)

  module _ (p : ℕ) (within : p ≤ stored) (e : whole_at log stored p ≡ 0) where
    not_whole : p + 2 ≤ stored → is_whole (get_or log p 0) (get_or log (p + 1) 0) (drop (p + 2) (take stored log)) ≡ false
    unfolding whole_at
    not_whole h = rw (rest_length (p + 2)) (by_test (ltb (stored - p) (size_at log p))
        (λ t. by_test (ltb 0 (size_at log p)) (λ u. rw u (lt-leb (size_at log p) (2 + (stored - (p + 2))) (omega (arith, ltb-true (stored - p) (size_at log p) t)))) (λ u. rw u))
        (λ t. let s : size_at log p ≡ 0 = rw (le-ltb (stored - p) 2 (omega arith), t) at e in rw s))

    pub scan_end : scan 0 (drop p (take stored log)) ≡ []
    unfolding scan
    scan_end = by_left p within
        (λ h. rw (rest_none p (omega arith)))
        (λ h. rw (rest_one p h))
        (λ h. rw (rest_more p h, not_whole h))

    pub behind_end : behind 0 (drop p (take stored log)) ≡ drop p (take stored log)
    unfolding behind
    behind_end = by_left p within
        (λ h. rw (rest_none p (omega arith)))
        (λ h. rw (rest_one p h))
        (λ h. rw (rest_more p h, not_whole h))

  pub none_is : (p : ℕ) → p ≤ stored → none_at log stored p ≡ begins_none (drop p (take stored log))
  unfolding none_at begins_none
  none_is p within = by_left p within
      (λ h. rw (rest_none p (omega arith), eq-eqb (stored - p) 0 (omega arith)))
      (λ h. rw (rest_one p h, ne_eqb (stored - p) 0 (omega arith), eq-eqb (stored - p) 1 (omega arith)))
      (λ h. rw (rest_more p h, ne_eqb (stored - p) 0 (omega arith), ne_eqb (stored - p) 1 (omega arith)))
