-- Those that are held are put side by side, in the order of the places that were looked at.
use Prim.Native.Nat.{ℕ, zero, suc, ◌+◌, ◌≤◌, ◌<◌}
use native.Mathlib.Omega.{arith}
use mathlib.Core.Path.{◌≡◌, refl, sym, ◌∙◌, ap}
use mathlib.Core.Bool.{Bool, true, false}
use mathlib.Core.List.{List, [], ◌∷◌, ◌++◌, map, append-nil}
use lib.ListN.{length, get_or, set, take, drop, length-append, take-append-drop, get_or-map}
use lib.Seq.{take-suc, take_all}
use Rattle.lists.specs.Lists.{filter}
use Rattle.lists.proofs.Tests.{filter_append}
use Rattle.rules.specs.declared.Enlistment.{Enlistment}
use Rattle.rules.specs.Table.{held_by}
use Rattle.holdings.specs.declared.Holding.{Holding}
use Rattle.holdings.specs.Within.{filled}
use Rattle.rows.specs.Memory.{enlistment_in}

-- one more behind the list
set_filled : (n : ℕ) (es : List Enlistment) (e : Enlistment) → length es < n → set (filled n es) (length es) e ≡ filled n (es ++ (e ∷ []))
unfolding filled
set_filled zero es e h = absurd (omega arith)
set_filled (suc n) [] e h = refl
set_filled (suc n) (x ∷ es) e h = ap (λ l. x ∷ l) (set_filled n es e (omega arith))

abbrev held_of : ℕ → List Enlistment → ℕ → List Enlistment
held_of p es i = filter (held_by p) (take i es)

pub record Taking (p : ℕ) (es : List Enlistment) (start h : Holding) (k i : ℕ) : Type 0 where
  pub long : length es ≡ 128
  pub few : length (filter (held_by p) es) ≤ 16
  pub within : i ≤ 128
  pub counted : k ≡ length (held_of p es i)
  pub same : h ≡ record { enlistments = filled 16 (held_of p es i); transaction = start.transaction; place = start.place; capacity = start.capacity; used = start.used }

module _ (p : ℕ) (es : List Enlistment) where
  one_more : (d : Enlistment) (i : ℕ) → i < length es → held_of p es (i + 1) ≡ held_of p es i ++ filter (held_by p) (get_or es i d ∷ [])
  one_more d i h = let e : i + 1 ≡ suc i = omega arith in rw (e, take-suc es i d h) (filter_append (held_by p) (take i es) (get_or es i d ∷ []))

  -- those of the first places are no more than all
  part_held : (i : ℕ) → length (held_of p es i) ≤ length (filter (held_by p) es)
  part_held i =
      let e : held_of p es i ++ filter (held_by p) (drop i es) ≡ filter (held_by p) es = sym (filter_append (held_by p) (take i es) (drop i es)) ∙ ap (filter (held_by p)) (take-append-drop i es) in
      omega (arith, sym (length-append (held_of p es i) (filter (held_by p) (drop i es))) ∙ ap length e)

module _ {p : ℕ} {es : List Enlistment} {start : Holding} where
  pub take_start : length es ≡ 128 → length (filter (held_by p) es) ≤ 16 → start.enlistments ≡ filled 16 [] → Taking p es start start 0 0
  unfolding filter
  take_start l f q = record { long = l; few = f; within = omega arith; counted = refl; same = ap (λ x. record { enlistments = x; transaction = start.transaction; place = start.place; capacity = start.capacity; used = start.used }) q }

  take_other : {h : Holding} {k i : ℕ} (d : Enlistment) → Taking p es start h k i → i < 128 → held_by p (get_or es i d) ≡ false → Taking p es start h k (i + 1)
  unfolding filter
  take_other {h} {k} {i} d t lt o =
      let e : held_of p es (i + 1) ≡ held_of p es i = one_more p es d i (omega (arith, t.long)) ∙ rw o (append-nil (held_of p es i)) in
      record { long = t.long; few = t.few; within = omega arith; counted = rw e t.counted; same = rw e t.same }

  below : {h : Holding} {k i : ℕ} (d : Enlistment) → Taking p es start h k i → i < 128 → held_by p (get_or es i d) ≡ true → k < 16
  unfolding filter
  below {h} {k} {i} d t lt o =
      let e : held_of p es (i + 1) ≡ held_of p es i ++ (get_or es i d ∷ []) = one_more p es d i (omega (arith, t.long)) ∙ rw o in
      let l : length (held_of p es (i + 1)) ≡ length (held_of p es i) + 1 = ap length e ∙ length-append (held_of p es i) (get_or es i d ∷ []) in
      let w : length (held_of p es (i + 1)) ≤ length (filter (held_by p) es) = part_held p es (i + 1) in
      omega (arith, t.counted, t.few, l, w)

  take_mine : {h : Holding} {k i : ℕ} {e : Enlistment} (d : Enlistment) → Taking p es start h k i → i < 128 → held_by p (get_or es i d) ≡ true → e ≡ get_or es i d
      → Taking p es start (record { enlistments = set h.enlistments k e; transaction = h.transaction; place = h.place; capacity = h.capacity; used = h.used }) (k + 1) (i + 1)
  unfolding filter
  take_mine {h} {k} {i} {e} d t lt o q =
      let m : held_of p es (i + 1) ≡ held_of p es i ++ (get_or es i d ∷ []) = one_more p es d i (omega (arith, t.long)) ∙ rw o in
      let b : k < 16 = below d t lt o in
      let c : k ≡ length (held_of p es i) = t.counted in
      let s : set (filled 16 (held_of p es i)) k e ≡ filled 16 (held_of p es (i + 1)) = rw (q, c, m) (set_filled 16 (held_of p es i) (get_or es i d) (omega arith)) in
      record {
        long = t.long;
        few = t.few;
        within = omega arith;
        counted = rw (m, length-append (held_of p es i) (get_or es i d ∷ []), ← c);
        same = rw t.same (ap (λ x. record { enlistments = x; transaction = start.transaction; place = start.place; capacity = start.capacity; used = start.used }) s);
      }

  pub take_done : {h : Holding} {k i : ℕ} → Taking p es start h k i → 128 ≤ i → h ≡ record { enlistments = filled 16 (filter (held_by p) es); transaction = start.transaction; place = start.place; capacity = start.capacity; used = start.used }
  take_done {h} {k} {i} t lt = rw (take_all i es (omega (arith, t.long))) at t.same

-- ── the same, of the memory ─────────────────────────────────────────────────────────────────────────────────────

module _ (p : ℕ) (rows : List (List ℕ)) {start h : Holding} {k i : ℕ} (t : Taking p (map enlistment_in rows) start h k i) (lt : i < 128) where
  there : (b : Bool) → held_by p (enlistment_in (get_or rows i [])) ≡ b → held_by p (get_or (map enlistment_in rows) i (enlistment_in [])) ≡ b
  there b q = rw (get_or-map enlistment_in rows i []) q

  pub row_other : held_by p (enlistment_in (get_or rows i [])) ≡ false → Taking p (map enlistment_in rows) start h k (i + 1)
  row_other o = take_other (enlistment_in []) t lt (there false o)

  pub row_below : held_by p (enlistment_in (get_or rows i [])) ≡ true → k < 16
  row_below m = below (enlistment_in []) t lt (there true m)

  pub row_mine : {e : Enlistment} → held_by p (enlistment_in (get_or rows i [])) ≡ true → e ≡ enlistment_in (get_or rows i [])
      → Taking p (map enlistment_in rows) start (record { enlistments = set h.enlistments k e; transaction = h.transaction; place = h.place; capacity = h.capacity; used = h.used }) (k + 1) (i + 1)
  row_mine m q = take_mine (enlistment_in []) t lt (there true m) (q ∙ sym (get_or-map enlistment_in rows i []))
