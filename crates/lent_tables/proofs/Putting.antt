-- Place by place the memory comes to mean what is refilled: a place that is not held is left as it is.
use Prim.Native.Nat.{ℕ, suc, ◌+◌, ◌≤◌, ◌<◌}
use native.Mathlib.Omega.{arith}
use mathlib.Core.Path.{◌≡◌, refl, ◌∙◌}
use mathlib.Core.Bool.{true, false}
use mathlib.Core.List.{List, map}
use lib.ListN.{length, get_or, set, drop, length-map, length-set, get_or-map}
use lib.Seq.{set-get_or, drop-set-lt}
use Rattle.lists.specs.Lists.{count}
use Rattle.lists.proofs.Loops.{drop_at, Rewritten, rewrite_start, rewrite_again, rewrite_done}
use Rattle.rules.specs.declared.Enlistment.{Enlistment}
use Rattle.rules.specs.Sizes.{enlistment_places}
use Rattle.rules.specs.Table.{no_enlistment, held_by}
use Rattle.holdings.specs.Within.{refill_from, refill}
use Rattle.rows.specs.Memory.{enlistment_in}
use Rattle.rows.proofs.Mapped.{map_set}

pub record Putting (p : ℕ) (hs : List Enlistment) (start rows : List (List ℕ)) (k i : ℕ) : Type 0 where
  pub long : length rows ≡ enlistment_places
  -- so many are still to come
  pub few : k + count (held_by p) (drop i (map enlistment_in rows)) ≤ 16
  pub rest : Rewritten 128 (refill_from (held_by p) k hs) (refill (held_by p) hs (map enlistment_in start)) (map enlistment_in rows) i

module _ {p : ℕ} {hs : List Enlistment} {start : List (List ℕ)} where
  pub put_start : length start ≡ 128 → count (held_by p) (map enlistment_in start) ≤ 16 → Putting p hs start start 0 0
  put_start l f = record { long = l; few = omega (arith, f); rest = rewrite_start (length-map start enlistment_in ∙ l) }

module _ (p : ℕ) (hs : List Enlistment) (start rows : List (List ℕ)) {k i : ℕ} (d : List ℕ) (t : Putting p hs start rows k i) (lt : i < 128) where
  here : get_or (map enlistment_in rows) i (enlistment_in d) ≡ enlistment_in (get_or rows i d)
  here = get_or-map enlistment_in rows i d

  inside : i < length (map enlistment_in rows)
  inside = omega (arith, lt, t.long, length-map rows enlistment_in)

  pub put_below : held_by p (enlistment_in (get_or rows i d)) ≡ true → k < 16
  unfolding count
  put_below m = omega (arith, rw (drop_at (map enlistment_in rows) i (enlistment_in d) inside, here, m) at t.few)

  pub put_other : held_by p (enlistment_in (get_or rows i d)) ≡ false → Putting p hs start rows k (i + 1)
  unfolding count refill_from
  put_other o = record {
    long = t.long;
    few = rw (drop_at (map enlistment_in rows) i (enlistment_in d) inside, here, o) at t.few;
    rest = rw (set-get_or (map enlistment_in rows) i (enlistment_in d)) at (rewrite_again {h' = refill_from (held_by p) k hs} {y = get_or (map enlistment_in rows) i (enlistment_in d)} (enlistment_in d) t.rest lt (λ xs. rw (here, o)));
  }

  pub put_mine : (row : List ℕ) → held_by p (enlistment_in (get_or rows i d)) ≡ true → enlistment_in row ≡ get_or hs k no_enlistment → Putting p hs start (set rows i row) (k + 1) (i + 1)
  unfolding count refill_from
  put_mine row m q = record {
    long = simp length-set t.long;
    few = rw (map_set enlistment_in rows i row, drop-set-lt (i + 1) (map enlistment_in rows) i (enlistment_in row) (omega arith)) (omega (arith, rw (drop_at (map enlistment_in rows) i (enlistment_in d) inside, here, m) at t.few));
    rest = rw (map_set enlistment_in rows i row) (rewrite_again {h' = refill_from (held_by p) (k + 1) hs} (enlistment_in d) t.rest lt (λ xs. let e : k + 1 ≡ suc k = omega arith in rw (here, m, e, q)));
  }

pub put_done : {p : ℕ} {hs : List Enlistment} {start rows : List (List ℕ)} {k i : ℕ} → Putting p hs start rows k i → 128 ≤ i
    → map enlistment_in rows ≡ refill (held_by p) hs (map enlistment_in start)
unfolding refill_from
put_done t h = rewrite_done t.rest h refl
