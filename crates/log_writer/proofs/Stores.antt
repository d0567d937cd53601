-- Entries and records, stored piece by piece: what is still to be stored gives the whole.
use Prim.Native.Nat.{ℕ, suc, ◌+◌, ◌*◌, ◌≤◌, ◌<◌}
use native.Mathlib.Omega.{arith}
use mathlib.Core.Path.{◌≡◌, refl, sym, ◌∙◌}
use mathlib.Core.List.{List, ◌∷◌, map}
use lib.ListN.{length, get_or, set, drop, length-append, length-map}
use lib.Seq.{sets, length-sets}
use Rattle.lists.proofs.Loops.{array_next, array_over, Ahead, ahead_next, ahead_done}
use Rattle.lists.proofs.Stores.{sets_append}
use Rattle.rules.specs.declared.Enlistment.{Enlistment}
use Rattle.rules.specs.Sizes.{identifier_size, record_size, entry_size}
use Rattle.rules.specs.Log.{Record, commit_tag, forget_tag, entry_bytes, entries_bytes, record_bytes, written}
use Rattle.rules.specs.Events.{entry_of}

abbrev entries : List Enlistment → List ℕ
entries es = entries_bytes (map entry_of es)

-- a loop that stores entries
pub record Entered (n : ℕ) (vs : List Enlistment) (l₀ : List ℕ) (at : ℕ) (l : List ℕ) (k : ℕ) : Type 0 where
  pub within : k ≤ n
  pub long : length vs ≡ n
  pub size : length l ≡ length l₀
  pub ahead : Ahead (λ es. sets l (at + entry_size * k) (entries es)) vs (sets l₀ at (entries vs)) k
  pub sizes : Ahead (λ es. entry_size * k + length (entries es)) vs (length (entries vs)) k

module _ {n : ℕ} {vs : List Enlistment} {l₀ : List ℕ} {at : ℕ} where
  pub enter_start : length vs ≡ n → Entered n vs l₀ at l₀ 0
  enter_start h = record { within = omega arith; long = h; size = refl; ahead = record { same = let e : at + entry_size * 0 ≡ at = omega arith in rw e }; sizes = record { same = omega arith } }

  pub enter_again : {l l' : List ℕ} {k : ℕ} {e : Enlistment} (d : Enlistment) → Entered n vs l₀ at l k → k < n
      → e ≡ get_or vs k d → l' ≡ sets l (at + entry_size * k) (entry_bytes (entry_of e)) → length (entry_bytes (entry_of e)) ≡ entry_size → Entered n vs l₀ at l' (k + 1)
  unfolding entries_bytes
  enter_again {l} {l'} {k} {e} d p h g q w =
      let f : at + entry_size * (k + 1) ≡ at + entry_size * k + entry_size = omega arith in
      let n : drop k vs ≡ e ∷ drop (k + 1) vs = rw g (array_next vs p.long d h) in
      record {
        within = omega arith;
        long = p.long;
        size = rw q (length-sets l (at + entry_size * k) (entry_bytes (entry_of e)) ∙ p.size);
        ahead = ahead_next p.ahead n (rw (f, q, sets_append, w));
        sizes = ahead_next p.sizes n (rw (length-append, w) (omega arith));
      }

  pub enter_done : {l : List ℕ} {k : ℕ} → Entered n vs l₀ at l k → n ≤ k → (l ≡ sets l₀ at (entries vs)) × (length (entries vs) ≡ entry_size * n)
  unfolding entries_bytes
  enter_done {l} {k} p h = (ahead_done p.ahead (array_over vs p.long h) refl, sym (ahead_done p.sizes (array_over vs p.long h) (omega (arith, p.within))))

-- a record, stored piece by piece
pub commit_stored : (l : List ℕ) (used n : ℕ) (id : List ℕ) (es : List Enlistment) {l1 l2 l3 l4 : List ℕ}
    → l1 ≡ set l used commit_tag → l2 ≡ set l1 (used + 1) n → l3 ≡ sets l2 (used + 2) id → length id ≡ identifier_size → l4 ≡ sets l3 (used + record_size) (entries es) → length es ≡ n
    → l4 ≡ written used (record_bytes (Record.commit id (map entry_of es))) l
unfolding written record_bytes
commit_stored l used n id es a b c s d e =
    let e1 : used + 1 ≡ suc used = omega arith in
    let e2 : used + 2 ≡ suc (suc used) = omega arith in
    let e3 : used + record_size ≡ suc (suc used) + length id = omega arith in
    let e4 : length (map entry_of es) ≡ n = simp length-map e in
    d ∙ rw (c, b, a, e3, e1, e2, e4) (sym (sets_append (set (set l used commit_tag) (suc used) n) (suc (suc used)) id (entries es)))

pub forget_stored : (l : List ℕ) (used : ℕ) (id : List ℕ) {l1 l2 l3 : List ℕ} → l1 ≡ set l used forget_tag → l2 ≡ set l1 (used + 1) 0 → l3 ≡ sets l2 (used + 2) id → l3 ≡ written used (record_bytes (Record.forget id)) l
unfolding written record_bytes
forget_stored l used id a b c =
    let e1 : used + 1 ≡ suc used = omega arith in
    let e2 : used + 2 ≡ suc (suc used) = omega arith in
    c ∙ rw (b, a, e1, e2)

pub commit_length : (id : List ℕ) (n : ℕ) (es : List Enlistment) → length id ≡ identifier_size → length (entries es) ≡ entry_size * n → record_size + entry_size * n ≡ length (record_bytes (Record.commit id (map entry_of es)))
unfolding record_bytes
commit_length id n es h k = omega (arith, length-append id (entries es))
