-- Loops over the open records: the next is read from the log, and what is left gives the whole.
use Prim.Native.Nat.{ℕ, ◌+◌, ◌*◌, ◌≤◌, ◌<◌}
use native.Mathlib.Omega.{arith}
use mathlib.Core.Path.{◌≡◌, refl, sym, ap}
use mathlib.Core.Bool.{Bool, ◌||◌, or_assoc}
use mathlib.Core.List.{List, [], ◌∷◌, ◌++◌}
use lib.ListN.{length, get_or, drop, length-map, length-append}
use Rattle.std.specs.List.{list_any}
use Rattle.lists.specs.Lists.{any}
use Rattle.lists.proofs.Chains.{any_listed}
use Rattle.lists.proofs.Loops.{drop_at, drop_done, drop_map, Ahead, ahead_next, ahead_done}
use Rattle.rules.specs.Sizes.{transaction_places}
use Rattle.rules.specs.Restart.{Open, entries_open}
use Rattle.rules.specs.Log.{Entry}
use Rattle.log_reader.specs.Reading.{entries_count, entries_at}
use Rattle.entries.proofs.Rows.{entries_long}
use Rattle.open_records.specs.declared.OpenRecords.{OpenRecords}
use Rattle.open_records.specs.Opening.{starts_of, open_at, opens_of}

-- ── the open records ────────────────────────────────────────────────────────────────────────────────────────────

pub opens_long : (log : List ℕ) (rs : OpenRecords) → length (opens_of log rs) ≡ length (starts_of rs)
unfolding opens_of
opens_long log rs = length-map (starts_of rs) (open_at log)

-- their places, as a loop reads them
module _ (rs : OpenRecords) (i : ℕ) {places : List ℕ} (e : places ≡ starts_of rs) where
  pub start_next : i < length places → drop i (starts_of rs) ≡ get_or places i 0 ∷ drop (i + 1) (starts_of rs)
  start_next h = rw (← e) (drop_at places i 0 h)

  pub starts_over : length places ≤ i → drop i (starts_of rs) ≡ []
  starts_over h = rw (← e) (drop_done places i h)

  module _ (log : List ℕ) where
    pub open_next : i < length places → drop i (opens_of log rs) ≡ open_at log (get_or places i 0) ∷ drop (i + 1) (opens_of log rs)
    unfolding opens_of
    open_next h = rw (drop_map (open_at log) i (starts_of rs), drop_map (open_at log) (i + 1) (starts_of rs), start_next h)

    pub opens_over : length places ≤ i → drop i (opens_of log rs) ≡ []
    opens_over h = drop_done (opens_of log rs) i (omega (arith, opens_long log rs, ap length e))

-- whether one of them passes a test
pub any_starts : (f : Open → Bool) (log : List ℕ) (rs : OpenRecords) → list_any (λ p. f (open_at log p)) (starts_of rs) ≡ any f (opens_of log rs)
unfolding opens_of
any_starts f log rs = any_listed f (open_at log) (starts_of rs)

-- ── the entries of all open records ─────────────────────────────────────────────────────────────────────────────

any_append : {A : Type 0} (f : A → Bool) (xs ys : List A) → any f (xs ++ ys) ≡ (any f xs || any f ys)
unfolding any
any_append f [] ys = refl
any_append f (x ∷ xs) ys = rw (any_append f xs ys) (sym (or_assoc (f x) (any f xs) (any f ys)))

pub any_entries : (f : Entry → Bool) (os : List Open) → any f (entries_open os) ≡ any (λ o. any f o.entries) os
unfolding any entries_open
any_entries f [] = refl
any_entries f (o ∷ os) = rw (any_append f o.entries (entries_open os), any_entries f os)

-- how many: those so far, and those that are left
pub record Summed (os : List Open) (sum i : ℕ) : Type 0 where
  pub within : i ≤ transaction_places
  pub few : sum ≤ 255 * i
  pub ahead : Ahead (λ os. sum + length (entries_open os)) os (length (entries_open os)) i

pub summed_next : {os : List Open} {sum i m : ℕ} (log : List ℕ) (p : ℕ) → Summed os sum i → i < transaction_places → drop i os ≡ open_at log p ∷ drop (i + 1) os → m ≡ entries_count log p → m ≤ 255
    → Summed os (sum + m) (i + 1)
unfolding entries_open
summed_next {os} {sum} {i} {m} log p s h n e few =
    record { within = omega arith; few = omega (arith, s.few); ahead = ahead_next s.ahead n (omega (arith, length-append (entries_at log p) (entries_open (drop (i + 1) os)), entries_long log p)) }

pub summed_done : {os : List Open} {sum i : ℕ} → Summed os sum i → drop i os ≡ [] → (sum ≡ length (entries_open os)) × (sum ≤ transaction_places * 255)
unfolding entries_open
summed_done s n = (ahead_done s.ahead n (omega arith), omega (arith, s.few, s.within))
