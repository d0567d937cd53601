-- What was stored stands at its place, with what stood before it in front.
use Prim.Native.Nat.{ℕ, zero, suc, ◌+◌, ◌-◌, ◌≤◌, min}
use native.Mathlib.Omega.{arith}
use mathlib.Core.Path.{◌≡◌, sym, ap, ◌∙◌}
use mathlib.Core.List.{List, [], ◌∷◌, ◌++◌}
use lib.ListN.{length, take, drop, length-append, length-take}
use lib.Seq.{sets-eq, length-sets, take_at, take-nil, take-append-add}
use Rattle.trace_parts.specs.Puts.{Puts}
use Rattle.trace_session.specs.Counts.{Keeps, line_kept}

pub put_long : {bytes before after : List ℕ} {at end : ℕ} → Puts bytes before at end after → length after ≡ length before
put_long {bytes} {before} {after} {at} p = rw p.same (length-sets before at bytes)

pub put_taken : {bytes before after : List ℕ} {at end : ℕ} → Puts bytes before at end after → at + length bytes ≤ length before
    → take end after ≡ take at before ++ bytes
put_taken {bytes} {before} {after} {at} {end} p h =
    let l : length (take at before ++ bytes) ≡ end = simp (length-append, length-take) (omega arith) in
    rw (p.same, sets-eq bytes before at h) (take_at (take at before ++ bytes) (drop (at + length bytes) before) end l)

-- bytes as far as there is room for them
take_room : (m : ℕ) (l : List ℕ) → take (min (length l) m) l ≡ take m l
take_room zero l = let e : min (length l) 0 ≡ 0 = omega arith in rw e
take_room (suc m) [] = take-nil (min 0 (suc m))
take_room (suc m) (x ∷ xs) = let e : min (suc (length xs)) (suc m) ≡ suc (min (length xs) m) = omega arith in rw e (ap (◌∷◌ x) (take_room m xs))

pub keeps_room : {kept n r : ℕ} {before more after : List ℕ} → Puts (take n more) before kept r after → n ≡ min (length more) (line_kept - kept) → Keeps kept before more r after
keeps_room {kept} {n} {more = more} p e =
    let a : take n more ≡ take (line_kept - kept) more = rw e (take_room (line_kept - kept) more) in
    record { puts = rw a at p }

-- what is kept then is the line as it goes on, as far as a line is kept
module _ {kept r : ℕ} {before more after : List ℕ} (k : Keeps kept before more r after) (h : kept ≤ line_kept) where
  fit : kept + length (take (line_kept - kept) more) ≤ line_kept
  fit = simp length-take (omega arith)

  pub keeps_within : r ≤ line_kept
  keeps_within = omega (arith, k.puts.ends, fit)

  pub keeps_same : length before ≡ line_kept → take r after ≡ take line_kept (take kept before ++ more)
  keeps_same l =
      let e : length (take kept before) ≡ kept = simp length-take (omega arith) in
      let b : length (take kept before) + (line_kept - kept) ≡ line_kept = omega arith in
      put_taken k.puts (omega (arith, fit)) ∙ sym (rw b at (take-append-add (take kept before) more (line_kept - kept)))
