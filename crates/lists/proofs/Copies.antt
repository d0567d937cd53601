-- What is copied into a part of a list is stored there, one element behind the other.
use Prim.Native.Nat.{ℕ, ◌+◌, ◌-◌, ◌≤◌}
use native.Mathlib.Omega.{arith}
use mathlib.Core.Path.{◌≡◌}
use mathlib.Core.List.{List, append_assoc}
use lib.ListN.{length}
use lib.Seq.{sets, sets-eq, drop-drop}
use borrow.Rule.Slice.PartMut.{put_mid}

-- into the n from index `at` on
pub copied : {A : Type 0} (xs ys : List A) (at n : ℕ) → at + n ≤ length xs → length ys ≡ n → put_mid at (at + n - at) xs ys ≡ sets xs at ys
copied xs ys at n h l =
    let long : at + n - at ≡ length ys = omega arith in
    rw (long, sets-eq ys xs at (omega arith), append_assoc, drop-drop)
