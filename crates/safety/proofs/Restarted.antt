-- The table of every accepted restart is sound, whatever log it was given: the judgements say of the open transactions what soundness asks, and 13 leaves room
-- for their forget records.
use Prim.Native.Nat.{ℕ, ◌<◌, ◌≤◌}
use native.Mathlib.Omega.{arith}
use mathlib.Core.Path.{◌≡◌}
use mathlib.Core.List.{List, []}
use lib.ListN.{length}
use borrow.Author.Tests.{ltb-false}
use Rattle.lists.specs.Members.{Each}
use Rattle.lists.proofs.Tests.{each_take, each_drop}
use Rattle.rules.specs.RefusalNumber as refusal
use Rattle.rules.specs.Sizes.{header_size}
use Rattle.rules.specs.Table.{fresh_of}
use Rattle.rules.specs.Sound.{Sound}
use Rattle.rules.specs.Log.{scan}
use Rattle.rules.specs.Restart.{restart_of, open_after, used_of, body_of}
use Rattle.rules.proofs.Soundness.{sound_sentences}
use Rattle.rules.proofs.Preserved.{fresh_sound}
use Rattle.rules.proofs.Records.{Valid, scan_valid}
use Rattle.rules.proofs.Restarts.{Accepted, accepted, undamaged}
use Rattle.safety.proofs.Open.{fit_nothing, fit_all}
use Rattle.safety.proofs.Reopened.{reopened_sound}

pub of_accepted : (log : List ℕ) (stored : ℕ) → (header_size ≤ stored → Each Valid (scan 0 (body_of log stored))) → Accepted log stored → Sound (restart_of log stored).table
of_accepted log stored valid (Accepted.fresh i h e) = rw e (sound_sentences (fresh_of (length log)) (fresh_sound (length log) i.least i.most))
of_accepted log stored valid (Accepted.read i h s d t e) =
    let body : List ℕ = body_of log stored in
    rw e (reopened_sound (length log) (used_of body) (open_after [] (scan 0 body)) (fit_all [] (scan 0 body) fit_nothing (valid h) (undamaged body d)) (omega arith) (ltb-false _ _ t) i.most)

-- of bytes, as a log is lent
pub restarted_sound : (log : List ℕ) (stored : ℕ) → Each (λ b. b < 256) log → (restart_of log stored).refusal ≡ refusal.accepted → Sound (restart_of log stored).table
restarted_sound log stored small q = of_accepted log stored (λ h. scan_valid 0 (body_of log stored) (each_drop header_size (each_take stored small))) (accepted log stored q)
