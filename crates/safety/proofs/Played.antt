-- Sample runs, as they are played: each call is made with what the last one left, so that every host which hands that on makes it.
use Prim.Native.Nat.{ℕ}
use mathlib.Core.List.{List, [], ◌∷◌, ◌++◌}
use lib.ListN.{length}
use Rattle.rules.specs.declared.Event.{Event}
use Rattle.rules.specs.declared.Vote.TheVariants as vote
use Rattle.rules.specs.declared.Name.{Name}
use Rattle.rules.specs.declared.Name.TheVariants as name
use Rattle.rules.specs.Log.{header}
use Rattle.rules.specs.Step.{step_of}
use Rattle.rules.specs.Restart.{restart_of}
use Rattle.rules.proofs.Computing.{computing}
use Rattle.rules.specs.Words.{id, begin, commit, vote}
use Rattle.safety.specs.World.{Issued, World, told, message_of, empty, after_step, with_disk, after_leaving, after_restart}
use Rattle.safety.specs.Host.{Host, Makes}
use Rattle.safety.specs.Run.{Run, start, step, restart}
use Rattle.safety.specs.Words.{enlist, spare}

-- ── calls ───────────────────────────────────────────────────────────────────────────────────────────────────────

unfoldable pub stepped : World → Event → World
stepped w e = after_step w w.table e (step_of w.table e w.log)

unfoldable pub restarted : World → World
restarted w = after_restart w (restart_of (w.disk ++ spare) (length w.disk))

pub does : {host : Host} {w : World} → Run host w → (e : Event) → host.hands w w.table w.log → Makes host w.notes e → Run host (stepped w e)
unfolding stepped
does {host} {w} r e h m = step r e w.table w.log h (λ _. m)

pub restarts : {host : Host} {w : World} → Run host w → host.gives w (w.disk ++ spare) (length w.disk) → Run host (restarted w)
unfolding restarted
restarts {host} {w} r g = restart r (w.disk ++ spare) (length w.disk) g

-- ── messages and records ────────────────────────────────────────────────────────────────────────────────────────

abbrev pub issued : List ℕ → Name → ℕ → Issued
issued image a n = record { image = image; message = record { about = id 7; name = a; number = n } }

unfoldable pub record_of_7 : List ℕ
record_of_7 = 1 ∷ 1 ∷ id 7 ++ (id 21 ++ (1 ∷ 0 ∷ 0 ∷ 0 ∷ []))

abbrev pub commit_of_7 : Issued
commit_of_7 = issued (header ++ record_of_7) name.Commit 1

-- ── 7 is decided, and nothing is stored yet ─────────────────────────────────────────────────────────────────────

unfoldable pub decided : World
decided = stepped (stepped (stepped (stepped (restarted empty) (begin 7)) (enlist 7 1 21)) (commit 7)) (vote 1 vote.Prepared)

pub decides : {host : Host} → ((w : World) → host.hands w w.table w.log) → host.gives empty spare 0 → host.begins [] (id 7) → Run host decided
unfolding decided restarted empty after_restart
decides h g b = does (does (does (does (restarts start g) (begin 7) (h _) b) (enlist 7 1 21) (h _) tt) (commit 7) (h _) tt) (vote 1 vote.Prepared) (h _) tt

-- ── one name for what a sample run computes with ────────────────────────────────────────────────────────────────

unfoldable pub playing : Unit {0}
unfolding computing told message_of empty after_step with_disk after_leaving after_restart stepped restarted record_of_7 decided
playing = tt
