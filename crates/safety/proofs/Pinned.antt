-- Without any one of the premises the claim fails: for each, the checker computes a run of a host that keeps the others, and it sends both a committed and an
-- aborted message of one transaction.
use Prim.Native.Nat.{ℕ}
use mathlib.Core.Path.{◌≡◌, refl}
use mathlib.Core.Logic.{inl, inr}
use mathlib.Core.Bool.{Bool, false}
use mathlib.Core.List.Memᴰ
use mathlib.Core.List.{List, [], ◌∷◌, ◌++◌}
use lib.ListN.{take, drop}
use Rattle.lists.specs.Lists.{any}
use Rattle.lists.specs.Members.{◌∈◌}
use Rattle.lists.proofs.Tests.{no_clash, some_any}
use Rattle.rules.specs.declared.Vote.TheVariants as vote
use Rattle.rules.specs.declared.Name.TheVariants as name
use Rattle.rules.specs.Identifiers.{same_bytes}
use Rattle.rules.specs.Log.{header}
use Rattle.rules.specs.Signals.{Committed, Aborted}
use Rattle.rules.proofs.Identifiers.{same_refl}
use Rattle.rules.specs.Words.{id, begin, commit, rollback, vote, ack, ask}
use Rattle.safety.specs.World.{Note, Issued, World, empty}
use Rattle.safety.specs.Host.{Host, now}
use Rattle.safety.specs.Run.{Run, start, step, store, leave, restart}
use Rattle.safety.specs.Premises.{Breaks, begins_again, asks_any_time, hands_any, gives_any, loses_bytes, sends_at_once, does_not_trim}
use Rattle.safety.specs.Words.{enlist, spare}
use Rattle.safety.proofs.Played.{stepped, restarted, does, restarts, issued, record_of_7, commit_of_7, decides, playing}

-- ── both messages of 7 have left ────────────────────────────────────────────────────────────────────────────────

breaks : {host : Host} {w : World} → Run host w → (later sooner : Issued) → w.sent ≡ later ∷ sooner ∷ []
    → (later.message.about ≡ id 7) × Aborted later.message.name → (sooner.message.about ≡ id 7) × Committed sooner.message.name → Breaks host
breaks {host} {w} r later sooner e a c = (
  w,
  r,
  id 7,
  record { it = sooner; there = rw e (Memᴰ.tail (Memᴰ.head refl)); holds = c },
  record { it = later; there = rw e (Memᴰ.head refl); holds = a },
)

abbrev app_committed : Issued
app_committed = issued header name.AppCommitted 0

abbrev app_aborted : Issued
app_aborted = issued header name.AppAborted 0

-- ── an identifier begun twice ───────────────────────────────────────────────────────────────────────────────────

-- 7 commits, is begun again and rolled back
pub begun_twice : Breaks begins_again
unfolding playing
begun_twice = breaks (leave (does (does (leave (store (does (does (restarts start (spare, refl, refl))
    (begin 7) (refl, refl) tt) (commit 7) (refl, refl) tt) header (header, [], refl, refl))
    app_committed (Memᴰ.head refl) ([], refl)) (begin 7) (refl, refl) tt) (rollback 7) (refl, refl) tt)
    app_aborted (Memᴰ.head refl) ([], refl)) app_aborted app_committed refl (refl, inr (inl refl)) (refl, inr (inl refl))

-- ── an ask after the acknowledgement ────────────────────────────────────────────────────────────────────────────

forget_of_7 : List ℕ
forget_of_7 = 2 ∷ 0 ∷ id 7

-- 7 commits, and is forgotten with the acknowledgement of 21, which asks all the same
pub asked_after : Breaks asks_any_time
unfolding playing forget_of_7
asked_after = breaks (leave (does (store (does (leave (store (decides (λ w. (refl, refl)) (spare, refl, refl) (λ m. Memᴰ.not-nil m))
    (header ++ record_of_7) (header ++ record_of_7, [], refl, refl)) commit_of_7 (Memᴰ.head refl) ([], refl))
    (ack 1) (refl, refl) tt) (header ++ record_of_7 ++ forget_of_7) (forget_of_7, [], refl, refl))
    (ask 7 21) (refl, refl) tt) aborted (Memᴰ.head refl) ([], refl)) aborted commit_of_7 refl (refl, inr (inr refl)) (refl, inl refl)
  where
    aborted : Issued
    aborted = issued (header ++ record_of_7 ++ forget_of_7) name.AnswerAborted 0

-- ── a restart knows nothing of 7 ────────────────────────────────────────────────────────────────────────────────

abbrev answered_aborted : Issued
answered_aborted = issued header name.AnswerAborted 0

-- a signal that leaves before the log of its step is stored: 7 commits and 21 is told, power fails before anything is stored, and 21 asks
pub sent_before : Breaks sends_at_once
unfolding playing
sent_before = breaks (leave (does (restarts (leave (decides (λ w. (refl, refl)) (spare, refl, refl) (λ m. Memᴰ.not-nil m))
    commit_of_7 (Memᴰ.head refl) tt) (spare, refl, refl))
    (ask 7 21) (refl, refl) (now (1, refl))) answered_aborted (Memᴰ.head refl) tt) answered_aborted commit_of_7 refl (refl, inr (inr refl)) (refl, inl refl)

-- stored bytes are lost: 7 commits and 21 is told, the cut takes the stored record, and 21 asks
pub bytes_lost : Breaks loses_bytes
unfolding playing
bytes_lost = breaks (leave (does (restarts (store (leave (store (decides (λ w. (refl, refl)) (spare, refl, refl) (λ m. Memᴰ.not-nil m))
    (header ++ record_of_7) tt) commit_of_7 (Memᴰ.head refl) ([], refl)) header tt) (spare, refl, refl))
    (ask 7 21) (refl, refl) (now (1, refl))) answered_aborted (Memᴰ.head refl) ([], refl)) answered_aborted commit_of_7 refl (refl, inr (inr refl)) (refl, inl refl)

-- a restart that is not given the whole stored log: 7 commits and 21 is told, the restart is given the header alone, and 21 asks
pub part_given : Breaks gives_any
unfolding playing
part_given = breaks (leave (does (restart (leave (store (decides (λ w. (refl, refl)) tt (λ m. Memᴰ.not-nil m))
    (header ++ record_of_7) (header ++ record_of_7, [], refl, refl)) commit_of_7 (Memᴰ.head refl) ([], refl)) (header ++ spare) 8 tt)
    (ask 7 21) (refl, refl) (now (1, refl))) answered_aborted (Memᴰ.head refl) (record_of_7, refl)) answered_aborted commit_of_7 refl (refl, inr (inr refl)) (refl, inl refl)

-- ── a step that gets an earlier one's table ─────────────────────────────────────────────────────────────────────

begun : World
begun = stepped (restarted empty) (begin 7)

-- 7 commits, and is rolled back in the table from before
pub earlier_handed : Breaks hands_any
unfolding playing begun
earlier_handed = breaks (leave (step (leave (store (does (does (restarts start (spare, refl, refl))
    (begin 7) tt (λ m. Memᴰ.not-nil m)) (commit 7) tt tt) header (header, [], refl, refl))
    app_committed (Memᴰ.head refl) ([], refl)) (rollback 7) begun.table begun.log tt (λ _. tt))
    app_aborted (Memᴰ.head refl) ([], refl)) app_aborted app_committed refl (refl, inr (inl refl)) (refl, inr (inl refl))

-- ── a log that is not trimmed ───────────────────────────────────────────────────────────────────────────────────

record_of_8 : List ℕ
record_of_8 = 1 ∷ 2 ∷ id 8 ++ (id 21 ++ (1 ∷ 0 ∷ 0 ∷ 0 ∷ [])) ++ (id 22 ++ (2 ∷ 0 ∷ 0 ∷ 0 ∷ []))

-- 3,000,000,000, whose four bytes are 0, 94, 208, 178
large_of_7 : List ℕ
large_of_7 = 1 ∷ 1 ∷ id 7 ++ (id 23 ++ (0 ∷ 94 ∷ 208 ∷ 178 ∷ []))

begins_7 : Note → Bool
begins_7 (Note.begun t) = same_bytes t (id 7)
begins_7 (Note.enlisted t n r k) = false
begins_7 (Note.voted t n r k v) = false
begins_7 (Note.replied t n r) = false
begins_7 (Note.acked t n r k) = false
begins_7 (Note.reenlisted r) = false
begins_7 Note.nothing = false

not_begun : (h : List Note) → any begins_7 h ≡ false → Note.begun (id 7) ∈ h → ⊥
unfolding begins_7
not_begun h e m = no_clash (any begins_7 h) (some_any begins_7 h (record { it = Note.begun (id 7); there = m; holds = same_refl (id 7) })) e

-- The record of 8 is torn behind its 20th byte. That of 7, which is stored behind it, makes it whole: a record of 8 with two entries.
-- So 7 commits and 23 is told, but after the next restart nobody knows of 7, and 23 asks.
pub not_trimmed : Breaks does_not_trim
unfolding playing record_of_8 large_of_7 begins_7
not_trimmed = breaks (leave (does (restarts (leave (store (does (does (does (does (restarts (store (does (does (does (does (does (does (restarts start (spare, refl, refl))
    (begin 8) (refl, refl) (λ m. Memᴰ.not-nil m)) (enlist 8 1 21) (refl, refl) tt) (enlist 8 2 22) (refl, refl) tt) (commit 8) (refl, refl) tt)
    (vote 1 vote.Prepared) (refl, refl) tt) (vote 2 vote.Prepared) (refl, refl) tt)
    (header ++ take 20 record_of_8) (header ++ take 20 record_of_8, drop 20 record_of_8, 0, refl, refl)) (spare, refl, refl))
    (begin 7) (refl, refl) (not_begun _ refl)) (enlist 7 3000000000 23) (refl, refl) tt) (commit 7) (refl, refl) tt) (vote 3000000000 vote.Prepared) (refl, refl) tt)
    (header ++ take 20 record_of_8 ++ large_of_7) (large_of_7, [], 8, refl, refl)) committed (Memᴰ.head refl) (header ++ take 20 record_of_8, [], refl)) (spare, refl, refl))
    (ask 7 23) (refl, refl) (now (3000000000, refl))) aborted (Memᴰ.head refl) (header, [], refl)) aborted committed refl (refl, inr (inr refl)) (refl, inl refl)
  where
    committed : Issued
    committed = issued (header ++ large_of_7) name.Commit 3000000000

    aborted : Issued
    aborted = issued (header ++ take 20 record_of_8 ++ large_of_7) name.AnswerAborted 0
