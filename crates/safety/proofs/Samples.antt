-- The claim is not an empty one: the checker computes runs of a careful host that send a committed message, and runs that send an aborted one.
use native.Mathlib.Omega.{arith}
use mathlib.Core.Path.{◌≡◌, refl}
use mathlib.Core.Logic.{inl, inr}
use mathlib.Core.List.Memᴰ
use mathlib.Core.List.{[], ◌++◌}
use lib.ListN.{take, drop}
use Rattle.lists.specs.Members.{◌∈◌}
use Rattle.rules.specs.declared.Name.{Name}
use Rattle.rules.specs.declared.Name.TheVariants as name
use Rattle.rules.specs.declared.Reply.TheVariants as reply
use Rattle.rules.specs.Log.{header}
use Rattle.rules.specs.Signals.{Committed, Aborted}
use Rattle.rules.specs.Words.{id, begin, commit, rollback, reply, ask}
use Rattle.safety.specs.World.{Issued, World, empty, after_leaving}
use Rattle.safety.specs.Host.{careful, now}
use Rattle.safety.specs.Run.{Run, start, store, trim, leave}
use Rattle.safety.specs.Demand3.{About}
use Rattle.safety.specs.Words.{enlist, enlist_single, spare}
use Rattle.safety.proofs.Played.{does, restarts, issued, record_of_7, commit_of_7, decided, decides, playing}

-- a run reaches a world in which a message about 7 has left whose name is P
abbrev Sends : (Name → Type 0) → Type 0
Sends P = (w : World) × Run careful w × About (id 7) P w.sent

sends : (P : Name → Type 0) {w : World} → Run careful w → (i : Issued) → i ∈ w.waiting → careful.leaves w i → (i.message.about ≡ id 7) × P i.message.name → Sends P
unfolding after_leaving
sends P r i m l p = (_, leave r i m l, record { it = i; there = Memᴰ.head refl; holds = p })

decided_carefully : Run careful decided
unfolding empty
decided_carefully = decides (λ w. (refl, refl)) (spare, refl, refl) (λ m. Memᴰ.not-nil m)

-- ── committed in two phases ─────────────────────────────────────────────────────────────────────────────────────

pub two_phase : Sends Committed
unfolding playing
two_phase = sends Committed (store decided_carefully (header ++ record_of_7) (header ++ record_of_7, [], refl, refl)) commit_of_7 (Memᴰ.head refl) ([], refl) (refl, inl refl)

-- ── in single phase ─────────────────────────────────────────────────────────────────────────────────────────────

pub single_phase : Sends Committed
unfolding playing
single_phase = sends Committed (store (does (does (does (does (restarts start (spare, refl, refl))
    (begin 7) (refl, refl) (λ m. Memᴰ.not-nil m)) (enlist_single 7 1 21) (refl, refl) tt) (commit 7) (refl, refl) tt) (reply 1 reply.Committed) (refl, refl) tt)
    header (header, [], refl, refl)) (issued header name.AppCommitted 0) (Memᴰ.head refl) ([], refl) (refl, inr (inl refl))

-- ── through a cut, a restart and an ask ─────────────────────────────────────────────────────────────────────────

pub restart_and_ask : Sends Committed
unfolding playing
restart_and_ask = sends Committed (does (restarts (store decided_carefully (header ++ record_of_7) (header ++ record_of_7, [], refl, refl)) (spare, refl, refl))
    (ask 7 21) (refl, refl) (now (1, refl))) (issued (header ++ record_of_7) name.AnswerCommitted 1) (Memᴰ.head refl) ([], refl) (refl, inr (inr refl))

-- ── aborted ─────────────────────────────────────────────────────────────────────────────────────────────────────

pub rolled_back : Sends Aborted
unfolding playing
rolled_back = sends Aborted (store (does (does (does (restarts start (spare, refl, refl))
    (begin 7) (refl, refl) (λ m. Memᴰ.not-nil m)) (enlist 7 1 21) (refl, refl) tt) (rollback 7) (refl, refl) tt)
    header (header, [], refl, refl)) (issued header name.Abort 1) (Memᴰ.head refl) ([], refl) (refl, inl refl)

-- ── power fails inside the commit record: 20 of its 38 bytes are stored, and the resource manager asks ──────────

pub inside_the_record : Sends Aborted
unfolding playing
inside_the_record = sends Aborted (does (trim (restarts
    (store decided_carefully (header ++ take 20 record_of_7) (header ++ take 20 record_of_7, drop 20 record_of_7, refl, refl)) (spare, refl, refl))
    header ((λ z. omega arith), [], take 20 record_of_7, refl, refl)) (ask 7 21) (refl, refl) (now (1, refl)))
    (issued header name.AnswerAborted 0) (Memᴰ.head refl) ([], refl) (refl, inr (inr refl))

-- ── power fails inside the header: 3 of its 8 bytes are stored ──────────────────────────────────────────────────

pub inside_the_header : Sends Committed
unfolding playing
inside_the_header = sends Committed (store (does (does (restarts (store (restarts start (spare, refl, refl))
    (take 3 header) (take 3 header, drop 3 header, refl, refl)) (spare, refl, refl))
    (begin 7) (refl, refl) (λ m. Memᴰ.not-nil m)) (commit 7) (refl, refl) tt)
    header (drop 3 header, [], refl, refl)) (issued header name.AppCommitted 0) (Memᴰ.head refl) ([], refl) (refl, inr (inl refl))
