-- Demand 3 follows from what has to be shown of a step and of a restart: each keeps, of every transaction alone, what is always true; and so does a run of them, one
-- after the other.
use Prim.Native.Nat.{ℕ}
use native.Mathlib.Omega.{arith}
use mathlib.Core.Path.{◌≡◌, refl, sym, ◌∙◌, ap}
use mathlib.Core.Logic.{◌⊎◌, inl, inr}
use mathlib.Core.Bool.{Bool, true, false, false≢true}
use mathlib.Core.List.Memᴰ
use mathlib.Core.List.{List, [], ◌∷◌, ◌++◌, map, append_assoc, append-nil, nil≢cons}
use lib.Dec.{eqb}
use borrow.Author.Tests.{eqb-true}
use lib.ListN.{length, take}
use Rattle.lists.specs.Members.{◌∈◌}
use Rattle.rules.specs.declared.Table.{Table}
use Rattle.rules.specs.declared.Event.{Event}
use Rattle.rules.specs.declared.Name.{Name}
use Rattle.rules.specs.Identifiers.{Id}
use Rattle.rules.specs.Log.{Entry}
use Rattle.rules.specs.Step.{Step, step_of}
use Rattle.rules.specs.Restart.{Restart, restart_of}
use Rattle.safety.specs.World.{Note, Message, Issued, World, note_of, message_of, used_part, empty, after_step, with_disk, after_leaving, after_restart}
use Rattle.safety.specs.Host.{MayAsk, careful, Makes, MoreStored, Trimmed}
use Rattle.safety.specs.Run.{Run, start, step, store, trim, leave, restart}
use Rattle.rules.specs.Signals.{Committed, Aborted}
use Rattle.safety.specs.Demand3.{Safe, Demand3}
use Rattle.safety.proofs.Alone.{Story, none, open_with, bad, Below, below_trans, below_both, View, out, early, voting, single, committing, aborting, RecordOrNone, Any, Base, Shape}
use Rattle.safety.proofs.Move.{nothing_calm, quiet_nothing, Move, keep_base, keep_shape, make_stay, stay_shape}
use Rattle.safety.proofs.Cut.{Restored, keep_store, keep_leave, shape_leave, keep_restart, shape_restart}

-- ── what has to be shown ────────────────────────────────────────────────────────────────────────────────────────

-- what a move may take for granted of the story
abbrev pub Agrees : View → Story → Type 0
Agrees out l = (rs : List Entry) → l ≡ open_with rs → ⊥
Agrees (early es) l = l ≡ none
Agrees (voting es) l = l ≡ none
Agrees (single es) l = l ≡ none
Agrees (committing es) l = RecordOrNone l es
Agrees aborting l = l ≡ none

pub record Refused (tb : Table) (log : List ℕ) (s : Step) : Type 0 where
  pub table_kept : s.table ≡ tb
  pub log_kept : s.log ≡ log
  pub silent : s.signals ≡ []

pub record Accepted (view_of : Id → Table → View) (story_of : Id → List ℕ → Story) (Formed : List ℕ → Type 0) (tb : Table) (e : Event) (log : List ℕ) (s : Step) : Type 0 where
  pub formed : Formed (used_part s.table s.log)
  pub added : List ℕ
  pub appended : used_part s.table s.log ≡ used_part tb log ++ added
  pub moves : (h : List Note) → Makes careful h e → (t : Id) → Agrees (view_of t tb) (story_of t (used_part tb log))
      → Move t h (note_of tb e) (map (message_of tb e) s.signals) (story_of t (used_part tb log)) (story_of t (used_part s.table s.log)) (view_of t tb) (view_of t s.table)

pub record Restores (view_of : Id → Table → View) (story_of : Id → List ℕ → Story) (Formed : List ℕ → Type 0) (disk : List ℕ) (s : Restart) : Type 0 where
  pub formed : Formed (used_part s.table s.log)
  pub same_story : (t : Id) → story_of t (used_part s.table s.log) ≡ story_of t disk
  pub restored : (t : Id) → Restored (story_of t disk) (view_of t s.table)

pub record Refines : Type 1 where
  pub sound : Table → Bool
  pub view_of : Id → Table → View
  -- what the whole records of a log tell of a transaction
  pub story_of : Id → List ℕ → Story
  -- a header and whole records
  pub Formed : List ℕ → Type 0
  pub header : List ℕ
  pub header_formed : Formed header
  pub story_nothing : (t : Id) → story_of t [] ≡ none
  pub story_prefix : (t : Id) (a b : List ℕ) → Below (story_of t a) (story_of t (a ++ b))
  pub refuses : (tb : Table) (e : Event) (log : List ℕ) → eqb (step_of tb e log).refusal 0 ≡ false → Refused tb log (step_of tb e log)
  pub accepts : (tb : Table) (e : Event) (log : List ℕ) → eqb (step_of tb e log).refusal 0 ≡ true → Formed (used_part tb log)
      → Accepted view_of story_of Formed tb e log (step_of tb e log)
  pub needs_sound : (tb : Table) (e : Event) (log : List ℕ) → eqb (step_of tb e log).refusal 0 ≡ true → sound tb ≡ true
  pub zero_unsound : (tb : Table) → tb.used ≡ 0 → sound tb ≡ false
  pub restart_refuses : (log : List ℕ) (n : ℕ) → eqb (restart_of log n).refusal 0 ≡ false → (restart_of log n).table.used ≡ 0
  pub restart_accepts : (disk spare rest : List ℕ) → Formed (disk ++ rest) → eqb (restart_of (disk ++ spare) (length disk)).refusal 0 ≡ true
      → Restores view_of story_of Formed disk (restart_of (disk ++ spare) (length disk))

-- ── what is always true ─────────────────────────────────────────────────────────────────────────────────────────

module _ (R : Refines) where
  open R use {sound, view_of, story_of, Formed, header, header_formed, story_nothing, story_prefix, refuses, accepts, needs_sound, zero_unsound, restart_refuses, restart_accepts}

  abbrev BaseOf : World → (Id → Story) → Type 0
  BaseOf w l = (t : Id) → Base t (story_of t) (l t) (story_of t w.disk) w.notes w.waiting w.sent w.issued

  abbrev ShapeOf : World → Type 0
  ShapeOf w = (t : Id) → Shape t (view_of t w.table) (story_of t (used_part w.table w.log)) w.notes w.waiting w.sent w.issued

  -- the stored log is a part of something formed, from its start
  pub record Stored (disk : List ℕ) : Type 0 where
    pub rest : List ℕ
    pub whole : Formed (disk ++ rest)

  pub record Alive (w : World) : Type 0 where
    pub formed : Formed (used_part w.table w.log)
    pub stored : Stored w.disk
    pub base : BaseOf w (λ t. story_of t (used_part w.table w.log))
    pub shape : ShapeOf w

  -- before the first restart, and after a refused one
  pub record Dead (w : World) : Type 0 where
    pub none_used : w.table.used ≡ 0
    pub stored : Stored w.disk
    pub base : BaseOf w (λ t. story_of t w.disk)

  abbrev pub Always : World → Type 0
  Always w = Alive w ⊎ Dead w

  pub agrees : (t : Id) (v : View) (l : Story) (h : List Note) (waiting sent : List Issued) (issued : List Message) → Shape t v l h waiting sent issued → Agrees v l
  agrees t out l h waiting sent issued s = s.not_open
  agrees t (early es) l h waiting sent issued s = s.undecided.log_none
  agrees t (voting es) l h waiting sent issued s = s.undecided.log_none
  agrees t (single es) l h waiting sent issued s = s.undecided.log_none
  agrees t (committing es) l h waiting sent issued s = s.record_or_none
  agrees t aborting l h waiting sent issued s = s.log_none

  -- ── a step ────────────────────────────────────────────────────────────────────────────────────────────────────

  -- a refused one leaves a note that tells nothing, and changes nothing else
  refused_alive : (w : World) (e : Event) (s : Step) → eqb s.refusal 0 ≡ false → Refused w.table w.log s → Alive w → Alive (after_step w w.table e s)
  unfolding after_step
  refused_alive w e s r f a = rw (r, f.table_kept, f.log_kept, f.silent) (record {
    formed = a.formed;
    stored = a.stored;
    base = λ t. make_stay t (story_of t) (story_of t w.disk) (story_of t (used_part w.table w.log)) (story_of t (used_part w.table w.log)) w.notes Note.nothing [] w.issued w.waiting w.sent (used_part w.table w.log) refl (a.base t) (nothing_calm t) (quiet_nothing t) refl;
    shape = λ t. stay_shape t (story_of t) (story_of t w.disk) (story_of t (used_part w.table w.log)) (story_of t (used_part w.table w.log)) w.notes Note.nothing [] w.issued w.waiting w.sent (used_part w.table w.log) refl (view_of t w.table) refl (nothing_calm t) (quiet_nothing t) (a.shape t);
  })

  refused_dead : (w : World) (e : Event) (s : Step) → eqb s.refusal 0 ≡ false → Refused w.table w.log s → Dead w → Dead (after_step w w.table e s)
  unfolding after_step
  refused_dead w e s r f a = rw (r, f.table_kept, f.log_kept, f.silent) (record {
    none_used = a.none_used;
    stored = a.stored;
    base = λ t. make_stay t (story_of t) (story_of t w.disk) (story_of t w.disk) (story_of t w.disk) w.notes Note.nothing [] w.issued w.waiting w.sent w.disk refl (a.base t) (nothing_calm t) (quiet_nothing t) refl;
  })

  accepted_alive : (w : World) (e : Event) (s : Step) → eqb s.refusal 0 ≡ true → Makes careful w.notes e → Accepted view_of story_of Formed w.table e w.log s → Alive w → Alive (after_step w w.table e s)
  unfolding after_step
  accepted_alive w e s r made f a = rw r (record {
    formed = f.formed;
    stored = a.stored;
    base = λ t. keep_base t (story_of t) (story_of t w.disk) (story_of t (used_part w.table w.log)) (story_of t (used_part s.table s.log)) w.notes (note_of w.table e) (map (message_of w.table e) s.signals) w.issued w.waiting w.sent (used_part s.table s.log) refl (a.base t) (a.shape t) (move t);
    shape = λ t. keep_shape t (story_of t) (story_of t w.disk) (story_of t (used_part w.table w.log)) (story_of t (used_part s.table s.log)) w.notes (note_of w.table e) (map (message_of w.table e) s.signals) w.issued w.waiting w.sent (used_part s.table s.log) refl (a.base t) (a.shape t) (move t);
  })
    where
      move : (t : Id) → Move t w.notes (note_of w.table e) (map (message_of w.table e) s.signals) (story_of t (used_part w.table w.log)) (story_of t (used_part s.table s.log)) (view_of t w.table) (view_of t s.table)
      move t = f.moves w.notes made t (agrees t (view_of t w.table) (story_of t (used_part w.table w.log)) w.notes w.waiting w.sent w.issued (a.shape t))

  stepped : (w : World) (e : Event) → ((step_of w.table e w.log).refusal ≡ 0 → Makes careful w.notes e) → Always w → Always (after_step w w.table e (step_of w.table e w.log))
  stepped w e made i = go (eqb (step_of w.table e w.log).refusal 0) refl i
    where
      go : (b : Bool) → eqb (step_of w.table e w.log).refusal 0 ≡ b → Always w → Always (after_step w w.table e (step_of w.table e w.log))
      go true r (inl a) = inl (accepted_alive w e (step_of w.table e w.log) r (made (eqb-true (step_of w.table e w.log).refusal 0 r)) (accepts w.table e w.log r a.formed) a)
      go true r (inr d) = absurd (false≢true (sym (zero_unsound w.table d.none_used) ∙ needs_sound w.table e w.log r))
      go false r (inl a) = inl (refused_alive w e (step_of w.table e w.log) r (refuses w.table e w.log r) a)
      go false r (inr d) = inr (refused_dead w e (step_of w.table e w.log) r (refuses w.table e w.log r) d)

  -- ── storing and trimming ──────────────────────────────────────────────────────────────────────────────────────

  nil_append : (a b : List ℕ) → a ++ b ≡ [] → (a ≡ []) × (b ≡ [])
  nil_append [] b e = (refl, e)
  nil_append (x ∷ a) b e = absurd (nil≢cons (sym e))

  stored_alive : (w : World) (disk : List ℕ) → MoreStored w disk → Alive w → Alive (with_disk disk w)
  unfolding with_disk
  stored_alive w disk (d, rest, p, q) a = record {
    formed = a.formed;
    stored = record { rest = rest; whole = rw q a.formed };
    base = λ t. keep_store t (story_of t) (story_of t (used_part w.table w.log)) (story_of t w.disk) w.notes w.issued w.waiting w.sent (a.base t)
        (story_of t disk) (rw p (story_prefix t w.disk d)) (rw q at (story_prefix t disk rest));
    shape = a.shape;
  }

  stored_dead : (w : World) (disk : List ℕ) → MoreStored w disk → Dead w → Dead (with_disk disk w)
  unfolding with_disk
  stored_dead w disk (d, rest, p, q) a = rw same (record { none_used = a.none_used; stored = a.stored; base = a.base })
    where
      nothing_left : disk ++ rest ≡ []
      nothing_left = q ∙ ap (λ n. take n w.log) a.none_used

      nothing_new : d ≡ []
      nothing_new = (nil_append w.disk d (sym p ∙ (nil_append disk rest nothing_left).0)).1

      same : disk ≡ w.disk
      same = p ∙ ap (λ l. w.disk ++ l) nothing_new ∙ append-nil w.disk

  -- a trimmed log tells what it told
  trimmed_alive : (w : World) (disk : List ℕ) → Trimmed w disk → Alive w → Alive (with_disk disk w)
  unfolding with_disk
  trimmed_alive w disk (used, a, rest, p, q) l = record {
    formed = l.formed;
    stored = record { rest = rest ++ l.stored.rest; whole = rw (sym (append_assoc disk rest l.stored.rest) ∙ ap (λ k. k ++ l.stored.rest) q) l.stored.whole };
    base = λ t. rw (same t) (l.base t);
    shape = l.shape;
  }
    where
      same : (t : Id) → story_of t disk ≡ story_of t w.disk
      same t = below_both (story_of t disk) (story_of t w.disk) (rw q at (story_prefix t disk rest))
          (below_trans (story_of t w.disk) (story_of t (used_part w.table w.log)) (story_of t disk) (l.base t).below (rw p (story_prefix t (used_part w.table w.log) a)))

  stored_inv : (w : World) (disk : List ℕ) → MoreStored w disk → Always w → Always (with_disk disk w)
  stored_inv w disk m (inl a) = inl (stored_alive w disk m a)
  stored_inv w disk m (inr d) = inr (stored_dead w disk m d)

  trimmed_inv : (w : World) (disk : List ℕ) → Trimmed w disk → Always w → Always (with_disk disk w)
  trimmed_inv w disk m (inl a) = inl (trimmed_alive w disk m a)
  trimmed_inv w disk m (inr d) = absurd (m.0 d.none_used)

  -- ── leaving ───────────────────────────────────────────────────────────────────────────────────────────────────

  left_inv : (w : World) (i : Issued) → i ∈ w.waiting → (rest : List ℕ) → w.disk ≡ i.image ++ rest → Always w → Always (after_leaving i w)
  unfolding after_leaving
  left_inv w i m rest p (inl a) = inl (record {
    formed = a.formed;
    stored = a.stored;
    base = λ t. keep_leave t (story_of t) (story_of t (used_part w.table w.log)) (story_of t w.disk) w.notes w.issued w.waiting w.sent (a.base t) i m (rw p (story_prefix t i.image rest));
    shape = λ t. shape_leave t (story_of t) (story_of t (used_part w.table w.log)) (story_of t w.disk) w.notes w.issued w.waiting w.sent (view_of t w.table) (a.shape t) i m;
  })
  left_inv w i m rest p (inr a) = inr (record {
    none_used = a.none_used;
    stored = a.stored;
    base = λ t. keep_leave t (story_of t) (story_of t w.disk) (story_of t w.disk) w.notes w.issued w.waiting w.sent (a.base t) i m (rw p (story_prefix t i.image rest));
  })

  -- ── restarting ────────────────────────────────────────────────────────────────────────────────────────────────

  stored_of : (w : World) → Always w → Stored w.disk
  stored_of w (inl a) = a.stored
  stored_of w (inr d) = d.stored

  base_restart : (w : World) → Always w → (t : Id) → Base t (story_of t) (story_of t w.disk) (story_of t w.disk) w.notes [] w.sent w.issued
  base_restart w (inl a) t = keep_restart t (story_of t) (story_of t (used_part w.table w.log)) (story_of t w.disk) w.notes w.issued w.waiting w.sent (a.base t)
  base_restart w (inr d) t = keep_restart t (story_of t) (story_of t w.disk) (story_of t w.disk) w.notes w.issued w.waiting w.sent (d.base t)

  restart_alive : (w : World) (s : Restart) → Restores view_of story_of Formed w.disk s → Always w → Alive (after_restart w s)
  unfolding after_restart
  restart_alive w s f i = record {
    formed = f.formed;
    stored = stored_of w i;
    base = λ t. rw (f.same_story t) (base_restart w i t);
    shape = λ t. rw (f.same_story t) (shape_restart t (story_of t) (story_of t w.disk) (story_of t w.disk) w.notes w.issued [] w.sent (base_restart w i t) (view_of t s.table) (f.restored t));
  }

  restart_dead : (w : World) (s : Restart) → s.table.used ≡ 0 → Always w → Dead (after_restart w s)
  unfolding after_restart
  restart_dead w s u i = record { none_used = u; stored = stored_of w i; base = base_restart w i }

  restarted : (w : World) (spare : List ℕ) → Always w → Always (after_restart w (restart_of (w.disk ++ spare) (length w.disk)))
  restarted w spare i = go (eqb (restart_of (w.disk ++ spare) (length w.disk)).refusal 0) refl
    where
      go : (b : Bool) → eqb (restart_of (w.disk ++ spare) (length w.disk)).refusal 0 ≡ b → Always (after_restart w (restart_of (w.disk ++ spare) (length w.disk)))
      go true r = inl (restart_alive w (restart_of (w.disk ++ spare) (length w.disk)) (restart_accepts w.disk spare (stored_of w i).rest (stored_of w i).whole r) i)
      go false r = inr (restart_dead w (restart_of (w.disk ++ spare) (length w.disk)) (restart_refuses (w.disk ++ spare) (length w.disk) r) i)

  -- ── the whole ─────────────────────────────────────────────────────────────────────────────────────────────────

  empty_inv : Always empty
  unfolding empty
  empty_inv = inr (record {
    none_used = refl;
    stored = record { rest = header; whole = header_formed };
    base = λ t. rw (story_nothing t) (record {
      fine = λ p. never p;
      below = tt;
      begun_log = λ g. absurd g;
      begun_committed = λ c. absurd (none_left t Committed c);
      begun_aborted = λ c. absurd (none_left t Aborted c);
      begun_enlisted = λ n r k i. absurd (Memᴰ.not-nil i);
      begun_ask = λ r m. absurd (no_ask m);
      both = λ c a. none_left t Committed c;
      good_committed = λ c. absurd (none_left t Committed c);
      good_log = λ g. absurd g;
      kept = λ g a. none_left t Aborted a;
      asks = tt;
      waits = λ i m a c. absurd (Memᴰ.not-nil m);
      leaves = λ i m a c. absurd (Memᴰ.not-nil m);
    });
  })
    where
      never : none ≡ bad → ⊥
      never p = let z : ◌≡◌ {A = ℕ} 0 1 = cc in omega arith

      none_left : (t : Id) (P : Name → Type 0) → Any t P [] [] → ⊥
      none_left t P (inl s) = Memᴰ.not-nil s.there
      none_left t P (inr s) = Memᴰ.not-nil s.there

      no_ask : {t r : Id} → MayAsk t r [] → ⊥
      no_ask m = elim m [ ]

  pub always : {w : World} → Run careful w → Always w
  always start = empty_inv
  always (step {w} r e tb log (p, q) made) = rw (p, q) (stepped w e (rw (p, q) at made) (always r))
  always (store {w} r disk m) = stored_inv w disk m (always r)
  always (trim {w} r disk m) = trimmed_inv w disk m (always r)
  always (leave {w} r i m (rest, p)) = left_inv w i m rest p (always r)
  always (restart {w} r log n (spare, p, q)) = rw (p, q) (restarted w spare (always r))

  safe_base : (w : World) (l : Id → Story) → BaseOf w l → Safe w
  safe_base w l b = record { never_both = λ t c a. (b t).both (inr c) (inr a); only_if = λ t c. (b t).good_committed (inr c) }

  safe_inv : (w : World) → Always w → Safe w
  safe_inv w (inl a) = safe_base w (λ t. story_of t (used_part w.table w.log)) a.base
  safe_inv w (inr d) = safe_base w (λ t. story_of t w.disk) d.base

  pub demand3 : Demand3
  unfolding Demand3
  demand3 w r = safe_inv w (always r)
