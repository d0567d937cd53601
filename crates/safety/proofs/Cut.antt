-- A cut keeps what is always true of one transaction. The stored log tells less than the log, and storing adds to it; a message leaves with its log stored; and a
-- restart goes back to what the stored log tells, in which whatever was said of the transaction stands.
use Prim.Native.Nat.{ℕ}
use mathlib.Core.Path.{◌≡◌, refl}
use mathlib.Core.Logic.{◌⊎◌, inl, inr}
use mathlib.Core.List.Memᴰ
use mathlib.Core.List.{List, [], ◌∷◌}
use Rattle.lists.specs.Members.{◌∈◌, Some}
use Rattle.rules.specs.declared.Enlistment.{Enlistment}
use Rattle.rules.specs.declared.Name.{Name}
use Rattle.rules.specs.Identifiers.{Id}
use Rattle.rules.specs.Sound.{Durable}
use Rattle.safety.specs.World.{Note, Message, Issued}
use Rattle.safety.specs.Host.{MayAsk}
use Rattle.rules.specs.Signals.{Committed, Aborted}
use Rattle.safety.proofs.Alone.{Story, none, open_with, closed, bad, Below, below_refl, Logged, logged_up, fine_down, none_not_open, closed_not_open, View, out, early, voting, single, committing, aborting, Waits, managers_of, Entered, NoAsk, AsksIn, Any, Base, Undecided, Shape}
use Rattle.lists.proofs.Tests.{by_either}

-- What a restart makes of a story
abbrev pub Restored : Story → View → Type 0
Restored none v = v ≡ out
Restored (open_with rs) v = (es : List Enlistment) × (v ≡ committing es) × ((r : Id) → r ∈ managers_of rs → Some (Waits r) es) × Some Durable es × Entered rs es
Restored closed v = v ≡ out
Restored bad v = Unit {0}

module _ (t : Id) (story_of : List ℕ → Story) (log disk : Story) (h : List Note) (issued : List Message) (waiting sent : List Issued) where
  abbrev pub Before : Type 0
  Before = Base t story_of log disk h waiting sent issued

  pub keep_store : Before → (disk' : Story) → Below disk disk' → Below disk' log → Base t story_of log disk' h waiting sent issued
  keep_store b disk' p q = record {
    fine = b.fine;
    below = q;
    begun_log = b.begun_log;
    begun_committed = b.begun_committed;
    begun_aborted = b.begun_aborted;
    begun_enlisted = b.begun_enlisted;
    begun_ask = b.begun_ask;
    both = b.both;
    good_committed = b.good_committed;
    good_log = b.good_log;
    kept = b.kept;
    asks = b.asks;
    waits = b.waits;
    leaves = λ i m a c. by_either inl (λ g. inr (logged_up disk disk' p g)) (b.leaves i m a c);
  }

  -- what has left was waiting
  left : (P : Name → Type 0) (i : Issued) → i ∈ waiting → Any t P waiting (i ∷ sent) → Any t P waiting sent
  left P i m (inl s) = inl s
  left P i m (inr s) = go (Memᴰ.cases_cons s.there)
    where
      go : (s.it ≡ i) ⊎ (s.it ∈ sent) → Any t P waiting sent
      go (inl e) = inl (record { it = i; there = m; holds = rw e at s.holds })
      go (inr p) = inr (record { it = s.it; there = p; holds = s.holds })

  pub keep_leave : Before → (i : Issued) → i ∈ waiting → Below (story_of i.image) disk → Base t story_of log disk h waiting (i ∷ sent) issued
  keep_leave b i m p = record {
    fine = b.fine;
    below = b.below;
    begun_log = b.begun_log;
    begun_committed = λ c. b.begun_committed (left Committed i m c);
    begun_aborted = λ c. b.begun_aborted (left Aborted i m c);
    begun_enlisted = b.begun_enlisted;
    begun_ask = b.begun_ask;
    both = λ c a. b.both (left Committed i m c) (left Aborted i m a);
    good_committed = λ c. b.good_committed (left Committed i m c);
    good_log = b.good_log;
    kept = λ g a. b.kept g (left Aborted i m a);
    asks = b.asks;
    waits = b.waits;
    leaves = λ j q a c. by_either
        (λ e. by_either inl (λ g. inr (logged_up (story_of i.image) disk p g)) (b.waits i m (rw e at a) (rw e at c)))
        (λ q'. b.leaves j q' a c) (Memᴰ.cases_cons q);
  }

  undecided_leave : (i : Issued) → i ∈ waiting → Undecided t log h waiting sent → Undecided t log h waiting (i ∷ sent)
  undecided_leave i m u = record { log_none = u.log_none; begun = u.begun; no_committed = λ c. u.no_committed (left Committed i m c); no_aborted = λ c. u.no_aborted (left Aborted i m c) }

  pub shape_leave : (v : View) → Shape t v log h waiting sent issued → (i : Issued) → i ∈ waiting → Shape t v log h waiting (i ∷ sent) issued
  shape_leave out s i m = record { not_open = s.not_open; no_ask = λ c. s.no_ask (left Committed i m c) }
  shape_leave (early es) s i m = record { undecided = undecided_leave i m s.undecided; no_ask = s.no_ask; held = s.held; noted = s.noted }
  shape_leave (voting es) s i m = record { undecided = undecided_leave i m s.undecided; held = s.held; hopes = s.hopes }
  shape_leave (single es) s i m = record { undecided = undecided_leave i m s.undecided; no_ask = s.no_ask; number = s.number; numbers = s.numbers; one = s.one; asked = s.asked }
  shape_leave (committing es) s i m = record {
    begun = s.begun;
    no_aborted = λ c. s.no_aborted (left Aborted i m c);
    good = s.good;
    wait = s.wait;
    record_or_none = s.record_or_none;
  }
  shape_leave aborting s i m = record { log_none = s.log_none; begun = s.begun; no_committed = λ c. s.no_committed (left Committed i m c) }

  -- ── restart: the log is what the disk tells, and nothing waits ────────────────────────────────────────────────

  only_sent : (P : Name → Type 0) → Any t P [] sent → Any t P waiting sent
  only_sent P (inl s) = absurd (Memᴰ.not-nil s.there)
  only_sent P (inr s) = inr s

  asks_down : (a b : Story) → Below a b → AsksIn t b h → AsksIn t a h
  asks_down none b p q = tt
  asks_down (open_with rs) none p q = elim p [ ]
  asks_down (open_with rs) (open_with qs) p q = λ r m. rw p (q r m)
  asks_down (open_with rs) closed p q = λ r m. absurd (q r m)
  asks_down (open_with rs) bad p q = λ r m. absurd (q r m)
  asks_down closed none p q = elim p [ ]
  asks_down closed (open_with qs) p q = elim p [ ]
  asks_down closed closed p q = q
  asks_down closed bad p q = q
  asks_down bad none p q = elim p [ ]
  asks_down bad (open_with qs) p q = elim p [ ]
  asks_down bad closed p q = elim p [ ]
  asks_down bad bad p q = q

  pub keep_restart : Before → Base t story_of disk disk h [] sent issued
  keep_restart b = record {
    fine = fine_down disk log b.below b.fine;
    below = below_refl disk;
    begun_log = λ g. b.begun_log (up g);
    begun_committed = λ c. b.begun_committed (only_sent Committed c);
    begun_aborted = λ c. b.begun_aborted (only_sent Aborted c);
    begun_enlisted = b.begun_enlisted;
    begun_ask = b.begun_ask;
    both = λ c a. b.both (only_sent Committed c) (only_sent Aborted a);
    good_committed = λ c. b.good_committed (only_sent Committed c);
    good_log = λ g. b.good_log (up g);
    kept = λ g a. b.kept (up g) (only_sent Aborted a);
    asks = asks_down disk log b.below b.asks;
    waits = λ i m a c. absurd (Memᴰ.not-nil m);
    leaves = b.leaves;
  }
    where
      up : Logged disk → Logged log
      up = logged_up disk log b.below

  pub shape_restart : Before → (v : View) → Restored disk v → Shape t v disk h [] sent issued
  shape_restart b v = go disk refl
    where
      sent_committed : Any t Committed [] sent → NoAsk t h ⊎ Logged disk
      sent_committed (inl s) = absurd (Memᴰ.not-nil s.there)
      sent_committed (inr s) = b.leaves s.it s.there s.holds.0 s.holds.1

      go : (d : Story) → disk ≡ d → Restored d v → Shape t v disk h [] sent issued
      go none e r = rw r (record { not_open = none_not_open e; no_ask = λ c. by_either (λ y. y) (λ g. absurd (rw e at g)) (sent_committed c) })
      go (open_with rs) e (es, shown, w, d, n) = rw shown (record {
        begun = b.begun_log (logged_up disk log b.below (rw e tt));
        no_aborted = λ a. b.kept (logged_up disk log b.below (rw e tt)) (only_sent Aborted a);
        good = b.good_log (logged_up disk log b.below (rw e tt));
        wait = λ r m. w r (asked_in r m);
        record_or_none = inl (rs, e, d, n);
      })
        where
          asked_in : (r : Id) → MayAsk t r h → r ∈ managers_of rs
          asked_in = rw e at (asks_down disk log b.below b.asks)
      go closed e r = rw r (record { not_open = closed_not_open e; no_ask = λ c. rw e at (asks_down disk log b.below b.asks) })
      go bad e r = absurd (fine_down disk log b.below b.fine e)
