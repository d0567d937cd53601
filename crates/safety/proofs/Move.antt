-- Each move of one transaction keeps what is always true of it, since it asks for whatever it might break: commit is said once all have voted yes, and with the
-- record in the log if anybody may ask; abort is said only where no commit was said or written.
use Prim.Native.Nat.{ℕ}
use native.Mathlib.Omega.{arith}
use mathlib.Core.Path.{◌≡◌, refl, sym, ◌∙◌, ap}
use mathlib.Core.Logic.{◌⊎◌, inl, inr}
use mathlib.Core.Bool.{Bool, true, false}
use mathlib.Core.List.Memᴰ
use mathlib.Core.List.{List, [], ◌∷◌, ◌++◌, Memᴰ}
use Rattle.lists.specs.Members.{◌∈◌, Each, Some}
use Rattle.lists.proofs.Tests.{no_clash, by_either}
use Rattle.rules.specs.declared.Enlistment.{Enlistment}
use Rattle.rules.specs.declared.Vote.{Vote}
use Rattle.rules.specs.declared.Reply.TheVariants as reply
use Rattle.rules.specs.declared.Name.{Name}
use Rattle.rules.specs.declared.Name.TheVariants as name
use Rattle.rules.specs.Identifiers.{Id}
use Rattle.rules.specs.Sound.{Durable}
use Rattle.rules.specs.Log.{Entry}
use Rattle.safety.specs.World.{Note, Message, Issued, issue}
use Rattle.safety.specs.Host.{Prepares, Closes, MayAsk, now, still}
use Rattle.rules.specs.Signals.{Committed, Aborted}
use Rattle.safety.specs.Demand3.{About, Votes, Yes, VotedYes, AllVotedYes, OnlyOne}
use Rattle.safety.proofs.Alone.{Story, none, open_with, closed, bad, Below, below_refl, below_trans, Logged, none_not_open, closed_not_open, View, out, early, voting, single, committing, aborting, Hopes, Waits, Is, Unasked, Preparing, NoDurable, managers_of, Entered, Begun, NoAsk, Good, AsksIn, New, Any, Base, Undecided, Shape, ShapeVoting, ShapeCommitting}

-- the note tells neither of an enlistment nor of a vote
abbrev is_calm : Note → Bool
is_calm (Note.begun t) = true
is_calm (Note.enlisted t n r k) = false
is_calm (Note.voted t n r k v) = false
is_calm (Note.replied t n r) = true
is_calm (Note.acked t n r k) = true
is_calm (Note.reenlisted r) = true
is_calm Note.nothing = true

module _ (t : Id) where
  abbrev pub NotEnlisted : Note → Type 0
  NotEnlisted x = (n : ℕ) (r : Id) (k : ℕ) → x ≡ Note.enlisted t n r k → ⊥

  -- the note tells neither of a new enlistment nor of a prepared vote of t
  pub record Calm (x : Note) : Type 0 where
    pub not_enlisted : NotEnlisted x
    pub not_prepared : (r : Id) → Prepares t r x → ⊥

  pub calm_note : (x : Note) → is_calm x ≡ true → Calm x
  calm_note x c = record { not_enlisted = λ n r k p. no_clash (is_calm x) c (ap is_calm p); not_prepared = λ r p. no_clash (is_calm x) c (ap is_calm p.1) }

  pub nothing_calm : Calm Note.nothing
  nothing_calm = calm_note Note.nothing refl

  pub record Quiet (ms : List Message) : Type 0 where
    pub no_committed : New t Committed ms → ⊥
    pub no_aborted : New t Aborted ms → ⊥

  pub quiet_nothing : Quiet []
  quiet_nothing = record { no_committed = λ m. Memᴰ.not-nil m.there; no_aborted = λ m. Memᴰ.not-nil m.there }

  -- the note is a yes vote of this enlistment
  abbrev pub VoteOf : ℕ → Id → ℕ → Note → Type 0
  VoteOf n r k x = (v : Vote) × (x ≡ Note.voted t n r k v) × Yes v

  -- an enlistment that was held, as the same, or that x tells of
  abbrev pub Joins : Note → List Enlistment → Enlistment → Type 0
  Joins x es e = Some (Is e.number e.rm.0 e.kind) es ⊎ (x ≡ Note.enlisted t e.number e.rm.0 e.kind)

  pub data Doomed : View → Type 0 where
    from_early : {es : List Enlistment} → Doomed (early es)
    from_voting : {es : List Enlistment} → Doomed (voting es)
    from_single : {es : List Enlistment} → Doomed (single es)
    from_aborting : Doomed aborting

  pub data Gone : View → Type 0 where
    to_out : Gone out
    to_aborting : Gone aborting

  pub data Move (h : List Note) (x : Note) (ms : List Message) (log log' : Story) : View → View → Type 0 where
    -- another transaction's step, a refused one, an answer not-yet
    stay : {v : View} → log' ≡ log → Calm x → Quiet ms → Move h x ms log log' v v
    begin : {es : List Enlistment} → log' ≡ log → (Begun t h → ⊥) → x ≡ Note.begun t → Quiet ms → Each (λ _. ⊥) es → Move h x ms log log' out (early es)
    -- enlist, commit with P held, zero done
    gather : {es es' : List Enlistment} → log' ≡ log → ((r : Id) → Prepares t r x → ⊥) → Quiet ms
        → ((n : ℕ) (r : Id) (k : ℕ) → Some (Unasked n r k) es → Some (Unasked n r k) es')
        → ((n : ℕ) (r : Id) (k : ℕ) → x ≡ Note.enlisted t n r k → Votes k → Some (Unasked n r k) es')
        → Each (Joins x es) es'
        → Move h x ms log log' (early es) (early es')
    prepare : {es es' : List Enlistment} → log' ≡ log → Calm x → Quiet ms
        → ((n : ℕ) (r : Id) (k : ℕ) → Some (Unasked n r k) es → Some (Preparing n r k) es')
        → Move h x ms log log' (early es) (voting es')
    ask_one : {es es' : List Enlistment} {n₀ : ℕ} {r₀ : Id} {k₀ : ℕ} → log' ≡ log → Calm x → Quiet ms
        → Some (Unasked n₀ r₀ k₀) es
        → ((n : ℕ) (r : Id) (k : ℕ) → Some (Unasked n r k) es → (n ≡ n₀) × (r ≡ r₀) × (k ≡ k₀))
        → Each (λ e. e.number ≡ n₀) es'
        → record { about = t; name = name.Single; number = n₀ } ∈ ms
        → Move h x ms log log' (early es) (single es')
    commit_empty : {es : List Enlistment} → log' ≡ log → Calm x → (New t Aborted ms → ⊥)
        → ((n : ℕ) (r : Id) (k : ℕ) → Some (Unasked n r k) es → ⊥)
        → Move h x ms log log' (early es) out
    -- a vote that is not the last, a lost prepared D
    vote_on : {es es' : List Enlistment} → log' ≡ log → Quiet ms
        → NotEnlisted x
        → ((n : ℕ) (r : Id) (k : ℕ) → Some (Preparing n r k) es → VoteOf n r k x ⊎ Some (Preparing n r k) es')
        → ((r : Id) → Some (Hopes r) es → Some (Hopes r) es')
        → ((r : Id) → Prepares t r x → Some (Hopes r) es')
        → Move h x ms log log' (voting es) (voting es')
    decide_logged : {es es' : List Enlistment} {rs : List Entry} → log' ≡ open_with rs → NotEnlisted x → (New t Aborted ms → ⊥)
        → ((n : ℕ) (r : Id) (k : ℕ) → Some (Preparing n r k) es → VoteOf n r k x)
        → ((r : Id) → Some (Hopes r) es ⊎ Prepares t r x → Some (Waits r) es' × (r ∈ managers_of rs))
        → Some Durable es' → Entered rs es'
        → Move h x ms log log' (voting es) (committing es')
    decide_unlogged : {es es' : List Enlistment} → log' ≡ log → NotEnlisted x → (New t Aborted ms → ⊥)
        → ((n : ℕ) (r : Id) (k : ℕ) → Some (Preparing n r k) es → VoteOf n r k x)
        → ((r : Id) → Some (Hopes r) es ⊎ Prepares t r x → ⊥)
        → NoDurable es'
        → Move h x ms log log' (voting es) (committing es')
    decide_empty : {es : List Enlistment} → log' ≡ log → NotEnlisted x → (New t Aborted ms → ⊥)
        → ((n : ℕ) (r : Id) (k : ℕ) → Some (Preparing n r k) es → VoteOf n r k x)
        → ((r : Id) → Some (Hopes r) es ⊎ Prepares t r x → ⊥)
        → Move h x ms log log' (voting es) out
    -- abort, a single-phase reply other than committed, and all that follows an abort
    abort : {v v' : View} → log' ≡ log → Doomed v → Gone v' → (New t Committed ms → ⊥) → Move h x ms log log' v v'
    replied : {es : List Enlistment} {n₀ : ℕ} → log' ≡ log → x ≡ Note.replied t n₀ reply.Committed → Some (λ e. e.number ≡ n₀) es → (New t Aborted ms → ⊥) → Move h x ms log log' (single es) out
    -- ack, lost, ask, re-enlisted after the decision to commit
    told_on : {es es' : List Enlistment} → log' ≡ log → Calm x → (New t Aborted ms → ⊥)
        → ((r : Id) → Some (Waits r) es → Some (Waits r) es' ⊎ Closes t r x)
        → (Some Durable es → Some Durable es') → (NoDurable es → NoDurable es') → ((n : ℕ) → Some (λ e. e.number ≡ n) es → Some (λ e. e.number ≡ n) es')
        → Move h x ms log log' (committing es) (committing es')
    end_logged : {es : List Enlistment} → log' ≡ closed → Calm x → Quiet ms
        → ((r : Id) → Some (Waits r) es → Closes t r x)
        → Move h x ms log log' (committing es) out
    end_unlogged : {es : List Enlistment} → log' ≡ log → Calm x → Quiet ms → NoDurable es → Move h x ms log log' (committing es) out
    answer_out : (r : Id) → log' ≡ log → MayAsk t r h → Calm x → (New t Committed ms → ⊥) → Move h x ms log log' out out

  -- ── small laws ────────────────────────────────────────────────────────────────────────────────────────────────

  any_new : (P : Name → Type 0) (image : List ℕ) (ms : List Message) (waiting sent : List Issued) → Any t P (issue image ms ++ waiting) sent → New t P ms ⊎ Any t P waiting sent
  any_new P image ms waiting sent (inr s) = inr (inr s)
  any_new P image ms waiting sent (inl s) = go (Memᴰ.append_cases (issue image ms) s.there)
    where
      new : (m : Message) × Memᴰ m ms × (record { image = image; message = m } ≡ s.it) → New t P ms
      new (m, i, e) = record { it = m; there = i; holds = rw (← e) at s.holds }

      go : s.it ∈ issue image ms ⊎ s.it ∈ waiting → New t P ms ⊎ Any t P waiting sent
      go (inl i) = inl (new (Memᴰ.of_map (λ m. record { image = image; message = m }) ms i))
      go (inr i) = inr (inl (record { it = s.it; there = i; holds = s.holds }))

  may_ask : {r : Id} {x : Note} {h : List Note} → MayAsk t r (x ∷ h) → Prepares t r x ⊎ ((Closes t r x → ⊥) × MayAsk t r h)
  may_ask (now p) = inl p
  may_ask (still c m) = inr (c, m)

  ask_calm : {r : Id} {x : Note} {h : List Note} → ((q : Id) → Prepares t q x → ⊥) → MayAsk t r (x ∷ h) → MayAsk t r h
  ask_calm {r} c m = by_either (λ p. absurd (c r p)) (λ p. p.1) (may_ask m)

  no_ask_calm : {x : Note} {h : List Note} → ((q : Id) → Prepares t q x → ⊥) → NoAsk t h → NoAsk t (x ∷ h)
  no_ask_calm c no_ask r m = no_ask r (ask_calm c m)

  voted_more : {n : ℕ} {r : Id} {k : ℕ} {h : List Note} (x : Note) → VotedYes t n r k h → VotedYes t n r k (x ∷ h)
  voted_more x v = record { vote = v.vote; accepted = Memᴰ.tail v.accepted; yes = v.yes }

  vote_of : {n : ℕ} {r : Id} {k : ℕ} {x : Note} (h : List Note) → VoteOf n r k x → VotedYes t n r k (x ∷ h)
  vote_of h (v, e, y) = record { vote = v; accepted = Memᴰ.head (sym e); yes = y }

  -- an enlistment noted before, if x notes none
  old : {n : ℕ} {r : Id} {k : ℕ} {x : Note} {h : List Note} → NotEnlisted x → Note.enlisted t n r k ∈ x ∷ h → Note.enlisted t n r k ∈ h
  old {n} {r} {k} c m = by_either (λ e. absurd (c n r k (sym e))) (λ i. i) (Memᴰ.cases_cons m)

  one_more : {n : ℕ} {x : Note} {h : List Note} → NotEnlisted x → OnlyOne t n h → OnlyOne t n (x ∷ h)
  one_more c o = record { manager = o.manager; kind = o.kind; enlisted = Memᴰ.tail o.enlisted; votes = o.votes; only = λ n r k i m. o.only n r k (old c i) m }

  good_more : {x : Note} {h : List Note} {issued : List Message} (ms : List Message) → NotEnlisted x → Good t h issued → Good t (x ∷ h) (ms ++ issued)
  good_more {x} ms c (inl a) = inl (λ n r k i m. voted_more x (a n r k (old c i) m))
  good_more {x} ms c (inr o) = inr (record {
    number = o.number;
    one = one_more c o.one;
    asked = Memᴰ.append_right ms o.asked;
    answered = Memᴰ.tail o.answered;
  })

  asks_calm : {x : Note} (h : List Note) (log : Story) → ((q : Id) → Prepares t q x → ⊥) → AsksIn t log h → AsksIn t log (x ∷ h)
  asks_calm h none c a = tt
  asks_calm h (open_with rs) c a = λ r m. a r (ask_calm c m)
  asks_calm h closed c a = no_ask_calm c a
  asks_calm h bad c a = no_ask_calm c a

  -- ── the invariant of the base ─────────────────────────────────────────────────────────────────────────────────

  module _ (story_of : List ℕ → Story) (disk log log' : Story) (h : List Note) (x : Note) (ms issued : List Message) (waiting sent : List Issued) (image : List ℕ) (imaged : story_of image ≡ log') where
    abbrev Old : Type 0
    Old = Base t story_of log disk h waiting sent issued

    abbrev Next : Type 0
    Next = Base t story_of log' disk (x ∷ h) (issue image ms ++ waiting) sent (ms ++ issued)

    abbrev Committed' : Type 0
    Committed' = Any t Committed (issue image ms ++ waiting) sent

    abbrev Aborted' : Type 0
    Aborted' = Any t Aborted (issue image ms ++ waiting) sent

    -- a commit message among those that wait is new, or waited before
    waits_cases : (i : Issued) → i ∈ issue image ms ++ waiting → i.message.about ≡ t → Committed i.message.name
        → (New t Committed ms → NoAsk t (x ∷ h) ⊎ Logged log')
        → (i ∈ waiting → NoAsk t (x ∷ h) ⊎ Logged (story_of i.image))
        → NoAsk t (x ∷ h) ⊎ Logged (story_of i.image)
    waits_cases i p a c f g = by_either new g (Memᴰ.append_cases (issue image ms) p)
      where
        fit : (m : Message) × Memᴰ m ms × (record { image = image; message = m } ≡ i) → NoAsk t (x ∷ h) ⊎ Logged (story_of i.image)
        fit (m, q, e) = by_either inl (λ logged. inr (rw (← e, imaged) logged)) (f (record { it = m; there = q; holds = (rw (← e) at a, rw (← e) at c) }))

        new : i ∈ issue image ms → NoAsk t (x ∷ h) ⊎ Logged (story_of i.image)
        new q = fit (Memᴰ.of_map (λ m. record { image = image; message = m }) ms q)

    -- the transaction has begun: all that is left to say
    make : Old → (log' ≡ bad → ⊥) → Below log log' → Begun t h → AsksIn t log' (x ∷ h)
        → (Committed' ⊎ Logged log' → Good t (x ∷ h) (ms ++ issued))
        → (Committed' ⊎ Logged log' → Aborted' → ⊥)
        → (New t Committed ms → NoAsk t (x ∷ h) ⊎ Logged log')
        → ((i : Issued) → i ∈ waiting → i.message.about ≡ t → Committed i.message.name → NoAsk t (x ∷ h) ⊎ Logged (story_of i.image))
        → ((i : Issued) → i ∈ sent → i.message.about ≡ t → Committed i.message.name → NoAsk t (x ∷ h) ⊎ Logged disk)
        → Next
    make b fine low begun asks good apart new waits leaves = record {
      fine = fine;
      below = below_trans disk log log' b.below low;
      begun_log = λ _. Memᴰ.tail begun;
      begun_committed = λ _. Memᴰ.tail begun;
      begun_aborted = λ _. Memᴰ.tail begun;
      begun_enlisted = λ n r k _. Memᴰ.tail begun;
      begun_ask = λ r _. Memᴰ.tail begun;
      both = λ c a. apart (inl c) a;
      good_committed = λ c. good (inl c);
      good_log = λ g. good (inr g);
      kept = λ g a. apart (inr g) a;
      asks = asks;
      waits = λ i p a c. waits_cases i p a c new (λ q. waits i q a c);
      leaves = leaves;
    }

    committed_cases : Committed' → New t Committed ms ⊎ Any t Committed waiting sent
    committed_cases = any_new Committed image ms waiting sent

    aborted_cases : Aborted' → New t Aborted ms ⊎ Any t Aborted waiting sent
    aborted_cases = any_new Aborted image ms waiting sent

    no_committed' : (New t Committed ms → ⊥) → (Any t Committed waiting sent → ⊥) → Committed' → ⊥
    no_committed' f g c = by_either f g (committed_cases c)

    no_aborted' : (New t Aborted ms → ⊥) → (Any t Aborted waiting sent → ⊥) → Aborted' → ⊥
    no_aborted' f g c = by_either f g (aborted_cases c)

    some_waiting : (i : Issued) → i ∈ waiting → i.message.about ≡ t → Committed i.message.name → Any t Committed waiting sent
    some_waiting i p a c = inl (record { it = i; there = p; holds = (a, c) })

    some_sent : (i : Issued) → i ∈ sent → i.message.about ≡ t → Committed i.message.name → Any t Committed waiting sent
    some_sent i p a c = inr (record { it = i; there = p; holds = (a, c) })

    -- no commit message before and none now
    make_none : Old → Begun t h → (log' ≡ none) → (log ≡ none) → (Committed' → ⊥) → (Any t Committed waiting sent → ⊥) → Next
    make_none b begun e before no-commit no-commit-before =
        make b (rw e none_fine) (rw before tt) begun (rw e tt)
        (by_either (λ c. absurd (no-commit c)) (λ g. absurd (rw e at g)))
        (by_either (λ c a. no-commit c) (λ g a. rw e at g))
        (λ m. absurd (no-commit (inl (some_new m))))
        (λ i p a c. absurd (no-commit-before (some_waiting i p a c)))
        (λ i p a c. absurd (no-commit-before (some_sent i p a c)))
      where
        none_fine : none ≡ bad → ⊥
        none_fine p = let z : ◌≡◌ {A = ℕ} 0 1 = cc in omega arith

        some_new : New t Committed ms → About t Committed (issue image ms ++ waiting)
        some_new m = record { it = record { image = image; message = m.it }; there = Memᴰ.append_left waiting (mapped m.there); holds = m.holds }
          where
            mapped : {m : Message} {ms : List Message} → m ∈ ms → record { image = image; message = m } ∈ issue image ms
            mapped i = mathlib.Core.List.Memᴰ.map (λ m. record { image = image; message = m }) i

    -- no commit message before, and no abort message at all
    make_first : Old → Undecided t log h waiting sent → (log' ≡ bad → ⊥) → Below log log' → AsksIn t log' (x ∷ h) → Good t (x ∷ h) (ms ++ issued) → (New t Aborted ms → ⊥) → NoAsk t (x ∷ h) ⊎ Logged log' → Next
    make_first b u fine low asks good no_Abort no-ask-or-logged =
        make b fine low u.begun asks (λ _. good) (λ _ a. no_aborted' no_Abort u.no_aborted a) (λ _. no-ask-or-logged)
        (λ i p a c. absurd (u.no_committed (some_waiting i p a c)))
        (λ i p a c. absurd (u.no_committed (some_sent i p a c)))

    lift_waits : ((q : Id) → Prepares t q x → ⊥) → {A : Type 0} → NoAsk t h ⊎ A → NoAsk t (x ∷ h) ⊎ A
    lift_waits c (inl n) = inl (no_ask_calm c n)
    lift_waits c (inr a) = inr a

    -- the note is calm
    make_calm : Old → Begun t h → Calm x → (log' ≡ bad → ⊥) → Below log log' → AsksIn t log' (x ∷ h) → Good t h issued ⊎ (Committed' ⊎ Logged log' → Good t h issued) → (Committed' ⊎ Logged log' → Aborted' → ⊥) → (New t Committed ms → NoAsk t (x ∷ h) ⊎ Logged log') → Next
    make_calm b begun calm fine low asks good apart new =
        make b fine low begun asks
        (λ p. good_more ms calm.not_enlisted (by_either (λ g. g) (λ f. f p) good))
        apart new
        (λ i p a c. lift_waits calm.not_prepared (b.waits i p a c))
        (λ i p a c. lift_waits calm.not_prepared (b.leaves i p a c))

    -- ── each move keeps the base ────────────────────────────────────────────────────────────────────────────────

    pub make_stay : Old → Calm x → Quiet ms → log' ≡ log → Next
    make_stay b calm q e = record {
      fine = rw e b.fine;
      below = rw e b.below;
      begun_log = λ g. Memᴰ.tail (b.begun_log (rw e at g));
      begun_committed = λ c. Memᴰ.tail (b.begun_committed (committed_before c));
      begun_aborted = λ a. Memᴰ.tail (b.begun_aborted (aborted_before a));
      begun_enlisted = λ n r k i. Memᴰ.tail (b.begun_enlisted n r k (old calm.not_enlisted i));
      begun_ask = λ r m. Memᴰ.tail (b.begun_ask r (ask_calm calm.not_prepared m));
      both = λ c a. b.both (committed_before c) (aborted_before a);
      good_committed = λ c. good_more ms calm.not_enlisted (b.good_committed (committed_before c));
      good_log = λ g. good_more ms calm.not_enlisted (b.good_log (rw e at g));
      kept = λ g a. b.kept (rw e at g) (aborted_before a);
      asks = rw e (asks_calm h log calm.not_prepared b.asks);
      waits = λ i p a c. waits_cases i p a c (λ m. absurd (q.no_committed m)) (λ w. lift_waits calm.not_prepared (b.waits i w a c));
      leaves = λ i p a c. lift_waits calm.not_prepared (b.leaves i p a c);
    }
      where
        committed_before : Committed' → Any t Committed waiting sent
        committed_before c = by_either (λ m. absurd (q.no_committed m)) (λ y. y) (committed_cases c)

        aborted_before : Aborted' → Any t Aborted waiting sent
        aborted_before c = by_either (λ m. absurd (q.no_aborted m)) (λ y. y) (aborted_cases c)

    make_undecided : Old → Undecided t log h waiting sent → log' ≡ log → Quiet ms → Next
    make_undecided b u e q = make_none b u.begun (e ∙ u.log_none) u.log_none (no_committed' q.no_committed u.no_committed) u.no_committed

    record Doom : Type 0 where
      pub log_none : log ≡ none
      pub begun : Begun t h
      pub no_committed : Any t Committed waiting sent → ⊥

    from_undecided : Undecided t log h waiting sent → Doom
    from_undecided u = record { log_none = u.log_none; begun = u.begun; no_committed = u.no_committed }

    doom : {v : View} → Doomed v → Shape t v log h waiting sent issued → Doom
    doom from_early s = from_undecided s.undecided
    doom from_voting s = from_undecided s.undecided
    doom from_single s = from_undecided s.undecided
    doom from_aborting s = record { log_none = s.log_none; begun = s.begun; no_committed = s.no_committed }

    below_same : log' ≡ log → Below log log'
    below_same e = rw e (below_refl log)

    asks_none : log' ≡ none → AsksIn t log' (x ∷ h)
    asks_none e = rw e tt

    -- every enlistment has voted yes, if x is the last vote
    last_vote : {es : List Enlistment} → ShapeVoting t es log h waiting sent → NotEnlisted x → ((n : ℕ) (r : Id) (k : ℕ) → Some (Preparing n r k) es → VoteOf n r k x) → AllVotedYes t (x ∷ h)
    last_vote s c f n r k i m = by_either (voted_more x) (λ p. vote_of h (f n r k p)) (s.held n r k (old c i) m)

    -- who may ask now has prepared with x, or before
    hoping : {es : List Enlistment} → ShapeVoting t es log h waiting sent → (r : Id) → MayAsk t r (x ∷ h) → Some (Hopes r) es ⊎ Prepares t r x
    hoping s r m = by_either inr (λ p. inl (s.hopes r p.1)) (may_ask m)

    no_durable_ask : {es : List Enlistment} → ((r : Id) → MayAsk t r h → Some (Waits r) es) → NoDurable es → NoAsk t h
    no_durable_ask f d r m = let w : Some (Waits r) _ = f r m in d w.it w.there w.holds.0

    below_closed : (s : Story) → (s ≡ bad → ⊥) → Below s closed
    below_closed none f = tt
    below_closed (open_with rs) f = tt
    below_closed closed f = tt
    below_closed bad f = f refl

    open_fine : {rs : List Entry} → open_with rs ≡ bad → ⊥
    open_fine p = let z : ◌≡◌ {A = ℕ} 0 1 = cc in omega arith

    closed_fine : closed ≡ bad → ⊥
    closed_fine p = let z : ◌≡◌ {A = ℕ} 0 1 = cc in omega arith

    out_none : (s : Story) → AsksIn t s h → ((rs : List Entry) → s ≡ open_with rs → ⊥) → (r : Id) → MayAsk t r h → s ≡ none
    out_none none a f r m = refl
    out_none (open_with rs) a f r m = absurd (f rs refl)
    out_none closed a f r m = absurd (a r m)
    out_none bad a f r m = absurd (a r m)

    close_all : {es : List Enlistment} → Calm x → ((r : Id) → MayAsk t r h → Some (Waits r) es) → ((r : Id) → Some (Waits r) es → Closes t r x) → NoAsk t (x ∷ h)
    close_all c f g r m = by_either (c.not_prepared r) (λ p. p.0 (g r (f r p.1))) (may_ask m)

    told_waits : {es : List Enlistment} → Calm x → ShapeCommitting t es log h waiting sent issued → log' ≡ log → NoAsk t (x ∷ h) ⊎ Logged log'
    told_waits c s e = by_either
        (λ p. inr (rw (e, p.1) tt))
        (λ p. inl (no_ask_calm c.not_prepared (no_durable_ask s.wait p.1)))
        s.record_or_none

    pub keep_base : {v v' : View} → Old → Shape t v log h waiting sent issued → Move h x ms log log' v v' → Next
    keep_base b s (stay e c q) = make_stay b c q e
    keep_base b s (begin e not_begun noted q nobody) = make_stay b (calm_note x (ap is_calm noted)) q e
    keep_base b s (gather e not_prepared q f g j) = make_undecided b s.undecided e q
    keep_base b s (prepare e c q f) = make_undecided b s.undecided e q
    keep_base b s (ask_one e c q i f g m) = make_undecided b s.undecided e q
    keep_base b s (commit_empty e c no_Abort f) =
        make_first b s.undecided (rw e b.fine) (below_same e) (asks_none (e ∙ s.undecided.log_none))
        (inl (λ n r k i m. absurd (f n r k (s.held n r k (old c.not_enlisted i) m)))) no_Abort (inl (no_ask_calm c.not_prepared s.no_ask))
    keep_base b s (vote_on e q not_enlisted f g p) = make_undecided b s.undecided e q
    keep_base b s (decide_logged e not_enlisted no_Abort f g d n) =
        make_first b s.undecided (rw e open_fine) (rw s.undecided.log_none tt) (rw e (λ r m. (g r (hoping s r m)).1))
        (inl (last_vote s not_enlisted f)) no_Abort (inr (rw e tt))
    keep_base b s (decide_unlogged e not_enlisted no_Abort f g d) =
        make_first b s.undecided (rw e b.fine) (below_same e) (asks_none (e ∙ s.undecided.log_none))
        (inl (last_vote s not_enlisted f)) no_Abort (inl (λ r m. g r (hoping s r m)))
    keep_base b s (decide_empty e not_enlisted no_Abort f g) =
        make_first b s.undecided (rw e b.fine) (below_same e) (asks_none (e ∙ s.undecided.log_none))
        (inl (last_vote s not_enlisted f)) no_Abort (inl (λ r m. g r (hoping s r m)))
    keep_base b s (abort e d g no-commit) = let z : Doom = doom d s in make_none b z.begun (e ∙ z.log_none) z.log_none (no_committed' no-commit z.no_committed) z.no_committed
    keep_base b s (replied {n₀ = n₀} e noted w no_Abort) =
        make_first b s.undecided (rw e b.fine) (below_same e) (asks_none (e ∙ s.undecided.log_none))
        (inr (record { number = s.number; one = one_more (calm_note x (ap is_calm noted)).not_enlisted s.one; asked = Memᴰ.append_right ms s.asked; answered = rw is_it (Memᴰ.head (sym noted)) }))
        no_Abort (inl (no_ask_calm (calm_note x (ap is_calm noted)).not_prepared s.no_ask))
      where
        is_it : s.number ≡ n₀
        is_it = sym (s.numbers w.it w.there) ∙ w.holds
    keep_base b s (told_on e c no_Abort f g d n) =
        make_calm b s.begun c (rw e b.fine) (below_same e) (rw e (asks_calm h log c.not_prepared b.asks)) (inl s.good) (λ _ a. no_aborted' no_Abort s.no_aborted a) (λ _. told_waits c s e)
    keep_base b s (end_logged e c q f) =
        make_calm b s.begun c (rw e closed_fine) (rw e (below_closed log b.fine)) (rw e (close_all c s.wait f)) (inl s.good) (λ _ a. no_aborted' q.no_aborted s.no_aborted a) (λ m. absurd (q.no_committed m))
    keep_base b s (end_unlogged e c q d) =
        make_calm b s.begun c (rw e b.fine) (below_same e) (rw e (asks_calm h log c.not_prepared b.asks)) (inl s.good) (λ _ a. no_aborted' q.no_aborted s.no_aborted a) (λ m. absurd (q.no_committed m))
    keep_base b s (answer_out r e m c no-commit) =
        let z : log ≡ none = out_none log b.asks s.not_open r m in
        make_none b (b.begun_ask r m) (e ∙ z) z (no_committed' no-commit (λ a. s.no_ask a r m)) (λ a. s.no_ask a r m)

    -- ── each move keeps the shape ───────────────────────────────────────────────────────────────────────────────

    undecided_next : Undecided t log h waiting sent → log' ≡ log → Quiet ms → Undecided t log' (x ∷ h) (issue image ms ++ waiting) sent
    undecided_next u e q = record {
      log_none = e ∙ u.log_none;
      begun = Memᴰ.tail u.begun;
      no_committed = no_committed' q.no_committed u.no_committed;
      no_aborted = no_aborted' q.no_aborted u.no_aborted;
    }

    abbrev Shape' : View → Type 0
    Shape' v = Shape t v log' (x ∷ h) (issue image ms ++ waiting) sent (ms ++ issued)

    told_shape : {es es' : List Enlistment} → ShapeCommitting t es log h waiting sent issued → log' ≡ log → Calm x → (New t Aborted ms → ⊥)
        → ((r : Id) → Some (Waits r) es → Some (Waits r) es' ⊎ Closes t r x)
        → (Some Durable es → Some Durable es') → (NoDurable es → NoDurable es') → ((n : ℕ) → Some (λ e. e.number ≡ n) es → Some (λ e. e.number ≡ n) es')
        → Shape' (committing es')
    told_shape s e c no_Abort f g d k = record {
      begun = Memᴰ.tail s.begun;
      no_aborted = no_aborted' no_Abort s.no_aborted;
      good = good_more ms c.not_enlisted s.good;
      wait = λ r m. by_either (λ p. absurd (c.not_prepared r p)) (λ p. by_either (λ w. w) (λ closes. absurd (p.0 closes)) (f r (s.wait r p.1))) (may_ask m);
      record_or_none = by_either (λ p. inl (p.0, e ∙ p.1, g p.2, λ y m. k y.number (p.3 y m))) (λ p. inr (e ∙ p.0, d p.1)) s.record_or_none;
    }

    gone_shape : {v : View} → Doom → log' ≡ log → Gone v → (New t Committed ms → ⊥) → Shape' v
    gone_shape z e to_out no-commit = record { not_open = λ rs p. none_not_open (e ∙ z.log_none) rs p; no_ask = λ c. absurd (no_committed' no-commit z.no_committed c) }
    gone_shape z e to_aborting no-commit = record { log_none = e ∙ z.log_none; begun = Memᴰ.tail z.begun; no_committed = no_committed' no-commit z.no_committed }

    -- out with nobody to ask
    out_shape : ((rs : List Entry) → log' ≡ open_with rs → ⊥) → NoAsk t (x ∷ h) → Shape' out
    out_shape f g = record { not_open = f; no_ask = λ _. g }

    pub stay_shape : (v : View) → log' ≡ log → Calm x → Quiet ms → Shape t v log h waiting sent issued → Shape' v
    stay_shape out e c q s = record {
      not_open = λ rs p. s.not_open rs (sym e ∙ p);
      no_ask = λ a. no_ask_calm c.not_prepared (s.no_ask (by_either (λ m. absurd (q.no_committed m)) (λ y. y) (committed_cases a)));
    }
    stay_shape (early es) e c q s = record {
      undecided = undecided_next s.undecided e q;
      no_ask = no_ask_calm c.not_prepared s.no_ask;
      held = λ n r k i m. s.held n r k (old c.not_enlisted i) m;
      noted = λ y i. Memᴰ.tail (s.noted y i);
    }
    stay_shape (voting es) e c q s = record {
      undecided = undecided_next s.undecided e q;
      held = λ n r k i m. by_either (λ v. inl (voted_more x v)) inr (s.held n r k (old c.not_enlisted i) m);
      hopes = λ r m. s.hopes r (ask_calm c.not_prepared m);
    }
    stay_shape (single es) e c q s = record {
      undecided = undecided_next s.undecided e q;
      no_ask = no_ask_calm c.not_prepared s.no_ask;
      number = s.number;
      numbers = s.numbers;
      one = one_more c.not_enlisted s.one;
      asked = Memᴰ.append_right ms s.asked;
    }
    stay_shape (committing es) e c q s = told_shape s e c q.no_aborted (λ r w. inl w) (λ w. w) (λ w. w) (λ n w. w)
    stay_shape aborting e c q s = record { log_none = e ∙ s.log_none; begun = Memᴰ.tail s.begun; no_committed = no_committed' q.no_committed s.no_committed }

    pub keep_shape : {v v' : View} → Old → Shape t v log h waiting sent issued → Move h x ms log log' v v' → Shape' v'
    keep_shape b s (stay {v} e c q) = stay_shape v e c q s
    keep_shape b s (begin e not_begun noted q nobody) = record {
      undecided = record {
        log_none = e ∙ fresh log b.begun_log;
        begun = Memᴰ.head (sym noted);
        no_committed = no_committed' q.no_committed (λ c. not_begun (b.begun_committed c));
        no_aborted = no_aborted' q.no_aborted (λ c. not_begun (b.begun_aborted c));
      };
      no_ask = λ r m. not_begun (b.begun_ask r (ask_calm (calm_note x (ap is_calm noted)).not_prepared m));
      held = λ n r k i m. absurd (not_begun (b.begun_enlisted n r k (old (calm_note x (ap is_calm noted)).not_enlisted i)));
      noted = λ y i. absurd (nobody y i);
    }
      where
        fresh : (s : Story) → (Logged s → Begun t h) → s ≡ none
        fresh none f = refl
        fresh (open_with rs) f = absurd (not_begun (f tt))
        fresh closed f = absurd (not_begun (f tt))
        fresh bad f = absurd (not_begun (f tt))
    keep_shape b s (gather e not_prepared q f g j) = record {
      undecided = undecided_next s.undecided e q;
      no_ask = no_ask_calm not_prepared s.no_ask;
      held = λ n r k i m. by_either (λ p. g n r k (sym p) m) (λ o. f n r k (s.held n r k o m)) (Memᴰ.cases_cons i);
      noted = λ y i. by_either (λ w. Memᴰ.tail (rw (w.holds.0, w.holds.1, w.holds.2) at (s.noted w.it w.there))) (λ p. Memᴰ.head (sym p)) (j y i);
    }
    keep_shape b s (prepare e c q f) = record {
      undecided = undecided_next s.undecided e q;
      held = λ n r k i m. inr (f n r k (s.held n r k (old c.not_enlisted i) m));
      hopes = λ r m. absurd (s.no_ask r (ask_calm c.not_prepared m));
    }
    keep_shape b s (ask_one {n₀ = n₀} {r₀ = r₀} {k₀ = k₀} e c q i f g m) = record {
      undecided = undecided_next s.undecided e q;
      no_ask = no_ask_calm c.not_prepared s.no_ask;
      number = n₀;
      numbers = g;
      one = record {
        manager = r₀;
        kind = k₀;
        enlisted = Memᴰ.tail (rw (i.holds.0.0, i.holds.0.1, i.holds.0.2) at (s.noted i.it i.there));
        votes = rw i.holds.0.2 at i.holds.1;
        only = λ n r k o votes. f n r k (s.held n r k (old c.not_enlisted o) votes);
      };
      asked = Memᴰ.append_left issued m;
    }
    keep_shape b s (commit_empty e c no_Abort f) = out_shape (none_not_open (e ∙ s.undecided.log_none)) (no_ask_calm c.not_prepared s.no_ask)
    keep_shape b s (vote_on e q not_enlisted f g p) = record {
      undecided = undecided_next s.undecided e q;
      held = λ n r k i m. by_either (λ v. inl (voted_more x v)) (λ w. by_either (λ v. inl (vote_of h v)) inr (f n r k w)) (s.held n r k (old not_enlisted i) m);
      hopes = λ r m. by_either (g r) (p r) (hoping s r m);
    }
    keep_shape b s (decide_logged {rs = rs} e not_enlisted no_Abort f g d n) = record {
      begun = Memᴰ.tail s.undecided.begun;
      no_aborted = no_aborted' no_Abort s.undecided.no_aborted;
      good = inl (last_vote s not_enlisted f);
      wait = λ r m. (g r (hoping s r m)).0;
      record_or_none = inl (rs, e, d, n);
    }
    keep_shape b s (decide_unlogged e not_enlisted no_Abort f g d) = record {
      begun = Memᴰ.tail s.undecided.begun;
      no_aborted = no_aborted' no_Abort s.undecided.no_aborted;
      good = inl (last_vote s not_enlisted f);
      wait = λ r m. absurd (g r (hoping s r m));
      record_or_none = inr (e ∙ s.undecided.log_none, d);
    }
    keep_shape b s (decide_empty e not_enlisted no_Abort f g) = out_shape (none_not_open (e ∙ s.undecided.log_none)) (λ r m. g r (hoping s r m))
    keep_shape b s (abort e d g no-commit) = gone_shape (doom d s) e g no-commit
    keep_shape b s (replied e noted w no_Abort) = out_shape (none_not_open (e ∙ s.undecided.log_none)) (no_ask_calm (calm_note x (ap is_calm noted)).not_prepared s.no_ask)
    keep_shape b s (told_on e c no_Abort f g d n) = told_shape s e c no_Abort f g d n
    keep_shape b s (end_logged e c q f) = out_shape (closed_not_open e) (close_all c s.wait f)
    keep_shape b s (end_unlogged e c q d) = out_shape
        (λ rs p. by_either (λ o. d o.2.it o.2.there o.2.holds) (λ o. none_not_open (e ∙ o.0) rs p) s.record_or_none)
        (no_ask_calm c.not_prepared (no_durable_ask s.wait d))
    keep_shape b s (answer_out r e m c no-commit) = record {
      not_open = λ rs p. s.not_open rs (sym e ∙ p);
      no_ask = λ a. absurd (no_committed' no-commit (λ y. s.no_ask y r m) a);
    }
