-- The story of a transaction in a log: what the records about it tell, one after the other. A story only goes on, so that a part of a
-- log from its start tells less, whatever its bytes.
use Prim.Native.Nat.{ℕ, ◌≤◌, ◌<◌}
use native.Mathlib.Omega.{arith}
use native.Mathlib.Decide.{dec_le}
use mathlib.Core.Path.{◌≡◌, refl, sym, ◌∙◌, ap}
use mathlib.Core.Bool.{true, false, cond, not, ◌&&◌}
use mathlib.Core.List.{List, [], ◌∷◌, ◌++◌, append_assoc, append-nil}
use lib.ListN.{length, drop, drop_of_length-le}
use lib.Seq.{drop-append-le}
use Rattle.lists.specs.Lists.{filter}
use Rattle.lists.specs.Members.{Each}
use Rattle.lists.proofs.Tests.{by_test, no_clash, each_nothing, each_head, each_rest, filter_append, filter_filter, filter_same, filter_none, each_both}
use Rattle.rules.specs.Identifiers.{Id, same_bytes}
use Rattle.rules.specs.Sizes.{header_size}
use Rattle.rules.specs.Log.{Entry, Record, header, all_bytes, scan}
use Rattle.rules.specs.Restart.{Open, is_open_as, after_record, open_after}
use Rattle.rules.proofs.Identifiers.{same_refl, same_equal}
use Rattle.rules.proofs.Records.{Valid, valid_commit, torn_nothing, scan_all, Begins, scan_longer, all_append}
use Rattle.safety.proofs.Alone.{Story, none, open_with, closed, bad, Below, below_refl, below_trans, RecordOrNone, NoDurable}
use Rattle.rules.specs.declared.Enlistment.{Enlistment}
use mathlib.Core.Logic.{inl, inr}

-- ── stories ─────────────────────────────────────────────────────────────────────────────────────────────────────

abbrev on_commit : Story → List Entry → Story
on_commit none rs = open_with rs
on_commit (open_with qs) rs = bad
on_commit closed rs = bad
on_commit bad rs = bad

abbrev pub on_forget : Story → Story
on_forget none = bad
on_forget (open_with qs) = closed
on_forget closed = bad
on_forget bad = bad

-- a forget record closes the story of a transaction in Committing that has its record
pub forgotten : (es : List Enlistment) (l : Story) → RecordOrNone l es → (NoDurable es → ⊥) → on_forget l ≡ closed
forgotten es l (inl (rs, q, d, n)) f = rw q refl
forgotten es l (inr (q, n)) f = absurd (f n)

unfoldable pub next : Id → Story → Record → Story
next t s (Record.commit u es) = cond (same_bytes u t) (on_commit s es) s
next t s (Record.forget u) = cond (same_bytes u t) (on_forget s) s

unfoldable pub story : Id → Story → List Record → Story
story t s [] = s
story t s (r ∷ rs) = story t (next t s r) rs

unfoldable pub story_of : Id → List ℕ → Story
story_of t bs = story t none (scan 0 (drop header_size bs))

commit_up : (s : Story) (rs : List Entry) → Below s (on_commit s rs)
commit_up none rs = tt
commit_up (open_with qs) rs = tt
commit_up closed rs = tt
commit_up bad rs = tt

forget_up : (s : Story) → Below s (on_forget s)
forget_up none = tt
forget_up (open_with qs) = tt
forget_up closed = tt
forget_up bad = tt

next_up : (t : Id) (s : Story) (r : Record) → Below s (next t s r)
unfolding next
next_up t s (Record.commit u es) = by_test (same_bytes u t) (λ e. rw e (commit_up s es)) (λ e. rw e (below_refl s))
next_up t s (Record.forget u) = by_test (same_bytes u t) (λ e. rw e (forget_up s)) (λ e. rw e (below_refl s))

story_up : (t : Id) (s : Story) (rs : List Record) → Below s (story t s rs)
unfolding story
story_up t s [] = below_refl s
story_up t s (r ∷ rs) = below_trans s (next t s r) (story t (next t s r) rs) (next_up t s r) (story_up t (next t s r) rs)

pub story_append : (t : Id) (s : Story) (a b : List Record) → story t s (a ++ b) ≡ story t (story t s a) b
unfolding story
story_append t s [] b = refl
story_append t s (r ∷ a) b = story_append t (next t s r) a b

pub story_prefix : (t : Id) (a b : List ℕ) → Below (story_of t a) (story_of t (a ++ b))
unfolding story_of scan story
story_prefix t a b = go (dec_le header_size (length a))
  where
    more : (m : Begins (scan 0 (drop header_size a)) (scan 0 (drop header_size a ++ b))) → Below (story t none (scan 0 (drop header_size a))) (story t none (scan 0 (drop header_size a ++ b)))
    more m = rw (m.split, story_append t none (scan 0 (drop header_size a)) m.more) (story_up t (story t none (scan 0 (drop header_size a))) m.more)

    go : Dec (header_size ≤ length a) → Below (story t none (scan 0 (drop header_size a))) (story t none (scan 0 (drop header_size (a ++ b))))
    go (yes p) = rw (drop-append-le header_size a b p) (more (scan_longer 0 (drop header_size a) b))
    go (no p) = rw (drop_of_length-le a {i = header_size} (omega (arith, p))) tt

-- ── a header and whole records ──────────────────────────────────────────────────────────────────────────────────

pub record Formed (bs : List ℕ) : Type 0 where
  pub records : List Record
  pub valid : Each Valid records
  pub bytes : bs ≡ header ++ all_bytes records

pub header_formed : Formed header
unfolding all_bytes
header_formed = record { records = []; valid = each_nothing Valid; bytes = refl }

pub story_formed : (t : Id) (bs : List ℕ) (f : Formed bs) → story_of t bs ≡ story t none f.records
unfolding story_of
story_formed t bs f = ap (λ l. story t none (scan 0 (drop header_size l))) f.bytes ∙ ap (λ l. story t none (scan 0 l)) (sym (append-nil (all_bytes f.records))) ∙ ap (story t none) (scan_all f.records f.valid torn_nothing)

unfoldable pub formed_append : {bs cs : List ℕ} (f : Formed bs) (rs : List Record) → Each Valid rs → cs ≡ bs ++ all_bytes rs → Formed cs
formed_append f rs v e = record {
  records = f.records ++ rs;
  valid = each_both f.records rs f.valid v;
  bytes = e ∙ ap (λ l. l ++ all_bytes rs) f.bytes ∙ append_assoc header (all_bytes f.records) (all_bytes rs) ∙ ap (λ l. header ++ l) (sym (all_append f.records rs));
}

pub story_more : (t : Id) (bs : List ℕ) (f : Formed bs) (rs : List Record) → Each Valid rs → story_of t (bs ++ all_bytes rs) ≡ story t (story_of t bs) rs
unfolding formed_append
story_more t bs f rs v = story_formed t (bs ++ all_bytes rs) (formed_append f rs v refl) ∙ story_append t none f.records rs ∙ ap (λ s. story t s rs) (sym (story_formed t bs f))

-- ── the open transactions of a restart ──────────────────────────────────────────────────────────────────────────

module _ (t : Id) where
  unfoldable pub mine : List Open → List Open
  mine os = filter (is_open_as t) os

  pub nothing_mine : mine [] ≡ []
  unfolding mine filter
  nothing_mine = refl

  abbrev pub Tells : Story → List Open → Type 0
  Tells none os = mine os ≡ []
  Tells (open_with rs) os = (o : Open) × (mine os ≡ o ∷ []) × (o.entries ≡ rs) × (0 < length o.entries)
  Tells closed os = mine os ≡ []
  Tells bad os = Unit {0}

  -- another transaction's record changes nothing
  tells_same : (s : Story) (os os' : List Open) → mine os' ≡ mine os → Tells s os → Tells s os'
  tells_same none os os' e h = e ∙ h
  tells_same (open_with rs) os os' e h = (h.0, e ∙ h.1, h.2, h.3)
  tells_same closed os os' e h = e ∙ h
  tells_same bad os os' e h = tt

  commit_other : (os : List Open) (u : Id) (es : List Entry) → same_bytes u t ≡ false → mine (os ++ (record { id = u; entries = es } ∷ [])) ≡ mine os
  unfolding mine filter
  commit_other os u es d = filter_append (is_open_as t) os (record { id = u; entries = es } ∷ []) ∙ rw d (append-nil (filter (is_open_as t) os))

  commit_own : (os : List Open) (u : Id) (es : List Entry) → same_bytes u t ≡ true → mine os ≡ [] → mine (os ++ (record { id = u; entries = es } ∷ [])) ≡ record { id = u; entries = es } ∷ []
  unfolding mine filter
  commit_own os u es d n = filter_append (is_open_as t) os (record { id = u; entries = es } ∷ []) ∙ rw (n, d) refl

  forget_other : (os : List Open) (u : Id) → same_bytes u t ≡ false → mine (filter (λ o. not (is_open_as u o)) os) ≡ mine os
  unfolding mine
  forget_other os u d = filter_filter (is_open_as t) (λ o. not (is_open_as u o)) os ∙ filter_same (λ o. not (is_open_as u o) && is_open_as t o) (is_open_as t) os (λ o m. keep o)
    where
      keep : (o : Open) → (not (is_open_as u o) && is_open_as t o) ≡ is_open_as t o
      keep o = by_test (is_open_as u o)
          (λ p. by_test (is_open_as t o) (λ q. no_clash (same_bytes u t) (rw (sym (same_equal o.id u p) ∙ same_equal o.id t q) (same_refl t)) d) (λ q. rw (p, q) refl))
          (λ p. rw p refl)

  forget_own : (os : List Open) (u : Id) → same_bytes u t ≡ true → mine (filter (λ o. not (is_open_as u o)) os) ≡ []
  unfolding mine
  forget_own os u d = filter_filter (is_open_as t) (λ o. not (is_open_as u o)) os ∙ filter_none (λ o. not (is_open_as u o) && is_open_as t o) os (λ o m. drops o)
    where
      drops : (o : Open) → (not (is_open_as u o) && is_open_as t o) ≡ false
      drops o = rw (same_equal u t d) (by_test (is_open_as t o) (λ q. rw q refl) (λ q. rw q refl))

  tells_commit : (s : Story) (os : List Open) (u : Id) (es : List Entry) → 0 < length es → same_bytes u t ≡ true → Tells s os → Tells (on_commit s es) (os ++ (record { id = u; entries = es } ∷ []))
  tells_commit none os u es n d h = (record { id = u; entries = es }, commit_own os u es d h, refl, n)
  tells_commit (open_with rs) os u es n d h = tt
  tells_commit closed os u es n d h = tt
  tells_commit bad os u es n d h = tt

  tells_forget : (s : Story) (os : List Open) (u : Id) → same_bytes u t ≡ true → Tells (on_forget s) (filter (λ o. not (is_open_as u o)) os)
  tells_forget none os u d = tt
  tells_forget (open_with rs) os u d = forget_own os u d
  tells_forget closed os u d = tt
  tells_forget bad os u d = tt

  some_entry : {u : Id} {es : List Entry} → Valid (Record.commit u es) → 0 < length es
  some_entry (valid_commit a b c d) = b

  tells_next : (r : Record) → Valid r → (s : Story) (os : List Open) → Tells s os → Tells (next t s r) (after_record os r)
  unfolding next after_record
  tells_next (Record.commit u es) v s os h = by_test (same_bytes u t)
      (λ d. rw d (tells_commit s os u es (some_entry v) d h))
      (λ d. rw d (tells_same s os (os ++ (record { id = u; entries = es } ∷ [])) (commit_other os u es d) h))
  tells_next (Record.forget u) v s os h = by_test (same_bytes u t)
      (λ d. rw d (tells_forget s os u d))
      (λ d. rw d (tells_same s os (filter (λ o. not (is_open_as u o)) os) (forget_other os u d) h))

  -- what the records tell of t, restart finds
  pub tells : (rs : List Record) → Each Valid rs → (s : Story) (os : List Open) → Tells s os → Tells (story t s rs) (open_after os rs)
  unfolding story open_after
  tells [] v s os h = h
  tells (r ∷ rs) v s os h = tells rs (each_rest v) (next t s r) (after_record os r) (tells_next r (each_head v) s os h)
