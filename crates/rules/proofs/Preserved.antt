-- What every step on a sound table keeps, refused or not. A refused one returns what it was given; of an accepted one Own, Used and Count say it.
use Prim.Native.Nat.{ℕ, ◌+◌, ◌≤◌}
use native.Mathlib.Omega.{arith}
use mathlib.Core.Path.{◌≡◌, refl, sym, ◌∙◌}
use mathlib.Core.Logic.{inl, inr}
use mathlib.Core.Bool.{true, ◌&&◌, false≢true}
use mathlib.Core.List.{List, [], ◌∷◌, ◌++◌, append-nil}
use lib.ListN.{length, take, drop}
use lib.Dec.{eqb}
use borrow.Author.Tests.{eqb-true, eqb-false, eq-eqb, le-leb}
use Rattle.lists.specs.Lists.{any}
use Rattle.lists.specs.Members.{Each}
use Rattle.lists.proofs.Tests.{by_test, and_true, or_true, each_head, each_rest}
use Rattle.rules.specs.declared.Table.{Table}
use Rattle.rules.specs.declared.Event.{Event}
use Rattle.rules.specs.Sizes.{signals_most, least_capacity, largest_capacity}
use Rattle.rules.specs.RefusalNumber as refusal
use Rattle.rules.specs.Table.{fresh_of}
use Rattle.rules.specs.Sound.{Sound, sound_of}
use Rattle.rules.specs.Log.{Record, all_bytes}
use Rattle.rules.specs.Events.{accepted_of}
use Rattle.rules.specs.Refusals.{Check, first_of, checks_of, refusal_of}
use Rattle.rules.specs.Step.{Step, done_step, refused_step, step_of}
use Rattle.rules.proofs.Computing.{computing}
use Rattle.rules.proofs.Soundness.{sound_sentences, sentences_sound}
use Rattle.rules.proofs.Refused.{step_done, step_refused, step_refusal}
use Rattle.rules.proofs.Checks.{accepted}
use Rattle.rules.proofs.Own.{Typed, IsOwn, SameAt, Accepts, accepted_step}
use Rattle.rules.proofs.Used.{Writes, writes, written_whole}
use Rattle.rules.proofs.Count.{signals_few}

pub record Preserves (tb : Table) (e : Event) (log : List ℕ) (s : Step) : Type 0 where
  -- the table is sound again
  pub sound : Sound s.table
  pub same_capacity : s.table.capacity ≡ tb.capacity
  -- these records are appended: the used bytes grow by theirs, which fit, and nothing beyond them changes
  pub records : List Record
  pub used : s.table.used ≡ tb.used + length (all_bytes records)
  pub fits : s.table.used ≤ s.table.capacity
  pub stored : take s.table.used s.log ≡ take tb.used log ++ all_bytes records
  pub beyond : drop s.table.used s.log ≡ drop s.table.used log
  -- every transaction but the event's own, and what it holds, is as it was
  pub others : (q : ℕ) → (q ≡ 0 → ⊥) → (IsOwn e.act e.tx.0 e.rm.0 tb q → ⊥) → SameAt q tb s.table
  pub few_signals : length s.signals ≤ signals_most

-- what holds of a step that is done, and of one that is refused, holds of each step
pub by_step : (P : Step → Type 0) (tb : Table) (e : Event) (log : List ℕ) → (refusal_of tb e (length log) ≡ refusal.accepted → P (done_step (accepted_of tb e log)))
    → ((why : ℕ) → P (refused_step why tb log)) → P (step_of tb e log)
by_step P tb e log done refused = by_test (eqb (refusal_of tb e (length log)) refusal.accepted)
    (λ t. let fine : refusal_of tb e (length log) ≡ refusal.accepted = eqb-true _ _ t in rw (step_done tb e log fine) (done fine))
    (λ t. rw (step_refused tb e log (eqb-false _ _ t)) (refused (refusal_of tb e (length log))))

pub used_fits : {tb : Table} → Sound tb → tb.used ≤ tb.capacity
used_fits s = omega (arith, s.room)

module _ (tb : Table) (e : Event) (log : List ℕ) (s : Sound tb) (y : Typed e) where
  refused_preserves : (why : ℕ) → Preserves tb e log (refused_step why tb log)
  unfolding all_bytes
  refused_preserves why = record {
    sound = s;
    same_capacity = refl;
    records = [];
    used = omega arith;
    fits = used_fits s;
    stored = sym (append-nil (take tb.used log));
    beyond = refl;
    others = λ q z n. (refl, refl);
    few_signals = omega arith;
  }

  done_preserves : refusal_of tb e (length log) ≡ refusal.accepted → Preserves tb e log (done_step (accepted_of tb e log))
  done_preserves fine =
      let a : Accepts e.act e.tx.0 e.rm.0 tb (accepted_of tb e log).table = accepted_step tb e log fine s y in
      let w : Writes tb log (accepted_of tb e log) = writes e.act e.tx.0 e.rm.0 tb log in
      let b = written_whole tb.used (all_bytes w.records) log (omega (arith, w.used, used_fits a.sound, a.same_capacity, (accepted tb e (length log) fine).log_length)) in
      record {
        sound = a.sound;
        same_capacity = a.same_capacity;
        records = w.records;
        used = w.used;
        fits = used_fits a.sound;
        stored = rw (w.used, w.log_is) b.0;
        beyond = rw (w.used, w.log_is) b.1;
        others = a.others;
        few_signals = signals_few tb e log fine s;
      }

  pub step_preserves : Preserves tb e log (step_of tb e log)
  step_preserves = by_step (Preserves tb e log) tb e log done_preserves refused_preserves

-- Two of these hold whatever the event is: used never falls, of any table;
pub used_grows : (tb : Table) (e : Event) (log : List ℕ) → tb.used ≤ (step_of tb e log).table.used
used_grows tb e log = by_step (λ s. tb.used ≤ s.table.used) tb e log (λ fine. omega (arith, (writes e.act e.tx.0 e.rm.0 tb log).used)) (λ why. omega arith)

-- and at most 17 signals: of a table that is not sound the step is refused.
pub step_few_signals : (tb : Table) (e : Event) (log : List ℕ) → length (step_of tb e log).signals ≤ signals_most
step_few_signals tb e log =
    by_step (λ s. length s.signals ≤ signals_most) tb e log
    (λ fine. signals_few tb e log fine (sound_sentences tb (accepted tb e (length log) fine).sound))
    (λ why. omega arith)

-- ── a coordinator that starts sound ─────────────────────────────────────────────────────────────────────────────

-- the test passes again after every step
pub sound_again : (tb : Table) (e : Event) (log : List ℕ) → Typed e → sound_of tb ≡ true → sound_of (step_of tb e log).table ≡ true
sound_again tb e log y t = sentences_sound (step_of tb e log).table (step_preserves tb e log (sound_sentences tb t) y).sound

-- a number that is given is that of a check that applies
given_by : (n : ℕ) → (n ≡ refusal.accepted → ⊥) → (cs : List Check) → first_of cs ≡ n → any (λ c. eqb c.number n && c.applies) cs ≡ true
unfolding first_of any
given_by n z [] q = absurd (z (sym q))
given_by n z (c ∷ cs) q = by_test c.applies
    (λ t. or_true (eqb c.number n && c.applies) _ (inl (and_true (eq-eqb c.number n (rw t at q)) t)))
    (λ t. or_true (eqb c.number n && c.applies) _ (inr (given_by n z cs (rw t at q))))

-- so that it never refuses with 15
pub never_not_sound : (tb : Table) (e : Event) (log : List ℕ) → sound_of tb ≡ true → (step_of tb e log).refusal ≡ refusal.not_sound → ⊥
unfolding refusal_of checks_of any
never_not_sound tb e log t q = false≢true (rw t at (given_by refusal.not_sound (λ z. omega arith) (checks_of tb e (length log)) (sym (step_refusal tb e log) ∙ q)))

-- after any events
unfoldable pub table_after : List Event → Table → List ℕ → Table
table_after [] tb log = tb
table_after (e ∷ es) tb log = table_after es (step_of tb e log).table (step_of tb e log).log

sound_after : (es : List Event) (tb : Table) (log : List ℕ) → Each Typed es → sound_of tb ≡ true → sound_of (table_after es tb log) ≡ true
unfolding table_after
sound_after [] tb log h t = t
sound_after (e ∷ es) tb log h t = sound_after es (step_of tb e log).table (step_of tb e log).log (each_rest h) (sound_again tb e log (each_head h) t)

-- as one does that starts on an empty log
pub fresh_sound : (capacity : ℕ) → least_capacity ≤ capacity → capacity ≤ largest_capacity → sound_of (fresh_of capacity) ≡ true
unfolding computing
fresh_sound capacity l h = rw (le-leb least_capacity capacity l, le-leb capacity largest_capacity h)

pub sound_from_fresh : (capacity : ℕ) → least_capacity ≤ capacity → capacity ≤ largest_capacity → (es : List Event) (log : List ℕ) → Each Typed es → sound_of (table_after es (fresh_of capacity) log) ≡ true
sound_from_fresh capacity l h es log y = sound_after es (fresh_of capacity) log y (fresh_sound capacity l h)
