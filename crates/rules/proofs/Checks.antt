-- A refusal is the first check that applies: where it is none, no check applies; and of an event only its own checks are left.
use Prim.Native.Nat.{ℕ, zero, suc}
use mathlib.Core.Path.{◌≡◌, refl}
use mathlib.Core.Bool.{Bool, true, false, not, true≢false, or-false}
use mathlib.Core.List.{List, [], ◌∷◌, ◌++◌, map}
use lib.Dec.{eqb}
use lib.ListN.{get_or}
use borrow.Author.Tests.{eqb-true, eqb-false, not-true, not-false}
use Rattle.lists.specs.Lists.{all, any}
use Rattle.lists.proofs.Tests.{by_test, true_and}
use Rattle.rules.specs.declared.Table.{Table}
use Rattle.rules.specs.declared.Event.{Event}
use Rattle.rules.specs.declared.Act.{Act}
use Rattle.rules.specs.declared.Act.TheVariants as act
use Rattle.rules.specs.RefusalNumber as refusal
use Rattle.rules.specs.Sound.{sound_of}
use Rattle.rules.specs.Refusals.{is_one_of, names_zero, is_not_live, is_not_held, is_already_live, is_state_wrong, is_reaction_refused, is_already_held, is_full, lacks_durable, stands_elsewhere, Check, first_of, checks_of, refusal_of}
use Rattle.rules.specs.Checks as checks
use Rattle.rules.specs.Checks.{own_checks}

-- ── no check applies ────────────────────────────────────────────────────────────────────────────────────────────

-- no check gives 0, by computing
abbrev pub are_numbered : List Check → Bool
are_numbered cs = all (λ c. not (eqb c.number refusal.accepted)) cs

passed : (c : Check) (cs : List Check) → are_numbered (c ∷ cs) ≡ true → first_of (c ∷ cs) ≡ refusal.accepted → (c.applies ≡ false) × (are_numbered cs ≡ true) × (first_of cs ≡ refusal.accepted)
unfolding first_of all
passed c cs g e =
    let (m, ms) = true_and (not (eqb c.number refusal.accepted)) (are_numbered cs) g in
    by_test c.applies
    (λ t. absurd (eqb-false c.number refusal.accepted (not-true _ m) (rw t at e)))
    (λ t. (t, ms, rw t at e))

-- the check at index n
pub passes_at : (cs : List Check) (n : ℕ) → are_numbered cs ≡ true → first_of cs ≡ refusal.accepted → get_or (map (λ c. c.applies) cs) n false ≡ false
passes_at [] n g e = refl
passes_at (c ∷ cs) zero g e = (passed c cs g e).0
passes_at (c ∷ cs) (suc n) g e = let (t, ms, r) = passed c cs g e in passes_at cs n ms r

-- what holds of a step that is not refused: no check applies, each of `checks_of` in its order
pub record Accepted (tb : Table) (e : Event) (n : ℕ) : Type 0 where
  pub sound : sound_of tb ≡ true
  pub log_length : n ≡ tb.capacity
  pub zero_not_named : names_zero tb e ≡ false
  pub live : is_not_live tb e ≡ false
  pub number_held : is_not_held tb e ≡ false
  pub not_already_live : is_already_live tb e ≡ false
  pub state_right : is_state_wrong tb e ≡ false
  pub reaction_not_refused : is_reaction_refused tb e ≡ false
  pub not_already_held : is_already_held tb e ≡ false
  pub not_full : is_full tb e ≡ false
  pub durable_there : lacks_durable tb e ≡ false
  pub none_elsewhere : stands_elsewhere tb e ≡ false

pub accepted : (tb : Table) (e : Event) (n : ℕ) → refusal_of tb e n ≡ refusal.accepted → Accepted tb e n
unfolding refusal_of checks_of all
accepted tb e n q = record {
  sound = not-false (sound_of tb) (passes_at _ 0 refl q);
  log_length = eqb-true n tb.capacity (not-false _ (passes_at _ 1 refl q));
  zero_not_named = passes_at _ 2 refl q;
  live = passes_at _ 3 refl q;
  number_held = passes_at _ 4 refl q;
  not_already_live = passes_at _ 5 refl q;
  state_right = passes_at _ 6 refl q;
  reaction_not_refused = passes_at _ 7 refl q;
  not_already_held = passes_at _ 8 refl q;
  not_full = passes_at _ 9 refl q;
  durable_there = passes_at _ 10 refl q;
  none_elsewhere = passes_at _ 11 refl q;
}

-- ── the checks of each event ────────────────────────────────────────────────────────────────────────────────────

-- one name for all that has to be computed
unfoldable checking : Unit {0}
unfolding refusal_of checks_of first_of names_zero is_not_live is_not_held is_already_live is_state_wrong is_reaction_refused is_already_held is_full lacks_durable stands_elsewhere is_one_of any
checking = tt

-- the first two are every event's
abbrev pub first_two : Table → ℕ → List Check → List Check
first_two tb n cs = checks.first (sound_of tb) n tb.capacity ++ cs

-- what refuses an event refuses it whatever is checked behind
pub refused_before : (cs ds : List Check) → eqb (first_of cs) refusal.accepted ≡ false → first_of (cs ++ ds) ≡ first_of cs
unfolding first_of
refused_before [] ds n = absurd (true≢false n)
refused_before (c ∷ cs) ds n = by_test c.applies (λ t. rw t) (λ t. rw t (refused_before cs ds (rw t at n)))

-- behind them stand its own
pub refusal_checks : (tb : Table) (e : Event) (n : ℕ) (a : Act) → e.act ≡ a → refusal_of tb e n ≡ first_of (first_two tb n (own_checks a e.tx.0 e.rm.0 tb))
unfolding checking
refusal_checks tb e n act.Begin q = rw q (simp or-false)
refusal_checks tb e n (act.Enlist m k y) q = rw q (simp or-false)
refusal_checks tb e n act.Commit q = rw q (simp or-false)
refusal_checks tb e n (act.ZeroDone m) q = rw q
refusal_checks tb e n (act.Vote m v) q = rw q
refusal_checks tb e n act.Rollback q = rw q (simp or-false)
refusal_checks tb e n (act.Reply m r) q = rw q
refusal_checks tb e n (act.Ack m) q = rw q
refusal_checks tb e n (act.Lost m) q = rw q
refusal_checks tb e n act.Ask q = rw q (simp or-false)
refusal_checks tb e n act.Reenlisted q = rw q (simp or-false)
