-- Right after an accepted restart an ask that is permitted is accepted: the table is sound, and it remembers the decision.
use Prim.Native.Nat.{ℕ}
use native.Mathlib.Omega.{arith}
use mathlib.Core.Path.{◌≡◌, refl, ◌∙◌, ap}
use mathlib.Core.Bool.{true, false}
use mathlib.Core.List.{List, ◌++◌}
use lib.ListN.{length}
use borrow.Author.Tests.{eq-eqb, ne_eqb}
use Rattle.lists.specs.Lists.{any}
use Rattle.lists.proofs.Tests.{and_true, false_not, some_any}
use Rattle.rules.specs.declared.Table.{Table}
use Rattle.rules.specs.declared.Event.{Event}
use Rattle.rules.specs.declared.Act.TheVariants as act
use Rattle.rules.specs.Kinds as kind
use Rattle.rules.specs.RefusalNumber as refusal
use Rattle.rules.specs.EnlistmentState as enlistment
use Rattle.rules.specs.Identifiers.{is_zero}
use Rattle.rules.specs.Table.{place_named, state_at, held}
use Rattle.rules.specs.Sound.{Sound}
use Rattle.rules.specs.Events.{is_undone}
use Rattle.rules.specs.Refusals.{first_of, refusal_of}
use Rattle.rules.specs.Step.{step_of}
use Rattle.rules.specs.Restart.{restart_of}
use Rattle.rules.proofs.Identifiers.{equal_same, identifier_nonzero}
use Rattle.rules.proofs.Soundness.{sentences_sound}
use Rattle.rules.proofs.Checks.{refusal_checks}
use Rattle.rules.proofs.Refused.{step_refusal}
use Rattle.rules.proofs.Frames.{of_held, named_found}
use Rattle.safety.specs.World.{after_restart}
use Rattle.safety.specs.Run.{restart}
use Rattle.safety.specs.Beyond.{Remembers, Remembered, AskAccepted}
use Rattle.safety.proofs.View.{state_none}
use Rattle.safety.proofs.Given.{stands_sound}
use Rattle.safety.proofs.Fitting.{live_nonzero}
use Rattle.safety.proofs.Memory.{remembered}
use Rattle.safety.proofs.Bricks.{RestartsWell, restarts_well}
use Rattle.rules.proofs.Put.{member_held}
use Rattle.safety.proofs.Alone.{waits_undone}

module _ (tb : Table) (s : Sound tb) (e : Event) (is_ask : e.act ≡ act.Ask) (m : Remembers e.tx.0 e.rm.0 tb) where
  abbrev p : ℕ
  p = place_named e.tx.0 tb

  somewhere : p ≡ 0 → ⊥
  somewhere z = omega (arith, m.state, ap (λ q. state_at q tb) z, state_none tb)

  -- neither identifier is zero
  transaction_nonzero : is_zero e.tx.0 ≡ false
  transaction_nonzero = live_nonzero tb s e.tx.0 p (stands_sound tb s e.tx.0 p (named_found e.tx.0 tb somewhere))

  manager_nonzero : is_zero e.rm.0 ≡ false
  manager_nonzero = identifier_nonzero e.rm.0 (rw m.waits.holds.1 at (s.manager_identifiers m.waits.it (of_held p tb m.waits.there).0 (member_held p tb somewhere m.waits.there)))

  -- its durable enlistment is not Done
  has_durable : any (is_undone e.rm.0) (held p tb) ≡ true
  has_durable = some_any (is_undone e.rm.0) (held p tb) (record {
    it = m.waits.it;
    there = m.waits.there;
    holds = and_true (and_true (eq-eqb m.waits.it.kind kind.durable m.waits.holds.0) (equal_same m.waits.it.rm.0 e.rm.0 m.waits.holds.1))
        (false_not (ne_eqb m.waits.it.state enlistment.done (waits_undone m.waits.it m.waits.holds)));
  })

  ask_not_refused : (n : ℕ) → n ≡ tb.capacity → refusal_of tb e n ≡ refusal.accepted
  unfolding first_of
  ask_not_refused n full = refusal_checks tb e n act.Ask is_ask ∙ rw (sentences_sound tb s, eq-eqb n tb.capacity full, transaction_nonzero, manager_nonzero, m.state, has_durable) refl

pub ask_accepted : AskAccepted
unfolding AskAccepted Remembered after_restart
ask_accepted w run log n (spare, p, q) ok e is_ask c m = rw (p, q) (go (rw (p, q) at ok))
  where
    go : (restart_of (w.disk ++ spare) (length w.disk)).refusal ≡ refusal.accepted
        → (step_of (restart_of (w.disk ++ spare) (length w.disk)).table e (restart_of (w.disk ++ spare) (length w.disk)).log).refusal ≡ refusal.accepted
    go ok = step_refusal r_table e r_log ∙ ask_not_refused r_table well.sound e is_ask (remembered (after_restart w (restart_of (w.disk ++ spare) (length w.disk))) (restart run (w.disk ++ spare) (length w.disk) (spare, refl, refl)) used e.tx.0 e.rm.0 c m) (length r_log) well.full
      where
        r_table : Table
        r_table = (restart_of (w.disk ++ spare) (length w.disk)).table

        r_log : List ℕ
        r_log = (restart_of (w.disk ++ spare) (length w.disk)).log

        well : RestartsWell (restart_of (w.disk ++ spare) (length w.disk))
        well = restarts_well w run spare ok

        used : r_table.used ≡ 0 → ⊥
        used z = omega (arith, z, well.sound.header_used)
