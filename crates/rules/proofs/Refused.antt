-- What is refused gives back what it was given: each definition chooses between the answers that say so and those that are not refused.
use Prim.Native.Nat.{ℕ}
use mathlib.Core.Path.{◌≡◌, refl, sym, ◌∙◌, ap}
use mathlib.Core.List.{List}
use lib.Dec.{eqb, ltb}
use lib.ListN.{length, take}
use borrow.Author.Tests.{eqb-true, eq-eqb, ne_eqb}
use Rattle.lists.proofs.Tests.{by_test, by_cond}
use Rattle.rules.specs.declared.Table.{Table}
use Rattle.rules.specs.declared.Event.{Event}
use Rattle.rules.specs.declared.Message.{Message}
use Rattle.rules.specs.declared.Row.{Row}
use Rattle.rules.specs.RefusalNumber as refusal
use Rattle.rules.specs.Events.{accepted_of}
use Rattle.rules.specs.Refusals.{refusal_of}
use Rattle.rules.specs.Step.{refused_step, done_step, step_of}
use Rattle.rules.specs.Sizes.{header_size}
use Rattle.rules.specs.Identifiers.{same_bytes}
use Rattle.rules.specs.Log.{header}
use Rattle.rules.specs.Restart.{Restart, refused_restart, is_damaged, is_too_short, is_outside, body_of, read_back, restart_of}
use Rattle.rules.specs.Messages.{no_message, read_of, write_of}
use Rattle.rules.specs.Listing.{Listing, list_of, listing_refusal}
use Rattle.rules.proofs.MessageLaws.{read_refused, write_refused}

-- ── steps ───────────────────────────────────────────────────────────────────────────────────────────────────────

module _ (tb : Table) (e : Event) (log : List ℕ) where
  pub step_done : refusal_of tb e (length log) ≡ refusal.accepted → step_of tb e log ≡ done_step (accepted_of tb e log)
  unfolding step_of
  step_done q = rw (eq-eqb (refusal_of tb e (length log)) refusal.accepted q)

  pub step_refused : (refusal_of tb e (length log) ≡ refusal.accepted → ⊥) → step_of tb e log ≡ refused_step (refusal_of tb e (length log)) tb log
  unfolding step_of
  step_refused n = rw (ne_eqb (refusal_of tb e (length log)) refusal.accepted n)

  pub step_refusal : (step_of tb e log).refusal ≡ refusal_of tb e (length log)
  unfolding step_of
  step_refusal = by_test (eqb (refusal_of tb e (length log)) refusal.accepted)
      (λ q. rw q (sym (eqb-true (refusal_of tb e (length log)) refusal.accepted q)))
      (λ q. rw q)

  -- "Refused steps return the table they were given, used length and log bytes untouched, no signals."
  pub refused_step_lem : (why : ℕ) → (step_of tb e log).refusal ≡ why → (why ≡ refusal.accepted → ⊥) → step_of tb e log ≡ refused_step why tb log
  refused_step_lem why q n =
      let p : refusal_of tb e (length log) ≡ why = sym step_refusal ∙ q in
      step_refused (λ z. n (sym p ∙ z)) ∙ rw p

-- ── restart ─────────────────────────────────────────────────────────────────────────────────────────────────────

-- a refused one is this one
abbrev Given : List ℕ → Restart → Type 0
Given log r = (r.refusal ≡ refusal.accepted → ⊥) → r ≡ refused_restart r.refusal log

read_given : (body log : List ℕ) → Given log (read_back body log)
unfolding read_back
read_given body log = by_test (is_damaged body)
    (λ t. rw t (λ n. refl))
    (λ t. rw t (by_test (is_too_short body (length log)) (λ u. rw u (λ n. refl)) (λ u. rw u (λ n. absurd (n refl)))))

restart_given : (log : List ℕ) (stored : ℕ) → Given log (restart_of log stored)
unfolding restart_of
restart_given log stored = by_test (is_outside log stored)
    (λ t. rw t (λ n. refl))
    (λ t. rw t (by_test (ltb stored header_size)
    (λ u. rw u (by_test (same_bytes (take stored log) (take stored header)) (λ v. rw v (λ n. absurd (n refl))) (λ v. rw v (λ n. refl))))
    (λ u. rw u (by_test (same_bytes (take header_size log) header) (λ v. rw v (read_given (body_of log stored) log)) (λ v. rw v (λ n. refl))))))

-- "Refused restart: an all-zero table, log untouched."
pub refused_restart_lem : (log : List ℕ) (stored why : ℕ) → (restart_of log stored).refusal ≡ why → (why ≡ refusal.accepted → ⊥) → restart_of log stored ≡ refused_restart why log
refused_restart_lem log stored why q n = restart_given log stored (λ z. n (sym q ∙ z)) ∙ ap (λ w. refused_restart w log) q

-- ── reader, writer, listing ─────────────────────────────────────────────────────────────────────────────────────

-- "Refused reader: an all-zero message."
pub refused_reader : (bs : List ℕ) (why : ℕ) → (read_of bs).refusal ≡ why → (why ≡ refusal.accepted → ⊥) → read_of bs ≡ record { refusal = why; message = no_message }
refused_reader bs why q n =
    let r = read_refused bs (λ z. n (sym q ∙ z)) in
    r ∙ ap (λ w. record { refusal = w; message = no_message }) (sym (ap (λ a. a.refusal) r) ∙ q)

-- "Refused writer ..: length .. 0, lent memory untouched."
pub refused_writer : (m : Message) (memory : List ℕ) (why : ℕ) → (write_of m memory).refusal ≡ why → (why ≡ refusal.accepted → ⊥)
    → write_of m memory ≡ record { refusal = why; length = 0; memory = memory }
refused_writer m memory why q n =
    let r = write_refused m memory (λ z. n (sym q ∙ z)) in
    r ∙ ap (λ w. record { refusal = w; length = 0; memory = memory }) (sym (ap (λ a. a.refusal) r) ∙ q)

-- "Refused .. listing: .. row count 0, lent memory untouched."
pub refused_listing : (tb : Table) (rows : List Row) (why : ℕ) → (list_of tb rows).refusal ≡ why → (why ≡ refusal.accepted → ⊥)
    → list_of tb rows ≡ record { refusal = why; count = 0; rows = rows }
unfolding list_of
refused_listing tb rows why q n = go (λ z. n (sym q ∙ z)) ∙ ap (λ w. record { refusal = w; count = 0; rows = rows }) q
  where
    go : ((list_of tb rows).refusal ≡ refusal.accepted → ⊥) → list_of tb rows ≡ record { refusal = (list_of tb rows).refusal; count = 0; rows = rows }
    go = by_cond (λ (l : Listing). (l.refusal ≡ refusal.accepted → ⊥) → l ≡ record { refusal = l.refusal; count = 0; rows = rows }) (eqb (listing_refusal tb (length rows)) refusal.accepted) (λ z. absurd (z refl)) (λ z. refl)
