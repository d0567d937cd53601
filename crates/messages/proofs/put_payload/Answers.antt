-- The payload's length decides which of the identifiers are stored, as in the definition of a payload's bytes.
use Prim.Native.Nat.{ℕ}
use mathlib.Core.Path.{◌≡◌, refl, sym, ◌∙◌}
use mathlib.Core.List.{List}
use native.Mathlib.Omega.{arith}
use borrow.Author.Tests.{eq-eqb, ne_eqb}
use lib.ListN.{length, length-append}
use lib.Seq.{sets}
use Rattle.rules.specs.declared.Message.{Message}
use Rattle.rules.specs.Messages.{payload_of, payload_bytes, manager_payload, transaction_payload}
use Rattle.rules.proofs.MessageLaws.{Sized, manager, transaction, nothing, payload_sized}
use Rattle.lists.proofs.Stores.{sets_append}
use Rattle.messages.proofs.put_payload.Goals as goal

abbrev IsPut : Message → ℕ → List ℕ → List ℕ → Type 0
IsPut m n before after = (after ≡ sets before 24 (payload_bytes m)) × (length (payload_bytes m) ≡ n)

module _ (m : Message) (l : List ℕ) {n : ℕ} (p : n ≡ payload_of m.kind) where
  two : {l1 l2 : List ℕ} → n ≡ manager_payload → l1 ≡ sets l 24 m.rm.0 → length m.rm.0 ≡ 16
      → l2 ≡ sets l1 40 m.session.0 → length m.session.0 ≡ 16 → IsPut m n l l2
  two {l1} {l2} e a ha b hb =
      rw (sym p, eq-eqb n manager_payload e) (b ∙ rw (sets_append l 24 m.rm.0 m.session.0, ha, a), simp length-append (omega arith))

  one : {l1 : List ℕ} → (n ≡ manager_payload → ⊥) → n ≡ transaction_payload → l1 ≡ sets l 24 m.tx.0 → length m.tx.0 ≡ 16 → IsPut m n l l1
  one f e a ha = rw (sym p, ne_eqb n manager_payload f, eq-eqb n transaction_payload e) (a, omega arith)

  none : (n ≡ manager_payload → ⊥) → (n ≡ transaction_payload → ⊥) → IsPut m n l l
  none f e = rw (sym p, ne_eqb n manager_payload f, ne_eqb n transaction_payload e) (refl, empty (rw (sym p) at (payload_sized m.kind)))
    where
      empty : Sized n → 0 ≡ n
      empty (manager q) = absurd (f q)
      empty (transaction q) = absurd (e q)
      empty (nothing q) = sym q

pub returns-then-payload-eq-MANAGER : goal.returns-then-payload-eq-MANAGER
returns-then-payload-eq-MANAGER c = two c.args.message c.args.memory.now c.requires.0 c.if-payload-eq-MANAGER.true c.put_identifier.ensures.0 c.put_identifier.ensures.1 c.put_identifier-then-payload-eq-MANAGER.ensures.0 c.put_identifier-then-payload-eq-MANAGER.ensures.1

pub returns-then-payload-eq-TRANSACTION : goal.returns-then-payload-eq-TRANSACTION
returns-then-payload-eq-TRANSACTION c = one c.args.message c.args.memory.now c.requires.0 c.if-payload-eq-MANAGER.false c.if-payload-eq-TRANSACTION.true c.put_identifier-then-payload-eq-TRANSACTION.ensures.0 c.put_identifier-then-payload-eq-TRANSACTION.ensures.1

pub returns-else-payload-eq-TRANSACTION : goal.returns-else-payload-eq-TRANSACTION
returns-else-payload-eq-TRANSACTION c = none c.args.message c.args.memory.now c.requires.0 c.if-payload-eq-MANAGER.false c.if-payload-eq-TRANSACTION.false
