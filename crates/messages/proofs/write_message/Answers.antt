-- The payload is stored where the header ends, so that the two stores are one of the message's bytes; what is refused is not stored.
use Prim.Native.Nat.{ℕ, ◌+◌, ◌≤◌}
use mathlib.Core.Path.{◌≡◌, refl, sym, ◌∙◌, ap}
use mathlib.Core.Bool.{Bool, true, false, ◌&&◌}
use mathlib.Core.List.{List, ◌++◌}
use Rattle.std.proofs.Common.{Ok, Err}
use native.Mathlib.Omega.{arith}
use borrow.Author.Tests.{leb-true}
use lib.Dec.{leb}
use lib.ListN.{length, drop}
use lib.Seq.{sets, sets-eq}
use Rattle.lists.proofs.Tests.{true_and}
use Rattle.rules.specs.declared.Message.{Message}
use Rattle.rules.specs.declared.Refusal.TheVariants as refused
use Rattle.rules.specs.Messages.{payload_of, is_writable, payload_bytes, message_bytes, fits, write_of, written_answer}
use Rattle.messages.specs.Promises.{IsWriting, header_bytes}
use Rattle.messages.proofs.write_message.Goals as goal

module _ (m : Message) (l : List ℕ) {n : ℕ} (p : n ≡ payload_of m.kind) {good : Bool} (g : good ≡ (is_writable m && leb (24 + n) (length l))) where
  has_room : good ≡ true → 24 + n ≤ length l
  has_room e = leb-true (24 + n) (length l) (true_and (is_writable m) (leb (24 + n) (length l)) (sym g ∙ e)).1

  decides : good ≡ fits m l
  decides = rw p at g

  stored : {l1 l2 : List ℕ} → good ≡ true → l1 ≡ sets l 0 (header_bytes m n) → l2 ≡ sets l1 24 (payload_bytes m) → length (payload_bytes m) ≡ n
      → l2 ≡ header_bytes m n ++ payload_bytes m ++ drop (24 + n) l
  stored {l1} {l2} e a b h =
      let r = has_room e in
      let bs = header_bytes m n ++ payload_bytes m in
      let long : 0 + length bs ≡ 24 + n = omega (arith, h) in
      b ∙ rw a (sets-eq bs l 0 (omega arith) ∙ ap (λ k. bs ++ drop k l) long)

  written : {l1 l2 : List ℕ} → good ≡ true → l1 ≡ sets l 0 (header_bytes m n) → l2 ≡ sets l1 24 (payload_bytes m) → length (payload_bytes m) ≡ n
      → IsWriting m l (written_answer (Ok (24 + n))) l2
  unfolding write_of message_bytes
  written e a b h = rw (sym decides ∙ e) (rw p, stored e a b h ∙ rw p)

  unwritten : good ≡ false → IsWriting m l (written_answer (Err refused.BadMessage)) l
  unfolding write_of
  unwritten e = rw (sym decides ∙ e) (refl, refl)

pub put_header-requires : goal.put_header-requires
put_header-requires c =
    let h = has_room c.args.message c.args.memory.now (c.unwrap_or-payload.ensures ∙ c.payload_of.ensures.1) c.fits.ensures c.if-not-fits.false in
    omega arith

pub put_payload-requires : goal.put_payload-requires
put_payload-requires c =
    let r = has_room c.args.message c.args.memory.now (c.unwrap_or-payload.ensures ∙ c.payload_of.ensures.1) c.fits.ensures c.if-not-fits.false in
    ((c.unwrap_or-payload.ensures ∙ c.payload_of.ensures.1), omega (arith, c.put_header.auto.memory))

pub returns : goal.returns
returns c = written c.args.message c.args.memory.now (c.unwrap_or-payload.ensures ∙ c.payload_of.ensures.1) c.fits.ensures c.if-not-fits.false c.put_header.ensures c.put_payload.ensures.0 c.put_payload.ensures.1

pub returns-then-not-fits : goal.returns-then-not-fits
returns-then-not-fits c = unwritten c.args.message c.args.memory.now (c.unwrap_or-payload.ensures ∙ c.payload_of.ensures.1) c.fits.ensures c.if-not-fits.true
