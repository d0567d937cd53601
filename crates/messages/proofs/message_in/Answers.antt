-- Each field is what the definition takes from the bytes; that they are long enough is what an accepted message says.
use Prim.Native.Nat.{ℕ, ◌+◌, ◌≤◌}
use mathlib.Core.Path.{◌≡◌, ap, ◌∙◌}
use mathlib.Core.Bool.{true}
use mathlib.Core.List.{List}
use native.Mathlib.Omega.{arith}
use borrow.Author.Tests.{eqb-true}
use lib.Dec.{eqb}
use lib.ListN.{length}
use Rattle.rules.specs.Messages.{is_message, type_in, payload_of, message_in}
use Rattle.rules.proofs.MessageLaws.{message_says}
use Rattle.messages.proofs.message_in.Goals as goal

header : (bs : List ℕ) → is_message bs ≡ true → 24 ≤ length bs
header bs m = (message_says bs m).enough

-- with a payload of this size
whole : (bs : List ℕ) {kind n : ℕ} (size : ℕ) → is_message bs ≡ true → kind ≡ type_in bs → n ≡ payload_of kind → eqb n size ≡ true → 24 + size ≤ length bs
whole bs {kind} {n} size m k p e =
    let q : n ≡ payload_of (type_in bs) = p ∙ ap payload_of k in
    omega (arith, (message_says bs m).exact, eqb-true n size e)

pub field_at-kind-requires : goal.field_at-kind-requires
unfolding message_in
field_at-kind-requires c = let h = header _ c.requires in omega arith

pub field_at-requires : goal.field_at-requires
unfolding message_in
field_at-requires c = let h = header _ c.requires in omega arith

pub field_at-requires-2 : goal.field_at-requires-2
unfolding message_in
field_at-requires-2 c = let h = header _ c.requires in omega arith

pub field_at-requires-3 : goal.field_at-requires-3
unfolding message_in
field_at-requires-3 c = let h = header _ c.requires in omega arith

pub identifier_where-requires : goal.identifier_where-requires
unfolding message_in
identifier_where-requires c =
    λ e. let h = whole _ 16 c.requires c.field_at-kind.ensures (c.unwrap_or-payload.ensures ∙ c.payload_of.ensures.1) e in
    omega arith

pub identifier_where-requires-2 : goal.identifier_where-requires-2
unfolding message_in
identifier_where-requires-2 c =
    λ e. let h = whole _ 32 c.requires c.field_at-kind.ensures (c.unwrap_or-payload.ensures ∙ c.payload_of.ensures.1) e in
    omega arith

pub identifier_where-requires-3 : goal.identifier_where-requires-3
unfolding message_in
identifier_where-requires-3 c =
    λ e. let h = whole _ 32 c.requires c.field_at-kind.ensures (c.unwrap_or-payload.ensures ∙ c.payload_of.ensures.1) e in
    omega arith

pub returns : goal.returns
unfolding message_in
returns c = rw (c.identifier_where-3.ensures, c.identifier_where-2.ensures, c.identifier_where.ensures, c.field_at-3.ensures, c.field_at-2.ensures, c.field_at.ensures, c.unwrap_or-payload.ensures, c.payload_of.ensures.1, c.field_at-kind.ensures)
