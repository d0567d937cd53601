-- The four bytes at the start are those of the part that the definition takes.
use Prim.Native.Nat.{ℕ, ◌+◌, ◌*◌, ◌<◌}
use mathlib.Core.Path.{◌≡◌, ◌∙◌, sym}
use mathlib.Core.List.{List}
use native.Mathlib.Omega.{arith}
use lib.Dec.{lit<}
use lib.ListN.{get_or, take, drop}
use lib.Seq.{get_or-take, get_or-drop}
use Rattle.rules.specs.Messages.{field_at}
use Rattle.message_fields.proofs.field_at.Goals as goal

field : (bs : List ℕ) (s : ℕ) → field_at s bs ≡ get_or bs s 0 + 256 * get_or bs (s + 1) 0 + 65536 * get_or bs (s + 2) 0 + 16777216 * get_or bs (s + 3) 0
field bs s =
    let at : (i : ℕ) → i < 4 → get_or (take 4 (drop s bs)) i 0 ≡ get_or bs (s + i) 0 = λ i h. get_or-take 4 (drop s bs) i 0 h ∙ get_or-drop s bs i 0 in
    let e : s + 0 ≡ s = omega arith in
    rw (at 0 (lit< tt), at 1 (lit< tt), at 2 (lit< tt), at 3 (lit< tt), e)

pub returns : goal.returns
returns c = c.number_of.ensures ∙ sym (field c.args.bytes.now c.args.start)
