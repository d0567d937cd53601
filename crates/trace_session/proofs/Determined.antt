-- What is kept of a line is put there, and a part's end says whether a line ends there and what is taken.
use Prim.Native.Nat.{ℕ, ◌+◌}
use mathlib.Core.Path.{◌≡◌, sym, ◌∙◌, ap}
use mathlib.Core.Bool.{cond}
use mathlib.Core.List.{List}
use lib.Dec.{ltb}
use lib.ListN.{length}
use Rattle.trace_parts.proofs.Determined.{puts_determined}
use Rattle.trace_session.specs.declared.Part.{Part}
use Rattle.trace_session.specs.Counts.{Keeps, Parts}

pub keeps_determined : {kept r s : ℕ} {before more after later : List ℕ} → Keeps kept before more r after → Keeps kept before more s later → (r ≡ s) × (after ≡ later)
keeps_determined p q = puts_determined p.puts q.puts

pub parts_determined : (block : List ℕ) (from : ℕ) {r s : Part} → Parts block from r → Parts block from s → r ≡ s
parts_determined block from {r} {s} p q = λ i. record { end = end i; whole = whole i; taken = (p.taken ∙ (λ j. cond (whole j) (end j + 1) (end j)) ∙ sym q.taken) i }
  where
    end : r.end ≡ s.end
    end = p.found ∙ sym q.found

    whole : r.whole ≡ s.whole
    whole = p.whole ∙ ap (λ n. ltb n (length block)) end ∙ sym q.whole
