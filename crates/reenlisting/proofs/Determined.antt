-- The memory is of bytes that mean the outcome's table, whose used length is the one that is given; and the log is the outcome's.
use Prim.Native.Nat.{ℕ}
use mathlib.Core.Path.{◌≡◌, sym, ◌∙◌, ap}
use mathlib.Core.List.{List}
use Rattle.rules.specs.Events.{Outcome}
use Rattle.rows.specs.Memory.{table_in, OfBytes}
use Rattle.rows.proofs.Determined.{table_determined}
use Rattle.reenlisting.specs.Ends.{LeavesIn}

pub leaves_in_determined : {o : Outcome} {capacity used used' : ℕ} {heads rows heads' rows' : List (List ℕ)} {after later : List ℕ} → OfBytes heads rows → OfBytes heads' rows'
    → LeavesIn o heads rows capacity used after → LeavesIn o heads' rows' capacity used' later → (used ≡ used') × (heads ≡ heads') × (rows ≡ rows') × (after ≡ later)
leaves_in_determined {capacity = capacity} {used} {used'} {heads} {rows} {heads'} {rows'} b b' p q =
    let same : table_in heads rows capacity used ≡ table_in heads' rows' capacity used' = p.table ∙ sym q.table in
    let (h, w) = table_determined b b' same in
    (ap (λ t. t.used) same, h, w, p.log ∙ sym q.log)
