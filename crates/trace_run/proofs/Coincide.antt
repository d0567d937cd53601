-- Two results of `obey` on the same line, table, log and buffer coincide, and so do the logs and buffers that they leave: the promise says what each of them is. Of `obey_in` it is so too,
-- and the memory that two of its calls leave, or two of `put_table`, is the same: it holds the same table, which determines its bytes.
use Prim.Native.Nat.{ℕ}
use mathlib.Core.Path.{◌≡◌, sym, ap, ◌∙◌}
use mathlib.Core.List.{List}
use Rattle.rules.specs.declared.Table.{Table}
use Rattle.rules.specs.Sound.{sound_of}
use Rattle.rules.specs.Trace.{Traced}
use Rattle.rows.specs.Memory.{table_in, OfBytes}
use Rattle.rows.proofs.Determined.{table_determined}
use Rattle.trace_run.specs.declared.Left.{Left}
use Rattle.trace_run.specs.declared.Obeyed.{Obeyed}
use Rattle.trace_run.specs.Promises.{Holds, Obeys, ObeysIn}

pub puttings_coincide : (tb : Table) {heads rows heads' rows' : List (List ℕ)} → OfBytes heads rows → OfBytes heads' rows' → Holds heads rows tb → Holds heads' rows' tb → (heads ≡ heads') × (rows ≡ rows')
puttings_coincide tb c d a b = table_determined c d (a.table ∙ sym b.table)

pub obeyings_coincide : {t : Traced} {before : List ℕ} {o p : Obeyed} {log other after later : List ℕ}
    → Obeys t before o log after → Obeys t before p other later
    → (o ≡ p) × (log ≡ other) × (after ≡ later)
obeyings_coincide a b =
    ((λ i. record { table = (a.table ∙ sym b.table) i; size = (a.sized ∙ sym b.sized) i }), a.left ∙ sym b.left, a.bytes ∙ sym b.bytes)

pub obeyings_in_coincide : {t : Traced} {before : List ℕ} {o p : Left} {heads rows heads' rows' : List (List ℕ)} {log other after later : List ℕ} → OfBytes heads rows → OfBytes heads' rows'
    → ObeysIn t before o heads rows log after × (o.sound ≡ sound_of (table_in heads rows o.capacity o.used))
    → ObeysIn t before p heads' rows' other later × (p.sound ≡ sound_of (table_in heads' rows' p.capacity p.used))
    → (o ≡ p) × (heads ≡ heads') × (rows ≡ rows') × (log ≡ other) × (after ≡ later)
obeyings_in_coincide c d (a, s) (b, t) =
    let same = a.table ∙ sym b.table in
    let known = s ∙ ap sound_of same ∙ sym t in
    let (h, w) = table_determined c d same in
    ((λ i. record { capacity = (same i).capacity; used = (same i).used; sound = known i; size = (a.sized ∙ sym b.sized) i }), h, w, a.left ∙ sym b.left, a.bytes ∙ sym b.bytes)
