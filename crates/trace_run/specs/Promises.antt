-- What a line of the trace program leaves.
use Rattle.std.specs.Prelude.{ℕ, ◌≤◌, ◌≡◌, Bool, List, [], ◌∷◌, ◌++◌, length}
use Rattle.std.proofs.lemmas.List.Edits.{sets}
use Rattle.rules.specs.declared.Table.{Table}
use Rattle.rules.specs.declared.Signals.{Signals}
use Rattle.rules.specs.Sizes.{transaction_places, enlistment_places}
use Rattle.rules.specs.Trace.{Traced}
use Rattle.trace_line.specs.Promises.{IsWriting, newline}
use Rattle.trace_parts.specs.Puts.{output_most}
use Rattle.rows.specs.Memory.{table_in}
use Rattle.trace_run.specs.declared.Left.{Left}
use Rattle.trace_run.specs.declared.Obeyed.{Obeyed}

-- lent memory, which holds this table
pub record Holds (heads rows : List (List ℕ)) (tb : Table) : Type 0 where
  pub long_heads : length heads ≡ transaction_places
  pub long_rows : length rows ≡ enlistment_places
  pub table : table_in heads rows tb.capacity tb.used ≡ tb

-- these numbers of the table, with what is known of it, and an output line with this refusal and these signals
pub record Answers (capacity used : ℕ) (sound : Bool) (why : ℕ) (signals : Signals) (before : List ℕ) (r : Left) (after : List ℕ) : Type 0 where
  pub same_capacity : r.capacity ≡ capacity
  pub same_used : r.used ≡ used
  pub known : r.sound ≡ sound
  pub line : IsWriting why used signals before r.size after

-- the table and the log, and at the start of the lent buffer the output line with its newline; nothing behind it is changed
pub record Obeys (t : Traced) (before : List ℕ) (o : Obeyed) (log after : List ℕ) : Type 0 where
  pub table : o.table ≡ t.table
  pub left : log ≡ t.log
  pub sized : o.size ≡ length (t.output ++ (newline ∷ []))
  pub bytes : after ≡ sets before 0 (t.output ++ (newline ∷ []))
  -- follows from the third, and lets a caller take these bytes of the buffer
  pub within : o.size ≤ output_most

-- the same, where the table is in lent memory
pub record ObeysIn (t : Traced) (before : List ℕ) (r : Left) (heads rows : List (List ℕ)) (log after : List ℕ) : Type 0 where
  pub long_heads : length heads ≡ transaction_places
  pub long_rows : length rows ≡ enlistment_places
  pub table : table_in heads rows r.capacity r.used ≡ t.table
  pub left : log ≡ t.log
  pub sized : r.size ≡ length (t.output ++ (newline ∷ []))
  pub bytes : after ≡ sets before 0 (t.output ++ (newline ∷ []))
  pub within : r.size ≤ output_most
