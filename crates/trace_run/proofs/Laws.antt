-- An answer of at most 17 signals is an output line of just these: the row that holds them is read back to them.
use Prim.Native.Nat.{ℕ, ◌≤◌}
use native.Mathlib.Omega.{arith}
use mathlib.Core.Path.{◌≡◌, refl, sym, ap, ◌∙◌}
use mathlib.Core.Bool.{Bool}
use mathlib.Core.List.{List, [], map}
use Rattle.std.specs.Prelude.{Some}
use lib.ListN.{length}
use lib.Seq.{sets}
use Rattle.rules.specs.declared.Table.{Table}
use Rattle.rules.specs.declared.Event.{Event}
use Rattle.rules.specs.declared.Command.TheVariants as command
use Rattle.rules.specs.declared.Signal.{Signal}
use Rattle.rules.specs.declared.Restarted.{Restarted}
use Rattle.rules.specs.Sizes.{transaction_places, enlistment_places, signals_most}
use Rattle.rules.specs.RefusalNumber.{unreadable_line}
use Rattle.rules.specs.Signals.{row_of}
use Rattle.rules.specs.Sound.{sound_of}
use Rattle.rules.specs.Step.{step_of}
use Rattle.rules.specs.Restart.{IsRestart}
use Rattle.rules.specs.Trace.{Traced, output_of, unreadable, restarting, obeyed}
use Rattle.rules.proofs.Preserved.{step_few_signals}
use Rattle.trace_line.proofs.Lines.{row_output}
use Rattle.rows.specs.Memory.{transaction_in, enlistment_in, table_in}
use Rattle.entering.specs.StepIn.{Answered, IsStepIn}
use Rattle.trace_run.specs.declared.Left.{Left}
use Rattle.trace_run.specs.Promises.{Holds, Answers, Obeys, ObeysIn}

pub holds : {heads rows : List (List ℕ)} {tb : Table} → (length heads ≡ transaction_places) × (map transaction_in heads ≡ tb.transactions)
    → (length rows ≡ enlistment_places) × (map enlistment_in rows ≡ tb.enlistments) → Holds heads rows tb
holds {tb = tb} (h, hs) (r, rs) = record {
  long_heads = h;
  long_rows = r;
  table = λ i. record { transactions = hs i; enlistments = rs i; capacity = tb.capacity; used = tb.used };
}

-- the memory holds the table, and its numbers are answered
answers_obey : {tb : Table} {capacity used why : ℕ} {sound : Bool} (ss : List Signal) {before after log left : List ℕ} {heads rows : List (List ℕ)} {r : Left}
    → length heads ≡ transaction_places → length rows ≡ enlistment_places → table_in heads rows capacity used ≡ tb → left ≡ log → length ss ≤ signals_most
    → Answers capacity used sound why (row_of ss) before r after
    → ObeysIn (record { table = tb; log = log; output = output_of why tb.used ss }) before r heads rows left after
answers_obey {tb} {capacity} {used} {why} ss {before} h k t l few a =
    let line = row_output why used ss few in
    let u : tb.used ≡ used = sym (ap (λ x. x.used) t) in
    record {
      long_heads = h;
      long_rows = k;
      table = rw (a.same_capacity, a.same_used) t;
      left = l;
      sized = rw u (a.line.sized ∙ ap length line);
      bytes = rw u (a.line.bytes ∙ ap (sets before 0) line);
      within = a.line.within;
    }

-- nothing is changed
pub unreadable_obeys : {capacity used : ℕ} {sound : Bool} {before after log : List ℕ} {heads rows : List (List ℕ)} {r : Left}
    → (length heads ≡ transaction_places) × (length rows ≡ enlistment_places) × (sound ≡ sound_of (table_in heads rows capacity used))
    → Answers capacity used sound unreadable_line (row_of []) before r after
    → ObeysIn (obeyed unreadable (table_in heads rows capacity used) log) before r heads rows log after × (r.sound ≡ sound_of (table_in heads rows r.capacity r.used))
unfolding obeyed
unreadable_obeys (h, k, s) a = (answers_obey [] h k refl refl (omega arith) a, rw (a.same_capacity, a.same_used) (a.known ∙ s))

pub restart_obeys : (tb : Table) (log : List ℕ) {sound : Bool} {before after left : List ℕ} {heads rows : List (List ℕ)} {x : Restarted} {r : Left}
    → IsRestart log tb.used x left → Holds heads rows x.table → Answers x.table.capacity x.table.used sound x.refusal (row_of []) before r after
    → ObeysIn (obeyed restarting tb log) before r heads rows left after
unfolding obeyed
restart_obeys tb log (is, l) h a = answers_obey [] h.long_heads h.long_rows (rw is at h.table) l (omega arith) (rw is at a)

pub step_obeys : {tb : Table} {e : Event} {sound : Bool} {before after log left : List ℕ} {heads rows : List (List ℕ)} {x : Answered} {r : Left}
    → length heads ≡ transaction_places → length rows ≡ enlistment_places → IsStepIn tb e log x heads rows left → Answers tb.capacity x.used sound x.refusal x.signals before r after
    → ObeysIn (obeyed (Some (command.Step e)) tb log) before r heads rows left after
unfolding obeyed
step_obeys {tb} {e} {log = log} h k s a = answers_obey (step_of tb e log).signals h k s.table s.log (step_few_signals tb e log) (rw (s.refusal, s.signals) at a)

-- the table is taken out of the memory
pub taken_obeys : {t : Traced} {before after log : List ℕ} {heads rows : List (List ℕ)} {r : Left} {tb : Table}
    → ObeysIn t before r heads rows log after → tb ≡ table_in heads rows r.capacity r.used → Obeys t before (record { table = tb; size = r.size }) log after
taken_obeys o e = record { table = e ∙ o.table; left = o.left; sized = o.sized; bytes = o.bytes; within = o.within }
