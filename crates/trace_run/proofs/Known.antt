-- A table is sound after a step of the trace program just where it was before: a step keeps a sound table sound, and is refused on another.
use Prim.Native.Nat.{ℕ}
use mathlib.Core.Path.{◌≡◌, sym, ap, ◌∙◌}
use mathlib.Core.Bool.{Bool}
use mathlib.Core.List.{List}
use Rattle.std.specs.Prelude.{Some}
use lib.ListN.{length}
use Rattle.lists.proofs.Tests.{by_test, no_clash}
use Rattle.rules.specs.declared.Table.{Table}
use Rattle.rules.specs.declared.Event.{Event}
use Rattle.rules.specs.declared.Command.TheVariants as command
use Rattle.rules.specs.Sound.{sound_of}
use Rattle.rules.specs.Step.{step_of}
use Rattle.rules.specs.Trace.{obeyed}
use Rattle.rules.proofs.Checks.{accepted}
use Rattle.rules.proofs.Own.{Typed}
use Rattle.rules.proofs.Preserved.{sound_again}
use Rattle.rules.proofs.Refused.{step_refused}
use Rattle.rows.specs.Memory.{table_in}
use Rattle.trace_run.specs.declared.Left.{Left}
use Rattle.trace_run.specs.Promises.{ObeysIn}

sound_as_before : (tb : Table) (e : Event) (log : List ℕ) → Typed e → sound_of (step_of tb e log).table ≡ sound_of tb
sound_as_before tb e log y = by_test (sound_of tb)
    (λ t. sound_again tb e log y t ∙ sym t)
    (λ f. ap (λ s. sound_of s.table) (step_refused tb e log (λ q. no_clash (sound_of tb) (accepted tb e (length log) q).sound f)))

pub known_again : (tb : Table) (e : Event) (log : List ℕ) {sound : Bool} {before after left : List ℕ} {heads rows : List (List ℕ)} {r : Left} → Typed e → sound ≡ sound_of tb
    → ObeysIn (obeyed (Some (command.Step e)) tb log) before r heads rows left after → r.sound ≡ sound → r.sound ≡ sound_of (table_in heads rows r.capacity r.used)
unfolding obeyed
known_again tb e log y s o k = k ∙ s ∙ sym (sound_as_before tb e log y) ∙ ap sound_of (sym o.table)
