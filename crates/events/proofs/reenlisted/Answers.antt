-- Refused by its checks, the memory is as it was; and one stands elsewhere if and only if its place is found.
use mathlib.Core.Path.{refl, sym, ◌∙◌, ap}
use Rattle.rules.specs.Signals.{row_of}
use Rattle.rules.specs.Events.{reenlisted_of}
use Rattle.rules.specs.Checks.{reenlisted_checks}
use Rattle.refusals.proofs.Found.{reenlisted_found}
use Rattle.reenlisting.proofs.Laws.{reenlisted_quiet}
use Rattle.rows.specs.Memory.{table_in}
use Rattle.entering.proofs.Done.{refused_does, done_does}
use Rattle.events.proofs.Asking.{elsewhere_any, fine_ready}
use Rattle.events.proofs.reenlisted.Goals as goal

pub returns-in_err-reenlisted : goal.returns-in_err-reenlisted
returns-in_err-reenlisted c =
    let tb = table_in c.args.heads.now c.args.rows.now c.args.capacity c.args.used in
    refused_does c.args.heads.now c.args.rows.now c.args.capacity c.args.used (reenlisted_checks tb c.args.rm) (reenlisted_of c.args.rm tb c.args.log.now) c.args.log.now _ _ c.from_residual.ensures.1
    (reenlisted_found tb c.args.rm c.in_err-reenlisted.ensures (elsewhere_any c.args.rm tb c.place_elsewhere-elsewhere.ensures c.table_in-table.ensures))

pub reenlisted-after-requires : goal.reenlisted-after-requires
reenlisted-after-requires c = fine_ready c.told-heads c.told-rows c.requires.0

pub returns : goal.returns
returns c =
    let tb = table_in c.args.heads.now c.args.rows.now c.args.capacity c.args.used in
    let l = c.reenlisted-after.ensures in
    done_does c.args.heads.now c.args.rows.now c.args.capacity c.args.used (reenlisted_checks tb c.args.rm) (reenlisted_of c.args.rm tb c.args.log.now) c.args.log.now
    (reenlisted_found tb c.args.rm c.in_ok-reenlisted.ensures (elsewhere_any c.args.rm tb c.place_elsewhere-elsewhere.ensures c.table_in-table.ensures))
    (rw c.silent.ensures l.table) (ap (λ a. a.signals) c.silent.ensures ∙ ap row_of (sym (reenlisted_quiet c.args.rm tb c.args.log.now))) l.log
