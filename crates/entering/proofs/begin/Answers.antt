-- Refused by its checks, the memory is as it was; else the lowest empty place is the one that is found.
use mathlib.Core.Path.{refl, ap}
use Rattle.rules.specs.Events.{begin_of}
use Rattle.refusals.proofs.Found.{begin_found}
use Rattle.rows.specs.Memory.{table_in}
use Rattle.entering.proofs.Done.{refused_does, done_does}
use Rattle.entering.proofs.Entered.{begun_in}
use Rattle.entering.proofs.begin.Goals as goal

pub returns-in_err-begin : goal.returns-in_err-begin
returns-in_err-begin c =
    λ log. let tb = table_in c.args.heads.now c.args.rows.now c.args.capacity c.args.used in
    refused_does c.args.heads.now c.args.rows.now c.args.capacity c.args.used _ _ log _ _ c.from_residual.ensures.1
    (begin_found tb c.args.id c.in_err-begin.ensures c.place_named-named.ensures c.place_free-free.ensures)

pub returns : goal.returns
unfolding begin_of
returns c =
    λ log. let tb = table_in c.args.heads.now c.args.rows.now c.args.capacity c.args.used in
    done_does c.args.heads.now c.args.rows.now c.args.capacity c.args.used _ _ log
    (begin_found tb c.args.id c.in_ok-begin.ensures c.place_named-named.ensures c.place_free-free.ensures)
    (rw c.silent.ensures (begun_in c.args.heads.now c.args.rows.now c.args.capacity c.args.used c.args.id log c.place_free-free.ensures c.put_transaction.ensures))
    (ap (λ a. a.signals) c.silent.ensures) refl
