-- The greatest of the numbers stands among them, and none is above it.
use Rattle.std.proofs.Common.{◌≡◌, ◌≤◌, rules}
use Rattle.std.specs.List.{All, Any}
use Rattle.dispenser.proofs.Greatest.{largest_is}
use Rattle.dispenser.proofs.largest.Goals as goal

pub returns : goal.returns
returns c =
    let high : All (λ e. e.number ≤ c.unwrap_or.result) c.args.table.enlistments = search rules in
    let there : Any (λ e. e.number ≡ c.unwrap_or.result) c.args.table.enlistments = search rules in
    largest_is c.args.table.enlistments c.unwrap_or.result high there
