-- Each byte stands at its place behind the first.
use native.Mathlib.Omega.{arith}
use Rattle.std.proofs.Common.{ℕ, ◌<◌, ◌≡◌, ◌+◌, rules, get_or}
use Rattle.log_reader.proofs.Places.{bytes_there}
use Rattle.log_reader.proofs.identifier_from.Goals as goal

pub returns : goal.returns
returns c =
    let each : (i : ℕ) → i < 16 → get_or c.from_fn.result i 0 ≡ get_or c.args.log.now (c.args.at + (c.args.from + i)) 0 = λ i h. let k = c.from_fn.ensures.items.at i 0 h in search rules in
    bytes_there _ _ _ _ c.from_fn.ensures.items.long (λ i h. let q : c.args.at + (c.args.from + i) ≡ c.args.at + c.args.from + i = omega arith in rw q at (each i h))
