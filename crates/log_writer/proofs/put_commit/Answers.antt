-- The pieces of the record follow one another without a gap.
use native.Mathlib.Omega.{arith}
use borrow.Author.Rules.{rules}
use mathlib.Core.Path.{◌≡◌}
use lib.ListN.{length, take}
use lib.Seq.{length-take-le}
use Rattle.lists.proofs.Loops.{long}
use Rattle.log_writer.proofs.Stores.{commit_stored, commit_length}
use Rattle.log_writer.proofs.put_commit.Goals as goal

pub returns : goal.returns
returns c =
    let h : length c.args.line.items ≡ 17 = search long in
    let n : length c.args.id ≡ 16 = search rules in
    let few : length (take c.args.line.count c.args.line.items) ≡ c.args.line.count = length-take-le c.args.line.count c.args.line.items (omega arith) in (
      commit_stored c.args.log.now c.args.used c.args.line.count c.args.id (take c.args.line.count c.args.line.items) c.put.ensures c.put-2.ensures c.put_bytes.ensures n c.put_entries.ensures.0 few,
      commit_length c.args.id c.args.line.count (take c.args.line.count c.args.line.items) n (rw few at c.put_entries.ensures.1),
      omega arith,
    )
