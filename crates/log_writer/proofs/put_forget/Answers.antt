-- The pieces of the record follow one another without a gap.
use native.Mathlib.Omega.{arith}
use borrow.Author.Rules.{rules}
use mathlib.Core.Path.{◌≡◌, sym}
use lib.ListN.{length}
use Rattle.rules.proofs.Records.{forget_size_lem}
use Rattle.log_writer.proofs.Stores.{forget_stored}
use Rattle.log_writer.proofs.put_forget.Goals as goal

pub returns : goal.returns
returns c =
    let n : length c.args.id ≡ 16 = search rules in
    (forget_stored _ c.args.used _ c.put.ensures c.put-2.ensures c.put_bytes.ensures, sym (forget_size_lem _ n), omega arith)
