-- The number is stored right behind the identifier, whose length is known.
use native.Mathlib.Omega.{arith}
use borrow.Author.Rules.{rules}
use mathlib.Core.Path.{◌≡◌}
use lib.ListN.{length, length-append}
use Rattle.lists.proofs.Stores.{sets_append}
use Rattle.log_writer.proofs.put_entry.Goals as goal

pub returns : goal.returns
returns c =
    let n : length c.args.e.rm.0 ≡ 16 = search rules in
    (rw (sets_append, n, ← c.put_bytes.ensures) (rw c.low_of.ensures at c.put_bytes-2.ensures), simp length-append (omega arith))
