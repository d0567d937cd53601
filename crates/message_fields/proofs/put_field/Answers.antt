-- The four bytes are copied to their place, which is to store them one behind the other.
use Rattle.std.proofs.Common.{refl}
use Rattle.lists.proofs.Copies.{copied}
use Rattle.rules.specs.Log.{low4}
use Rattle.message_fields.proofs.put_field.Goals as goal

pub returns : goal.returns
returns c = rw (c.copy_from_slice.ensures.after, c.low_of-low.ensures) (copied c.args.memory.now (low4 c.args.n) c.args.start 4 c.requires refl)
