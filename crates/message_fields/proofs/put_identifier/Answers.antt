-- The sixteen bytes are copied to their place, which is to store them one behind the other.
use Rattle.std.proofs.Common.{◌≡◌, length, rules}
use Rattle.lists.proofs.Copies.{copied}
use Rattle.message_fields.proofs.put_identifier.Goals as goal

pub returns : goal.returns
returns c =
    let long : length c.args.id ≡ 16 = search rules in
    (rw c.copy_from_slice.ensures.after (copied c.args.memory.now c.args.id c.args.start 16 c.requires long), long)
