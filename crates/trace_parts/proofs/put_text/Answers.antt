-- What is copied into a part of the buffer is written there, and nothing else.
use Rattle.trace_parts.proofs.Puts.{put_copied}
use Rattle.trace_parts.proofs.put_text.Goals as goal

pub returns : goal.returns
returns c = put_copied c.requires c.copy_from_slice.ensures.after
