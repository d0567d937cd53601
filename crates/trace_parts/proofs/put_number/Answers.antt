-- The digits are the bytes from the first that was written to the end of their array.
use Rattle.trace_parts.proofs.Puts.{put_decimal}
use Rattle.trace_parts.proofs.put_number.Goals as goal

pub returns : goal.returns
returns c = put_decimal c.decimal_of-d.ensures c.put_text.ensures
