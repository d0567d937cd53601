-- What stands before the newline lengthens the line, and the newline has it answered; without one there is only more of the line.
use Rattle.trace.proofs.Taken.{more_ready, line_taken, rest_taken}
use Rattle.trace.proofs.take_line.Goals as goal

pub answer-requires : goal.answer-requires
answer-requires c = more_ready c.requires.0 c.requires.1 c.part_of-part.ensures c.keep.ensures

pub returns-then-part : goal.returns-then-part
returns-then-part c = line_taken c.requires.0 c.requires.1 c.part_of-part.ensures c.keep.ensures c.if-part.true c.answer.ensures

pub returns : goal.returns
returns c = rest_taken c.requires.0 c.requires.1 c.part_of-part.ensures c.keep.ensures c.if-part.false
