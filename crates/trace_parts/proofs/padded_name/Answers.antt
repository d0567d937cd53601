-- At each name the text and the spaces behind it are computed.
use Rattle.rules.specs.Trace.{text, name_text}
use Rattle.trace_parts.specs.Puts.{padded_name}
use Rattle.trace_parts.proofs.padded_name.Goals as goal

pub returns-in-Nothing : goal.returns-in-Nothing
unfolding padded_name name_text text
returns-in-Nothing c = rw c.in-Nothing.is

pub returns-in-Zero : goal.returns-in-Zero
unfolding padded_name name_text text
returns-in-Zero c = rw c.in-Zero.is

pub returns-in-Prepare : goal.returns-in-Prepare
unfolding padded_name name_text text
returns-in-Prepare c = rw c.in-Prepare.is

pub returns-in-Single : goal.returns-in-Single
unfolding padded_name name_text text
returns-in-Single c = rw c.in-Single.is

pub returns-in-Commit : goal.returns-in-Commit
unfolding padded_name name_text text
returns-in-Commit c = rw c.in-Commit.is

pub returns-in-Abort : goal.returns-in-Abort
unfolding padded_name name_text text
returns-in-Abort c = rw c.in-Abort.is

pub returns-in-AppCommitted : goal.returns-in-AppCommitted
unfolding padded_name name_text text
returns-in-AppCommitted c = rw c.in-AppCommitted.is

pub returns-in-AppAborted : goal.returns-in-AppAborted
unfolding padded_name name_text text
returns-in-AppAborted c = rw c.in-AppAborted.is

pub returns-in-AppInDoubt : goal.returns-in-AppInDoubt
unfolding padded_name name_text text
returns-in-AppInDoubt c = rw c.in-AppInDoubt.is

pub returns-in-AnswerCommitted : goal.returns-in-AnswerCommitted
unfolding padded_name name_text text
returns-in-AnswerCommitted c = rw c.in-AnswerCommitted.is

pub returns-in-AnswerAborted : goal.returns-in-AnswerAborted
unfolding padded_name name_text text
returns-in-AnswerAborted c = rw c.in-AnswerAborted.is

pub returns-in-AnswerNotYet : goal.returns-in-AnswerNotYet
unfolding padded_name name_text text
returns-in-AnswerNotYet c = rw c.in-AnswerNotYet.is
