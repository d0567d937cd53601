-- Damage is told before a short log; else the table is that of the open records, since all that is read fits.
use borrow.Author.Tests.{lt-ltb, le-ltb}
use Rattle.std.proofs.lemmas.Result.{err_from_is_err_and}
use Rattle.restart.proofs.Answers.{answer_damaged, answer_short, answer_done}
use Rattle.restart.proofs.read_back.Goals as goal

pub returns-in_err-read : goal.returns-in_err-read
returns-in_err-read c = let p = err_from_is_err_and c.from_residual.result c.from_residual.ensures.1 in rw (p.1, p.2) (answer_damaged c.in_err-read.ensures)

pub returns-then-short : goal.returns-then-short
returns-then-short c = answer_short c.in_ok-read.ensures c.count_of-owed.ensures.0 (lt-ltb _ _ c.if-short.true)

pub returns : goal.returns
returns c = answer_done c.in_ok-read.ensures c.count_of-owed.ensures.0 (le-ltb _ _ c.if-short.false) (rw (c.put_transactions-named.ensures, c.empty-start.ensures) at c.put_enlistments-whole.ensures)
