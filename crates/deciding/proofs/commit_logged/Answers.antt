-- The signals and the entries are read off the holding before it changes, and the record is put behind what is used of the log, as in the definition.
use native.Mathlib.Omega.{arith}
use mathlib.Core.Path.{sym, ap}
use Rattle.std.proofs.Common.{rules}
use Rattle.rules.specs.Table.{is_durable}
use Rattle.holdings.proofs.Laws.{alone_at}
use Rattle.deciding.proofs.Laws.{commit_done}
use Rattle.deciding.proofs.commit_logged.Goals as goal

pub returns : goal.returns
returns c = commit_done c.args.h c.committing-told.ensures c.args.log.now _ (sym (ap (λ x. x.id.0) (alone_at c.args.h c.requires.0))) (c.line_up-entries.ensures.line is_durable (λ x r k. search rules)) (omega (arith, c.line_up-entries.ensures.few)) c.put_commit-size.ensures.0 c.put_commit-size.ensures.1 c.use_more.ensures c.commit_signals.ensures
