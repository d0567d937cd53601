-- The code asks whether it is open, as the definition does: if so, the forget record of its identifier is put behind what is used of the log, and else the log stays.
use native.Mathlib.Omega.{arith}
use mathlib.Core.Path.{ap}
use Rattle.endings.proofs.Laws.{end_open, end_quiet}
use Rattle.endings.proofs.end.Goals as goal

pub returns-then-is_open : goal.returns-then-is_open
returns-then-is_open c = (end_open c.args.h c.requires.0 c.args.log.now c.is_open.ensures c.emptied-after.ensures _ c.if-is_open.true c.put_forget-size.ensures.0 c.put_forget-size.ensures.1 c.use_more.ensures, omega (arith, ap (λ g. g.used) c.use_more.ensures, ap (λ g. g.used) c.emptied-after.ensures, c.put_forget-size.ensures.2))

pub returns-else-is_open : goal.returns-else-is_open
returns-else-is_open c = (end_quiet c.args.h c.requires.0 c.args.log.now c.is_open.ensures c.emptied-after.ensures c.if-is_open.false, omega (arith, ap (λ g. g.used) c.emptied-after.ensures))
