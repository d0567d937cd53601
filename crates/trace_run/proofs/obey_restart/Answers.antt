-- `trace_run::obey_restart` meets its contract: it answers what `restart` does, which sends no signal, and has its table tested and put into the memory.
use mathlib.Core.Path.{sym, ap, ◌∙◌}
use Rattle.rules.specs.Sound.{sound_of}
use Rattle.trace_run.proofs.Laws.{restart_obeys}
use Rattle.trace_run.proofs.obey_restart.Goals as goal

pub returns : goal.returns
returns c =
    let a = rw c.to_none-none.ensures at c.answered.ensures in
    let p = c.put_table.ensures in (
      (λ capacity. restart_obeys _ _ c.restart-r.ensures p a),
      rw (a.same_capacity, a.same_used) (a.known ∙ c.is_sound-sound.ensures ∙ ap sound_of (sym p.table)),
    )
