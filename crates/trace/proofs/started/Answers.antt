-- The memory means the restart's table, so that what is tested of the table holds of the memory.
use mathlib.Core.Path.{refl, sym, ap, ◌∙◌}
use Rattle.rules.specs.Sound.{sound_of}
use Rattle.trace.proofs.started.Goals as goal

pub returns : goal.returns
returns c =
    let r = c.restart.ensures in
    let p = c.put_table.ensures in
    record {
      long_heads = p.long_heads;
      long_rows = p.long_rows;
      table = p.table ∙ ap (λ x. x.table) r.0;
      sound = c.is_sound-sound.ensures ∙ ap sound_of (sym p.table);
      stored = r.1;
      kept = refl;
      waiting = refl;
    }
