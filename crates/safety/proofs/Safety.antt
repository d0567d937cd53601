-- Demand 3, of the steps and restarts of `rules`: these keep what Top asks of any, by Steps, Restarts and Story.
use mathlib.Core.Path.{refl}
use Rattle.rules.specs.Log.{header, scan}
use Rattle.rules.specs.Sound.{sound_of}
use Rattle.safety.specs.Demand3.{Demand3}
use Rattle.safety.proofs.Top.{Refines, demand3}
use Rattle.safety.proofs.Story.{story, story_of, story_prefix, Formed, header_formed}
use Rattle.safety.proofs.View.{view_of}
use Rattle.safety.proofs.Steps.{step_accepts, step_refuses, step_needs_sound, zero_unsound}
use Rattle.safety.proofs.Restarts.{restart_accepts, restart_refuses}

unfoldable pub refines : Refines
unfolding story_of story scan
refines = record {
  sound = sound_of;
  view_of = view_of;
  story_of = story_of;
  Formed = Formed;
  header = header;
  header_formed = header_formed;
  story_nothing = λ t. refl;
  story_prefix = story_prefix;
  refuses = step_refuses;
  accepts = step_accepts;
  needs_sound = step_needs_sound;
  zero_unsound = zero_unsound;
  restart_refuses = restart_refuses;
  restart_accepts = restart_accepts;
}

pub safety : Demand3
safety = demand3 refines
