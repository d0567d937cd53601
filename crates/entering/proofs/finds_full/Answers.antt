-- A place is vacant if and only if one is found.
use mathlib.Core.List.{map}
use Rattle.rules.specs.Table.{is_vacant, held}
use Rattle.rows.specs.Memory.{enlistment_in}
use Rattle.refusals.proofs.Laws.{none_place}
use Rattle.entering.proofs.finds_full.Goals as goal

pub returns : goal.returns
unfolding held
returns c = λ heads capacity used. rw (none_place is_vacant (map enlistment_in c.args.rows.now), ← c.place_vacant-vacant.ensures, ← c.count_held-held.ensures.0) c.is_full.ensures
