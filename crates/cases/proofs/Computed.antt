-- The cases hold: the checker computes each from the definitions, and finds what it must give.
use mathlib.Core.Path.{refl}
use Rattle.rules.proofs.Computing.{computing}
use Rattle.cases.specs.Case.{run, Hold}
use Rattle.cases.specs.Twelve.{twelve, up_from}
use Rattle.cases.specs.Further.{further}
use Rattle.cases.specs.Lines.{outputs, Prints, whole_case, unreadable_lines}

pub twelve_hold : Hold twelve
unfolding computing run twelve up_from
twelve_hold = refl

pub further_hold : Hold further
unfolding computing run further up_from
further_hold = refl

pub whole_case_prints : Prints whole_case
unfolding computing outputs whole_case
whole_case_prints = refl

pub unreadable_lines_print : Prints unreadable_lines
unfolding computing outputs unreadable_lines
unreadable_lines_print = refl
