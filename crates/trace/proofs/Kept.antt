-- A line that is kept with one byte more than a line may have is obeyed as the whole line is.
use Prim.Native.Nat.{ℕ, ◌≤◌, ◌<◌}
use native.Mathlib.Omega.{arith}
use mathlib.Core.Path.{◌≡◌}
use mathlib.Core.List.{List}
use lib.Dec.{leb}
use lib.ListN.{length, take, length-take}
use lib.Seq.{take_all}
use borrow.Author.Tests.{lt-leb, leb-true, leb-false}
use Rattle.rules.specs.declared.Table.{Table}
use Rattle.rules.specs.Sizes.{line_most}
use Rattle.rules.specs.Trace.{command_of, traced_of}
use Rattle.lists.proofs.Tests.{by_test}
use Rattle.trace_session.specs.Counts.{line_kept}

command_kept : (line : List ℕ) → command_of (take line_kept line) ≡ command_of line
unfolding command_of
command_kept line = by_test (leb (length line) line_most)
    (λ e. let h : length line ≤ line_most = leb-true _ _ e in rw (take_all line_kept line (omega arith)))
    (λ e. let h : line_most < length line = leb-false _ _ e in
    rw (e, lt-leb (length (take line_kept line)) line_most (simp length-take (omega arith))))

pub traced_kept : (line : List ℕ) (tb : Table) (log : List ℕ) → traced_of (take line_kept line) tb log ≡ traced_of line tb log
unfolding traced_of
traced_kept line tb log = rw (command_kept line)
