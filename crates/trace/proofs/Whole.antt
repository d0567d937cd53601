-- Byte after byte or line after line, the program prints the same: an output line for each line, each obeyed on what the one before it left.
use Prim.Native.Nat.{ℕ, suc}
use native.Mathlib.Omega.{arith}
use mathlib.Core.Path.{◌≡◌, refl, sym, ap, ◌∙◌}
use mathlib.Core.List.{List, [], ◌∷◌, ◌++◌, append_assoc, append-nil}
use lib.Dec.{eqb}
use lib.ListN.{length}
use borrow.Author.Tests.{ne_eqb}
use Rattle.lists.proofs.Tests.{by_test}
use Rattle.rules.specs.declared.Table.{Table}
use Rattle.rules.specs.Trace.{on_first}
use Rattle.trace_line.specs.Promises.{newline}
use Rattle.trace.specs.Program.{Stand, answered, with_more, after_bytes, after_all, start, program_of, lines_of, traces_of}

-- the lines of what follows, the first of them with what has come of it
abbrev continued : List ℕ → List (List ℕ) → List (List ℕ)
continued [] ls = ls
continued (x ∷ xs) [] = (x ∷ xs) ∷ []
continued (x ∷ xs) (l ∷ ls) = ((x ∷ xs) ++ l) ∷ ls

continued_ended : (line : List ℕ) (ls : List (List ℕ)) → continued line ([] ∷ ls) ≡ line ∷ ls
continued_ended [] ls = refl
continued_ended (x ∷ xs) ls = rw append-nil

continued_more : (line : List ℕ) (b : ℕ) (ls : List (List ℕ)) → continued (line ++ (b ∷ [])) ls ≡ continued line (on_first b ls)
continued_more [] b [] = refl
continued_more [] b (l ∷ ls) = refl
continued_more (x ∷ xs) b [] = refl
continued_more (x ∷ xs) b (l ∷ ls) = ap (λ y. (x ∷ y) ∷ ls) (append_assoc xs (b ∷ []) l)

at_the_end : (line : List ℕ) (tb : Table) (log printed : List ℕ)
    → (after_all (record { table = tb; log = log; line = line; printed = printed })).printed ≡ printed ++ traces_of tb log (continued line [])
unfolding after_all answered traces_of
at_the_end [] tb log printed = sym (append-nil printed)
at_the_end (x ∷ xs) tb log printed = rw (ne_eqb (suc (length xs)) 0 (omega arith), append-nil)

line_ended : (w : Stand) (ls : List (List ℕ))
    → (answered w).printed ++ traces_of (answered w).table (answered w).log (continued (answered w).line ls) ≡ w.printed ++ traces_of w.table w.log (continued w.line ([] ∷ ls))
unfolding answered traces_of
line_ended w ls = rw (continued_ended, append_assoc)

lines_follow : (w : Stand) (bs : List ℕ) → (after_all (after_bytes w bs)).printed ≡ w.printed ++ traces_of w.table w.log (continued w.line (lines_of bs))
unfolding after_bytes lines_of
lines_follow w [] = at_the_end w.line w.table w.log w.printed
lines_follow w (b ∷ bs) = by_test (eqb b newline)
    (λ e. rw e (lines_follow (answered w) bs ∙ line_ended w (lines_of bs)))
    (λ e. rw (e, ← continued_more) (lines_follow (with_more w (b ∷ [])) bs))

pub program_lines : (input : List ℕ) → program_of input ≡ traces_of start.table start.log (lines_of input)
unfolding program_of start
program_lines input = lines_follow start input
