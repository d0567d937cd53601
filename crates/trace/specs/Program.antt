-- The trace program between two bytes of its input, and what it prints on a whole input.
use Rattle.std.specs.Prelude.{ℕ, cond, List, [], ◌∷◌, ◌++◌, eqb, length, replicate}
use Rattle.rules.specs.declared.Table.{Table}
use Rattle.rules.specs.Restart.{restart_of}
use Rattle.rules.specs.Trace.{on_first, traced_of, trace_capacity}
use Rattle.trace_line.specs.Promises.{newline}

-- the table, the log, the bytes of the present line so far, however many, and what was printed
pub record Stand : Type 0 where
  pub table : Table
  pub log : List ℕ
  pub line : List ℕ
  pub printed : List ℕ

-- the present line is whole: it is obeyed, and its output line is printed
unfoldable pub answered : Stand → Stand
answered w =
    let t = traced_of w.line w.table w.log in
    record { table = t.table; log = t.log; line = []; printed = w.printed ++ (t.output ++ (newline ∷ [])) }

abbrev pub with_more : Stand → List ℕ → Stand
with_more w bs = record { table = w.table; log = w.log; line = w.line ++ bs; printed = w.printed }

-- a newline ends a line
unfoldable pub after_bytes : Stand → List ℕ → Stand
after_bytes w [] = w
after_bytes w (b ∷ bs) = cond (eqb b newline) (after_bytes (answered w) bs) (after_bytes (with_more w (b ∷ [])) bs)

-- "the last line may lack it"
unfoldable pub after_all : Stand → Stand
after_all w = cond (eqb (length w.line) 0) w (answered w)

-- what was printed is written, and no more waits
abbrev pub written : Stand → Stand
written w = record { table = w.table; log = w.log; line = w.line; printed = [] }

-- "It starts on an empty 4,096-byte log."
unfoldable pub start : Stand
start =
    let r = restart_of (replicate trace_capacity 0) 0 in
    record { table = r.table; log = r.log; line = []; printed = [] }

unfoldable pub program_of : List ℕ → List ℕ
program_of input = (after_all (after_bytes start input)).printed

-- ── the same, by whole lines ────────────────────────────────────────────────────────────────────────────────────

-- the lines of an input, without their newlines
unfoldable pub lines_of : List ℕ → List (List ℕ)
lines_of [] = []
lines_of (b ∷ bs) = cond (eqb b newline) ([] ∷ lines_of bs) (on_first b (lines_of bs))

-- each line is obeyed on what the line before it left, and printed in its place
unfoldable pub traces_of : Table → List ℕ → List (List ℕ) → List ℕ
traces_of tb log [] = []
traces_of tb log (l ∷ ls) =
    let t = traced_of l tb log in
    (t.output ++ (newline ∷ [])) ++ traces_of t.table t.log ls
