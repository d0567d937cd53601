-- The whole case of 'The trace program' as the paper prints it, and lines that can't be read.
use Rattle.std.specs.Prelude.{ℕ, ◌≡◌, List, [], ◌∷◌, map}
use Prim.Native.String.{String}
use Rattle.rules.specs.declared.Table.{Table}
use Rattle.rules.specs.Trace.{text, traced_of, trace_capacity}
use Rattle.cases.specs.Words.{table, log}

pub record Exchange : Type 0 where
  pub input : String
  pub output : String

infix 70 ◌prints◌
abbrev pub ◌prints◌ : String → String → Exchange
i prints o = record { input = i; output = o }

unfoldable pub outputs : List String → Table → List ℕ → List (List ℕ)
outputs [] tb l = []
outputs (i ∷ is) tb l = let t = traced_of (text i) tb l in t.output ∷ outputs is t.table t.log

-- The statement: the program, started on an empty log, prints each line's output.
abbrev pub Prints : List Exchange → Type 0
Prints xs = outputs (map (λ x. x.input) xs) (table trace_capacity 8 [] []) (log trace_capacity []) ≡ map (λ x. text x.output) xs

unfoldable pub whole_case : List Exchange
whole_case =
    "begin 7" prints "0 8 0"
    ∷ "enlist 7 1 21 durable" prints "0 8 0"
    ∷ "enlist 7 2 22 durable" prints "0 8 0"
    ∷ "commit 7" prints "0 8 2 prepare:1 prepare:2"
    ∷ "vote 1 prepared" prints "0 8 0"
    ∷ "lost 1" prints "0 8 0"
    ∷ "vote 2 prepared" prints "0 66 2 commit:2 app-committed:0"
    ∷ "ack 2" prints "0 66 0"
    ∷ "restart" prints "0 66 0"
    ∷ "ask 7 21" prints "0 66 1 answer-committed:1"
    ∷ "ack 1" prints "0 66 0"
    ∷ "reenlisted 22" prints "0 84 0"
    ∷ "commit 7" prints "2 84 0"
    ∷ []

-- Unreadable ones, and beside some of them the nearest that is read.
unfoldable pub unreadable_lines : List Exchange
unreadable_lines =
    "" prints "16 8 0"
    ∷ "begin" prints "16 8 0"
    ∷ "begin  7" prints "16 8 0"
    ∷ " begin 7" prints "16 8 0"
    ∷ "begin 7 " prints "16 8 0"
    ∷ "Begin 7" prints "16 8 0"
    ∷ "begin 07" prints "16 8 0"
    ∷ "begin 256" prints "16 8 0"
    ∷ "begin 7\r" prints "16 8 0"
    ∷ "ack 4294967296" prints "16 8 0"
    ∷ "ack 4294967295" prints "3 8 0"
    ∷ "ack 0" prints "1 8 0"
    ∷ "vote 1 yes" prints "16 8 0"
    ∷ "enlist 7 1 21 durable both" prints "16 8 0"
    ∷ "restart now" prints "16 8 0"
    ∷ "begin 255" prints "0 8 0"
    ∷ "enlist 255 4294967295 255 volatile twophase" prints "0 8 0"
    ∷ "commit 255" prints "0 8 1 prepare:4294967295"
    ∷ []
