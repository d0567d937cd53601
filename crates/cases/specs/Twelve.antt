-- The twelve cases of document 01, 'Proof of the rules'.
use Rattle.std.specs.Prelude.{ℕ, zero, suc, ◌+◌, List, [], ◌∷◌, ◌++◌, map, replicate}
use Rattle.rules.specs.declared.Transaction.{Transaction}
use Rattle.rules.specs.declared.Enlistment.{Enlistment}
use Rattle.rules.specs.declared.Kind.TheVariants.{Volatile, Durable}
use Rattle.rules.specs.declared.Mark.TheVariants as mark
use Rattle.rules.specs.declared.Vote.TheVariants.{Prepared, ReadOnly}
use Rattle.rules.specs.declared.Name.TheVariants.{Prepare, Commit, Abort, AppCommitted, AppAborted, AnswerAborted}
use Rattle.cases.specs.Case.{Case, Call, Line, restart}
use Rattle.rules.specs.Signals.{signal}
use Rattle.rules.specs.Words.{id}
use Rattle.cases.specs.Words.{begin, enlist, commit, vote, lost, ask, line, transaction, enlistment, table, header, log, from}

-- from k, n of them
unfoldable pub up_from : ℕ → ℕ → List ℕ
up_from k zero = []
up_from k (suc n) = k ∷ up_from (k + 1) n

abbrev quiet : Line
quiet = line 0 8 []

abbrev begins : ℕ → List Call
begins n = map begin (up_from 1 n)

abbrev actives : List Transaction
actives = map (λ t. transaction t 1) (up_from 1 32)

abbrev enlists : ℕ → List Call
enlists n = begin 1 ∷ map (λ k. enlist 1 k (100 + k) Durable mark.No) (up_from 1 n)

abbrev sixteen : List Enlistment
sixteen = map (λ k. enlistment 1 (100 + k) k 3 0 1) (up_from 1 16)

-- a transaction 1 with a durable 1 of RM 9, asked to prepare
abbrev lone : List Call
lone = begin 1 ∷ enlist 1 1 9 Durable mark.No ∷ commit 1 ∷ []

abbrev lone_lines : List Line
lone_lines = quiet ∷ quiet ∷ line 0 8 (signal Prepare 1 ∷ []) ∷ []

unfoldable pub twelve : List Case
twelve =
    -- the 32nd and 33rd Begin
    from 64 (begins 32) (replicate 32 quiet) (table 64 8 actives []) (log 64 [])
    ∷ from 64 (begins 33) (replicate 32 quiet ++ line 8 8 [] ∷ []) (table 64 8 actives []) (log 64 [])
    -- 16th and 17th Enlist
    ∷ from 64 (enlists 16) (replicate 17 quiet) (table 64 8 (transaction 1 1 ∷ []) sixteen) (log 64 [])
    ∷ from 64 (enlists 17) (replicate 17 quiet ++ line 8 8 [] ∷ []) (table 64 8 (transaction 1 1 ∷ []) sixteen) (log 64 [])
    -- lone D marked no, capacity 64 commits, 63 aborts
    ∷ from 64 (lone ++ vote 1 Prepared ∷ [])
    (lone_lines ++ line 0 46 (signal Commit 1 ∷ signal AppCommitted 0 ∷ []) ∷ [])
    (table 64 46 (transaction 1 5 ∷ []) (enlistment 1 9 1 3 0 7 ∷ []))
    (log 64 (1 ∷ 1 ∷ id 1 ++ id 9 ++ 1 ∷ 0 ∷ 0 ∷ 0 ∷ []))
    ∷ from 63 (lone ++ vote 1 Prepared ∷ [])
    (lone_lines ++ line 0 8 (signal Abort 1 ∷ signal AppAborted 0 ∷ []) ∷ [])
    (table 63 8 (transaction 1 6 ∷ []) (enlistment 1 9 1 3 0 9 ∷ []))
    (log 63 [])
    -- read-only alone ends unlogged
    ∷ from 64 (lone ++ vote 1 ReadOnly ∷ []) (lone_lines ++ line 0 8 (signal AppCommitted 0 ∷ []) ∷ []) (table 64 8 [] []) (log 64 [])
    -- D lost in 4 and V lost in 4
    ∷ from 128 (begin 1 ∷ enlist 1 1 9 Durable mark.No ∷ enlist 1 2 8 Durable mark.No ∷ commit 1 ∷ vote 1 Prepared ∷ lost 1 ∷ [])
    (quiet ∷ quiet ∷ quiet ∷ line 0 8 (signal Prepare 1 ∷ signal Prepare 2 ∷ []) ∷ quiet ∷ quiet ∷ [])
    (table 128 8 (transaction 1 3 ∷ []) (enlistment 1 9 1 3 0 5 ∷ enlistment 1 8 2 3 0 3 ∷ []))
    (log 128 [])
    ∷ from 128 (begin 1 ∷ enlist 1 1 9 Volatile mark.No ∷ enlist 1 2 8 Durable mark.No ∷ commit 1 ∷ vote 1 Prepared ∷ lost 1 ∷ [])
    (quiet ∷ quiet ∷ quiet ∷ line 0 8 (signal Prepare 1 ∷ signal Prepare 2 ∷ []) ∷ quiet ∷ line 0 8 (signal Abort 2 ∷ signal AppAborted 0 ∷ []) ∷ [])
    (table 128 8 (transaction 1 6 ∷ []) (enlistment 1 9 1 2 0 10 ∷ enlistment 1 8 2 3 0 9 ∷ []))
    (log 128 [])
    -- Ask of unknown T
    ∷ from 64 (ask 1 9 ∷ []) (line 0 8 (signal AnswerAborted 0 ∷ []) ∷ []) (table 64 8 [] []) (log 64 [])
    -- stored 0 and stored the header's first 7 bytes
    ∷ record {
      table = table 0 0 [] [];
      log = replicate 64 255;
      calls = restart 0 ∷ [];
      result = record { lines = quiet ∷ []; table = table 64 8 [] []; log = header ++ replicate 56 255 };
    }
    ∷ record {
      table = table 0 0 [] [];
      log = 82 ∷ 84 ∷ 76 ∷ 1 ∷ 0 ∷ 0 ∷ 0 ∷ replicate 57 255;
      calls = restart 7 ∷ [];
      result = record { lines = quiet ∷ []; table = table 64 8 [] []; log = header ++ replicate 56 255 };
    }
    ∷ []
