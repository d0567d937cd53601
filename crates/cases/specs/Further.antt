-- Further cases under the same statement: the whole case of the trace program, each refusal of a step where a later one of the order would apply
-- too, and a torn record.
use Rattle.std.specs.Prelude.{ℕ, ◌+◌, List, [], ◌∷◌, ◌++◌, map, replicate}
use Rattle.rules.specs.declared.Enlistment.{Enlistment}
use Rattle.rules.specs.declared.Table.{Table}
use Rattle.rules.specs.declared.Kind.TheVariants.{Durable}
use Rattle.rules.specs.declared.Mark.TheVariants as mark
use Rattle.rules.specs.declared.Vote.TheVariants.{Prepared}
use Rattle.rules.specs.declared.Name.TheVariants.{Prepare, Commit, AppCommitted, AnswerCommitted}
use Rattle.rules.specs.declared.Act.TheVariants.{Begin}
use Rattle.cases.specs.Case.{Case, Call, restart, restart_used, step_over}
use Rattle.rules.specs.Signals.{signal}
use Rattle.rules.specs.Words.{id, event}
use Rattle.cases.specs.Words.{begin, enlist, commit, rollback, vote, ack, lost, ask, reenlisted, line, transaction, enlistment, table, log, from}
use Rattle.cases.specs.Twelve.{up_from}

-- one call on a table over a log that holds the header alone: refused, and nothing changes
abbrev refused : Table → Call → ℕ → Case
refused tb c why = record {
  table = tb;
  log = log 64 [];
  calls = c ∷ [];
  result = record { lines = line why 8 [] ∷ []; table = tb; log = log 64 [] };
}

-- a durable of RM 9, number 1, of the transaction at place 1
abbrev durable : ℕ → Enlistment
durable s = enlistment 1 9 1 3 0 s

-- a transaction 1 in state t with that durable in state s
abbrev one : ℕ → ℕ → Table
one t s = table 64 8 (transaction 1 t ∷ []) (durable s ∷ [])

abbrev sixteen_from : ℕ → ℕ → List Enlistment
sixteen_from p n = map (λ k. enlistment p (100 + k) k 3 0 1) (up_from n 16)

-- eight transactions that hold all 128 places, and a ninth
abbrev full : Table
full =
    table 64 8 (map (λ t. transaction t 1) (up_from 1 9))
    (sixteen_from 1 1 ++ sixteen_from 2 17 ++ sixteen_from 3 33 ++ sixteen_from 4 49 ++ sixteen_from 5 65 ++ sixteen_from 6 81 ++ sixteen_from 7 97 ++ sixteen_from 8 113)

-- a restart from so many bytes of a log with the commit record of transaction 1
abbrev stored : ℕ → Table → Case
stored n tb =
    let bytes = log 64 (1 ∷ 1 ∷ id 1 ++ id 9 ++ 1 ∷ 0 ∷ 0 ∷ 0 ∷ []) in
    record {
      table = table 0 0 [] [];
      log = bytes;
      calls = restart n ∷ [];
      result = record { lines = line 0 tb.used [] ∷ []; table = tb; log = bytes };
    }

unfoldable pub further : List Case
further =
    -- 'The trace program', whole case
    from 4096
    (begin 7 ∷ enlist 7 1 21 Durable mark.Yes ∷ enlist 7 2 22 Durable mark.Yes ∷ commit 7 ∷ vote 1 Prepared ∷ lost 1 ∷ vote 2 Prepared
    ∷ ack 2 ∷ restart_used ∷ ask 7 21 ∷ ack 1 ∷ reenlisted 22 ∷ commit 7 ∷ [])
    (line 0 8 [] ∷ line 0 8 [] ∷ line 0 8 [] ∷ line 0 8 (signal Prepare 1 ∷ signal Prepare 2 ∷ []) ∷ line 0 8 [] ∷ line 0 8 []
    ∷ line 0 66 (signal Commit 2 ∷ signal AppCommitted 0 ∷ []) ∷ line 0 66 [] ∷ line 0 66 [] ∷ line 0 66 (signal AnswerCommitted 1 ∷ [])
    ∷ line 0 66 [] ∷ line 0 84 [] ∷ line 2 84 [] ∷ [])
    (table 4096 84 [] [])
    (log 4096 (1 ∷ 2 ∷ id 7 ++ id 21 ++ 1 ∷ 0 ∷ 0 ∷ 0 ∷ id 22 ++ 2 ∷ 0 ∷ 0 ∷ 0 ∷ 2 ∷ 0 ∷ id 7))
    -- 15: a live transaction with a zero identifier. Also 12, 1
    ∷ refused (table 64 8 (transaction 0 1 ∷ []) []) (step_over (replicate 63 0) (event Begin 0 0)) 15
    -- 12: a log of 63 bytes. Also 1
    ∷ refused (table 64 8 [] []) (step_over (replicate 63 0) (event Begin 0 0)) 12
    -- 1: number zero. Also 2, 6
    ∷ refused (table 64 8 [] []) (enlist 1 0 9 Durable mark.No) 1
    -- 2: transaction 2 is not live. Also 6, 5
    ∷ refused (one 1 1) (enlist 2 1 9 Durable mark.No) 2
    -- 3: number 2 is not held, so it stands in no state. Also 7
    ∷ refused (one 1 1) (ack 2) 3
    -- 4: all 32 places are taken. Also 8
    ∷ refused (table 64 8 (map (λ t. transaction t 1) (up_from 1 32)) []) (begin 32) 4
    -- 6: in Phase One, number 1 is held. Also 5
    ∷ refused (one 3 3) (enlist 1 1 9 Durable mark.No) 6
    ∷ refused (one 3 3) (commit 1) 6
    ∷ refused (one 3 3) (rollback 1) 6
    -- 7: a vote in Active. None behind it is for such an event
    ∷ refused (one 1 1) (vote 1 Prepared) 7
    -- 5: number held; and a second D of RM 101. Also 8
    ∷ refused (table 64 8 (transaction 1 1 ∷ []) (sixteen_from 1 1)) (enlist 1 16 9 Durable mark.No) 5
    ∷ refused (table 64 8 (transaction 1 1 ∷ []) (sixteen_from 1 1)) (enlist 1 17 101 Durable mark.No) 5
    -- 8: no free place. None behind it is for such an event
    ∷ refused full (enlist 9 129 9 Durable mark.No) 8
    -- 9: RM 8 has no D in a transaction before its decision. None behind it is for such an event
    ∷ refused (one 3 3) (ask 1 8) 9
    -- 10: the D of RM 9 stands in 3. None is behind it
    ∷ refused (one 3 3) (reenlisted 9) 10
    -- a commit record stored but for its last byte is torn; stored whole, it reopens its transaction
    ∷ stored 45 (table 64 8 [] [])
    ∷ stored 46 (table 64 46 (transaction 1 5 ∷ []) (durable 8 ∷ []))
    ∷ []
