-- The words in which the cases are written.
use Rattle.std.specs.Prelude.{ℕ, ◌-◌, List, [], ◌∷◌, ◌++◌, length, replicate}
use Rattle.rules.specs.declared.Transaction.{Transaction}
use Rattle.rules.specs.declared.Enlistment.{Enlistment}
use Rattle.rules.specs.declared.Table.{Table}
use Rattle.rules.specs.declared.Kind.{Kind}
use Rattle.rules.specs.declared.Mark.{Mark}
use Rattle.rules.specs.declared.Vote.{Vote}
use Rattle.rules.specs.declared.Signal.{Signal}
use Rattle.rules.specs.Words as event
use Rattle.rules.specs.Words.{id}
use Rattle.cases.specs.Case.{Call, step, Line, Case}

abbrev pub begin : ℕ → Call
begin t = step (event.begin t)

abbrev pub enlist : ℕ → ℕ → ℕ → Kind → Mark → Call
enlist t n r k m = step (event.enlist t n r k m)

abbrev pub commit : ℕ → Call
commit t = step (event.commit t)

abbrev pub rollback : ℕ → Call
rollback t = step (event.rollback t)

abbrev pub vote : ℕ → Vote → Call
vote n v = step (event.vote n v)

abbrev pub ack : ℕ → Call
ack n = step (event.ack n)

abbrev pub lost : ℕ → Call
lost n = step (event.lost n)

abbrev pub ask : ℕ → ℕ → Call
ask t r = step (event.ask t r)

abbrev pub reenlisted : ℕ → Call
reenlisted r = step (event.reenlisted r)

abbrev pub line : ℕ → ℕ → List Signal → Line
line why used ss = record { refusal = why; used = used; signals = ss }

abbrev pub transaction : ℕ → ℕ → Transaction
transaction t s = record { id = record { 0 = id t }; state = s }

abbrev pub enlistment : ℕ → ℕ → ℕ → ℕ → ℕ → ℕ → Enlistment
enlistment p r n k m s = record { holder = p; rm = record { 0 = id r }; number = n; kind = k; mark = m; state = s }

-- a list in so many places, those left over at the end holding d
abbrev pub places : {A : Type 0} → ℕ → A → List A → List A
places n d xs = xs ++ replicate (n - length xs) d

abbrev pub table : ℕ → ℕ → List Transaction → List Enlistment → Table
table capacity used xs es = record {
  transactions = places 32 (transaction 0 0) xs;
  enlistments = places 128 (enlistment 0 0 0 0 0 0) es;
  capacity = capacity;
  used = used;
}

abbrev pub header : List ℕ
header = 82 ∷ 84 ∷ 76 ∷ 1 ∷ 0 ∷ 0 ∷ 0 ∷ 0 ∷ []

abbrev pub log : ℕ → List ℕ → List ℕ
log capacity bs = places capacity 0 (header ++ bs)

-- a case that starts on an empty log of so many bytes
abbrev pub from : ℕ → List Call → List Line → Table → List ℕ → Case
from capacity calls lines tb bytes = record {
  table = table capacity 8 [] [];
  log = log capacity [];
  calls = calls;
  result = record { lines = lines; table = tb; log = bytes };
}
