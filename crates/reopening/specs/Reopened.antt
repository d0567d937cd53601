-- What is put into the empty table: helpers of the code, of which the rules say the whole.
use Rattle.std.specs.Prelude.{ℕ, List, map}
use Rattle.std.proofs.lemmas.List.Edits.{sets}
use Rattle.rules.specs.declared.Table.{Table}
use Rattle.rules.specs.Table.{with_transactions, with_enlistments}
use Rattle.rules.specs.Log.{Entry}
use Rattle.rules.specs.Restart.{Open, reopened, reenlistment, reenlistments}

-- the transactions of the open records, in the first places
unfoldable pub transactions_put : List Open → Table → Table
transactions_put os tb = with_transactions (sets tb.transactions 0 (map reopened os)) tb

-- the entries of one of them, that of place p, from index k on
unfoldable pub entries_put : ℕ → List Entry → ℕ → Table → Table
entries_put p es k tb = with_enlistments (sets tb.enlistments k (map (reenlistment p) es)) tb

-- and those of all
unfoldable pub enlistments_put : List Open → Table → Table
enlistments_put os tb = with_enlistments (sets tb.enlistments 0 (reenlistments 1 os)) tb
