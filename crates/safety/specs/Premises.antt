-- Each premise is needed: hosts that keep all of them but one. What is said of each is that it breaks the claim: a run with it reaches
-- a world in which one transaction has both a committed and an aborted message sent.
use Rattle.std.specs.Prelude.{ℕ, ◌≡◌, List, ◌++◌, drop}
use Rattle.rules.specs.Sizes.{header_size}
use Rattle.rules.specs.Identifiers.{Id}
use Rattle.rules.specs.Signals.{Committed, Aborted}
use Rattle.safety.specs.World.{World, used_part}
use Rattle.safety.specs.Host.{Host, careful}
use Rattle.safety.specs.Run.{Run}
use Rattle.safety.specs.Demand3.{About}

abbrev pub Breaks : Host → Type 0
Breaks host = (w : World) × Run host w × (t : Id) × About t Committed w.sent × About t Aborted w.sent

-- begins an identifier again
abbrev pub begins_again : Host
begins_again = record {
  begins = λ h t. Unit {0};
  asks = careful.asks;
  hands = careful.hands;
  gives = careful.gives;
  stores = careful.stores;
  trims = careful.trims;
  leaves = careful.leaves;
}

-- lets resource managers ask whenever they like, also after their acknowledgement
abbrev pub asks_any_time : Host
asks_any_time = record {
  begins = careful.begins;
  asks = λ h t r. Unit {0};
  hands = careful.hands;
  gives = careful.gives;
  stores = careful.stores;
  trims = careful.trims;
  leaves = careful.leaves;
}

-- gives a step any table and log, such as those of an earlier one
abbrev pub hands_any : Host
hands_any = record {
  begins = careful.begins;
  asks = careful.asks;
  hands = λ w tb log. Unit {0};
  gives = careful.gives;
  stores = careful.stores;
  trims = careful.trims;
  leaves = careful.leaves;
}

-- gives a restart any log and count, such as a part of the stored log
abbrev pub gives_any : Host
gives_any = record {
  begins = careful.begins;
  asks = careful.asks;
  hands = careful.hands;
  gives = λ w log n. Unit {0};
  stores = careful.stores;
  trims = careful.trims;
  leaves = careful.leaves;
}

-- loses stored bytes, or alters them
abbrev pub loses_bytes : Host
loses_bytes = record {
  begins = careful.begins;
  asks = careful.asks;
  hands = careful.hands;
  gives = careful.gives;
  stores = λ w disk. Unit {0};
  trims = careful.trims;
  leaves = careful.leaves;
}

-- sends signals before the log of their step is stored
abbrev pub sends_at_once : Host
sends_at_once = record {
  begins = careful.begins;
  asks = careful.asks;
  hands = careful.hands;
  gives = careful.gives;
  stores = careful.stores;
  trims = careful.trims;
  leaves = λ w i. Unit {0};
}

-- does not trim: it stores new records behind whatever is stored, and sends signals once their records are stored there
abbrev pub does_not_trim : Host
does_not_trim = record {
  begins = careful.begins;
  asks = careful.asks;
  hands = careful.hands;
  gives = careful.gives;
  stores = λ w disk. (d rest : List ℕ) × (k : ℕ) × (disk ≡ w.disk ++ d) × (d ++ rest ≡ drop k (used_part w.table w.log));
  trims = λ w disk. ⊥;
  leaves = λ w i. (front rest : List ℕ) × (w.disk ≡ front ++ drop header_size i.image ++ rest);
}
