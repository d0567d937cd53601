-- What the reader and the writer promise, and the pieces that a message is written in.
use Rattle.std.specs.Prelude.{ℕ, ◌≡◌, List, ◌++◌}
use Rattle.rules.specs.declared.Message.{Message}
use Rattle.rules.specs.Log.{low4}
use Rattle.rules.specs.MessageType.{tag}
use Rattle.rules.specs.Messages.{Read, Written, read_of, write_of, written_of}

-- the answer to these bytes
abbrev pub IsReading : List ℕ → Read → Type 0
IsReading bytes r = r ≡ read_of bytes

-- the answer to this message, and the memory, lent as before and left as after
abbrev pub IsWriting : Message → List ℕ → Written → List ℕ → Type 0
IsWriting m before r after = (r ≡ written_of (write_of m before)) × (after ≡ (write_of m before).memory)

-- the first 24 bytes of a message whose payload has this length
abbrev pub header_bytes : Message → ℕ → List ℕ
header_bytes m payload = low4 tag ++ low4 m.master ++ low4 m.connection ++ low4 m.kind ++ low4 payload ++ low4 m.reserved
