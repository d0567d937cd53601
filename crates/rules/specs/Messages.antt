-- The eight messages. "Source document 000, section 2.2.4.1, decides."
use Rattle.std.specs.Prelude.{ℕ, ◌+◌, Bool, cond, ◌&&◌, ◌||◌, List, [], ◌∷◌, ◌++◌, eqb, leb, length, take, drop, Result, Ok, Err}
use Rattle.lists.specs.Lists.{any, every, first_or}
use Rattle.rules.specs.declared.Message.{Message}
use Rattle.rules.specs.declared.Refusal.{Refusal}
use Rattle.rules.specs.RefusalNumber as refusal
use Rattle.rules.specs.MessageType as message
use Rattle.rules.specs.Sizes.{identifier_size, message_header_size}
use Rattle.rules.specs.Identifiers.{Id, zero_id, same_bytes}
use Rattle.rules.specs.Log.{low4, number4}

-- ── the types ───────────────────────────────────────────────────────────────────────────────────────────────────

pub record MessageType : Type 0 where
  pub kind : ℕ
  pub payload : ℕ

abbrev pub message_type : ℕ → ℕ → MessageType
message_type k n = record { kind = k; payload = n }

-- "32: RM, then session"
abbrev pub manager_payload : ℕ
manager_payload = 32

-- "16: T"
abbrev pub transaction_payload : ℕ
transaction_payload = 16

unfoldable pub message_types : List MessageType
message_types =
    message_type message.create_rm manager_payload
    ∷ message_type message.commit_request transaction_payload
    ∷ message_type message.check_abort transaction_payload
    ∷ message_type message.branch transaction_payload
    ∷ message_type message.commit_request_done 0
    ∷ message_type message.commit_retry 0
    ∷ message_type message.check_aborted 0
    ∷ message_type message.check_retry 0
    ∷ []

unfoldable pub is_type : ℕ → Bool
is_type k = any (λ m. eqb m.kind k) message_types

unfoldable pub payload_of : ℕ → ℕ
payload_of k = (first_or (message_type 0 0) (λ m. eqb m.kind k) message_types).payload

abbrev pub has_transaction : ℕ → Bool
has_transaction k = eqb (payload_of k) transaction_payload

abbrev pub has_manager : ℕ → Bool
has_manager k = eqb (payload_of k) manager_payload

-- "Total length is exactly 24 plus payload"
abbrev pub length_of : ℕ → ℕ
length_of k = message_header_size + payload_of k

-- ── the fields: "six 32-bit fields, low byte first: MsgTag .., fIsMaster .., connection, type, payload length, reserved" ─

abbrev pub field_at : ℕ → List ℕ → ℕ
field_at start bs = number4 (take 4 (drop start bs))

abbrev pub tag_in : List ℕ → ℕ
tag_in bs = field_at 0 bs

abbrev pub master_in : List ℕ → ℕ
master_in bs = field_at 4 bs

abbrev pub connection_in : List ℕ → ℕ
connection_in bs = field_at 8 bs

abbrev pub type_in : List ℕ → ℕ
type_in bs = field_at 12 bs

abbrev pub payload_length_in : List ℕ → ℕ
payload_length_in bs = field_at 16 bs

abbrev pub reserved_in : List ℕ → ℕ
reserved_in bs = field_at 20 bs

abbrev pub identifier_in : ℕ → List ℕ → Id
identifier_in start bs = take identifier_size (drop start bs)

abbrev pub where_there : Bool → Id → Id
where_there b t = cond b t zero_id

-- ── the reader ──────────────────────────────────────────────────────────────────────────────────────────────────

unfoldable pub is_message : List ℕ → Bool
is_message bs =
    every
    (leb message_header_size (length bs)
    ∷ eqb (tag_in bs) message.tag
    ∷ leb (master_in bs) 1
    ∷ is_type (type_in bs)
    ∷ eqb (payload_length_in bs) (payload_of (type_in bs))
    ∷ eqb (length bs) (length_of (type_in bs))
    ∷ [])

unfoldable pub message_in : List ℕ → Message
message_in bs = record {
  master = master_in bs;
  connection = connection_in bs;
  kind = type_in bs;
  reserved = reserved_in bs;
  tx = record { 0 = where_there (has_transaction (type_in bs)) (identifier_in message_header_size bs) };
  rm = record { 0 = where_there (has_manager (type_in bs)) (identifier_in message_header_size bs) };
  session = record { 0 = where_there (has_manager (type_in bs)) (identifier_in (message_header_size + identifier_size) bs) };
}

-- "Refused reader: an all-zero message."
abbrev pub no_message : Message
no_message = record {
  master = 0;
  connection = 0;
  kind = 0;
  reserved = 0;
  tx = record { 0 = zero_id };
  rm = record { 0 = zero_id };
  session = record { 0 = zero_id };
}

-- The answer of the reader.
pub record Read : Type 0 where
  pub refusal : ℕ
  pub message : Message

-- the paper's values for each case of what the code answers
abbrev pub read_answer : Result Message Refusal → Read
read_answer (Ok m) = record { refusal = refusal.accepted; message = m }
read_answer (Err r) = record { refusal = refusal.refusal_number r; message = no_message }

-- "any breach is 14"
unfoldable pub read_of : List ℕ → Read
read_of bs =
    cond (is_message bs)
    (record { refusal = refusal.accepted; message = message_in bs })
    (record { refusal = refusal.bad_message; message = no_message })

-- ── the writer ──────────────────────────────────────────────────────────────────────────────────────────────────

-- what could not be read back is a bad message: a field that the type does not have is zero
unfoldable pub is_writable : Message → Bool
is_writable m =
    every
    (is_type m.kind
    ∷ leb m.master 1
    ∷ (has_transaction m.kind || same_bytes m.tx.0 zero_id)
    ∷ (has_manager m.kind || same_bytes m.rm.0 zero_id)
    ∷ (has_manager m.kind || same_bytes m.session.0 zero_id)
    ∷ [])

abbrev pub payload_bytes : Message → List ℕ
payload_bytes m = cond (has_manager m.kind) (m.rm.0 ++ m.session.0) (cond (has_transaction m.kind) m.tx.0 [])

unfoldable pub message_bytes : Message → List ℕ
message_bytes m =
    low4 message.tag ++ low4 m.master ++ low4 m.connection ++ low4 m.kind ++ low4 (payload_of m.kind) ++ low4 m.reserved
    ++ payload_bytes m

-- The answer of the writer, and the lent memory as it leaves it.
pub record Writing : Type 0 where
  pub refusal : ℕ
  pub length : ℕ
  pub memory : List ℕ

-- "bad message, or writer's room below the message length"
abbrev pub fits : Message → List ℕ → Bool
fits m memory = is_writable m && leb (length_of m.kind) (length memory)

-- "Refused writer ..: length .. 0, lent memory untouched. Success writes exactly the named bytes .. and nothing beyond."
unfoldable pub write_of : Message → List ℕ → Writing
write_of m memory =
    cond (fits m memory)
    (record { refusal = refusal.accepted; length = length_of m.kind; memory = message_bytes m ++ drop (length_of m.kind) memory })
    (record { refusal = refusal.bad_message; length = 0; memory = memory })

-- The answer alone.
pub record Written : Type 0 where
  pub refusal : ℕ
  pub length : ℕ

-- the paper's values for each case of what the code answers
abbrev pub written_answer : Result ℕ Refusal → Written
written_answer (Ok n) = record { refusal = refusal.accepted; length = n }
written_answer (Err r) = record { refusal = refusal.refusal_number r; length = 0 }

abbrev pub written_of : Writing → Written
written_of w = record { refusal = w.refusal; length = w.length }
