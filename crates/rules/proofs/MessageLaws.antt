-- Reader and writer of messages are each other's. A message is its six fields of four bytes and its payload, and the one takes each of these
-- from the place where the other puts it.
use Prim.Native.Nat.{ℕ, ◌+◌, ◌≤◌, ◌<◌}
use native.Mathlib.Omega.{arith}
use mathlib.Core.Path.{◌≡◌, refl, sym, ◌∙◌, ap}
use mathlib.Core.Bool.{Bool, true, false, ◌||◌}
use mathlib.Core.List.{List, [], ◌∷◌, ◌++◌}
use lib.Dec.{eqb, leb}
use lib.ListN.{length, take, drop, length-append, length-drop, take-append-drop, drop_of_length-le}
use lib.Seq.{length-take-le, take_all, take_at, drop_at, drop-drop}
use borrow.Author.Tests.{eqb-true, eq-eqb, leb-true, le-leb}
use Rattle.lists.specs.Lists.{all}
use Rattle.lists.specs.Members.{Each}
use Rattle.lists.proofs.Tests.{by_test, by_either, and_true, true_and, true_or, all_each, first_passes, first_none, each_take, each_drop, Holding, that_is_all, ◌also◌, every_holding, holding_every}
use Rattle.rules.specs.declared.Message.{Message}
use Rattle.rules.specs.RefusalNumber as refusal
use Rattle.rules.specs.MessageType.{tag}
use Rattle.rules.specs.Sizes.{identifier_size, message_header_size, largest_number}
use Rattle.rules.specs.Identifiers.{Id, zero_id, same_bytes}
use Rattle.rules.specs.Log.{low4}
use Rattle.rules.specs.Messages.{MessageType, message_type, message_types, manager_payload, transaction_payload, is_type, payload_of, has_transaction, has_manager, length_of, field_at, tag_in, master_in, type_in, payload_length_in, where_there, is_message, message_in, no_message, read_of, is_writable, payload_bytes, message_bytes, fits, write_of}
use Rattle.rules.proofs.Bytes.{number_of_low, number_small, low_of_number}
use Rattle.rules.proofs.Identifiers.{same_equal, equal_same}

-- ── the table of types: a test of its rows, computed, and the law that a payload length is that of a row ────────────

sized : MessageType → Bool
sized m = eqb m.payload manager_payload || (eqb m.payload transaction_payload || eqb m.payload 0)

all_sized : all sized message_types ≡ true
unfolding all sized message_types
all_sized = refl

pub data Sized : ℕ → Type 0 where
  manager : {n : ℕ} → n ≡ manager_payload → Sized n
  transaction : {n : ℕ} → n ≡ transaction_payload → Sized n
  nothing : {n : ℕ} → n ≡ 0 → Sized n

said : (n : ℕ) → (eqb n manager_payload || (eqb n transaction_payload || eqb n 0)) ≡ true → Sized n
said n e = by_either
    (λ p. manager (eqb-true n manager_payload p))
    (λ q. by_either (λ p. transaction (eqb-true n transaction_payload p)) (λ p. nothing (eqb-true n 0 p)) (true_or _ _ q))
    (true_or _ _ e)

pub payload_sized : (k : ℕ) → Sized (payload_of k)
unfolding sized is_type payload_of
payload_sized k = by_test (is_type k)
    (λ p. said (payload_of k) (all_each sized message_types all_sized _ (first_passes (message_type 0 0) _ message_types p).0))
    (λ p. nothing (ap (λ m. m.payload) (first_none (message_type 0 0) _ message_types p)))

sized_small : {n : ℕ} → Sized n → n ≤ largest_number
sized_small (manager e) = omega arith
sized_small (transaction e) = omega arith
sized_small (nothing e) = omega arith

-- ── what the tests say ──────────────────────────────────────────────────────────────────────────────────────────

pub record IsMessage (bs : List ℕ) : Type 0 where
  pub enough : message_header_size ≤ length bs
  pub tagged : tag_in bs ≡ tag
  pub directed : master_in bs ≤ 1
  pub known : is_type (type_in bs) ≡ true
  pub declared : payload_length_in bs ≡ payload_of (type_in bs)
  pub exact : length bs ≡ length_of (type_in bs)

pub message_says : (bs : List ℕ) → is_message bs ≡ true → IsMessage bs
unfolding is_message
message_says bs e = taken (every_holding _ e)
  where
    taken : Holding (leb message_header_size (length bs) ∷ eqb (tag_in bs) tag ∷ leb (master_in bs) 1 ∷ is_type (type_in bs) ∷ eqb (payload_length_in bs) (payload_of (type_in bs)) ∷ eqb (length bs) (length_of (type_in bs)) ∷ []) → IsMessage bs
    taken (a also b also c also d also f also g also that_is_all) = record {
      enough = leb-true _ _ a;
      tagged = eqb-true _ _ b;
      directed = leb-true _ _ c;
      known = d;
      declared = eqb-true _ _ f;
      exact = eqb-true _ _ g;
    }

pub says_message : {bs : List ℕ} → IsMessage bs → is_message bs ≡ true
unfolding is_message
says_message {bs} p =
    holding_every
    (le-leb _ _ p.enough also eq-eqb _ _ p.tagged also le-leb _ _ p.directed also p.known also eq-eqb _ _ p.declared
    also eq-eqb _ _ p.exact also that_is_all)

-- a field that the type does not have is zero
pub record IsWritable (m : Message) : Type 0 where
  pub known : is_type m.kind ≡ true
  pub directed : m.master ≤ 1
  pub tx : has_transaction m.kind ≡ false → m.tx.0 ≡ zero_id
  pub rm : has_manager m.kind ≡ false → m.rm.0 ≡ zero_id
  pub session : has_manager m.kind ≡ false → m.session.0 ≡ zero_id

zero_unless : (b : Bool) (t : Id) → (b || same_bytes t zero_id) ≡ true → b ≡ false → t ≡ zero_id
zero_unless b t e n = same_equal t zero_id (rw n at e)

unless_zero : (b : Bool) (t : Id) → (b ≡ false → t ≡ zero_id) → (b || same_bytes t zero_id) ≡ true
unless_zero true t h = refl
unless_zero false t h = equal_same t zero_id (h refl)

pub writable_says : (m : Message) → is_writable m ≡ true → IsWritable m
unfolding is_writable
writable_says m e = taken (every_holding _ e)
  where
    taken : Holding (is_type m.kind ∷ leb m.master 1 ∷ (has_transaction m.kind || same_bytes m.tx.0 zero_id) ∷ (has_manager m.kind || same_bytes m.rm.0 zero_id) ∷ (has_manager m.kind || same_bytes m.session.0 zero_id) ∷ []) → IsWritable m
    taken (a also b also c also d also f also that_is_all) = record {
      known = a;
      directed = leb-true _ _ b;
      tx = zero_unless _ _ c;
      rm = zero_unless _ _ d;
      session = zero_unless _ _ f;
    }

pub says_writable : {m : Message} → IsWritable m → is_writable m ≡ true
unfolding is_writable
says_writable {m} p =
    holding_every
    (p.known also le-leb _ _ p.directed also unless_zero _ _ p.tx also unless_zero _ _ p.rm also unless_zero _ _ p.session also that_is_all)

-- what every Rattle value of the type meets: numbers of 32 bits, identifiers of 16 bytes
pub record InRange (m : Message) : Type 0 where
  pub master : m.master ≤ largest_number
  pub connection : m.connection ≤ largest_number
  pub kind : m.kind ≤ largest_number
  pub reserved : m.reserved ≤ largest_number
  pub tx : length m.tx.0 ≡ identifier_size
  pub rm : length m.rm.0 ≡ identifier_size
  pub session : length m.session.0 ≡ identifier_size

abbrev pub EachByte : List ℕ → Type 0
EachByte bs = Each (λ b. b < 256) bs

-- ── an accepted message, written ────────────────────────────────────────────────────────────────────────────────

part_long : (n start : ℕ) (bs : List ℕ) → start + n ≤ length bs → length (take n (drop start bs)) ≡ n
part_long n start bs h = length-take-le n (drop start bs) (simp length-drop (omega arith))

-- a part of the bytes, and what stands behind it
part_rest : (n start : ℕ) (bs : List ℕ) → take n (drop start bs) ++ drop (start + n) bs ≡ drop start bs
part_rest n start bs = rw (sym (drop-drop n start bs)) (take-append-drop n (drop start bs))

-- the bytes from a field on, if n is the field's number and rest what stands behind it
field_and : (start : ℕ) {n : ℕ} {bs rest : List ℕ} → EachByte bs → start + 4 ≤ length bs → n ≡ field_at start bs → rest ≡ drop (start + 4) bs → low4 n ++ rest ≡ drop start bs
field_and start {n} {bs} {rest} h l e q =
    ap (λ k. low4 k ++ rest) e
    ∙ ap (λ x. x ++ rest) (low_of_number (take 4 (drop start bs)) (part_long 4 start bs l) (each_take 4 (each_drop start h)))
    ∙ ap (λ x. take 4 (drop start bs) ++ x) q
    ∙ part_rest 4 start bs

field_small : (start : ℕ) (bs : List ℕ) → EachByte bs → field_at start bs ≤ largest_number
field_small start bs h = number_small (take 4 (drop start bs)) (each_take 4 (each_drop start h))

where_long : (b : Bool) (t : Id) → (b ≡ true → length t ≡ identifier_size) → length (where_there b t) ≡ identifier_size
where_long true t h = h refl
where_long false t h = refl

module _ (bs : List ℕ) (p : IsMessage bs) where
  -- the last part of the bytes, of n at most
  last : (n start : ℕ) → length bs ≤ start + n → take n (drop start bs) ≡ drop start bs
  last n start h = take_all n (drop start bs) (simp length-drop (omega arith))

  payload_rest : payload_bytes (message_in bs) ≡ drop message_header_size bs
  unfolding message_in
  payload_rest = taken (payload_sized (type_in bs))
    where
      taken : Sized (payload_of (type_in bs)) → payload_bytes (message_in bs) ≡ drop message_header_size bs
      taken (manager e) = rw (e, last 16 40 (omega arith)) (part_rest 16 24 bs)
      taken (transaction e) = rw (e, last 16 24 (omega arith))
      taken (nothing e) = rw (e, drop_of_length-le bs {i = 24} (omega arith))

  pub read_in_range : EachByte bs → InRange (message_in bs)
  unfolding message_in
  read_in_range h = record {
    master = field_small 4 bs h;
    connection = field_small 8 bs h;
    kind = field_small 12 bs h;
    reserved = field_small 20 bs h;
    tx = where_long (has_transaction (type_in bs)) _ (λ e. part_long 16 24 bs (omega (arith, eqb-true (payload_of (type_in bs)) transaction_payload e)));
    rm = where_long (has_manager (type_in bs)) _ (λ e. part_long 16 24 bs (omega (arith, eqb-true (payload_of (type_in bs)) manager_payload e)));
    session = where_long (has_manager (type_in bs)) _ (λ e. part_long 16 40 bs (omega (arith, eqb-true (payload_of (type_in bs)) manager_payload e)));
  }

  read_long : length_of (message_in bs).kind ≡ length bs
  unfolding message_in
  read_long = sym p.exact

  pub read_writable : IsWritable (message_in bs)
  unfolding message_in
  read_writable = record {
    known = p.known;
    directed = p.directed;
    tx = λ e. rw e;
    rm = λ e. rw e;
    session = λ e. rw e;
  }

  pub read_bytes : EachByte bs → message_bytes (message_in bs) ≡ bs
  unfolding message_in message_bytes
  read_bytes h =
      let l = p.enough in
      field_and 0 h (omega arith) (sym p.tagged)
      (field_and 4 h (omega arith) refl
      (field_and 8 h (omega arith) refl
      (field_and 12 h (omega arith) refl
      (field_and 16 h (omega arith) (sym p.declared)
      (field_and 20 h (omega arith) refl payload_rest)))))

-- ── a written message, read ─────────────────────────────────────────────────────────────────────────────────────

module _ (m : Message) (r : InRange m) where
  pub payload_long : length (payload_bytes m) ≡ payload_of m.kind
  payload_long = taken (payload_sized m.kind)
    where
      taken : Sized (payload_of m.kind) → length (payload_bytes m) ≡ payload_of m.kind
      taken (manager e) = rw (e, length-append) (omega (arith, r.rm, r.session))
      taken (transaction e) = rw e r.tx
      taken (nothing e) = rw e

  pub message_long : length (message_bytes m) ≡ length_of m.kind
  unfolding message_bytes
  message_long = omega (arith, payload_long)

  type_read : type_in (message_bytes m) ≡ m.kind
  unfolding message_bytes
  type_read = number_of_low m.kind r.kind

  module _ (w : IsWritable m) where
    pub written_message : IsMessage (message_bytes m)
    unfolding message_bytes
    written_message = record {
      enough = omega (arith, message_long);
      tagged = refl;
      directed = rw (number_of_low m.master r.master) w.directed;
      known = rw type_read w.known;
      declared = number_of_low (payload_of m.kind) (sized_small (payload_sized m.kind)) ∙ ap payload_of (sym type_read);
      exact = message_long ∙ ap (λ k. length_of k) (sym type_read);
    }

    tx_read : Sized (payload_of m.kind) → where_there (has_transaction m.kind) (take 16 (payload_bytes m)) ≡ m.tx.0
    tx_read (manager e) = rw e (sym (w.tx (rw e)))
    tx_read (transaction e) = rw e (take_all 16 m.tx.0 (omega (arith, r.tx)))
    tx_read (nothing e) = rw e (sym (w.tx (rw e)))

    rm_read : Sized (payload_of m.kind) → where_there (has_manager m.kind) (take 16 (payload_bytes m)) ≡ m.rm.0
    rm_read (manager e) = rw e (take_at m.rm.0 m.session.0 16 r.rm)
    rm_read (transaction e) = rw e (sym (w.rm (rw e)))
    rm_read (nothing e) = rw e (sym (w.rm (rw e)))

    session_read : Sized (payload_of m.kind) → where_there (has_manager m.kind) (take 16 (drop 16 (payload_bytes m))) ≡ m.session.0
    session_read (manager e) = rw (e, drop_at m.rm.0 m.session.0 16 r.rm) (take_all 16 m.session.0 (omega (arith, r.session)))
    session_read (transaction e) = rw e (sym (w.session (rw e)))
    session_read (nothing e) = rw e (sym (w.session (rw e)))

    pub written_read : message_in (message_bytes m) ≡ m
    unfolding message_in message_bytes
    written_read =
        let s = payload_sized m.kind in
        rw (number_of_low m.master r.master, number_of_low m.connection r.connection, type_read, number_of_low m.reserved r.reserved, tx_read s, rm_read s, session_read s)

-- ── what an answer says of its test ─────────────────────────────────────────────────────────────────────────────

accepted_message : (bs : List ℕ) → (read_of bs).refusal ≡ refusal.accepted → is_message bs ≡ true
unfolding read_of
accepted_message bs e = by_test (is_message bs) (λ p. p) (λ p. absurd (let n : ◌≡◌ {A = ℕ} 14 0 = rw p at e in omega arith))

message_read : (bs : List ℕ) → is_message bs ≡ true → read_of bs ≡ record { refusal = refusal.accepted; message = message_in bs }
unfolding read_of
message_read bs p = rw p

accepted_fits : (m : Message) (memory : List ℕ) → (write_of m memory).refusal ≡ refusal.accepted → fits m memory ≡ true
unfolding write_of
accepted_fits m memory e = by_test (fits m memory) (λ p. p) (λ p. absurd (let n : ◌≡◌ {A = ℕ} 14 0 = rw p at e in omega arith))

fits_written : (m : Message) (memory : List ℕ) → fits m memory ≡ true
    → write_of m memory ≡ record { refusal = refusal.accepted; length = length_of m.kind; memory = message_bytes m ++ drop (length_of m.kind) memory }
unfolding write_of
fits_written m memory p = rw p

fits_from : (m : Message) (memory : List ℕ) → is_writable m ≡ true → length_of m.kind ≤ length memory → fits m memory ≡ true
fits_from m memory w h = and_true w (le-leb _ _ h)

-- ── the theorems ────────────────────────────────────────────────────────────────────────────────────────────────

-- Each accepted message writes back to its own bytes.
pub accepted_writes_back : (bs memory : List ℕ) → EachByte bs → (read_of bs).refusal ≡ refusal.accepted → length bs ≤ length memory
    → write_of (read_of bs).message memory ≡ record { refusal = refusal.accepted; length = length bs; memory = bs ++ drop (length bs) memory }
accepted_writes_back bs memory h e room =
    let p = accepted_message bs e in
    let q = message_says bs p in
    let l : length_of (message_in bs).kind ≡ length bs = read_long bs q in
    rw (message_read bs p)
    (fits_written (message_in bs) memory (fits_from (message_in bs) memory (says_writable (read_writable bs q)) (omega arith))
    ∙ rw (l, read_bytes bs q h))

-- Each written message reads back to itself.
pub written_reads_back : (m : Message) (memory : List ℕ) → InRange m → (write_of m memory).refusal ≡ refusal.accepted
    → read_of (take (write_of m memory).length (write_of m memory).memory) ≡ record { refusal = refusal.accepted; message = m }
written_reads_back m memory r e =
    let f = accepted_fits m memory e in
    let w = writable_says m (true_and (is_writable m) _ f).0 in
    rw (fits_written m memory f, take_at (message_bytes m) (drop (length_of m.kind) memory) (length_of m.kind) (message_long m r), message_read (message_bytes m) (says_message (written_message m r w)), written_read m r w)

-- The reader accepts what the writer writes, and nothing else.
pub record IsWritten (bs : List ℕ) : Type 0 where
  pub it : Message
  pub ranged : InRange it
  pub writable : is_writable it ≡ true
  pub same : bs ≡ message_bytes it

pub accepted_is_written : (bs : List ℕ) → EachByte bs → (read_of bs).refusal ≡ refusal.accepted → IsWritten bs
accepted_is_written bs h e =
    let p = message_says bs (accepted_message bs e) in
    record { it = message_in bs; ranged = read_in_range bs p h; writable = says_writable (read_writable bs p); same = sym (read_bytes bs p h) }

pub written_is_accepted : (bs : List ℕ) → IsWritten bs → (read_of bs).refusal ≡ refusal.accepted
written_is_accepted bs w =
    rw (w.same, message_read (message_bytes w.it) (says_message (written_message w.it w.ranged (writable_says w.it w.writable))))

-- The writer, where it has the room, accepts what the reader gives, and nothing else.
pub record IsRead (m : Message) : Type 0 where
  pub it : List ℕ
  pub same : read_of it ≡ record { refusal = refusal.accepted; message = m }

pub accepted_has_room : (m : Message) (memory : List ℕ) → (write_of m memory).refusal ≡ refusal.accepted → length_of m.kind ≤ length memory
accepted_has_room m memory e = leb-true _ _ (true_and (is_writable m) _ (accepted_fits m memory e)).1

pub accepted_is_read : (m : Message) (memory : List ℕ) → InRange m → (write_of m memory).refusal ≡ refusal.accepted → IsRead m
accepted_is_read m memory r e = record { it = take (write_of m memory).length (write_of m memory).memory; same = written_reads_back m memory r e }

pub read_is_accepted : (m : Message) (memory : List ℕ) → IsRead m → length_of m.kind ≤ length memory → (write_of m memory).refusal ≡ refusal.accepted
read_is_accepted m memory d room =
    let p = accepted_message d.it (ap (λ a. a.refusal) d.same) in
    let same : message_in d.it ≡ m = ap (λ a. a.message) (sym (message_read d.it p) ∙ d.same) in
    let w : is_writable m ≡ true = rw same at (says_writable (read_writable d.it (message_says d.it p))) in
    ap (λ a. a.refusal) (fits_written m memory (fits_from m memory w room))

-- Neither has another refusal.
pub read_refused : (bs : List ℕ) → ((read_of bs).refusal ≡ refusal.accepted → ⊥) → read_of bs ≡ record { refusal = refusal.bad_message; message = no_message }
unfolding read_of
read_refused bs n = by_test (is_message bs) (λ p. absurd (n (rw p))) (λ p. rw p)

pub write_refused : (m : Message) (memory : List ℕ) → ((write_of m memory).refusal ≡ refusal.accepted → ⊥)
    → write_of m memory ≡ record { refusal = refusal.bad_message; length = 0; memory = memory }
unfolding write_of
write_refused m memory n = by_test (fits m memory) (λ p. absurd (n (rw p))) (λ p. rw p)
