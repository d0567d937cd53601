-- A restart reads the same whole records of which the story is told, and leaves out the same torn one. So its table shows what the stored log tells: each open
-- transaction in Committing, with those that its record names in Failed-to-notify, and no other.
use Prim.Native.Nat.{ℕ, zero, suc, ◌-◌, ◌≤◌, ◌<◌}
use native.Mathlib.Omega.{arith}
use mathlib.Core.Path.{◌≡◌, refl, sym, ◌∙◌, ap, ap₂, subst}
use mathlib.Core.Logic.{inr}
use mathlib.Core.Bool.{true, false}
use mathlib.Core.List.Memᴰ
use mathlib.Core.List.{List, [], ◌∷◌, ◌++◌, map, append_assoc, nil≢cons}
use lib.ListN.{length, take, drop, replicate, length-append, take-append-drop, drop_of_length-le}
use lib.Seq.{take-append-le, drop-append-le, take_at, take-append_seam}
use lib.Dec.{eqb}
use borrow.Author.Tests.{eqb-false, eq-eqb, ne_eqb, eqb-true}
use Rattle.lists.specs.Lists.{filter}
use Rattle.lists.specs.Members.{◌∈◌, Each, Some}
use Rattle.lists.specs.Places.{place_from, at_from}
use Rattle.lists.proofs.Tests.{by_test, of_map, each_front}
use Rattle.rules.specs.declared.Transaction.{Transaction}
use Rattle.rules.specs.declared.Table.{Table}
use Rattle.rules.specs.TransactionState as transaction
use Rattle.rules.specs.Sizes.{header_size, transaction_places, enlistment_places}
use Rattle.rules.specs.Identifiers.{Id}
use Rattle.rules.specs.Table.{no_transaction, no_enlistment, fresh_of, is_named, held}
use Rattle.rules.specs.Sound.{Durable}
use Rattle.rules.specs.Log.{Entry, Record, header, all_bytes, scan, behind}
use Rattle.rules.specs.Restart.{Open, is_open_as, open_after, reopened, reenlistment, reenlistments, table_of, Restart, done_restart, used_of, restart_of}
use Rattle.rules.proofs.Records.{Valid, Cut, cut, scan_all, behind_all}
use Rattle.rules.proofs.Refused.{refused_restart_lem}
use Rattle.rules.proofs.Frames.{in_held, none_absent}
use Rattle.safety.proofs.Alone.{Story, none, open_with, closed, bad, out, committing, Waits, managers_of}
use Rattle.safety.proofs.Cut.{Restored}
use Rattle.safety.proofs.Top.{Restores}
use Rattle.safety.proofs.Story.{story, story_of, Formed, header_formed, story_formed, mine, nothing_mine, Tells, tells}
use Rattle.safety.proofs.View.{view_of, view_absent}
use Rattle.rules.proofs.Restarts.{Accepted, accepted}

-- ── the table of a restart ──────────────────────────────────────────────────────────────────────────────────────

module _ (t : Id) where
  empties : (k m : ℕ) → place_from (is_named t) k (replicate m no_transaction) ≡ 0
  unfolding place_from
  empties k zero = refl
  empties k (suc m) = empties (suc k) m

  none_open : (k : ℕ) (os : List Open) (m : ℕ) → mine t os ≡ [] → place_from (is_named t) k (map reopened os ++ replicate m no_transaction) ≡ 0
  unfolding mine filter place_from
  none_open k [] m e = empties k m
  none_open k (o ∷ os) m e = by_test (is_open_as t o)
      (λ b. absurd (nil≢cons (sym (rw b at e))))
      (λ b. rw b (none_open (suc k) os m (rw b at e)))

  -- where an open transaction stands, and what it holds
  record Reopened (k : ℕ) (os : List Open) (zs : List Transaction) (o : Open) : Type 0 where
    p : ℕ
    place : place_from (is_named t) k (map reopened os ++ zs) ≡ p
    state : (at_from no_transaction k p (map reopened os ++ zs)).state ≡ transaction.committing
    low : k ≤ p
    entries : (e : Entry) → e ∈ o.entries → reenlistment p e ∈ reenlistments k os

  one_open : (k : ℕ) (os : List Open) (zs : List Transaction) (o : Open) → mine t os ≡ o ∷ [] → Reopened k os zs o
  unfolding mine filter place_from at_from reenlistments
  one_open k [] zs o e = absurd (nil≢cons e)
  one_open k (x ∷ os) zs o e = by_test (is_open_as t x) (λ b. here b (rw b at e)) (λ b. there b (one_open (suc k) os zs o (rw b at e)))
    where
      same : x ∷ filter (is_open_as t) os ≡ o ∷ [] → x.entries ≡ o.entries
      same q = cc

      here : is_open_as t x ≡ true → x ∷ filter (is_open_as t) os ≡ o ∷ [] → Reopened k (x ∷ os) zs o
      here b q = record {
        p = k;
        place = rw b refl;
        state = rw (eq-eqb k k refl) refl;
        low = omega arith;
        entries = λ y m. Memᴰ.append_left (reenlistments (suc k) os) (Memᴰ.map (reenlistment k) (inside y m));
      }
        where
          inside : (y : Entry) → y ∈ o.entries → y ∈ x.entries
          inside y m = rw (same q) m

      there : is_open_as t x ≡ false → Reopened (suc k) os zs o → Reopened k (x ∷ os) zs o
      there b l = record {
        p = l.p;
        place = rw b l.place;
        state = rw (ne_eqb k l.p (λ c. omega (arith, c, l.low))) l.state;
        low = omega (arith, l.low);
        entries = λ y m. Memᴰ.append_right (map (reenlistment k) x.entries) (l.entries y m);
      }

  out_of : (capacity used : ℕ) (os : List Open) → mine t os ≡ [] → view_of t (table_of capacity used os) ≡ out
  unfolding table_of
  out_of capacity used os e = view_absent t (table_of capacity used os) (none_absent t (table_of capacity used os) (none_open 1 os (transaction_places - length os) e))

  module _ (capacity used : ℕ) (os : List Open) (o : Open) (l : Reopened 1 os (replicate (transaction_places - length os) no_transaction) o) where
    abbrev table : Table
    table = table_of capacity used os

    view_open : view_of t table ≡ committing (held l.p table)
    unfolding view_of table_of
    view_open = rw (l.place, l.state) refl

    held_open : (e : Entry) → e ∈ o.entries → reenlistment l.p e ∈ held l.p table
    unfolding table_of
    held_open e m = in_held l.p table (Memᴰ.append_left (replicate (enlistment_places - length (reenlistments 1 os)) no_enlistment) (l.entries e m)) refl

    waits_open : (r : Id) → r ∈ managers_of o.entries → Some (Waits r) (held l.p table)
    waits_open r m = go (of_map (λ e. e.rm) o.entries m)
      where
        go : Some (λ e. e.rm ≡ r) o.entries → Some (Waits r) (held l.p table)
        go w = record { it = reenlistment l.p w.it; there = held_open w.it w.there; holds = (refl, w.holds, inr refl) }

    durable_open : (es : List Entry) → o.entries ≡ es → 0 < length es → Some Durable (held l.p table)
    durable_open [] q n = absurd (omega arith)
    durable_open (e ∷ es) q n = record { it = reenlistment l.p e; there = held_open e (rw q (Memᴰ.head refl)); holds = refl }

  pub restored : (s : Story) (os : List Open) (capacity used : ℕ) → Tells t s os → Restored s (view_of t (table_of capacity used os))
  restored none os capacity used h = out_of capacity used os h
  restored (open_with rs) os capacity used (o, h, q, n) =
      let l : Reopened 1 os (replicate (transaction_places - length os) no_transaction) o = one_open 1 os (replicate (transaction_places - length os) no_transaction) o h in
      (held l.p (table_of capacity used os), view_open capacity used os o l, (λ r m. waits_open capacity used os o l r (rw (← q) at m)), durable_open capacity used os o l o.entries refl n, (λ d m. record { it = reenlistment l.p d; there = held_open capacity used os o l d (rw (← q) at m); holds = refl }))
  restored closed os capacity used h = out_of capacity used os h
  restored bad os capacity used h = tt

-- ── what a restart gives ────────────────────────────────────────────────────────────────────────────────────────

abbrev R : List ℕ → Restart → Type 0
R disk s = Restores view_of story_of Formed disk s

-- less than a header tells nothing
short_story : (t : Id) (bs : List ℕ) → length bs ≤ header_size → story_of t bs ≡ none
unfolding story_of story scan
short_story t bs h = rw (drop_of_length-le bs {i = header_size} h) refl

fresh_view : (t : Id) (capacity : ℕ) → view_of t (fresh_of capacity) ≡ out
fresh_view t capacity = view_absent t (fresh_of capacity) (none_absent t (fresh_of capacity) (empties t 1 transaction_places))

short : (disk log : List ℕ) → length disk < header_size → R disk (done_restart (fresh_of (length log)) (header ++ drop header_size log))
short disk log h = record {
  formed = header_formed;
  same_story = λ t. short_story t header (omega arith) ∙ sym (short_story t disk (omega arith));
  restored = λ t. rw (short_story t disk (omega arith)) (fresh_view t (length log));
}

story_is : (t : Id) (bs : List ℕ) → story_of t bs ≡ story t none (scan 0 (drop header_size bs))
unfolding story_of
story_is t bs = refl

-- the header and more are stored
module _ (disk spare rest : List ℕ) (f : Formed (disk ++ rest)) (h : header_size ≤ length disk) where
  abbrev pub body : List ℕ
  body = drop header_size disk

  pub parts : Cut body f.records
  parts = cut f.records f.valid body rest (sym (drop-append-le header_size disk rest h) ∙ ap (drop header_size) f.bytes)

  abbrev pub rs : List Record
  rs = parts.kept

  pub ok : Each Valid rs
  ok = each_front rs parts.lost (subst (Each Valid) parts.records f.valid)

  pub scan_is : scan 0 body ≡ rs
  scan_is = ap (scan 0) parts.bytes ∙ scan_all rs ok parts.is_torn

  pub behind_is : behind 0 body ≡ parts.torn
  behind_is = ap (behind 0) parts.bytes ∙ behind_all rs ok parts.is_torn

  pub used_is : used_of body ≡ length (header ++ all_bytes rs)
  used_is = rw behind_is (omega (arith, ap length parts.bytes, length-append (all_bytes rs) parts.torn, length-append header (all_bytes rs)))

  disk_is : disk ≡ (header ++ all_bytes rs) ++ parts.torn
  disk_is = sym (take-append-drop header_size disk) ∙ ap₂ ◌++◌ (sym (take-append-le header_size disk rest h) ∙ ap (take header_size) f.bytes) parts.bytes ∙ sym (append_assoc header (all_bytes rs) parts.torn)

  pub used_part_lem : take (used_of body) (disk ++ spare) ≡ header ++ all_bytes rs
  used_part_lem = ap₂ take used_is (ap (λ l. l ++ spare) disk_is ∙ append_assoc (header ++ all_bytes rs) parts.torn spare) ∙ take_at (header ++ all_bytes rs) (parts.torn ++ spare) (length (header ++ all_bytes rs)) refl

  disk_story : (t : Id) → story_of t disk ≡ story t none rs
  disk_story t = story_is t disk ∙ ap (story t none) scan_is

  long : R disk (done_restart (table_of (length (disk ++ spare)) (used_of body) (open_after [] (scan 0 body))) (disk ++ spare))
  unfolding table_of
  long = record {
    formed = rw used_part_lem (record { records = rs; valid = ok; bytes = refl });
    same_story = λ t. ap (story_of t) used_part_lem ∙ story_formed t (header ++ all_bytes rs) (record { records = rs; valid = ok; bytes = refl }) ∙ sym (disk_story t);
    restored = λ t. rw (disk_story t, scan_is) (restored t (story t none rs) (open_after [] rs) (length (disk ++ spare)) (used_of body) (tells t rs ok none [] (nothing_mine t)));
  }

pub restart_accepts : (disk spare rest : List ℕ) → Formed (disk ++ rest) → eqb (restart_of (disk ++ spare) (length disk)).refusal 0 ≡ true → Restores view_of story_of Formed disk (restart_of (disk ++ spare) (length disk))
restart_accepts disk spare rest f e = go (accepted (disk ++ spare) (length disk) (eqb-true _ 0 e))
  where
    go : Accepted (disk ++ spare) (length disk) → R disk (restart_of (disk ++ spare) (length disk))
    go (Accepted.fresh i h r) = rw r (short disk (disk ++ spare) h)
    go (Accepted.read i h s d t r) = rw (r, take-append_seam disk spare) (long disk spare rest f h)

pub restart_refuses : (log : List ℕ) (n : ℕ) → eqb (restart_of log n).refusal 0 ≡ false → (restart_of log n).table.used ≡ 0
restart_refuses log n q = ap (λ (s : Restart). s.table.used) (refused_restart_lem log n (restart_of log n).refusal refl (eqb-false (restart_of log n).refusal 0 q))
