-- Reading from place to place: what is left to read, judged with the records that are open so far, gives the whole.
use Prim.Native.Nat.{ℕ, ◌+◌, ◌≤◌, ◌<◌}
use native.Mathlib.Omega.{arith}
use mathlib.Core.Path.{◌≡◌, refl, sym, ◌∙◌, ap}
use mathlib.Core.Bool.{Bool, true, false, not, ◌&&◌, or-false, or-true}
use mathlib.Core.List.{List, [], ◌∷◌, append-nil}
use lib.Dec.{eqb, leb}
use lib.ListN.{length, take, drop, length-append}
use borrow.Author.Tests.{leb-true}
use Rattle.lists.specs.Lists.{any, none, differ}
use Rattle.lists.proofs.Tests.{true_and, length_filter}
use Rattle.rules.specs.Sizes.{transaction_places, enlistment_places, header_size}
use Rattle.rules.specs.Identifiers.{Id, is_zero}
use Rattle.rules.specs.Log.{Entry, Record, scan, behind, begins_none}
use Rattle.rules.specs.Restart.{Open, is_open_as, entries_open, after_record, open_after, ascend_from, same_entry_manager, is_fitting, all_fitting, used_of, is_damaged, body_of}
use Rattle.rules.proofs.Restarts.{entries_append, entries_fewer}
use Rattle.log_reader.specs.Reading.{identifier_at, entries_at, is_commit_at, record_at, whole_at, none_at}
use Rattle.log_reader.proofs.Scanning.{rest_length, scan_next, behind_next, whole_within, scan_end, behind_end, none_is}
use Rattle.open_records.specs.declared.OpenRecords.{OpenRecords}
use Rattle.open_records.specs.Opening.{starts_of, opens_of, none_open, open_behind}
use Rattle.open_records.proofs.Rows.{opens_long}
use Rattle.open_records.proofs.Following.{Long, behind_long, behind_opens}
use Rattle.std.specs.Prelude.{Ok, Err}
use Rattle.rules.specs.declared.Refusal.TheVariants.{DamagedLog}
use Rattle.read_records.specs.Readback.{open_from, Read}

-- ── how many are open ───────────────────────────────────────────────────────────────────────────────────────────

-- what fits leaves no more than the table holds
pub record Few (os : List Open) : Type 0 where
  pub transactions : length os ≤ transaction_places
  pub entries : length (entries_open os) ≤ enlistment_places

few_none : Few []
unfolding entries_open
few_none = record { transactions = omega arith; entries = omega arith }

last_two : (a b c : Bool) → (a && b && c) ≡ true → (b ≡ true) × (c ≡ true)
last_two a b c e = let p = true_and (a && b) c e in ((true_and a b p.0).1, p.1)

-- what is judged of a commit record, but for how many are open
abbrev other_tests : List Open → Id → List Entry → Bool
other_tests os t es =
    not (is_zero t) && none (λ e. is_zero e.rm) es && none (is_open_as t) os && ascend_from 0 es
    && none (λ e. any (λ d. eqb d.number e.number) (entries_open os)) es && differ same_entry_manager es

commit_few : (os : List Open) (t : Id) (es : List Entry) → is_fitting os (Record.commit t es) ≡ true
    → (length os + 1 ≤ transaction_places) × (length (entries_open os) + length es ≤ enlistment_places)
unfolding is_fitting
commit_few os t es e =
    let p = last_two (other_tests os t es) (leb (length os + 1) transaction_places) (leb (length (entries_open os) + length es) enlistment_places) e in
    (leb-true (length os + 1) transaction_places p.0, leb-true (length (entries_open os) + length es) enlistment_places p.1)

few_after : (os : List Open) (r : Record) → Few os → is_fitting os r ≡ true → Few (after_record os r)
unfolding after_record entries_open
few_after os (Record.commit t es) f e =
    let p = commit_few os t es e in
    let o : List Open = record { id = t; entries = es } ∷ [] in
    let n : length (entries_open o) ≡ length es = rw (append-nil es) in
    record {
      transactions = omega (arith, length-append os o, p.0);
      entries = rw (entries_append os o) (omega (arith, length-append (entries_open os) (entries_open o), n, p.1));
    }
few_after os (Record.forget t) f e = record {
  transactions = omega (arith, length_filter (λ o. not (is_open_as t o)) os, f.transactions);
  entries = omega (arith, entries_fewer (λ o. not (is_open_as t o)) os, f.entries);
}

-- a commit record that fits finds a place
room_for : (log : List ℕ) (rs : OpenRecords) (p : ℕ) → is_fitting (opens_of log rs) (record_at log p) ≡ true → is_commit_at log p ≡ true → length (starts_of rs) < transaction_places
unfolding record_at
room_for log rs p e c = omega (arith, opens_long log rs, (commit_few (opens_of log rs) (identifier_at log p) (entries_at log p) (rw c at e)).0)

-- ── from place to place ─────────────────────────────────────────────────────────────────────────────────────────

pub record Reading (log : List ℕ) (stored : ℕ) (rs : OpenRecords) (p : ℕ) : Type 0 where
  pub low : header_size ≤ p
  pub within : p ≤ stored
  pub long : Long rs
  pub few : Few (opens_of log rs)
  pub fitting : all_fitting [] (scan 0 (body_of log stored)) ≡ all_fitting (opens_of log rs) (scan 0 (drop p (take stored log)))
  pub opens : open_after [] (scan 0 (body_of log stored)) ≡ open_after (opens_of log rs) (scan 0 (drop p (take stored log)))
  pub places : open_from log stored none_open header_size (scan 0 (body_of log stored)) ≡ open_from log stored rs p (scan 0 (drop p (take stored log)))
  pub behind_all : behind 0 (body_of log stored) ≡ behind 0 (drop p (take stored log))

module _ (log : List ℕ) (stored : ℕ) (fits : stored ≤ length log) where
  pub reading_start : header_size ≤ stored → Reading log stored none_open header_size
  unfolding opens_of
  reading_start h = record { low = omega arith; within = h; long = refl; few = few_none; fitting = refl; opens = refl; places = refl; behind_all = refl }

  damage : is_damaged (body_of log stored) ≡ true → Read log stored (Err DamagedLog)
  damage d = record { gives = rw d; else = tt }

  module _ {rs : OpenRecords} {p : ℕ} (r : Reading log stored rs p) where
    pub reading_again : {n : ℕ} → whole_at log stored p ≡ n → 0 < n → is_fitting (opens_of log rs) (record_at log p) ≡ true → Reading log stored (open_behind log rs p) (p + n)
    unfolding all_fitting open_after open_from
    reading_again {n} e z f =
        let next : scan 0 (drop p (take stored log)) ≡ record_at log p ∷ scan 0 (drop (p + n) (take stored log)) = scan_next log stored fits p n e z in
        let after : opens_of log (open_behind log rs p) ≡ after_record (opens_of log rs) (record_at log p) = behind_opens log rs p r.long (room_for log rs p f) in
        record {
          low = omega (arith, r.low);
          within = whole_within log stored fits p n e z;
          long = behind_long log rs p r.long (room_for log rs p f);
          few = rw after (few_after (opens_of log rs) (record_at log p) r.few f);
          fitting = rw (after) (rw (next, f) at r.fitting);
          opens = rw (after) (rw next at r.opens);
          places = r.places ∙ ap (open_from log stored rs p) next ∙ ap (λ m. open_from log stored (open_behind log rs p) (p + m) (scan 0 (drop (p + n) (take stored log)))) e;
          behind_all = r.behind_all ∙ behind_next log stored fits p n e z;
        }

    pub reading_unfit : {n : ℕ} → whole_at log stored p ≡ n → 0 < n → is_fitting (opens_of log rs) (record_at log p) ≡ false → Read log stored (Err DamagedLog)
    unfolding all_fitting
    reading_unfit {n} e z f =
        let unfit : all_fitting [] (scan 0 (body_of log stored)) ≡ false = rw (scan_next log stored fits p n e z, f) at r.fitting in
        damage (rw unfit (or-true (begins_none (behind 0 (body_of log stored)))))

    -- no whole record stands there
    module _ (e : whole_at log stored p ≡ 0) where
      over : scan 0 (drop p (take stored log)) ≡ []
      over = scan_end log stored fits p r.within e

      rest : behind 0 (body_of log stored) ≡ drop p (take stored log)
      rest = r.behind_all ∙ behind_end log stored fits p r.within e

      judged : is_damaged (body_of log stored) ≡ none_at log stored p
      unfolding all_fitting
      judged =
          let fit : all_fitting [] (scan 0 (body_of log stored)) ≡ true = rw over at r.fitting in
          rw (fit, rest, none_is log stored fits p r.within) (or-false (begins_none (drop p (take stored log))))

      pub reading_none : none_at log stored p ≡ true → Read log stored (Err DamagedLog)
      reading_none d = damage (judged ∙ d)

      pub reading_done : none_at log stored p ≡ false → Read log stored (Ok (record { used = p; records = rs }))
      unfolding open_after open_from
      reading_done d =
          let u : p ≡ used_of (body_of log stored) = rw rest (omega (arith, rest_length log stored fits header_size, rest_length log stored fits p, r.low, r.within)) in
          let o : open_from log stored none_open header_size (scan 0 (body_of log stored)) ≡ rs = rw over at r.places in
          record {
            gives = rw (judged ∙ d, o, ← u);
            else = record { within = r.within; opens = sym (rw over at r.opens); few = r.few.transactions; few_entries = r.few.entries };
          }
