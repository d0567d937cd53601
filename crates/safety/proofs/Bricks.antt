-- No bricking: what is written to a log can be read back, and where it is cut there is room as there was before. So that a restart
-- with the same capacity finds nothing to refuse.
use Prim.Native.Nat.{ℕ, ◌+◌, ◌*◌, ◌-◌, ◌≤◌, ◌<◌}
use native.Mathlib.Omega.{arith}
use mathlib.Core.Path.{◌≡◌, refl, sym, ◌∙◌, ap, subst}
use mathlib.Core.Logic.{◌⊎◌, inl, inr}
use mathlib.Core.Bool.{true, false, not}
use mathlib.Core.List.{List, [], ◌∷◌, ◌++◌, map}
use lib.ListN.{length, take, drop, replicate, length-append, length-map, length-drop, length-replicate}
use lib.Seq.{length-take-le, take-append-le, take-append_seam}
use lib.Dec.{eqb, ltb}
use borrow.Author.Tests.{le-ltb, ltb-true, ltb-false, eqb-true}
use Rattle.lists.specs.Lists.{filter}
use Rattle.lists.specs.Members.{Each, Apart}
use Rattle.lists.proofs.Tests.{by_cases, by_test, by_either, no_clash, is_false, and_true, true_and, or_false, false_not, each_nothing, each_head, each_rest, filter_all, each_back}
use Rattle.lists.proofs.Apart.{apart_head, apart_rest}
use Rattle.rules.specs.declared.Table.{Table}
use Rattle.rules.specs.declared.Event.{Event}
use Rattle.rules.specs.Sizes.{header_size, record_size, transaction_places, enlistment_places, least_capacity, largest_capacity}
use Rattle.rules.specs.Identifiers.{Id}
use Rattle.rules.specs.Table.{no_transaction, no_enlistment, fresh_of}
use Rattle.rules.specs.Sound.{sound_of, Sound}
use Rattle.rules.specs.Log.{Record, header, record_bytes, all_bytes, forget_size, scan, behind, begins_none}
use Rattle.rules.specs.RefusalNumber as refusal
use Rattle.rules.specs.Restart.{Open, is_open_as, after_record, open_after, is_fitting, all_fitting, entries_open, reopened, reenlistments, table_of, Restart, done_restart, used_of, is_damaged, is_too_short, read_back, is_outside, restart_of}
use Rattle.rules.specs.Step.{step_of}
use Rattle.rules.proofs.Identifiers.{same_equal, equal_same}
use Rattle.rules.proofs.Records.{Valid, valid_forget, torn_begins, all_append}
use Rattle.rules.proofs.Soundness.{sound_sentences, sentences_sound}
use Rattle.rules.proofs.Restarts.{reenlistments_long, not_outside, fresh_is, read_is, undamaged, Accepted, accepted}
use Rattle.safety.specs.World.{World, used_part, empty, after_step, with_disk, after_leaving, after_restart}
use Rattle.safety.specs.Host.{careful}
use Rattle.safety.specs.Run.{Run, start, step, store, trim, leave, restart}
use Rattle.safety.specs.Beyond.{NeverBricked}
use Rattle.safety.proofs.Alone.{none}
use Rattle.safety.proofs.Top.{Alive, Always, always, agrees}
use Rattle.safety.proofs.Story.{story_of, Formed, story_formed, nothing_mine, tells, formed_append}
use Rattle.safety.proofs.View.{view_of}
use Rattle.safety.proofs.Open.{Fit, fit_nothing, fit_record, fit_all, open_both, fitting_both}
use Rattle.safety.proofs.Fitting.{Ready, AllPlaces, Written}
use Rattle.safety.proofs.Reopened.{reopened_sound}
use Rattle.safety.proofs.Steps.{step_writes, step_refuses, step_needs_sound, zero_unsound}
use Rattle.safety.proofs.Lengths.{Same, step_same}
use Rattle.safety.proofs.Restarts as restarts
use Rattle.safety.proofs.Restarts.{restart_refuses}
use Rattle.safety.proofs.Safety.{refines}
use Rattle.rules.proofs.Preserved.{fresh_sound}
use Rattle.safety.proofs.Restarted.{of_accepted}

-- ── room is never regained ──────────────────────────────────────────────────────────────────────────────────────

-- a forget record closes no more than one
one_closed : (t : Id) (os : List Open) → Apart (λ o q. o.id ≡ q.id) os → length os ≤ length (filter (λ o. not (is_open_as t o)) os) + 1
unfolding filter
one_closed t [] a = omega arith
one_closed t (o ∷ os) a = by_test (is_open_as t o)
    (λ b. rw (b, filter_all (λ o. not (is_open_as t o)) os (λ q m. false_not (is_false (is_open_as t q) (λ e. apart_head a q m (same_equal o.id t b ∙ sym (same_equal q.id t e)))))) (omega arith))
    (λ b. let ih : length os ≤ length (filter (λ o. not (is_open_as t o)) os) + 1 = one_closed t os (apart_rest a) in rw b (omega (arith, ih)))

one_grows : (os : List Open) (r : Record) → Fit os → Valid r → record_size * length os ≤ length (record_bytes r) + record_size * length (after_record os r)
unfolding after_record record_bytes
one_grows os (Record.commit t es) k v = rw (length-append os (record { id = t; entries = es } ∷ [])) (omega arith)
one_grows os (Record.forget t) k (valid_forget e) = omega (arith, e, one_closed t os k.ids_apart)

-- the bytes of records and the room for the forget records of those that are open then
grows : (os : List Open) (rs : List Record) → Fit os → Each Valid rs → all_fitting os rs ≡ true → record_size * length os ≤ length (all_bytes rs) + record_size * length (open_after os rs)
unfolding open_after all_bytes all_fitting
grows os [] k v f = omega arith
grows os (r ∷ rs) k v f =
    let g : (is_fitting os r ≡ true) × (all_fitting (after_record os r) rs ≡ true) = true_and (is_fitting os r) (all_fitting (after_record os r) rs) f in
    let n : record_size * length (after_record os r) ≤ length (all_bytes rs) + record_size * length (open_after (after_record os r) rs) = grows (after_record os r) rs (fit_record os r k (each_head v) g.0) (each_rest v) g.1 in
    rw (length-append (record_bytes r) (all_bytes rs)) (omega (arith, n, one_grows os r k (each_head v)))

-- ── a log that can be read back ─────────────────────────────────────────────────────────────────────────────────

pub record Readable (tb : Table) (log : List ℕ) : Type 0 where
  pub formed : Formed (used_part tb log)
  pub fitting : all_fitting [] formed.records ≡ true
  pub room : tb.used + record_size * length (open_after [] formed.records) ≤ length log
  pub places : AllPlaces tb
  pub capacity : tb.capacity ≡ length log
  pub least : least_capacity ≤ length log
  pub most : length log ≤ largest_capacity

abbrev Kept : Table → List ℕ → Type 0
Kept tb log = (tb.used ≡ 0) ⊎ Readable tb log

-- ── a step ──────────────────────────────────────────────────────────────────────────────────────────────────────

ready : (w : World) → Alive refines w → (g : Readable w.table w.log) → sound_of w.table ≡ true → Ready w.table w.log (open_after [] g.formed.records)
unfolding refines
ready w a g s = record {
  sound = sound_sentences w.table s;
  storied = λ u. story_of u (used_part w.table w.log);
  tells = λ u. rw (story_formed u (used_part w.table w.log) g.formed) (tells u g.formed.records g.formed.valid none [] (nothing_mine u));
  agrees = λ u. agrees refines u (view_of u w.table) (story_of u (used_part w.table w.log)) w.notes w.waiting w.sent w.issued (a.shape u);
  fine = λ u. (a.base u).fine;
  fit = fit_all [] g.formed.records fit_nothing g.formed.valid g.fitting;
  places = g.places;
  room = g.room;
}

-- what is written behind it can be read back, too
readable_more : (tb : Table) (log : List ℕ) (e : Event) (g : Readable tb log) → Written tb log (step_of tb e log).table (step_of tb e log).log → Ready tb log (open_after [] g.formed.records) → Readable (step_of tb e log).table (step_of tb e log).log
unfolding formed_append
readable_more tb log e g w r = record {
  formed = formed_append g.formed w.records w.valid w.bytes;
  fitting = fitting_both [] g.formed.records w.records ∙ and_true g.fitting j.0;
  room = rw (open_both [] g.formed.records w.records, k.bytes) j.1;
  places = record { transactions_many = k.transactions ∙ g.places.transactions_many; enlistments_many = k.enlistments ∙ g.places.enlistments_many };
  capacity = k.capacity ∙ g.capacity ∙ sym k.bytes;
  least = rw k.bytes g.least;
  most = rw k.bytes g.most;
}
  where
    j : (all_fitting (open_after [] g.formed.records) w.records ≡ true) × ((step_of tb e log).table.used + record_size * length (open_after (open_after [] g.formed.records) w.records) ≤ length log)
    j = w.judged.judged (open_after [] g.formed.records) r

    k : Same tb log (step_of tb e log).table (step_of tb e log).log
    k = step_same tb e log

step_kept : (w : World) (e : Event) → Always refines w → Kept w.table w.log → Kept (step_of w.table e w.log).table (step_of w.table e w.log).log
step_kept w e i g = by_test (eqb (step_of w.table e w.log).refusal 0) (λ q. accepted q i g) (λ q. rw ((step_refuses w.table e w.log q).table_kept, (step_refuses w.table e w.log q).log_kept) g)
  where
    unused : eqb (step_of w.table e w.log).refusal 0 ≡ true → w.table.used ≡ 0 → ⊥
    unused q z = absurd (no_clash (sound_of w.table) (step_needs_sound w.table e w.log q) (zero_unsound w.table z))

    accepted : eqb (step_of w.table e w.log).refusal 0 ≡ true → Always refines w → Kept w.table w.log → Kept (step_of w.table e w.log).table (step_of w.table e w.log).log
    accepted q i (inl z) = absurd (unused q z)
    accepted q (inr d) (inr g) = absurd (unused q d.none_used)
    accepted q (inl a) (inr g) = inr (readable_more w.table w.log e g (step_writes w.table e w.log q g.formed) (ready w a g (step_needs_sound w.table e w.log q)))

-- ── a restart ───────────────────────────────────────────────────────────────────────────────────────────────────

many_transactions : (os : List Open) → length os ≤ transaction_places → (capacity used : ℕ) → length (table_of capacity used os).transactions ≡ transaction_places
unfolding table_of
many_transactions os h capacity used = length-append (map reopened os) (replicate (transaction_places - length os) no_transaction) ∙ omega (arith, h, length-map os reopened, length-replicate (transaction_places - length os) no_transaction)

many_enlistments : (os : List Open) → length (entries_open os) ≤ enlistment_places → (capacity used : ℕ) → length (table_of capacity used os).enlistments ≡ enlistment_places
unfolding table_of
many_enlistments os h capacity used = length-append (reenlistments 1 os) (replicate (enlistment_places - length (reenlistments 1 os)) no_enlistment) ∙ omega (arith, h, reenlistments_long 1 os, length-replicate (enlistment_places - length (reenlistments 1 os)) no_enlistment)

fresh_readable : (log : List ℕ) → least_capacity ≤ length log → length log ≤ largest_capacity → Readable (fresh_of (length log)) (header ++ drop header_size log)
unfolding all_bytes all_fitting open_after
fresh_readable log l m = record {
  formed = record { records = []; valid = each_nothing Valid; bytes = refl };
  fitting = refl;
  room = omega (arith, size);
  places = record { transactions_many = refl; enlistments_many = refl };
  capacity = sym size;
  least = omega (arith, size);
  most = omega (arith, size);
}
  where
    size : length (header ++ drop header_size log) ≡ length log
    size = length-append header (drop header_size log) ∙ omega (arith, length-drop header_size log)

-- a restart that is accepted, and whose table is sound
record Good (s : Restart) : Type 0 where
  accepted : s.refusal ≡ refusal.accepted
  sound : sound_of s.table ≡ true

module _ (disk spare rest : List ℕ) (f : Formed (disk ++ rest)) (h : header_size ≤ length disk) where
  abbrev body : List ℕ
  body = drop header_size disk

  abbrev rs : List Record
  rs = (restarts.parts disk spare rest f h).kept

  abbrev os : List Open
  os = open_after [] rs

  fit : all_fitting [] rs ≡ true → Fit os
  fit q = fit_all [] rs fit_nothing (restarts.ok disk spare rest f h) q

  table_used : (capacity used : ℕ) (qs : List Open) → ((table_of capacity used qs).used ≡ used) × ((table_of capacity used qs).capacity ≡ capacity)
  unfolding table_of
  table_used capacity used qs = (refl, refl)

  fits : is_damaged body ≡ false → all_fitting [] rs ≡ true
  fits d = rw (restarts.scan_is disk spare rest f h) at (undamaged body d)

  roomy : is_too_short body (length (disk ++ spare)) ≡ false → used_of body + record_size * length os ≤ length (disk ++ spare)
  roomy t = rw (restarts.scan_is disk spare rest f h) at (ltb-false (length (disk ++ spare)) (used_of body + forget_size * length (open_after [] (scan 0 body))) t)

  long_readable : is_damaged body ≡ false → is_too_short body (length (disk ++ spare)) ≡ false → least_capacity ≤ length (disk ++ spare) → length (disk ++ spare) ≤ largest_capacity
      → Readable (table_of (length (disk ++ spare)) (used_of body) (open_after [] (scan 0 body))) (disk ++ spare)
  long_readable d t l m = rw (restarts.scan_is disk spare rest f h) (record {
    formed = record { records = rs; valid = restarts.ok disk spare rest f h; bytes = ap (λ n. take n (disk ++ spare)) (table_used (length (disk ++ spare)) (used_of body) os).0 ∙ restarts.used_part_lem disk spare rest f h };
    fitting = fitting;
    room = rw (table_used (length (disk ++ spare)) (used_of body) os).0 (roomy t);
    places = record {
      transactions_many = many_transactions os (fit fitting).few (length (disk ++ spare)) (used_of body);
      enlistments_many = many_enlistments os (fit fitting).few_entries (length (disk ++ spare)) (used_of body);
    };
    capacity = (table_used (length (disk ++ spare)) (used_of body) os).1;
    least = l;
    most = m;
  })
    where
      fitting : all_fitting [] rs ≡ true
      fitting = fits d

  -- where the records fit and there is room for them, nothing is refused
  long_good : all_fitting [] rs ≡ true → length (header ++ all_bytes rs) + record_size * length os ≤ length (disk ++ spare) → length (disk ++ spare) ≤ largest_capacity → Good (read_back body (disk ++ spare))
  unfolding read_back
  long_good q room m = by_cases Good (is_damaged body) _ _ (λ b. absurd (no_clash (is_damaged body) b whole)) (λ _. by_cases Good (is_too_short body (length (disk ++ spare))) _ _ (λ b. absurd (no_clash (is_too_short body (length (disk ++ spare))) b enough))
      (λ _. record { accepted = refl; sound = rw (restarts.scan_is disk spare rest f h) (sentences_sound (table_of (length (disk ++ spare)) (used_of body) os) (reopened_sound (length (disk ++ spare)) (used_of body) os (fit q) (omega arith) (rw (restarts.used_is disk spare rest f h) room) m)) }))
    where
      whole : is_damaged body ≡ false
      whole = or_false {a = begins_none (behind 0 body)} {b = not (all_fitting [] (scan 0 body))} (rw (restarts.behind_is disk spare rest f h) (torn_begins (restarts.parts disk spare rest f h).is_torn)) (rw (restarts.scan_is disk spare rest f h, q) refl)

      enough : is_too_short body (length (disk ++ spare)) ≡ false
      enough = rw (restarts.scan_is disk spare rest f h, restarts.used_is disk spare rest f h) (le-ltb (length (disk ++ spare)) (length (header ++ all_bytes rs) + forget_size * length os) room)

accepted_readable : (disk spare rest : List ℕ) → Formed (disk ++ rest) → Accepted (disk ++ spare) (length disk) → Readable (restart_of (disk ++ spare) (length disk)).table (restart_of (disk ++ spare) (length disk)).log
accepted_readable disk spare rest f (Accepted.fresh i h r) = rw r (fresh_readable (disk ++ spare) i.least i.most)
accepted_readable disk spare rest f (Accepted.read i h s d t r) = rw (r, take-append_seam disk spare)
    (long_readable disk spare rest f h (rw (take-append_seam disk spare) at d) (rw (take-append_seam disk spare) at t) i.least i.most)

-- ── every world ─────────────────────────────────────────────────────────────────────────────────────────────────

stored_rest : (w : World) → Always refines w → (rest : List ℕ) × Formed (w.disk ++ rest)
unfolding refines
stored_rest w (inl a) = (a.stored.rest, a.stored.whole)
stored_rest w (inr d) = (d.stored.rest, d.stored.whole)

pub kept : {w : World} → Run careful w → Kept w.table w.log
unfolding empty after_step with_disk after_leaving after_restart
kept start = inl refl
kept (step {w} r e tb log (p, q) made) = rw (p, q) (step_kept w e (always refines r) (kept r))
kept (store r disk m) = kept r
kept (trim r disk m) = kept r
kept (leave r i m l) = kept r
kept (restart {w} r log n (spare, p, q)) = rw (p, q) (by_test (eqb (restart_of (w.disk ++ spare) (length w.disk)).refusal 0)
    (λ t. inr (accepted_readable w.disk spare (stored_rest w (always refines r)).0 (stored_rest w (always refines r)).1 (accepted (w.disk ++ spare) (length w.disk) (eqb-true _ 0 t))))
    (λ t. inl (restart_refuses (w.disk ++ spare) (length w.disk) t)))

-- what is used is the header and the records
used_is : (tb : Table) (log : List ℕ) (g : Readable tb log) → tb.used ≡ header_size + length (all_bytes g.formed.records)
used_is tb log g = sym (length-take-le tb.used log (omega (arith, g.room))) ∙ ap length g.formed.bytes ∙ omega arith

module _ (w : World) (g : Readable w.table w.log) (rest : List ℕ) (p : w.disk ++ rest ≡ used_part w.table w.log) (spare : List ℕ) (same : length (w.disk ++ spare) ≡ w.table.capacity) where
  whole : Formed (w.disk ++ rest)
  whole = record { records = g.formed.records; valid = g.formed.valid; bytes = p ∙ g.formed.bytes }

  size : length (w.disk ++ spare) ≡ length w.log
  size = same ∙ g.capacity

  inside : is_outside (w.disk ++ spare) (length w.disk) ≡ false
  inside = not_outside (w.disk ++ spare) (length w.disk) (record { least = omega (arith, size, g.least); most = omega (arith, size, g.most); below = omega (arith, length-append w.disk spare) })

  -- less than the header is stored: it begins the header
  begins : length w.disk < header_size → take (length w.disk) (w.disk ++ spare) ≡ take (length w.disk) header
  begins l = take-append_seam w.disk spare ∙ sym (take-append_seam w.disk rest) ∙ ap (take (length w.disk)) (p ∙ g.formed.bytes) ∙ take-append-le (length w.disk) header (all_bytes g.formed.records) (omega arith)

  fresh_good : Good (done_restart (fresh_of (length (w.disk ++ spare))) (header ++ drop header_size (w.disk ++ spare)))
  fresh_good = record { accepted = refl; sound = fresh_sound (length (w.disk ++ spare)) (omega (arith, size, g.least)) (omega (arith, size, g.most)) }

  module _ (h : header_size ≤ length w.disk) where
    abbrev kept_ones : List Record
    kept_ones = (restarts.parts w.disk spare rest whole h).kept

    abbrev lost_ones : List Record
    lost_ones = (restarts.parts w.disk spare rest whole h).lost

    split : g.formed.records ≡ kept_ones ++ lost_ones
    unfolding whole
    split = (restarts.parts w.disk spare rest whole h).records

    both_fit : (all_fitting [] kept_ones ≡ true) × (all_fitting (open_after [] kept_ones) lost_ones ≡ true)
    both_fit = true_and (all_fitting [] kept_ones) (all_fitting (open_after [] kept_ones) lost_ones) (sym (fitting_both [] kept_ones lost_ones) ∙ ap (all_fitting []) (sym split) ∙ g.fitting)

    lost_valid : Each Valid lost_ones
    lost_valid = each_back kept_ones lost_ones (subst (Each Valid) split g.formed.valid)

    room : length (header ++ all_bytes kept_ones) + record_size * length (open_after [] kept_ones) ≤ length (w.disk ++ spare)
    room = omega (
      arith,
      size,
      g.room,
      used_is w.table w.log g,
      length-append header (all_bytes kept_ones),
      ap (λ l. length (all_bytes l)) split,
      ap length (all_append kept_ones lost_ones),
      length-append (all_bytes kept_ones) (all_bytes lost_ones),
      ap (λ l. length (open_after [] l)) split,
      ap length (open_both [] kept_ones lost_ones),
      grows (open_after [] kept_ones) lost_ones (fit_all [] kept_ones fit_nothing (restarts.ok w.disk spare rest whole h) both_fit.0) lost_valid both_fit.1,
    )

    headed : take header_size (w.disk ++ spare) ≡ header
    headed = take-append-le header_size w.disk spare h ∙ sym (take-append-le header_size w.disk rest h) ∙ ap (take header_size) (p ∙ g.formed.bytes)

  restart_good : Good (restart_of (w.disk ++ spare) (length w.disk))
  restart_good = by_test (ltb (length w.disk) header_size)
      (λ q. let l : length w.disk < header_size = ltb-true (length w.disk) header_size q in
      rw (fresh_is (w.disk ++ spare) (length w.disk) inside l (equal_same (take (length w.disk) (w.disk ++ spare)) (take (length w.disk) header) (begins l))) fresh_good)
      (λ q. let h : header_size ≤ length w.disk = ltb-false (length w.disk) header_size q in
      rw (read_is (w.disk ++ spare) (length w.disk) inside h (equal_same (take header_size (w.disk ++ spare)) header (headed h)), take-append_seam w.disk spare)
      (long_good w.disk spare rest whole h (both_fit h).0 (room h) (omega (arith, size, g.most))))

pub never_bricked : NeverBricked
unfolding NeverBricked
never_bricked w run used (rest, p) spare same = by_either (λ z. absurd (used z)) (λ g. ((restart_good w g rest p spare same).accepted, (restart_good w g rest p spare same).sound)) (kept run)

-- an accepted restart, whatever its capacity, gives a sound table, for which the log has the right length
pub record RestartsWell (s : Restart) : Type 0 where
  pub sound : Sound s.table
  pub full : length s.log ≡ s.table.capacity

pub restarts_well : (w : World) → Run careful w → (spare : List ℕ) → (restart_of (w.disk ++ spare) (length w.disk)).refusal ≡ refusal.accepted → RestartsWell (restart_of (w.disk ++ spare) (length w.disk))
restarts_well w run spare q = record {
  sound = of_accepted (w.disk ++ spare) (length w.disk) (λ h. rw (take-append_seam w.disk spare, restarts.scan_is w.disk spare rest f h) (restarts.ok w.disk spare rest f h)) a;
  full = sym (accepted_readable w.disk spare rest f a).capacity;
}
  where
    rest : List ℕ
    rest = (stored_rest w (always refines run)).0

    f : Formed (w.disk ++ rest)
    f = (stored_rest w (always refines run)).1

    a : Accepted (w.disk ++ spare) (length w.disk)
    a = accepted (w.disk ++ spare) (length w.disk) q
