-- The open transactions of a log that is not damaged. Each record is judged with those that are open before it: so that what is said of one record becomes true
-- of all that are open together, and a forget record takes nothing from it.
use Prim.Native.Nat.{ℕ, ◌+◌, ◌≤◌, ◌<◌}
use native.Mathlib.Omega.{arith}
use mathlib.Core.Path.{◌≡◌, refl, sym, ◌∙◌, ap}
use mathlib.Core.Bool.{Bool, true, false, not, ◌&&◌, false≢true}
use mathlib.Core.List.Memᴰ
use mathlib.Core.List.{List, [], ◌∷◌, ◌++◌, append-nil}
use lib.ListN.{length, length-append}
use lib.Dec.{eqb, ltb, leb}
use borrow.Author.Tests.{eq-eqb, ltb-true, leb-true, le-leb, not-true}
use Rattle.lists.specs.Lists.{any, none, filter, differ}
use Rattle.lists.specs.Members.{◌∈◌, Each, Some, Apart, nothing, more}
use Rattle.lists.proofs.Tests.{by_test, by_either, no_clash, true_and, each_nothing, each_more, each_head, each_rest, of_filter, none_each, some_any, length_filter, differ_apart, each_both, each_one, in_one}
use Rattle.lists.proofs.Apart.{apart_both, apart_first, apart_second, apart_cross, apart_filter}
use Rattle.rules.specs.Identifiers.{Id, is_zero}
use Rattle.rules.specs.Sizes.{identifier_size, held_most, transaction_places, enlistment_places}
use Rattle.rules.specs.Log.{Entry, Record}
use Rattle.rules.specs.Restart.{Open, is_open_as, after_record, open_after, entries_open, ascend_from, same_entry_manager, is_fitting, all_fitting}
use Rattle.rules.proofs.Identifiers.{equal_same}
use Rattle.rules.proofs.Records.{ValidEntry, Valid, valid_commit}
use Rattle.rules.proofs.Restarts.{entries_append, entries_fewer}

-- ── what is known of the open ones ──────────────────────────────────────────────────────────────────────────────

pub record FitEntries (es : List Entry) : Type 0 where
  pub some_entry : 0 < length es
  pub few : length es ≤ held_most
  pub valid : Each ValidEntry es
  pub managers : Each (λ e. is_zero e.rm ≡ false) es
  pub numbers : Each (λ e. e.number ≡ 0 → ⊥) es
  pub managers_apart : Apart (λ d e. d.rm ≡ e.rm) es

pub record Fit (os : List Open) : Type 0 where
  pub id_sizes : Each (λ o. length o.id ≡ identifier_size) os
  pub ids : Each (λ o. is_zero o.id ≡ false) os
  pub ids_apart : Apart (λ o q. o.id ≡ q.id) os
  pub entries : Each (λ o. FitEntries o.entries) os
  pub numbers_apart : Apart (λ (d e : Entry). d.number ≡ e.number) (entries_open os)
  pub few : length os ≤ transaction_places
  pub few_entries : length (entries_open os) ≤ enlistment_places

pub fit_nothing : Fit []
unfolding entries_open
fit_nothing = record { id_sizes = each_nothing _; ids = each_nothing _; ids_apart = nothing; entries = each_nothing _; numbers_apart = nothing; few = omega arith; few_entries = omega arith }

pub in_entries : (os : List Open) {o : Open} {d : Entry} → o ∈ os → d ∈ o.entries → d ∈ entries_open os
unfolding entries_open
in_entries [] m i = absurd (Memᴰ.not-nil m)
in_entries (q ∷ os) {o} {d} m i = by_either (λ e. Memᴰ.append_left (entries_open os) (rw e at i)) (λ n. Memᴰ.append_right q.entries (in_entries os n i)) (Memᴰ.cases_cons m)

pub of_entries : (os : List Open) {d : Entry} → d ∈ entries_open os → Some (λ o. d ∈ o.entries) os
unfolding entries_open
of_entries [] m = absurd (Memᴰ.not-nil m)
of_entries (o ∷ os) m = by_either
    (λ i. record { it = o; there = Memᴰ.head refl; holds = i })
    (λ i. let s : Some (λ o. _ ∈ o.entries) os = of_entries os i in record { it = s.it; there = Memᴰ.tail s.there; holds = s.holds })
    (Memᴰ.append_cases o.entries m)

module _ (f : Open → Bool) where
  filter_entries : (os : List Open) {d : Entry} → d ∈ entries_open (filter f os) → d ∈ entries_open os
  filter_entries os m = let s : Some (λ o. _ ∈ o.entries) (filter f os) = of_entries (filter f os) m in in_entries os (of_filter f os s.there).0 s.holds

  apart_entries : {R : Entry → Entry → Type 0} (os : List Open) → Apart R (entries_open os) → Apart R (entries_open (filter f os))
  unfolding filter entries_open
  apart_entries [] a = nothing
  apart_entries (o ∷ os) a = by_test (f o)
      (λ t. rw t (apart_both o.entries (entries_open (filter f os)) (apart_first o.entries (entries_open os) a) (apart_entries os (apart_second o.entries (entries_open os) a)) (λ x y m n. apart_cross o.entries (entries_open os) a x y m (filter_entries os n))))
      (λ t. rw t (apart_entries os (apart_second o.entries (entries_open os) a)))

  fit_filter : (os : List Open) → Fit os → Fit (filter f os)
  fit_filter os k = record {
    id_sizes = λ o m. k.id_sizes o (of_filter f os m).0;
    ids = λ o m. k.ids o (of_filter f os m).0;
    ids_apart = apart_filter f os k.ids_apart;
    entries = λ o m. k.entries o (of_filter f os m).0;
    numbers_apart = apart_entries os k.numbers_apart;
    few = omega (arith, k.few, length_filter f os);
    few_entries = omega (arith, k.few_entries, entries_fewer f os);
  }

-- ── each record keeps it ────────────────────────────────────────────────────────────────────────────────────────

ascend_numbers : (n : ℕ) (es : List Entry) → ascend_from n es ≡ true → Each (λ e. n < e.number) es
unfolding ascend_from
ascend_numbers n [] a = each_nothing _
ascend_numbers n (e ∷ es) a = let (l, r) = true_and (ltb n e.number) (ascend_from e.number es) a in
    each_more (ltb-true n e.number l) (λ d m. let h : e.number < d.number = ascend_numbers e.number es r d m in omega (arith, h, ltb-true n e.number l))

ascend_apart : (n : ℕ) (es : List Entry) → ascend_from n es ≡ true → Apart (λ d e. d.number ≡ e.number) es
unfolding ascend_from
ascend_apart n [] a = nothing
ascend_apart n (e ∷ es) a = let (l, r) = true_and (ltb n e.number) (ascend_from e.number es) a in
    more {x = e} (λ d m q. let h : e.number < d.number = ascend_numbers e.number es r d m in omega (arith, q, h)) (ascend_apart e.number es r)

-- what a commit record that fits says
pub record FitCommit (os : List Open) (t : Id) (es : List Entry) : Type 0 where
  pub nonzero : is_zero t ≡ false
  pub managers : any (λ e. is_zero e.rm) es ≡ false
  pub not_open : any (is_open_as t) os ≡ false
  pub ascending : ascend_from 0 es ≡ true
  pub numbers_new : any (λ e. any (λ d. eqb d.number e.number) (entries_open os)) es ≡ false
  pub managers_differ : differ same_entry_manager es ≡ true
  pub few : length os + 1 ≤ transaction_places
  pub few_entries : length (entries_open os) + length es ≤ enlistment_places

eight : (a b c d e f g h : Bool) → (a && b && c && d && e && f && g && h) ≡ true
    → (a ≡ true) × (b ≡ true) × (c ≡ true) × (d ≡ true) × (e ≡ true) × (f ≡ true) × (g ≡ true) × (h ≡ true)
eight true true true true true true true true q = (refl, refl, refl, refl, refl, refl, refl, refl)
eight false b c d e f g h q = absurd (false≢true q)
eight true false c d e f g h q = absurd (false≢true q)
eight true true false d e f g h q = absurd (false≢true q)
eight true true true false e f g h q = absurd (false≢true q)
eight true true true true false f g h q = absurd (false≢true q)
eight true true true true true false g h q = absurd (false≢true q)
eight true true true true true true false h q = absurd (false≢true q)
eight true true true true true true true false q = absurd (false≢true q)

commit_fits : (os : List Open) (t : Id) (es : List Entry) → is_fitting os (Record.commit t es) ≡ true → FitCommit os t es
unfolding is_fitting
commit_fits os t es q = go (eight (not (is_zero t)) (none (λ e. is_zero e.rm) es) (none (is_open_as t) os) (ascend_from 0 es) (none (λ e. any (λ d. eqb d.number e.number) (entries_open os)) es) (differ same_entry_manager es) (leb (length os + 1) transaction_places) (leb (length (entries_open os) + length es) enlistment_places) q)
  where
    go : (not (is_zero t) ≡ true) × (none (λ e. is_zero e.rm) es ≡ true) × (none (is_open_as t) os ≡ true) × (ascend_from 0 es ≡ true) × (none (λ e. any (λ d. eqb d.number e.number) (entries_open os)) es ≡ true) × (differ same_entry_manager es ≡ true) × (leb (length os + 1) transaction_places ≡ true) × (leb (length (entries_open os) + length es) enlistment_places ≡ true) → FitCommit os t es
    go (a, b, c, d, e, f, g, h) = record {
      nonzero = not-true (is_zero t) a;
      managers = not-true (any (λ e. is_zero e.rm) es) b;
      not_open = not-true (any (is_open_as t) os) c;
      ascending = d;
      numbers_new = not-true (any (λ e. any (λ d. eqb d.number e.number) (entries_open os)) es) e;
      managers_differ = f;
      few = leb-true (length os + 1) transaction_places g;
      few_entries = leb-true (length (entries_open os) + length es) enlistment_places h;
    }

pub fits_commit : (os : List Open) (t : Id) (es : List Entry) → FitCommit os t es → is_fitting os (Record.commit t es) ≡ true
unfolding is_fitting
fits_commit os t es k = rw (k.nonzero, k.managers, k.not_open, k.ascending, k.numbers_new, k.managers_differ, le-leb (length os + 1) transaction_places k.few, le-leb (length (entries_open os) + length es) enlistment_places k.few_entries) refl

fit_commit : (os : List Open) (t : Id) (es : List Entry) → Fit os → Valid (Record.commit t es) → FitCommit os t es → Fit (os ++ (record { id = t; entries = es } ∷ []))
unfolding entries_open
fit_commit os t es k (valid_commit a b c d) f = record {
  id_sizes = each_both os (o ∷ []) k.id_sizes (each_one (λ o. length o.id ≡ identifier_size) a);
  ids = each_both os (o ∷ []) k.ids (each_one (λ o. is_zero o.id ≡ false) f.nonzero);
  ids_apart = apart_both os (o ∷ []) k.ids_apart (more (each_nothing _) nothing) (λ x y m n r. other x y m (in_one n) r);
  entries = each_both os (o ∷ []) k.entries (each_one (λ o. FitEntries o.entries) (record {
    some_entry = b;
    few = c;
    valid = d;
    managers = none_each (λ e. is_zero e.rm) es f.managers;
    numbers = λ e m z. omega (arith, z, ascend_numbers 0 es f.ascending e m);
    managers_apart = differ_apart same_entry_manager (λ x y r. equal_same y.rm x.rm (sym r)) es f.managers_differ;
  }));
  numbers_apart = rw (all_entries) (apart_both (entries_open os) es k.numbers_apart (ascend_apart 0 es f.ascending) new);
  few = rw (length-append os (o ∷ [])) f.few;
  few_entries = rw (all_entries, length-append (entries_open os) es) f.few_entries;
}
  where
    o : Open
    o = record { id = t; entries = es }

    all_entries : entries_open (os ++ (o ∷ [])) ≡ entries_open os ++ es
    all_entries = entries_append os (o ∷ []) ∙ ap (λ l. entries_open os ++ l) (append-nil es)

    other : (x y : Open) → x ∈ os → y ≡ o → x.id ≡ y.id → ⊥
    other x y m e r = absurd (no_clash (is_open_as t x) (equal_same x.id t (r ∙ ap (λ (q : Open). q.id) e)) (none_each (is_open_as t) os f.not_open x m))

    new : (d e : Entry) → d ∈ entries_open os → e ∈ es → d.number ≡ e.number → ⊥
    new d e m n r = no_clash (any (λ d. eqb d.number e.number) (entries_open os)) (some_any (λ d. eqb d.number e.number) (entries_open os) (record { it = d; there = m; holds = eq-eqb d.number e.number r })) (none_each (λ e. any (λ d. eqb d.number e.number) (entries_open os)) es f.numbers_new e n)

pub fit_record : (os : List Open) (r : Record) → Fit os → Valid r → is_fitting os r ≡ true → Fit (after_record os r)
unfolding after_record
fit_record os (Record.commit t es) k v f = fit_commit os t es k v (commit_fits os t es f)
fit_record os (Record.forget t) k v f = fit_filter (λ o. not (is_open_as t o)) os k

pub fit_all : (os : List Open) (rs : List Record) → Fit os → Each Valid rs → all_fitting os rs ≡ true → Fit (open_after os rs)
unfolding open_after all_fitting
fit_all os [] k v f = k
fit_all os (r ∷ rs) k v f = fit_all (after_record os r) rs (fit_record os r k (each_head v) (true_and (is_fitting os r) (all_fitting (after_record os r) rs) f).0) (each_rest v) (true_and (is_fitting os r) (all_fitting (after_record os r) rs) f).1

-- ── longer and shorter logs ─────────────────────────────────────────────────────────────────────────────────────

pub open_both : (os : List Open) (a b : List Record) → open_after os (a ++ b) ≡ open_after (open_after os a) b
unfolding open_after
open_both os [] b = refl
open_both os (r ∷ a) b = open_both (after_record os r) a b

pub fitting_both : (os : List Open) (a b : List Record) → all_fitting os (a ++ b) ≡ (all_fitting os a && all_fitting (open_after os a) b)
unfolding open_after all_fitting
fitting_both os [] b = refl
fitting_both os (r ∷ a) b = by_test (is_fitting os r) (λ t. rw (t, fitting_both (after_record os r) a b) refl) (λ t. rw t refl)
