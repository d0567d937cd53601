-- Several transactions end in one event. Each end is a part of Parts: it changes its own place alone, so that it forgets the transaction that stands there, and
-- leaves every other one where it was; and the room for its forget record was kept.
use Prim.Native.Nat.{ℕ, ◌+◌, ◌*◌, ◌≤◌, ◌<◌}
use native.Mathlib.Omega.{arith}
use mathlib.Core.Path.{◌≡◌, refl, sym, ◌∙◌, ap, ap₂, subst}
use mathlib.Core.Bool.{cond, false, not, true}
use mathlib.Core.List.Memᴰ
use mathlib.Core.List.{List, [], ◌∷◌, ◌++◌, append_assoc, append-nil}
use lib.ListN.{length, take}
use lib.Dec.{eqb}
use borrow.Author.Tests.{eqb-true, eqb-false}
use Rattle.lists.specs.Members.{◌∈◌, Each, Some}
use Rattle.lists.specs.Lists.{any, filter}
use Rattle.lists.specs.Places.{at}
use Rattle.lists.proofs.Tests.{and_true, any_some, by_either, by_test, each_nothing, false_not, in_filter, is_false, no_clash, some_any, each_both, each_one, each_head, each_rest}
use Rattle.rules.specs.declared.Transaction.{Transaction}
use Rattle.rules.specs.declared.Table.{Table}
use Rattle.rules.specs.Identifiers.{Id, is_zero}
use Rattle.rules.specs.Table.{is_named, transaction_at, state_at, id_at, change_held, change_transaction, emptied, use_more}
use Rattle.rules.specs.Sound.{is_open}
use Rattle.rules.specs.Log.{Record, record_bytes, all_bytes, forget_size}
use Rattle.rules.specs.Restart.{Open, is_open_as, after_record, open_after, all_fitting}
use Rattle.rules.specs.Events.{Outcome, append, end_of, end_each}
use Rattle.rules.proofs.Identifiers.{same_refl, same_equal, other_not_same}
use Rattle.rules.proofs.Records.{Valid, valid_forget, all_append, forget_size_lem}
use Rattle.rules.proofs.Frames.{named_is, Stands, Absent, written_used, length_written, not_zero, named_place}
use Rattle.safety.proofs.Alone.{Story, View, out}
use Rattle.safety.proofs.Story.{next, story, story_append, on_forget}
use Rattle.safety.proofs.Open.{open_both, fitting_both}
use Rattle.safety.proofs.Fitting.{forget_fit, one_forgotten}
use Rattle.safety.proofs.View.{view_of, view_absent, view_only}
use Rattle.safety.proofs.Given.{one_place_named}
use Rattle.rules.proofs.Kept.{Kept, live_true, live_some}
use Rattle.rules.proofs.Only.{open_at, Room}
use Rattle.rules.proofs.Parts.{Part, end_at, end_over, id_length, open_live, open_end, closed_end, places_kept}
use Rattle.lists.proofs.Places.{IsPlace}

-- ── one end ─────────────────────────────────────────────────────────────────────────────────────────────────────

-- what an end finds: all of soundness but the table of states, and a log of the table's capacity
pub record Roomy (tb : Table) (log : List ℕ) : Type 0 where
  pub kept : Kept tb
  pub room : Room tb
  pub full : length log ≡ tb.capacity

-- what is written when the transaction at p ends
unfoldable pub forget_of : ℕ → Table → List Record
forget_of p tb = cond (open_at p tb) (Record.forget (id_at p tb) ∷ []) []

module _ (p : ℕ) (tb : Table) (log : List ℕ) (g : Roomy tb log) (place : IsPlace tb.transactions p) where
  abbrev o : Outcome
  o = end_of p tb log

  part : Part p tb o.table
  part = end_at p tb log g.kept place

  ends_elsewhere : (q : ℕ) → (q ≡ p → ⊥) → transaction_at q o.table ≡ transaction_at q tb
  ends_elsewhere = part.only.transactions

  ends_gone : (u : Id) → is_named u (transaction_at p o.table) ≡ false
  ends_gone u = ap (is_named u) (end_over p tb log)

  ends_valid : Each Valid (forget_of p tb)
  unfolding forget_of
  ends_valid = by_test (open_at p tb) (λ b. rw b (each_one Valid (valid_forget (id_length p tb g.kept (open_live p tb b))))) (λ b. rw b (each_nothing Valid))

  -- its record stands behind the others, for there was room
  ends_bytes : take o.table.used o.log ≡ take tb.used log ++ all_bytes (forget_of p tb)
  unfolding forget_of append use_more all_bytes change_held change_transaction
  ends_bytes = by_test (open_at p tb)
      (λ b. rw (open_end p tb log b, b) (written_used tb.used bs log (fits b) ∙ ap (λ l. take tb.used log ++ l) (sym (append-nil bs))))
      (λ b. rw (closed_end p tb log b, b) (sym (append-nil (take tb.used log))))
    where
      bs : List ℕ
      bs = record_bytes (Record.forget (id_at p tb))

      fits : open_at p tb ≡ true → tb.used + length bs ≤ length log
      fits b = let r : Room (append (Record.forget (id_at p tb)) (emptied p tb) log).table = rw (open_end p tb log b) at (part.room g.room) in omega (arith, r, g.full)

  ends_full : length o.log ≡ o.table.capacity
  unfolding append use_more change_held change_transaction
  ends_full = by_test (open_at p tb)
      (λ b. rw (open_end p tb log b) (length_written tb.used (record_bytes (Record.forget (id_at p tb))) log ∙ g.full))
      (λ b. rw (closed_end p tb log b) g.full)

  ends_roomy : Roomy o.table o.log
  ends_roomy = record { kept = part.kept; room = part.room g.room; full = ends_full }

  -- ── to another transaction ────────────────────────────────────────────────────────────────────────────────────

  ends_view : (u : Id) → is_named u (transaction_at p tb) ≡ false → view_of u o.table ≡ view_of u tb
  ends_view u n = view_only u p tb o.table part.only n (ends_gone u)

  ends_story : (u : Id) (s : Story) → is_named u (transaction_at p tb) ≡ false → story u s (forget_of p tb) ≡ s
  unfolding forget_of story next
  ends_story u s n = by_test (open_at p tb)
      (λ b. rw (b, other_not_same (id_at p tb) u (λ e. no_clash (is_named u (transaction_at p tb)) (rw (live_true (transaction_at p tb) (open_live p tb b), e) (same_refl u)) n)) refl)
      (λ b. rw b refl)

  ends_unnamed : (u : Id) (q : ℕ) → is_named u (transaction_at q tb) ≡ false → is_named u (transaction_at q o.table) ≡ false
  ends_unnamed u q n = by_test (eqb q p)
      (λ e. ap (λ k. is_named u (transaction_at k o.table)) (eqb-true q p e) ∙ ends_gone u)
      (λ e. ap (is_named u) (ends_elsewhere q (eqb-false q p e)) ∙ n)

  -- one that stands elsewhere stays there, as it is
  ends_stands : (t : Id) (q : ℕ) → Stands t q tb → (q ≡ p → ⊥) → Stands t q o.table
  ends_stands t q s d = record {
    here = ap (is_named t) (ends_elsewhere q d) ∙ s.here;
    alone = λ w e. by_test (is_named t (transaction_at w tb)) (λ b. s.alone w b) (λ b. no_clash (is_named t (transaction_at w o.table)) e (ends_unnamed t w b));
  }

  ends_open : (q : ℕ) → (q ≡ p → ⊥) → (q ≡ 0 → ⊥) → open_at q o.table ≡ open_at q tb
  ends_open q d z = ap₂ is_open (ap (λ (x : Transaction). x.state) (ends_elsewhere q d)) (part.only.enlistments q d z)

  -- ── to its own ────────────────────────────────────────────────────────────────────────────────────────────────

  ends_absent : (t : Id) → Stands t p tb → Absent t o.table
  ends_absent t s = record {
    nowhere = λ q. by_test (is_named t (transaction_at q tb))
        (λ b. ap (λ k. is_named t (transaction_at k o.table)) (s.alone q b) ∙ ends_gone t)
        (λ b. ends_unnamed t q b);
  }

  ends_forgets : (t : Id) (s : Story) → Stands t p tb → open_at p tb ≡ true → story t s (forget_of p tb) ≡ on_forget s
  unfolding forget_of story next
  ends_forgets t s at b = rw (b, (named_is t (transaction_at p tb) at.here).1, same_refl t) refl

-- ── ends in a row ───────────────────────────────────────────────────────────────────────────────────────────────

abbrev Places : List ℕ → Table → Type 0
Places ps tb = Each (λ p. IsPlace tb.transactions p) ps

unfoldable pub forgets : List ℕ → Table → List ℕ → List Record
forgets [] tb log = []
forgets (p ∷ ps) tb log = forget_of p tb ++ forgets ps (end_of p tb log).table (end_of p tb log).log

-- what is left to do after the first of them
module _ {p : ℕ} {ps : List ℕ} {tb : Table} {log : List ℕ} (g : Roomy tb log) (h : Places (p ∷ ps) tb) where
  rest_roomy : Roomy (end_of p tb log).table (end_of p tb log).log
  rest_roomy = ends_roomy p tb log g (each_head h)

  rest_places : Places ps (end_of p tb log).table
  rest_places = places_kept (part p tb log g (each_head h)).only (each_rest h)

pub each_valid : (ps : List ℕ) (tb : Table) (log : List ℕ) → Roomy tb log → Places ps tb → Each Valid (forgets ps tb log)
unfolding forgets
each_valid [] tb log g h = each_nothing Valid
each_valid (p ∷ ps) tb log g h = each_both (forget_of p tb) (forgets ps (end_of p tb log).table (end_of p tb log).log) (ends_valid p tb log g (each_head h)) (each_valid ps (end_of p tb log).table (end_of p tb log).log (rest_roomy g h) (rest_places g h))

pub each_bytes : (ps : List ℕ) (tb : Table) (log : List ℕ) → Roomy tb log → Places ps tb → take (end_each ps tb log).table.used (end_each ps tb log).log ≡ take tb.used log ++ all_bytes (forgets ps tb log)
unfolding end_each forgets all_bytes
each_bytes [] tb log g h = sym (append-nil (take tb.used log))
each_bytes (p ∷ ps) tb log g h = each_bytes ps (end_of p tb log).table (end_of p tb log).log (rest_roomy g h) (rest_places g h)
    ∙ ap (λ l. l ++ all_bytes (forgets ps (end_of p tb log).table (end_of p tb log).log)) (ends_bytes p tb log g (each_head h))
    ∙ append_assoc (take tb.used log) (all_bytes (forget_of p tb)) (all_bytes (forgets ps (end_of p tb log).table (end_of p tb log).log))
    ∙ ap (λ l. take tb.used log ++ l) (sym (all_append (forget_of p tb) (forgets ps (end_of p tb log).table (end_of p tb log).log)))

-- what the ends are to a transaction: the view afterwards, and what they add to its story
pub record Seen (t : Id) (ps : List ℕ) (tb : Table) (log : List ℕ) (v : View) (f : Story → Story) : Type 0 where
  pub view : view_of t (end_each ps tb log).table ≡ v
  pub tale : (s : Story) → story t s (forgets ps tb log) ≡ f s

one_more : (t : Id) (q : ℕ) (ps : List ℕ) (tb : Table) (log : List ℕ) (v : View) (f g : Story → Story)
    → Seen t ps (end_of q tb log).table (end_of q tb log).log v f → ((s : Story) → story t s (forget_of q tb) ≡ g s) → Seen t (q ∷ ps) tb log v (λ s. f (g s))
unfolding end_each forgets
one_more t q ps tb log v f g r h = record {
  view = r.view;
  tale = λ s. story_append t s (forget_of q tb) (forgets ps (end_of q tb log).table (end_of q tb log).log) ∙ r.tale (story t s (forget_of q tb)) ∙ ap f (h s);
}

-- to one that stands at none of the places
pub each_other : (u : Id) (ps : List ℕ) (tb : Table) (log : List ℕ) (v : View) → Roomy tb log → Places ps tb → view_of u tb ≡ v → ((q : ℕ) → q ∈ ps → is_named u (transaction_at q tb) ≡ false) → Seen u ps tb log v (λ s. s)
unfolding end_each forgets story
each_other u [] tb log v g h e n = record { view = e; tale = λ s. refl }
each_other u (p ∷ ps) tb log v g h e n =
    let here : is_named u (transaction_at p tb) ≡ false = n p (Memᴰ.head refl) in
    one_more u p ps tb log v (λ s. s) (λ s. s)
    (each_other u ps (end_of p tb log).table (end_of p tb log).log v (rest_roomy g h) (rest_places g h) (ends_view p tb log g (each_head h) u here ∙ e) (λ q m. ends_unnamed p tb log g (each_head h) u q (n q (Memᴰ.tail m))))
    (λ s. ends_story p tb log g (each_head h) u s here)

-- to one that stands at one of them, and is open
pub each_own : (t : Id) (p : ℕ) (ps : List ℕ) (tb : Table) (log : List ℕ) → Roomy tb log → Places ps tb → Stands t p tb → p ∈ ps → open_at p tb ≡ true → Seen t ps tb log out on_forget
each_own t p [] tb log g h s m b = absurd (Memᴰ.not-nil m)
each_own t p (q ∷ ps) tb log g h s m b = by_test (eqb p q)
    (λ e. let c : Stands t q tb = subst (λ k. Stands t k tb) (eqb-true p q e) s in
    let gone : Absent t (end_of q tb log).table = ends_absent q tb log g (each_head h) t c in
    one_more t q ps tb log out (λ s. s) on_forget
    (each_other t ps (end_of q tb log).table (end_of q tb log).log out (rest_roomy g h) (rest_places g h) (view_absent t (end_of q tb log).table gone) (λ w i. gone.nowhere w))
    (λ k. ends_forgets q tb log g (each_head h) t k c (ap (λ k. open_at k tb) (sym (eqb-true p q e)) ∙ b)))
    (λ e. let d : p ≡ q → ⊥ = eqb-false p q e in one_more t q ps tb log out on_forget (λ s. s)
    (each_own t p ps (end_of q tb log).table (end_of q tb log).log (rest_roomy g h) (rest_places g h) (ends_stands q tb log g (each_head h) t p s d) (by_either (λ c. absurd (d c)) (λ i. i) (Memᴰ.cases_cons m)) (ends_open q tb log g (each_head h) p d (not_zero (named_place t p tb s.here)) ∙ b))
    (λ k. ends_story q tb log g (each_head h) t k (is_false (is_named t (transaction_at q tb)) (λ n. d (sym (s.alone q n))))))

-- ── forget records in a row fit ─────────────────────────────────────────────────────────────────────────────────

-- those that are open in the table are open in the log
pub record Forgettable (tb : Table) (n : ℕ) (os : List Open) : Type 0 where
  pub opened : (q : ℕ) → open_at q tb ≡ true → (is_zero (id_at q tb) ≡ false) × (any (is_open_as (id_at q tb)) os ≡ true)
  pub space : tb.used + forget_size * length os ≤ n

module _ (p : ℕ) (tb : Table) (log : List ℕ) (g : Roomy tb log) (place : IsPlace tb.transactions p) (n : ℕ) (os : List Open) (f : Forgettable tb n os) where
  abbrev os' : List Open
  os' = open_after os (forget_of p tb)

  abbrev tb' : Table
  tb' = (end_of p tb log).table

  end_fits : all_fitting os (forget_of p tb) ≡ true
  unfolding forget_of all_fitting
  end_fits = by_test (open_at p tb) (λ b. rw (b, forget_fit (id_at p tb) os (f.opened p b).0 (f.opened p b).1) refl) (λ b. rw b refl)

  open_used : open_at p tb ≡ true → tb'.used ≡ tb.used + length (record_bytes (Record.forget (id_at p tb)))
  unfolding append use_more change_held change_transaction
  open_used b = ap (λ (o : Outcome). o.table.used) (open_end p tb log b)

  closed_used : open_at p tb ≡ false → tb'.used ≡ tb.used
  unfolding change_held change_transaction
  closed_used b = ap (λ (o : Outcome). o.table.used) (closed_end p tb log b)

  open_forgets : open_at p tb ≡ true → length os' < length os
  unfolding forget_of open_after after_record
  open_forgets b = rw b (one_forgotten (id_at p tb) os (f.opened p b).1)

  closed_keeps : open_at p tb ≡ false → length os' ≡ length os
  unfolding forget_of open_after
  closed_keeps b = rw b refl

  end_space : tb'.used + forget_size * length os' ≤ n
  end_space = by_test (open_at p tb)
      (λ b. omega (arith, open_used b, forget_size_lem (id_at p tb) (id_length p tb g.kept (open_live p tb b)), f.space, open_forgets b))
      (λ b. omega (arith, closed_used b, closed_keeps b, f.space))

  -- who is open afterwards was open, and is another
  still_open : (q : ℕ) → open_at q tb' ≡ true → (q ≡ p → ⊥) × (open_at q tb ≡ true)
  still_open q b = (other, sym (ends_open p tb log g place q other (live_some q tb' (open_live q tb' b))) ∙ b)
    where
      other : q ≡ p → ⊥
      other e = open_live q tb' b (ap (λ k. state_at k tb') e ∙ ap (λ (x : Transaction). x.state) (end_over p tb log))

  keeps_open : (q : ℕ) → (q ≡ p → ⊥) → open_at q tb ≡ true → any (is_open_as (id_at q tb)) os' ≡ true
  unfolding forget_of open_after after_record
  keeps_open q d b = by_test (open_at p tb) (λ c. rw c (kept c)) (λ c. rw c (f.opened q b).1)
    where
      kept : open_at p tb ≡ true → any (is_open_as (id_at q tb)) (filter (λ o. not (is_open_as (id_at p tb) o)) os) ≡ true
      kept c = go (any_some (is_open_as (id_at q tb)) os (f.opened q b).1)
        where
          go : Some (λ o. is_open_as (id_at q tb) o ≡ true) os → any (is_open_as (id_at q tb)) (filter (λ o. not (is_open_as (id_at p tb) o)) os) ≡ true
          go s = some_any (is_open_as (id_at q tb)) (filter (λ o. not (is_open_as (id_at p tb) o)) os) (record {
            it = s.it;
            holds = s.holds;
            there = in_filter (λ o. not (is_open_as (id_at p tb) o)) os s.there (false_not (is_false (is_open_as (id_at p tb) s.it) (λ e.
                d (one_place_named g.kept q p (open_live q tb b) (open_live p tb c) (sym (same_equal s.it.id (id_at q tb) s.holds) ∙ same_equal s.it.id (id_at p tb) e)))));
          })

  next_forgettable : Forgettable tb' n os'
  next_forgettable = record {
    opened = λ q b. (
      ap (λ (x : Transaction). is_zero x.id.0) (ends_elsewhere p tb log g place q (still_open q b).0) ∙ (f.opened q (still_open q b).1).0,
      ap (λ (x : Transaction). any (is_open_as x.id.0) os') (ends_elsewhere p tb log g place q (still_open q b).0) ∙ keeps_open q (still_open q b).0 (still_open q b).1,
    );
    space = end_space;
  }

pub each_fits : (ps : List ℕ) (tb : Table) (log : List ℕ) → Roomy tb log → Places ps tb → (n : ℕ) (os : List Open) → Forgettable tb n os
    → (all_fitting os (forgets ps tb log) ≡ true) × ((end_each ps tb log).table.used + forget_size * length (open_after os (forgets ps tb log)) ≤ n)
unfolding end_each forgets all_fitting open_after
each_fits [] tb log g h n os f = (refl, f.space)
each_fits (p ∷ ps) tb log g h n os f = let r = each_fits ps (end_of p tb log).table (end_of p tb log).log (rest_roomy g h) (rest_places g h) n (open_after os (forget_of p tb)) (next_forgettable p tb log g (each_head h) n os f) in (
  fitting_both os (forget_of p tb) (forgets ps (end_of p tb log).table (end_of p tb log).log) ∙ and_true (end_fits p tb log g (each_head h) n os f) r.0,
  rw (open_both os (forget_of p tb) (forgets ps (end_of p tb log).table (end_of p tb log).log)) r.1,
)
