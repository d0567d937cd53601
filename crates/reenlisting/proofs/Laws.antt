-- The loop that ends each transaction that is over: it is taken out of the memory, ended, and put back, and what is left to end gives the whole.
-- Nobody holds more than before: an end empties what is its own, and leaves what others hold.
use Prim.Native.Nat.{ℕ, ◌+◌, ◌*◌, ◌≤◌, ◌<◌}
use native.Mathlib.Omega.{arith}
use mathlib.Core.Path.{◌≡◌, refl, ap, sym, ◌∙◌, subst}
use mathlib.Core.Logic.{inr}
use mathlib.Core.List.{List, [], ◌∷◌, map}
use lib.Dec.{eqb}
use lib.ListN.{length, get_or, take, drop, length-map}
use borrow.Author.Tests.{eqb-true, eqb-false}
use Rattle.lists.specs.Lists.{filter, count}
use Rattle.lists.specs.Members.{Each}
use Rattle.lists.specs.Places.{change_at}
use Rattle.lists.proofs.Tests.{by_test, each_drop, each_head, count_filter}
use Rattle.lists.proofs.Places.{IsPlace, of_places}
use Rattle.lists.proofs.Sorting.{of_sort}
use Rattle.lists.proofs.Loops.{drop_at, drop_done}
use Rattle.rules.specs.declared.Table.{Table}
use Rattle.rules.specs.Identifiers.{Id}
use Rattle.rules.specs.Sizes.{transaction_places, enlistment_places, held_most, signals_most, largest_capacity}
use Rattle.rules.specs.Table.{no_transaction, state_at, held_by, held, freed, with_enlistments, change_held, change_transaction, use_more}
use Rattle.rules.specs.Log.{commit_size}
use Rattle.rules.specs.Sound.{is_open}
use Rattle.rules.specs.Events.{quietly, append, end_of, done_for, by_identifier, finished, end_each, reenlisted_of}
use Rattle.rules.proofs.Frames.{held_other, held_shorter}
use Rattle.rules.proofs.Local.{through, end_through}
use Rattle.rules.proofs.Count.{end_each_quiet}
use Rattle.holdings.specs.declared.Holding.{Holding}
use Rattle.holdings.specs.Holdings.{alone, Placed}
use Rattle.holdings.specs.Within as Within
use Rattle.holdings.specs.Within.{taken, refill}
use Rattle.holdings.proofs.Within.{passes_through}
use Rattle.holdings.proofs.Taken.{taken_fits, taken_back}
use Rattle.rows.specs.Memory.{transaction_in, enlistment_in, table_in}
use Rattle.lent_tables.proofs.Within.{put_within}
use Rattle.insertion.specs.declared.Line.{Line}
use Rattle.orders.specs.Orders.{order_of}
use Rattle.orders.specs.Finished.{is_finished}
use Rattle.orders.proofs.Laws.{order_take}
use Rattle.endings.specs.Gives.{Leaves, Ready}
use Rattle.rules.proofs.Told.{held_done}
use Rattle.reenlisting.specs.Ends.{Few, ReadyIn, LeavesIn}

-- ── one end ─────────────────────────────────────────────────────────────────────────────────────────────────────

end_enlistments : (p : ℕ) (tb : Table) (log : List ℕ) → (end_of p tb log).table.enlistments ≡ (change_held p freed tb).enlistments
unfolding end_of append use_more change_transaction
end_enlistments p tb log = by_test (is_open (state_at p tb) (held p tb)) (λ t. rw t) (λ t. rw t)

end_held : (p q : ℕ) (tb : Table) (log : List ℕ) → held q (end_of p tb log).table ≡ held q (change_held p freed tb)
unfolding held
end_held p q tb log = ap (filter (held_by q)) (end_enlistments p tb log)

end_few : (p : ℕ) (tb : Table) (log : List ℕ) → Few tb → Few (end_of p tb log).table
end_few p tb log h q low = rw (end_held p q tb log) (by_test (eqb q p)
    (λ e. let i : q ≡ p = eqb-true q p e in rw i (omega (arith, held_shorter p freed tb, h p (omega arith))))
    (λ e. rw (held_other p q freed tb (λ x. inr refl) (eqb-false q p e) (λ z. omega arith)) (h q low)))

-- ── the loop ────────────────────────────────────────────────────────────────────────────────────────────────────

pub record Ended (n : ℕ) (ps : List ℕ) (tb₀ : Table) (log₀ : List ℕ) (capacity : ℕ) (heads rows : List (List ℕ)) (log : List ℕ) (used i : ℕ) : Type 0 where
  pub within : i ≤ n
  pub long : length ps ≡ n
  pub places : Each Placed ps
  pub size : length log ≡ length log₀
  pub long_heads : length heads ≡ transaction_places
  pub long_rows : length rows ≡ enlistment_places
  pub used_most : used ≤ tb₀.used + commit_size signals_most * i
  pub few : Few (table_in heads rows capacity used)
  pub same : end_each ps tb₀ log₀ ≡ end_each (drop i ps) (table_in heads rows capacity used) log

pub ended_start : {n : ℕ} {ps : List ℕ} {log : List ℕ} {capacity used : ℕ} {heads rows : List (List ℕ)} → length ps ≡ n → Each Placed ps
    → length heads ≡ transaction_places → length rows ≡ enlistment_places → ReadyIn heads rows capacity used
    → Ended n ps (table_in heads rows capacity used) log capacity heads rows log used 0
ended_start l h a b r = record { within = omega arith; long = l; places = h; size = refl; long_heads = a; long_rows = b; used_most = omega arith; few = r.few; same = refl }

module _ {n : ℕ} {ps : List ℕ} {tb₀ : Table} {log₀ : List ℕ} {capacity : ℕ} {heads rows : List (List ℕ)} {log : List ℕ} {used i : ℕ} (e : Ended n ps tb₀ log₀ capacity heads rows log used i) where
  pub ended_done : n ≤ i → LeavesIn (end_each ps tb₀ log₀) heads rows capacity used log
  unfolding end_each
  ended_done h =
      let q : end_each ps tb₀ log₀ ≡ quietly (table_in heads rows capacity used) log = rw (drop_done ps i (omega (arith, e.long))) at e.same in
      record { table = sym (ap (λ o. o.table) q); log = sym (ap (λ o. o.log) q) }

  module _ (more : i < n) (p : ℕ) (here : p ≡ get_or ps i 0) where
    next : drop i ps ≡ p ∷ drop (i + 1) ps
    next = rw here (drop_at ps i 0 (omega (arith, e.long)))

    pub ended_place : Placed p
    ended_place = each_head (subst (Each Placed) next (each_drop i e.places))

    pub ended_few : length (held p (table_in heads rows capacity used)) ≤ held_most
    ended_few = e.few p ended_place.0

    pub ended_ready : {h : Holding} → h ≡ taken p 0 (table_in heads rows capacity used) → n ≤ transaction_places → tb₀.used ≤ largest_capacity → Ready h
    ended_ready t l u = rw t (ended_place, omega (arith, e.used_most, e.within))

    pub ended_back : {h : Holding} {q : ℕ} → h ≡ taken p 0 (table_in heads rows capacity used) → q ≡ h.place → count (held_by q) (map enlistment_in rows) ≤ held_most
    unfolding held
    ended_back t q = rw (q, t, count_filter) ended_few

    pub ended_again : {h h' : Holding} {heads' rows' : List (List ℕ)} {log' : List ℕ} → h ≡ taken p 0 (table_in heads rows capacity used)
        → Leaves h.place (end_of h.place (alone h) log) h' log' → h'.used ≤ h.used + commit_size signals_most → length log' ≡ length log → length heads' ≡ transaction_places → length rows' ≡ enlistment_places
        → map transaction_in heads' ≡ change_at h'.place (λ x. h'.transaction) (map transaction_in heads) → map enlistment_in rows' ≡ refill (held_by h'.place) h'.enlistments (map enlistment_in rows)
        → Ended n ps tb₀ log₀ capacity heads' rows' log' h'.used (i + 1)
    unfolding end_each
    ended_again {h} {h'} {heads'} {rows'} {log'} t m u s hl rl he re = record {
      within = omega arith;
      long = e.long;
      places = e.places;
      size = s ∙ e.size;
      long_heads = hl;
      long_rows = rl;
      used_most = omega (arith, e.used_most, u, ap (λ g. g.used) t);
      few = rw table (end_few p tb log e.few);
      same = rw (table, l.log ∙ sym (ap (λ o. o.log) whole)) (rw next at e.same);
    }
      where
        tb : Table
        tb = table_in heads rows capacity used

        l : Leaves p (end_of p (alone (taken p 0 tb)) log) h' log'
        l = rw t at m

        -- the end of what was taken out, put back, is the end
        whole : end_of p tb log ≡ through (Within.within tb p) (end_of p (alone (taken p 0 tb)) log)
        whole =
            ap (λ t. end_of p t log) (sym (taken_back p 0 tb ended_place.0 ended_place.1 ended_few))
            ∙ end_through (passes_through tb p (record { low = ended_place.0; high = omega (arith, ended_place.1, length-map heads transaction_in ∙ e.long_heads) })) (alone (taken p 0 tb)) log (taken_fits p 0 tb ended_place.0 ended_place.1 ended_few)

        table : table_in heads' rows' capacity h'.used ≡ (end_of p tb log).table
        table = put_within heads rows heads' rows' capacity used h' (subst Placed (sym l.place) ended_place) he re ∙ ap (λ t. Within.within tb h'.place t) l.table ∙ ap (λ q. Within.within tb q (end_of p (alone (taken p 0 tb)) log).table) l.place ∙ sym (ap (λ o. o.table) whole)

-- ── what is Done, and then over ─────────────────────────────────────────────────────────────────────────────────

abbrev done_table : Id → Table → Table
done_table r tb = with_enlistments (map (done_for r) tb.enlistments) tb

done_few : (r : Id) (tb : Table) → Few tb → Few (done_table r tb)
done_few r tb h p low = omega (arith, ap length (held_done r tb p) ∙ length-map (held p tb) (done_for r), h p low)

finished_placed : (tb : Table) → length tb.transactions ≡ transaction_places → Each Placed (finished tb)
unfolding finished
finished_placed tb l p m =
    let i : IsPlace tb.transactions p = (of_places (is_finished tb) no_transaction tb.transactions (of_sort (by_identifier tb) _ m)).0 in
    (i.low, omega (arith, i.high, l))

module _ (rm : Id) {heads rows : List (List ℕ)} (rows' : List (List ℕ)) {capacity used : ℕ} (ready : ReadyIn heads rows capacity used) {table done : Table} (t : table ≡ table_in heads rows capacity used) (d : done ≡ done_table rm table)
    (e : map enlistment_in rows' ≡ done.enlistments) where
  done_is : done ≡ done_table rm (table_in heads rows capacity used)
  done_is = d ∙ ap (done_table rm) t

  done_table_lem : table_in heads rows' capacity used ≡ done_table rm (table_in heads rows capacity used)
  done_table_lem = ap (λ es. record { transactions = map transaction_in heads; enlistments = es; capacity = capacity; used = used }) (e ∙ ap (λ u. u.enlistments) done_is)

  pub done_ready : ReadyIn heads rows' capacity used
  done_ready = record { used_first = ready.used_first; few = subst Few (sym done_table_lem) (done_few rm (table_in heads rows capacity used) ready.few) }

  module _ {o : Line ℕ transaction_places} (q : o ≡ order_of (finished done)) (few : o.count ≤ transaction_places) where
    ordered : take o.count o.items ≡ finished (done_table rm (table_in heads rows capacity used))
    ordered = order_take (finished done) q few ∙ ap finished done_is

    pub done_placed : length heads ≡ transaction_places → Each Placed (take o.count o.items)
    done_placed long = subst (Each Placed) (sym ordered) (finished_placed (done_table rm (table_in heads rows capacity used)) (length-map heads transaction_in ∙ long))

    pub done_leaves : (log : List ℕ) {heads'' rows'' : List (List ℕ)} {u : ℕ} {out : List ℕ} → LeavesIn (end_each (take o.count o.items) (table_in heads rows' capacity used) log) heads'' rows'' capacity u out
        → LeavesIn (reenlisted_of rm (table_in heads rows capacity used) log) heads'' rows'' capacity u out
    unfolding reenlisted_of
    done_leaves log l = rw (ordered, done_table_lem) at l

pub reenlisted_quiet : (rm : Id) (tb : Table) (log : List ℕ) → (reenlisted_of rm tb log).signals ≡ []
unfolding reenlisted_of
reenlisted_quiet rm tb log = end_each_quiet _ _ log
