-- An enlistment that an accepted event is about is held by a live transaction, and what that one is made has as much room in the log as the
-- table has: what it holds stays its own.
use Prim.Native.Nat.{ℕ, zero, suc, ◌+◌, ◌*◌, ◌-◌, ◌≤◌}
use native.Mathlib.Omega.{arith}
use mathlib.Core.Path.{◌≡◌, refl, sym, ◌∙◌, ap, subst}
use mathlib.Core.Logic.{◌⊎◌, inl, inr}
use mathlib.Core.Bool.{true}
use mathlib.Core.List.{List, [], ◌∷◌}
use lib.Dec.{eqb}
use lib.ListN.{length}
use borrow.Author.Tests.{eqb-true, eqb-false, not-false}
use Rattle.lists.specs.Lists.{all}
use Rattle.lists.specs.Members.{Each}
use Rattle.lists.proofs.Tests.{by_test, by_either, first_passes, each_map, each_nothing, each_more, each_head, each_rest}
use Rattle.lists.proofs.Places.{IsPlace}
use Rattle.rules.specs.declared.Enlistment.{Enlistment}
use Rattle.rules.specs.declared.Table.{Table}
use Rattle.rules.specs.declared.Act.{Act}
use Rattle.rules.specs.RefusalNumber.{accepted}
use Rattle.rules.specs.Sizes.{transaction_places, held_most, record_size}
use Rattle.rules.specs.Table.{no_enlistment, transaction_at, is_numbered, numbered, held_by, held, on_held, change_held}
use Rattle.rules.specs.Sound.{Sound, Live, is_open, open_count, sound_of}
use Rattle.rules.specs.Events.{lacks_room}
use Rattle.rules.specs.Refusals.{first_of}
use Rattle.rules.proofs.Soundness.{sound_sentences}
use Rattle.rules.proofs.Checks.{passes_at}
use Rattle.rules.proofs.Frames.{Keeps, of_held}
use Rattle.rules.proofs.Along.{one_if}
use Rattle.rules.proofs.Only.{open_at}
use Rattle.rules.specs.Checks.{about_one_checks}
use Rattle.holdings.specs.declared.Holding.{Holding}
use Rattle.holdings.specs.Holdings.{alone, with_held}
use Rattle.holdings.specs.Within.{filled, taken, within}
use Rattle.holdings.proofs.Laws.{alone_held}
use Rattle.holdings.proofs.Within.{Fits, passes_through}
use Rattle.holdings.proofs.Taken.{taken_fits, taken_back}
use Rattle.holdings.proofs.Room.{Owned, same_room}
use Rattle.rows.specs.Memory.{table_in}
use Rattle.entering.specs.StepIn.{Fine}
use Rattle.events.proofs.Takes.{Takes, live_takes}

about_live : (tb : Table) (n : ℕ) (a : Act) → sound_of tb ≡ true → first_of (about_one_checks tb n a) ≡ accepted → Live (transaction_at (numbered n tb).holder tb)
unfolding numbered all
about_live tb n a sound q =
    let cs = about_one_checks tb n a in
    let s : Sound tb = sound_sentences tb sound in
    let (there, named) = first_passes no_enlistment (is_numbered n) tb.enlistments (not-false _ (passes_at cs 1 refl q)) in
    let e : Enlistment = numbered n tb in
    let is : e.number ≡ n = eqb-true e.number n named in
    s.holders_live e there (λ z. eqb-false n 0 (passes_at cs 0 refl q) (sym is ∙ ap (λ f. f.number) (s.empty_enlistments e there z)))

filled_each : (P : Enlistment → Type 0) (n : ℕ) (es : List Enlistment) → P no_enlistment → Each P es → Each P (filled n es)
unfolding filled
filled_each P zero es z h = each_nothing P
filled_each P (suc n) [] z h = each_more z (filled_each P n [] z h)
filled_each P (suc n) (e ∷ es) z h = each_more (each_head h) (filled_each P n es z (each_rest h))

module _ (p room : ℕ) (tb : Table) (low : 1 ≤ p) (high : p ≤ transaction_places) (few : length (held p tb) ≤ held_most) (there : IsPlace tb.transactions p) where
  pub taken_held : held p (alone (taken p room tb)) ≡ held p tb
  taken_held = sym ((passes_through tb p there).same_held (alone (taken p room tb)) (taken_fits p room tb low high few)) ∙ ap (held p) (taken_back p room tb low high few)

  owned : (f : Enlistment → Enlistment) → Keeps f → Owned p (alone (with_held f (taken p room tb)))
  unfolding alone
  owned f k = each_map (on_held p f) (λ e. (e.holder ≡ p) ⊎ (e.holder ≡ 0)) (filled held_most (held p tb))
      (λ e m. by_test (held_by p e)
      (λ t. rw t (by_either (λ q. inl (q ∙ eqb-true e.holder p t)) inr (k e)))
      (λ t. rw t (filled_each (λ e. (e.holder ≡ p) ⊎ (e.holder ≡ 0)) held_most (held p tb) (inr refl) (λ x i. inl (of_held p tb i).1) e m)))

  pub roomy : tb.capacity ≡ room + record_size * (open_count tb - one_if (open_at p tb)) → (f : Enlistment → Enlistment) → Keeps f → (n : ℕ)
      → lacks_room n (within tb p (change_held p f (alone (taken p room tb)))) ≡ lacks_room n (change_held p f (alone (taken p room tb)))
  roomy c f k n =
      let h : Holding = with_held f (taken p room tb) in
      let e : alone h ≡ change_held p f (alone (taken p room tb)) = alone_held f (taken p room tb) in
      subst (λ t. lacks_room n (within tb p t) ≡ lacks_room n t) e
      (same_room tb p there h (low, high) refl (subst (Fits tb p) (sym e) ((passes_through tb p there).changed_fits f (alone (taken p room tb)) (taken_fits p room tb low high few))) (owned f k) c n)

  -- what is left of the capacity, where so many are open in all
  pub room_is : (opened : ℕ) → opened ≡ open_count tb → record_size * open_count tb ≤ tb.capacity
      → tb.capacity ≡ (tb.capacity - record_size * (opened - one_if (is_open (transaction_at p tb).state (held p (alone (taken p room tb)))))) + record_size * (open_count tb - one_if (open_at p tb))
  room_is opened q l = rw (q, taken_held) (omega (arith, l))

-- with that room
pub room_out : {g h : Holding} {p : ℕ} (capacity opened : ℕ) (tb : Table)
    → g ≡ record { enlistments = h.enlistments; transaction = h.transaction; place = h.place; capacity = capacity - record_size * (opened - one_if (is_open h.transaction.state (held h.place (alone h)))); used = h.used }
    → h ≡ taken p 0 tb → g ≡ taken p (capacity - record_size * (opened - one_if (is_open (transaction_at p tb).state (held p (alone (taken p 0 tb)))))) tb
room_out capacity opened tb q r = q ∙ ap (λ x. record { enlistments = x.enlistments; transaction = x.transaction; place = x.place; capacity = capacity - record_size * (opened - one_if (is_open x.transaction.state (held x.place (alone x)))); used = x.used }) r

module _ (heads rows : List (List ℕ)) (capacity used : ℕ) (long : length heads ≡ transaction_places) where
  pub about_takes : (n : ℕ) (a : Act) {e : Enlistment} → Fine heads rows capacity used → e ≡ numbered n (table_in heads rows capacity used)
      → accepted ≡ first_of (about_one_checks (table_in heads rows capacity used) n a) → Takes heads rows used e.holder
  about_takes n a f is q =
      live_takes heads rows capacity used long f
      (subst (λ x. Live (transaction_at x.holder (table_in heads rows capacity used))) (sym is) (about_live (table_in heads rows capacity used) n a f (sym q)))

pub enough : (tb : Table) (opened : ℕ) → sound_of tb ≡ true → opened ≡ open_count tb → record_size * opened ≤ tb.capacity
enough tb opened f q = omega (arith, q, (sound_sentences tb f).room)
