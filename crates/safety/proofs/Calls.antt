-- Begin, Enlist, Commit, Rollback and Ask: the transaction that they name stands at one place, so that what they do there shows in its view alone, and is one of
-- its moves.
use Prim.Native.Nat.{ℕ}
use native.Mathlib.Omega.{arith}
use mathlib.Core.Path.{◌≡◌, refl, sym, ◌∙◌, ap, subst}
use mathlib.Core.Logic.{◌⊎◌, inl, inr}
use mathlib.Core.Bool.{Bool, true, false, cond, ◌&&◌}
use mathlib.Core.List.{List, [], ◌∷◌, map}
use lib.Dec.{eqb}
use borrow.Author.Tests.{eqb-true, eqb-false}
use Rattle.lists.specs.Members.{◌∈◌, Each, Some}
use Rattle.lists.specs.Lists.{any, filter, first_or}
use Rattle.lists.specs.Places.{put_lowest}
use Rattle.lists.proofs.Tests.{by_cases, by_test, by_either, no_clash, is_false, true_or, none_each, first_passes, first_none, by_cond, each_nothing}
use Rattle.lists.proofs.Places.{place_first, put_there, of_put}
use Rattle.rules.specs.declared.Transaction.{Transaction}
use Rattle.rules.specs.declared.Enlistment.{Enlistment}
use Rattle.rules.specs.declared.Table.{Table}
use Rattle.rules.specs.declared.TxId.{TxId}
use Rattle.rules.specs.declared.RmId.{RmId}
use Rattle.rules.specs.declared.Event.{Event}
use Rattle.rules.specs.declared.Signal.{Signal}
use Rattle.rules.specs.declared.Act.{Act}
use Rattle.rules.specs.declared.Act.TheVariants as act
use Rattle.rules.specs.declared.Kind.{Kind}
use Rattle.rules.specs.declared.Mark.{Mark}
use Rattle.rules.specs.declared.Name.{Name}
use Rattle.rules.specs.declared.Name.TheVariants as name
use Rattle.rules.specs.TransactionState as transaction
use Rattle.rules.specs.EnlistmentState as enlistment
use Rattle.rules.specs.Identifiers.{Id}
use Rattle.rules.specs.Table.{no_transaction, no_enlistment, is_live, is_free, is_named, place_named, transaction_at, state_at, is_vacant, held, is_phase_zero, is_in, in_state, with_transactions, with_enlistments, change_held, go_to}
use Rattle.rules.specs.Sound.{Sound, Durable}
use Rattle.rules.specs.Signals.{signal, to_each, Committed}
use Rattle.rules.specs.Events.{quietly, saying, abort_of, begin_of, kind_of, zero_at_once, new_enlistment, enlist_of, zeroed_of, commit_of, is_undone, is_over, told_again, ask_of}
use Rattle.rules.proofs.Identifiers.{same_refl}
use Rattle.rules.proofs.Frames.{of_held, in_held, held_came, held_own, named_is, named_other, named_found, none_absent, Stands, Absent}
use Rattle.safety.specs.World.{Note, told, message_of}
use Rattle.safety.specs.Host.{Prepares, MayAsk}
use Rattle.safety.specs.Demand3.{Votes}
use Rattle.safety.proofs.Alone as alone
use Rattle.safety.proofs.Alone.{Story, early, Waits, Is, Unasked}
use Rattle.safety.proofs.Move.{nothing_calm, Joins, from_early, from_aborting, to_aborting, Move, stay, begin, gather, abort, told_on, answer_out}
use Rattle.safety.proofs.Top.{Agrees}
use Rattle.safety.proofs.View.{view_of, look, view_in, view_stands, view_absent, view_goes, goes_other, view_changes, state_none, view_only, held_other}
use Rattle.safety.proofs.Given.{stands_sound, owner_held}
use Rattle.safety.proofs.Messages.{not_committed, not_aborted, Only, only_nothing, only_one, only_each, Addressed, Owned, addressed_nothing, addressed_one, addressed_neutral, none_committed, none_aborted, quiet}
use Rattle.safety.proofs.Own.{Own, unwritten, unlogged, own_abort, own_start}
use Rattle.safety.proofs.Reactions.{held_votes, untouched}
use Rattle.rules.proofs.Told.{told_key, told_keeps}
use Rattle.rules.proofs.Phases.{zeroed_key, zeroes}
use Rattle.rules.proofs.Kept.{SameKey, sound_kept}
use Rattle.rules.proofs.Only.{only_enlist, only_begin, used_held}
use Rattle.rules.proofs.Parts.{used_moved}
use Rattle.rules.proofs.Put.{free_place, at_new, at_others, new_holds_nothing}
use Rattle.rules.proofs.Entered.{some_put}

module _ (tb : Table) (log : List ℕ) (s : Sound tb) (x : TxId) (y : RmId) where
  abbrev pub t : Id
  t = x.0

  abbrev pub r : Id
  r = y.0

  abbrev pub p : ℕ
  p = place_named t tb

  abbrev hs : List Enlistment
  hs = held p tb

  abbrev pub event : Act → Event
  event a = record { tx = x; rm = y; act = a }

  -- ── Begin ─────────────────────────────────────────────────────────────────────────────────────────────────────

  module _ (dead : p ≡ 0) (room : any is_free tb.transactions ≡ true) where
    new : Transaction
    new = record { id = x; state = transaction.active }

    abbrev q : ℕ
    q = free_place tb

    begun : Table
    begun = with_transactions (put_lowest is_free new tb.transactions) tb

    begin_is : begin_of t tb log ≡ quietly begun log
    unfolding begin_of new begun
    begin_is = refl

    nobody : (u : Id) → is_named u (transaction_at q tb) ≡ false
    nobody u = is_false (is_named u (transaction_at q tb)) (λ e. no_clash (is_live (transaction_at q tb)) (named_is u (transaction_at q tb) e).0 (rw (place_first is_free no_transaction tb.transactions room).passes refl))

    absent : Absent t tb
    absent = none_absent t tb dead

    stands_at : transaction_at q begun ≡ new
    unfolding begun
    stands_at = at_new new tb room

    at : Stands t q begun
    unfolding begun new
    at = record { here = rw stands_at (same_refl t); alone = λ w e. by_test (eqb w q) (λ c. eqb-true w q c) (λ c. no_clash (is_named t (transaction_at w tb)) (ap (is_named t) (sym (at_others new tb room w (eqb-false w q c))) ∙ e) (absent.nowhere w)) }

    used_begun : begun.used ≡ tb.used
    unfolding begun
    used_begun = refl

    begun_other : (u : Id) → (u ≡ t → ⊥) → view_of u begun ≡ view_of u tb
    unfolding begun new
    begun_other u d = view_only u q tb begun (only_begin new tb room) (nobody u) (ap (is_named u) stands_at ∙ is_false (is_named u new) (λ e. d (sym (named_is u new e).1)))

    begun_view : view_of t begun ≡ early (held q begun)
    unfolding new
    begun_view = view_stands t q begun at ∙ ap (λ (w : Transaction). look w.state (held q begun)) stands_at

    none_yet : Each (λ _. ⊥) (held q begun)
    unfolding begun held
    none_yet = subst (Each (λ _. ⊥)) (sym (new_holds_nothing new tb room (sound_kept s))) (each_nothing (λ _. ⊥))

    own_begun : Own tb (event act.Begin) log t (quietly begun log)
    unfolding told
    own_begun = unwritten tb (event act.Begin) log t begun [] (addressed_nothing tb (event act.Begin)) used_begun begun_other
        (λ h made l a. rw (view_absent t tb absent, begun_view) (begin refl made refl (quiet t tb (event act.Begin) [] (only_nothing not_committed) (only_nothing not_aborted)) none_yet))

    pub own_begin : Own tb (event act.Begin) log t (begin_of t tb log)
    own_begin = rw begin_is own_begun

  -- ── Commit, Rollback ──────────────────────────────────────────────────────────────────────────────────────────

  module _ (live : p ≡ 0 → ⊥) where
    at_p : Stands t p tb
    at_p = stands_sound tb s t p (named_found t tb live)

    zeroed_kept : (P : Enlistment → Type 0) → ((e : Enlistment) → P e → P (in_state enlistment.zero e)) → (e : Enlistment) → P e → P (zeroed_of e) × ((zeroed_of e).holder ≡ e.holder)
    zeroed_kept P f e q = (by_cond P (is_phase_zero e) (f e q) q, (zeroed_key e).holder)

    zeroed_was : (e : Enlistment) → Some (λ w. e ≡ zeroed_of w) hs → Some (Is e.number e.rm.0 e.kind) hs
    zeroed_was e c = record { it = c.it; there = c.there; holds = subst (λ (w : Enlistment). Is w.number w.rm.0 w.kind c.it) (sym c.holds) (sym k.number, sym (ap (λ (r : RmId). r.0) k.rm), sym k.kind) }
      where
        k : SameKey c.it (zeroed_of c.it)
        k = zeroed_key c.it

    pub own_commit : state_at p tb ≡ transaction.active → Own tb (event act.Commit) log t (commit_of p tb log)
    unfolding commit_of told
    own_commit state = by_cases (Own tb this_event log t) (any is_phase_zero hs) _ _
        (λ _. unlogged tb this_event log t p tb (untouched tb s t p at_p) refl tb₂ ss (addressed_neutral tb this_event ss (only_each not_committed name.Zero phase_zeros refl) (only_each not_aborted name.Zero phase_zeros refl)) (used_moved p transaction.phase_zero zeroed_of tb) (λ u d. goes_other t p tb at_p transaction.phase_zero zeroed_of u zeroes d)
        (λ h made l a. rw (view_in t p tb refl transaction.active state, view_goes t p tb at_p transaction.phase_zero zeroed_of (λ q. omega arith))
        (gather refl (nothing_calm t).not_prepared (quiet t tb this_event ss (only_each not_committed name.Zero phase_zeros refl) (only_each not_aborted name.Zero phase_zeros refl))
        (λ m r k w. held_own (Unasked m r k) (Unasked m r k) p zeroed_of tb (λ e _ q. zeroed_kept (Unasked m r k) (λ e q. q) e q) w)
        (λ m r k q w. absurd ((nothing_calm t).not_enlisted m r k q))
        (λ e m. inl (zeroed_was e (held_came p zeroed_of tb m))))))
        (λ n. own_start tb this_event log t p tb (untouched tb s t p at_p) refl hs (view_in t p tb refl transaction.active state) (nothing_calm t) (λ m r k w. w) (λ e m. record { it = e; there = m; holds = ((refl, refl, refl), held_votes tb s t p at_p m (none_each is_phase_zero hs n e m)) }) (λ c. omega (arith, c, state)))
      where
        this_event : Event
        this_event = event act.Commit

        tb₂ : Table
        tb₂ = go_to p transaction.phase_zero (change_held p zeroed_of tb)

        phase_zeros : List Enlistment
        phase_zeros = filter is_phase_zero hs

        ss : List Signal
        ss = to_each name.Zero phase_zeros

    is_early : (state_at p tb ≡ transaction.active) ⊎ (state_at p tb ≡ transaction.phase_zero) → view_of t tb ≡ early hs
    is_early (inl q) = view_in t p tb refl transaction.active q
    is_early (inr q) = view_in t p tb refl transaction.phase_zero q

    pub own_rollback : (state_at p tb ≡ transaction.active) ⊎ (state_at p tb ≡ transaction.phase_zero) → Own tb (event act.Rollback) log t (abort_of p tb log)
    own_rollback state = own_abort tb (event act.Rollback) log t p tb (untouched tb s t p at_p) refl (rw (is_early state) from_early)

    -- ── Enlist ──────────────────────────────────────────────────────────────────────────────────────────────────

    module _ (n : ℕ) (k : Kind) (m : Mark) (state : (state_at p tb ≡ transaction.active) ⊎ (state_at p tb ≡ transaction.phase_zero)) (room : any is_vacant tb.enlistments ≡ true) where
      joined : Enlistment
      joined = new_enlistment p (state_at p tb) n r k m

      enlisted : Table
      enlisted = with_enlistments (put_lowest is_vacant joined tb.enlistments) tb

      joined_is : (joined.holder ≡ p) × (joined.number ≡ n) × (joined.rm.0 ≡ r) × (joined.kind ≡ kind_of k)
      unfolding joined new_enlistment
      joined_is = (refl, refl, refl, refl)

      enlist_is : enlist_of p n r k m tb log ≡ saying (cond (zero_at_once k (state_at p tb)) (signal name.Zero n ∷ []) []) (quietly enlisted log)
      unfolding enlist_of enlisted joined
      enlist_is = refl

      enlisted_other : (u : Id) → (u ≡ t → ⊥) → view_of u enlisted ≡ view_of u tb
      unfolding enlisted joined new_enlistment
      enlisted_other u d = view_only u p tb enlisted (only_enlist joined tb) (other u d) (other u d)
        where
          other : (u : Id) → (u ≡ t → ⊥) → is_named u (transaction_at p tb) ≡ false
          other u d = named_other t u (transaction_at p tb) at_p.here d

      enlisted_view : view_of t enlisted ≡ early (held p enlisted)
      unfolding view_of enlisted
      enlisted_view = by_either (λ q. rw q refl) (λ q. rw q refl) state

      enlisted_keeps : (P : Enlistment → Type 0) → Some P hs → Some P (held p enlisted)
      unfolding enlisted joined new_enlistment
      enlisted_keeps P h = some_put joined tb live h

      enlisted_new : joined ∈ held p enlisted
      unfolding enlisted
      enlisted_new = in_held p enlisted (put_there is_vacant joined tb.enlistments room) joined_is.0

      abbrev pub this_event : Event
      this_event = event (act.Enlist n k m)

      abbrev ss : List Signal
      ss = cond (zero_at_once k (state_at p tb)) (signal name.Zero n ∷ []) []

      only_zero : (f : Name → Bool) → f name.Zero ≡ true → Only f ss
      only_zero f q = by_cases (Only f) (zero_at_once k (state_at p tb)) (signal name.Zero n ∷ []) [] (λ _. only_one f name.Zero n q) (λ _. only_nothing f)

      not_prepared : (q : Id) → Prepares t q (Note.enlisted t n r (kind_of k)) → ⊥
      not_prepared q (j, w) = let z : ◌≡◌ {A = ℕ} 0 1 = cc in omega arith

      is_new : (j : ℕ) (q : Id) (i : ℕ) → Note.enlisted t n r (kind_of k) ≡ Note.enlisted t j q i → Votes i → Some (Unasked j q i) (held p enlisted)
      is_new j q i w v = record { it = joined; there = enlisted_new; holds = ((joined_is.1 ∙ number j q i w, joined_is.2 ∙ manager j q i w, joined_is.3 ∙ kinds j q i w), rw (joined_is.3 ∙ kinds j q i w) v) }
        where
          number : (j : ℕ) (q : Id) (i : ℕ) → Note.enlisted t n r (kind_of k) ≡ Note.enlisted t j q i → n ≡ j
          number j q i w = cc

          manager : (j : ℕ) (q : Id) (i : ℕ) → Note.enlisted t n r (kind_of k) ≡ Note.enlisted t j q i → r ≡ q
          manager j q i w = cc

          kinds : (j : ℕ) (q : Id) (i : ℕ) → Note.enlisted t n r (kind_of k) ≡ Note.enlisted t j q i → kind_of k ≡ i
          kinds j q i w = cc

      came : Each (Joins t (Note.enlisted t n r (kind_of k)) hs) (held p enlisted)
      unfolding enlisted
      came e m = by_either
          (λ q. inr (tells ∙ ap (λ (w : Enlistment). Note.enlisted t w.number w.rm.0 w.kind) (sym q)))
          (λ q. inl (record { it = e; there = in_held p tb q (of_held p enlisted m).1; holds = (refl, refl, refl) }))
          (of_put is_vacant joined tb.enlistments (of_held p enlisted m).0)
        where
          tells : Note.enlisted t n r (kind_of k) ≡ Note.enlisted t joined.number joined.rm.0 joined.kind
          tells = rw (joined_is.1, joined_is.2, joined_is.3) refl

      used_enlisted : enlisted.used ≡ tb.used
      unfolding enlisted
      used_enlisted = refl

      own_enlisted : Own tb this_event log t (saying ss (quietly enlisted log))
      unfolding told
      own_enlisted = unwritten tb this_event log t enlisted ss (addressed_neutral tb this_event ss (only_zero not_committed refl) (only_zero not_aborted refl)) used_enlisted enlisted_other
          (λ h made l a. rw (is_early state, enlisted_view) (gather refl not_prepared (quiet t tb this_event ss (only_zero not_committed refl) (only_zero not_aborted refl)) (λ j q i w. enlisted_keeps (Unasked j q i) w) is_new came))

      pub own_enlist : Own tb this_event log t (enlist_of p n r k m tb log)
      own_enlist = rw enlist_is own_enlisted

  -- ── Ask ───────────────────────────────────────────────────────────────────────────────────────────────────────

  abbrev pub ask : Event
  ask = event act.Ask

  only_answered : (ss : List Signal) → Addressed tb ask ss
      → ((h : List Note) → MayAsk t r h → (l : Story) → Agrees (view_of t tb) l → Move t h Note.nothing (map (message_of tb ask) ss) l l (view_of t tb) (view_of t tb))
      → Own tb ask log t (saying ss (quietly tb log))
  unfolding told
  only_answered ss addressed moves = unwritten tb ask log t tb ss addressed refl (λ u d. refl) moves

  again_waits : (q : Id) (e : Enlistment) → Waits q e → Waits q (told_again r e)
  again_waits q e w = by_cases (Waits q) (is_undone r e && is_in enlistment.failed_to_notify e) (in_state enlistment.told_commit e) e (λ _. (w.0, w.1, inl refl)) (λ _. w)

  abbrev answered : ℕ
  answered = (first_or no_enlistment (is_undone r) hs).number

  answered_owned : (p ≡ 0 → ⊥) → Owned tb t answered
  answered_owned live = by_test (any (is_undone r) hs)
      (λ q. inr (owner_held tb s t p (at_p live) (first_passes no_enlistment (is_undone r) hs q).0).1)
      (λ q. inl (ap (λ (e : Enlistment). e.number) (first_none no_enlistment (is_undone r) hs q)))

  ask_committing : state_at p tb ≡ transaction.committing → (p ≡ 0 → ⊥) → Own tb ask log t (saying (signal name.AnswerCommitted answered ∷ []) (quietly (change_held p (told_again r) tb) log))
  unfolding told
  ask_committing state live = unlogged tb ask log t p tb (untouched tb s t p (at_p live)) refl (change_held p (told_again r) tb) (signal name.AnswerCommitted answered ∷ []) (addressed_one tb ask name.AnswerCommitted answered (answered_owned live)) (used_held p (told_again r) tb)
      (λ u d. held_other t p tb (at_p live) (told_again r) u (told_keeps r) d)
      (λ h made l a. rw (view_in t p tb refl transaction.committing state, view_changes t p tb (at_p live) (told_again r) ∙ ap (λ k. look k (held p (change_held p (told_again r) tb))) state)
      (told_on refl (nothing_calm t) (none_aborted t tb ask (signal name.AnswerCommitted answered ∷ []) (only_one not_aborted name.AnswerCommitted answered refl))
      (λ q w. inl (held_own (Waits q) (Waits q) p (told_again r) tb (λ e _ v. (again_waits q e v, (told_key r e).holder)) w))
      (λ w. held_own Durable Durable p (told_again r) tb (λ e _ v. ((told_key r e).kind ∙ v, (told_key r e).holder)) w)
      (λ no_durable e m d. let c : Some (λ w. e ≡ told_again r w) hs = held_came p (told_again r) tb m in no_durable c.it c.there (sym (told_key r c.it).kind ∙ sym (ap (λ (w : Enlistment). w.kind) c.holds) ∙ d))
      (λ n w. held_own (λ e. e.number ≡ n) (λ e. e.number ≡ n) p (told_again r) tb (λ e _ q. ((told_key r e).number ∙ q, (told_key r e).holder)) w)))

  ask_over : (state_at p tb ≡ 0) ⊎ (state_at p tb ≡ transaction.aborting) → Own tb ask log t (saying (signal name.AnswerAborted 0 ∷ []) (quietly tb log))
  ask_over w = only_answered (signal name.AnswerAborted 0 ∷ []) (addressed_one tb ask name.AnswerAborted 0 (inl refl)) (λ h may l a. by_either
      (λ q. rw (view_in t p tb refl 0 q) (answer_out r refl may (nothing_calm t) silent))
      (λ q. rw (view_in t p tb refl transaction.aborting q) (abort refl from_aborting to_aborting silent)) w)
    where
      silent : alone.New t Committed (map (message_of tb ask) (signal name.AnswerAborted 0 ∷ [])) → ⊥
      silent = none_committed t tb ask (signal name.AnswerAborted 0 ∷ []) (only_one not_committed name.AnswerAborted 0 refl)

  ask_not_yet : Own tb ask log t (saying (signal name.AnswerNotYet answered ∷ []) (quietly tb log))
  ask_not_yet = only_answered ss (addressed_neutral tb ask ss (only_one not_committed name.AnswerNotYet answered refl) (only_one not_aborted name.AnswerNotYet answered refl))
      (λ h may l a. stay refl (nothing_calm t) (quiet t tb ask ss (only_one not_committed name.AnswerNotYet answered refl) (only_one not_aborted name.AnswerNotYet answered refl)))
    where
      ss : List Signal
      ss = signal name.AnswerNotYet answered ∷ []

  pub own_ask : Own tb ask log t (ask_of p r tb log)
  unfolding ask_of
  own_ask = by_cases (Own tb ask log t) (is_over (state_at p tb)) _ _
      (λ q. ask_over (by_either (λ w. inl (eqb-true (state_at p tb) 0 w)) (λ w. inr (eqb-true (state_at p tb) transaction.aborting w)) (true_or (eqb (state_at p tb) 0) (eqb (state_at p tb) transaction.aborting) q)))
      (λ _. by_cases (Own tb ask log t) (eqb (state_at p tb) transaction.committing) _ _ (λ q. ask_committing (eqb-true (state_at p tb) transaction.committing q) (somewhere (eqb-true (state_at p tb) transaction.committing q))) (λ _. ask_not_yet))
    where
      somewhere : state_at p tb ≡ transaction.committing → p ≡ 0 → ⊥
      somewhere q z = omega (arith, q, ap (λ k. state_at k tb) z, state_none tb)
