-- What is counted, and the open places that are still ahead, are all of them.
use Prim.Native.Nat.{ℕ, ◌+◌, ◌<◌}
use native.Mathlib.Omega.{arith}
use native.Mathlib.Numerals.{add-one}
use mathlib.Core.Path.{◌≡◌, ◌∙◌}
use mathlib.Core.Bool.{Bool, true, false}
use mathlib.Core.List.{List, [], ◌∷◌, map}
use lib.ListN.{length, get_or, drop, length-map, get_or-map}
use Rattle.lists.specs.Places.{places_from}
use Rattle.lists.proofs.Loops.{array_next, array_over, ahead_next, ahead_done}
use Rattle.rules.specs.declared.Transaction.{Transaction}
use Rattle.rules.specs.Table.{held}
use Rattle.rules.specs.Sound.{open_places}
use Rattle.rows.specs.Memory.{transaction_in}
use Rattle.lent_counts.proofs.open_count.Invariants.{opens, Counted}
use Rattle.lent_counts.proofs.open_count.Goals as goal
use Rattle.lent_counts.proofs.open_count.Goals.{then-open, else-open}

module _ (f : ℕ → Transaction → Bool) (heads : List (List ℕ)) (long : length heads ≡ 32) {n i : ℕ}
    (p : Counted f (map transaction_in heads) n i) (lt : i < 32) where
  abbrev l : List Transaction
  l = map transaction_in heads

  next : drop i l ≡ get_or l i (transaction_in []) ∷ drop (i + 1) l
  next = array_next l (length-map heads transaction_in ∙ long) (transaction_in []) lt

  one_more : true ≡ f (i + 1) (transaction_in (get_or heads i [])) → Counted f l (n + 1) (i + 1)
  unfolding places_from
  one_more e = record {
    most = omega (arith, p.most);
    ahead = ahead_next p.ahead next (rw (get_or-map transaction_in heads i [], ← e, add-one (i + 1)) (omega arith));
  }

  no_more : false ≡ f (i + 1) (transaction_in (get_or heads i [])) → Counted f l n (i + 1)
  unfolding places_from
  no_more e = record {
    most = omega (arith, p.most);
    ahead = ahead_next p.ahead next (rw (get_or-map transaction_in heads i [], ← e, add-one (i + 1)));
  }

pub loop-i-preserved : goal.loop-i-preserved
unfolding transaction_in
loop-i-preserved c =
    let f = opens c.args.rows.now in let heads = c.args.heads.now in let t = c.loop-i.invariant in
    elim c.if-open.branch [
      | then-open w ↦ rw w.n-is (one_more f heads c.told-heads t c.loop-i-test.true w.if-open.ensures)
      | else-open w ↦ rw w.n-is (no_more f heads c.told-heads t c.loop-i-test.true w.if-open.ensures)
    ]

pub returns : goal.returns
unfolding open_places held places_from
returns c =
    let heads = c.args.heads.now in
    let over = array_over (map transaction_in heads) (length-map heads transaction_in ∙ c.told-heads) c.loop-i-test.false in
    (λ capacity used. ahead_done c.loop-i.invariant.ahead over (omega arith), omega (arith, c.loop-i.invariant.most))
