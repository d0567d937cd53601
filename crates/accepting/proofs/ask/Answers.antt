-- The state that is tested is that of its place, so that the code takes the branch of the definition.
use native.Mathlib.Omega.{arith}
use mathlib.Core.Path.{◌≡◌, refl, ap, ◌∙◌}
use borrow.Author.Tests.{eq-eqb, ne_eqb}
use Rattle.std.proofs.Common.{rules}
use Rattle.rules.specs.Events.{told_again, ask_of}
use Rattle.holdings.specs.Holdings.{alone}
use Rattle.holdings.proofs.Laws.{alone_at, alone_held}
use Rattle.accepting.proofs.Laws.{over, not_over}
use Rattle.accepting.proofs.ask.Goals as goal

pub returns-in-0 : goal.returns-in-0
unfolding ask_of
returns-in-0 c = λ log. rw (ap (λ x. x.state) (alone_at c.args.h c.requires), over c.in-0.is) (record { table = refl; place = refl; signals = c.to_one.ensures; log = refl })

pub returns-in-5 : goal.returns-in-5
unfolding ask_of
returns-in-5 c =
    let m : c.args.h.transaction.state ≡ 0 → ⊥ = omega (arith, c.in-5.is) in
    let n : c.args.h.transaction.state ≡ 6 → ⊥ = omega (arith, c.in-5.is) in
    λ log. rw (ap (λ x. x.state) (alone_at c.args.h c.requires), not_over m n, eq-eqb _ _ c.in-5.is) (record {
      table = ap alone c.tell_again.ensures ∙ alone_held (told_again c.args.rm) c.args.h;
      place = ap (λ g. g.place) c.tell_again.ensures;
      signals = rw (← ap (λ e. e.number) c.undone-e.ensures) c.to_one-in-5.ensures;
      log = refl;
    })

pub returns-in_default : goal.returns-in_default
unfolding ask_of
returns-in_default c =
    let m : c.args.h.transaction.state ≡ 0 → ⊥ = search rules in
    let n : c.args.h.transaction.state ≡ 6 → ⊥ = search rules in
    let o : c.args.h.transaction.state ≡ 5 → ⊥ = search rules in
    λ log. rw (ap (λ x. x.state) (alone_at c.args.h c.requires), not_over m n, ne_eqb _ _ o) (record {
      table = refl;
      place = refl;
      signals = rw (← ap (λ e. e.number) c.undone-e.ensures) c.to_one-in_default.ensures;
      log = refl;
    })
