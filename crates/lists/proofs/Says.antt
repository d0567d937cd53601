-- A test says a sentence when it passes where the sentence holds, and nowhere else. The laws put such tests together.
use Prim.Native.Nat.{ℕ, ◌≤◌}
use mathlib.Core.Path.{◌≡◌, refl}
use mathlib.Core.Logic.{◌⊎◌, inl, inr, ⊎_map}
use mathlib.Core.Bool.{Bool, true, false, cond, not, ◌&&◌, ◌||◌}
use mathlib.Core.List.{List}
use lib.Dec.{eqb, leb}
use borrow.Author.Tests.{eqb-true, eq-eqb, leb-true, le-leb, not-true}
use Rattle.lists.specs.Lists.{all, any, filter, differ}
use Rattle.lists.specs.Members.{Each, Some, Apart}
use Rattle.lists.proofs.Tests.{by_test, by_either, no_clash, is_false, and_true, true_and, or_true, true_or, false_not, all_each, each_all, any_some, some_any, in_filter, of_filter, differ_apart, apart_differ}

pub record Says (b : Bool) (P : Type 0) : Type 0 where
  pub out : b ≡ true → P
  pub back : P → b ≡ true

pub says_always : Says true (Unit {0})
says_always = record { out = λ e. tt; back = λ h. refl }

pub says_equal : (m n : ℕ) → Says (eqb m n) (m ≡ n)
says_equal m n = record { out = eqb-true m n; back = eq-eqb m n }

pub says_most : (m n : ℕ) → Says (leb m n) (m ≤ n)
says_most m n = record { out = leb-true m n; back = le-leb m n }

module _ {a b : Bool} {P Q : Type 0} (p : Says a P) (q : Says b Q) where
  pub says_both : Says (a && b) (P × Q)
  says_both = record {
    out = λ e. (p.out (true_and a b e).0, q.out (true_and a b e).1);
    back = λ h. and_true (p.back h.0) (q.back h.1);
  }

  pub says_either : Says (a || b) (P ⊎ Q)
  unfolding ⊎_map
  says_either = record {
    out = λ e. ⊎_map p.out q.out (true_or a b e);
    back = λ h. or_true a b (⊎_map p.back q.back h);
  }

  pub says_unless : Says (a || b) ((P → ⊥) → Q)
  says_unless = record {
    out = λ e n. by_either (λ t. absurd (n (p.out t))) q.out (true_or a b e);
    back = λ h. by_test a (λ t. or_true a b (inl t)) (λ t. or_true a b (inr (q.back (h (λ x. no_clash a (p.back x) t)))));
  }

pub says_not : {b : Bool} {P : Type 0} → Says b P → Says (not b) (P → ⊥)
says_not {b} p = record {
  out = λ e h. no_clash b (p.back h) (not-true b e);
  back = λ n. false_not (is_false b (λ e. n (p.out e)));
}

-- in other words
pub says_as : {b : Bool} {P Q : Type 0} → (P → Q) → (Q → P) → Says b P → Says b Q
says_as f g p = record { out = λ e. f (p.out e); back = λ h. p.back (g h) }

pub says_cond : {c a b : Bool} {R P Q : Type 0} → Says c R → Says a P → Says b Q → Says (cond c a b) ((R × P) ⊎ ((R → ⊥) × Q))
says_cond {c} {a} {b} {R} {P} {Q} r p q = by_test c
    (λ e. rw e (record { out = λ h. inl (r.out e, p.out h); back = yes_back e }))
    (λ e. rw e (record { out = λ h. inr (λ x. no_clash c (r.back x) e, q.out h); back = no_back e }))
  where
    yes_back : c ≡ true → (R × P) ⊎ ((R → ⊥) × Q) → a ≡ true
    yes_back e (inl h) = p.back h.1
    yes_back e (inr h) = absurd (h.0 (r.out e))

    no_back : c ≡ false → (R × P) ⊎ ((R → ⊥) × Q) → b ≡ true
    no_back e (inl h) = no_clash c (r.back h.0) e
    no_back e (inr h) = q.back h.1

module _ {A : Type 0} {f : A → Bool} {P : A → Type 0} (p : (x : A) → Says (f x) (P x)) where
  pub says_all : (xs : List A) → Says (all f xs) (Each P xs)
  says_all xs = record {
    out = λ e x m. (p x).out (all_each f xs e x m);
    back = λ h. each_all f xs (λ x m. (p x).back (h x m));
  }

  pub says_any : (xs : List A) → Says (any f xs) (Some P xs)
  says_any xs = record {
    out = λ e. let s = any_some f xs e in record { it = s.it; there = s.there; holds = (p s.it).out s.holds };
    back = λ s. some_any f xs (record { it = s.it; there = s.there; holds = (p s.it).back s.holds });
  }

-- what is said of those that pass another test
pub says_of : {b : Bool} {A : Type 0} {g : A → Bool} {P Q : A → Type 0} → ((x : A) → Says (g x) (Q x)) → (xs : List A)
    → Says b (Each P (filter g xs)) → Says b (Each (λ x. Q x → P x) xs)
says_of {g = g} q xs s = says_as
    (λ h x m t. h x (in_filter g xs m ((q x).back t)))
    (λ h x m. let (i, t) = of_filter g xs m in h x i ((q x).out t))
    s

pub says_apart : {A : Type 0} {alike : A → A → Bool} {R : A → A → Type 0} → ((x y : A) → Says (alike x y) (R x y)) → (xs : List A) → Says (differ alike xs) (Apart R xs)
says_apart {alike = alike} r xs = record {
  out = differ_apart alike (λ x y. (r x y).back) xs;
  back = apart_differ alike (λ x y. (r x y).out) xs;
}
