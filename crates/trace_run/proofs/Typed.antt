-- The event that a line names has identifiers of 16 bytes and a number of 32 bits: a line with a larger number is unreadable.
use Prim.Native.Nat.{ℕ, ◌≤◌}
use native.Mathlib.Omega.{arith}
use mathlib.Core.Path.{◌≡◌, refl}
use mathlib.Core.Bool.{Bool, true, false, ◌&&◌}
use mathlib.Core.List.{List, [], ◌∷◌}
use Rattle.std.specs.Prelude.{Option, Some, None, option_and_then}
use lib.Dec.{leb}
use lib.ListN.{length}
use borrow.Author.Tests.{leb-true}
use Rattle.lists.proofs.Tests.{by_cond, true_and}
use Rattle.rules.specs.declared.Act.{Act}
use Rattle.rules.specs.declared.Act.TheVariants as act
use Rattle.rules.specs.declared.Kind.{Kind}
use Rattle.rules.specs.declared.Kind.TheVariants as kind
use Rattle.rules.specs.declared.Mark.{Mark}
use Rattle.rules.specs.declared.Mark.TheVariants as mark
use Rattle.rules.specs.declared.Vote.TheVariants as vote
use Rattle.rules.specs.declared.Reply.TheVariants as reply
use Rattle.rules.specs.declared.Event.{Event}
use Rattle.rules.specs.declared.Command.{Command}
use Rattle.rules.specs.declared.Command.TheVariants as command
use Rattle.rules.specs.Sizes.{largest_number, line_most}
use Rattle.rules.specs.Identifiers.{zero_id}
use Rattle.rules.specs.Refusals.{number_in}
use Rattle.rules.specs.Trace.{is_word, is_numeral, value_of, is_identifier_word, identifier_of, is_number_word}
use Rattle.rules.specs.Trace.{unreadable, restarting, stepping, read_if, of_transaction, of_number, of_manager, two_words}
use Rattle.rules.specs.Trace.{vote_named, vote_line, reply_named, reply_line, ask_line, three_words}
use Rattle.rules.specs.Trace.{enlist_as, kind_named, enlist_marked, absent_mark, enlist_line, mark_named, enlist_line_marked}
use Rattle.rules.specs.Trace.{words, words_read, command_of}
use Rattle.rules.proofs.Own.{Typed}

abbrev Names : Option Command → Type 0
Names None = Unit {0}
Names (Some command.Restart) = Unit {0}
Names (Some (command.Step e)) = Typed e

none_named : Names unreadable
none_named = tt

-- what is read where a test passes
names_if : (b : Bool) (c : Option Command) → (b ≡ true → Names c) → Names (read_if b c)
names_if true c h = h refl
names_if false c h = none_named

-- what is read where a part names something
names_then : {A : Type 0} (o : Option A) (f : A → Option Command) → ((x : A) → Names (f x)) → Names (option_and_then f o)
names_then None f h = none_named
names_then (Some x) f h = h x

number_small : (w : List ℕ) → is_number_word w ≡ true → value_of w ≤ largest_number
number_small w e = leb-true _ _ (true_and (is_numeral w) _ e).1

of_transaction_lem : (a : Act) (t : List ℕ) → number_in a ≤ largest_number → Names (of_transaction a t)
of_transaction_lem a t h = names_if (is_identifier_word t) (Some (stepping a (identifier_of t) zero_id)) (λ e. record { tx = refl; rm = refl; number = h })

of_number_lem : (a : ℕ → Act) (n : List ℕ) → number_in (a (value_of n)) ≡ value_of n → Names (of_number a n)
of_number_lem a n z = names_if (is_number_word n) (Some (stepping (a (value_of n)) zero_id zero_id)) (λ e. record { tx = refl; rm = refl; number = rw z (number_small n e) })

two : (w a : List ℕ) → Names (two_words w a)
unfolding two_words
two w a =
    by_cond Names (is_word "begin" w) (of_transaction_lem act.Begin a (omega arith))
    (by_cond Names (is_word "commit" w) (of_transaction_lem act.Commit a (omega arith))
    (by_cond Names (is_word "rollback" w) (of_transaction_lem act.Rollback a (omega arith))
    (by_cond Names (is_word "zdone" w) (of_number_lem act.ZeroDone a refl)
    (by_cond Names (is_word "ack" w) (of_number_lem act.Ack a refl)
    (by_cond Names (is_word "lost" w) (of_number_lem act.Lost a refl)
    (by_cond Names (is_word "reenlisted" w) (names_if (is_identifier_word a) (Some (stepping act.Reenlisted zero_id (identifier_of a))) (λ e. record { tx = refl; rm = refl; number = omega arith }))
    none_named))))))

votes : (n v : List ℕ) → Names (vote_line n v)
votes n v = names_then (vote_named v) _ (λ d. of_number_lem (λ k. act.Vote k d) n refl)

replies : (n r : List ℕ) → Names (reply_line n r)
replies n r = names_then (reply_named r) _ (λ d. of_number_lem (λ k. act.Reply k d) n refl)

asks : (t r : List ℕ) → Names (ask_line t r)
asks t r = names_if (is_identifier_word t && is_identifier_word r) (Some (stepping act.Ask (identifier_of t) (identifier_of r))) (λ e. record { tx = refl; rm = refl; number = omega arith })

three : (w a b : List ℕ) → Names (three_words w a b)
unfolding three_words
three w a b = by_cond Names (is_word "vote" w) (votes a b) (by_cond Names (is_word "sp" w) (replies a b) (by_cond Names (is_word "ask" w) (asks a b) none_named))

enlists : (t n r : List ℕ) (k : Kind) (m : Mark) → Names (enlist_as t n r k m)
enlists t n r k m = names_if (is_identifier_word t && is_number_word n && is_identifier_word r)
    (Some (stepping (act.Enlist (value_of n) k m) (identifier_of t) (identifier_of r)))
    (λ e. record { tx = refl; rm = refl; number = number_small n (true_and (is_identifier_word t) (is_number_word n) (true_and _ (is_identifier_word r) e).0).1 })

enlists_marked : (t n r k : List ℕ) (m : Mark) → Names (enlist_marked t n r k m)
enlists_marked t n r k m = names_then (kind_named k) _ (λ d. enlists t n r d m)

five : (t n r k : List ℕ) → Names (enlist_line t n r k)
unfolding enlist_line
five t n r k = enlists_marked t n r k absent_mark

six : (t n r k m : List ℕ) → Names (enlist_line_marked t n r k m)
unfolding enlist_line_marked
six t n r k m = names_then (mark_named m) _ (enlists_marked t n r k)

of_words : (ws : List (List ℕ)) → Names (words_read ws)
unfolding words_read
of_words [] = none_named
of_words (w ∷ []) = names_if (is_word "restart" w) restarting (λ e. none_named)
of_words (w ∷ a ∷ []) = two w a
of_words (w ∷ a ∷ b ∷ []) = three w a b
of_words (w ∷ a ∷ b ∷ c ∷ []) = none_named
of_words (w ∷ a ∷ b ∷ c ∷ d ∷ []) = names_if (is_word "enlist" w) (enlist_line a b c d) (λ q. five a b c d)
of_words (w ∷ a ∷ b ∷ c ∷ d ∷ e ∷ []) = names_if (is_word "enlist" w) (enlist_line_marked a b c d e) (λ q. six a b c d e)
of_words (w ∷ a ∷ b ∷ c ∷ d ∷ e ∷ f ∷ ws) = none_named

named : (line : List ℕ) → Names (command_of line)
unfolding command_of
named line = names_if (leb (length line) line_most) (words_read (words line)) (λ e. of_words (words line))

pub typed_command : (line : List ℕ) (e : Event) → Some (command.Step e) ≡ command_of line → Typed e
typed_command line e q = rw (← q) at (named line)
