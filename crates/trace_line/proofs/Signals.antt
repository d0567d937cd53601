-- Signals written one behind another: those that were written, and one more behind them, are the next signals written.
use Prim.Native.Nat.{ℕ, ◌+◌, ◌*◌, ◌≤◌, ◌<◌}
use native.Mathlib.Omega.{arith}
use native.Mathlib.Numerals.{add-one}
use mathlib.Core.Path.{◌≡◌, refl}
use mathlib.Core.List.{List, [], ◌∷◌, ◌++◌, append_assoc, append-nil}
use lib.ListN.{length, get_or, take}
use lib.Seq.{take-suc}
use Rattle.rules.specs.declared.Signal.{Signal}
use Rattle.rules.specs.Sizes.{signals_most}
use Rattle.rules.specs.Trace.{signal_texts}
use Rattle.trace_parts.specs.Puts.{Puts, signal_text, signal_most}
use Rattle.trace_parts.proofs.Puts.{put_both, signal_most_lem}

one_more : (ss : List Signal) (s : Signal) → signal_texts (ss ++ (s ∷ [])) ≡ signal_texts ss ++ signal_text s
unfolding signal_texts signal_text
one_more [] s = append-nil _
one_more (x ∷ ss) s = rw (one_more ss s, append_assoc)

-- a loop that writes the first n items, each in at most signal_most bytes, and has written i of them
pub record Sending (n : ℕ) (items : List Signal) (before : List ℕ) (from : ℕ) (buffer : List ℕ) (at i : ℕ) : Type 0 where
  pub within : i ≤ n
  pub long : length items ≡ signals_most
  pub few : at ≤ from + signal_most * i
  pub puts : Puts (signal_texts (take i items)) before from at buffer

module _ {n : ℕ} {items : List Signal} {before : List ℕ} {from : ℕ} where
  pub sending_start : length items ≡ signals_most → Sending n items before from before from 0
  unfolding signal_texts
  sending_start h = record { within = omega arith; long = h; few = omega arith; puts = record { ends = omega arith; same = refl } }

  pub sending_again : {buffer buffer' : List ℕ} {at at' i : ℕ} (d : Signal) → Sending n items before from buffer at i → i < n → n ≤ signals_most
      → Puts (signal_text (get_or items i d)) buffer at at' buffer' → Sending n items before from buffer' at' (i + 1)
  sending_again {i = i} d p h l q =
      record {
        within = omega arith;
        long = p.long;
        few = omega (arith, signal_most_lem (get_or items i d));
        puts = rw (add-one, take-suc items i d (omega arith), one_more) (put_both p.puts q);
      }

  pub sending_done : {buffer : List ℕ} {at i : ℕ} → Sending n items before from buffer at i → n ≤ i → Puts (signal_texts (take n items)) before from at buffer
  sending_done {i = i} p h = let e : i ≡ n = omega arith in rw e at p.puts
