-- A walk over the bytes: one turn, and the end.
use Rattle.std.specs.Prelude.{◌==◌}
use Prim.Native.Nat.{ℕ, ◌+◌, ◌≤◌, ◌<◌}
use mathlib.Core.Path.{◌≡◌, ap}
use mathlib.Core.Bool.{Bool, true, false}
use mathlib.Core.List.{List, [], ◌++◌}
use native.Mathlib.Omega.{arith}
use lib.ListN.{length, get_or, drop, length-append, drop_of_length-le}
use lib.Seq.{sets}
use Rattle.lists.specs.Choice.{◌⇒◌else◌}
use Rattle.decimal.proofs.Stores.{then}
use Rattle.lists.proofs.WordLaws.{one_drop}
use Rattle.text.specs.declared.number.Number.{Number}
use Rattle.text.specs.declared.line.Lines.{Lines}
use Rattle.text.specs.Scan.{scan, line_in, byte_in, newline_in, number_after, word_at, words_from}

module _ {S : Type 0} (f : S → ℕ → S) (xs : List ℕ) (i : ℕ) where
  pub run_turn : (s t : S) → i < length xs → t ≡ f s (get_or xs i 0) → scan f t (drop (i + 1) xs) ≡ scan f s (drop i xs)
  run_turn s t h e = rw (one_drop xs i h) (ap (λ (u : S). scan f u (drop (i + 1) xs)) e)

  pub run_end : (s : S) → length xs ≤ i → scan f s (drop i xs) ≡ s
  run_end s h = rw (drop_of_length-le xs h)

-- a byte ends at most one line
pub ended_most : (s : Lines) (b : ℕ) → (byte_in s b).ended ≤ s.ended + 1
unfolding byte_in newline_in
ended_most s b = go (b == 10)
  where
    go : (t : Bool) → (t ⇒ newline_in s else record { ended = s.ended; bad = s.bad; line = line_in s.line b }).ended ≤ s.ended + 1
    go true = omega arith
    go false = omega arith

module _ (xs : List ℕ) (i : ℕ) (n : Number) where
  pub words_turn : (m : Number) → i < length xs → m ≡ number_after n (get_or xs i 0) → word_at n (get_or xs i 0) ++ words_from m (drop (i + 1) xs) ≡ words_from n (drop i xs)
  unfolding words_from
  words_turn m h e = rw (one_drop xs i h) (ap (λ (k : Number). word_at n (get_or xs i 0) ++ words_from k (drop (i + 1) xs)) e)

  pub words_length : (m : Number) → i < length xs → m ≡ number_after n (get_or xs i 0) →
      length (word_at n (get_or xs i 0)) + length (words_from m (drop (i + 1) xs)) ≡ length (words_from n (drop i xs))
  words_length m h e = simp length-append at (ap length (words_turn m h e))

  pub words_stores : (calls calls' : List ℕ) (k k' : ℕ) (m : Number) → i < length xs → m ≡ number_after n (get_or xs i 0) →
      k' ≡ k + length (word_at n (get_or xs i 0)) → calls' ≡ sets calls k (word_at n (get_or xs i 0)) →
      sets calls' k' (words_from m (drop (i + 1) xs)) ≡ sets calls k (words_from n (drop i xs))
  words_stores calls calls' k k' m h e p q = then calls calls' (word_at n (get_or xs i 0)) (words_from m (drop (i + 1) xs)) (words_from n (drop i xs)) k k' q p (words_turn m h e)

  pub words_end : length xs ≤ i → words_from n (drop i xs) ≡ []
  unfolding words_from
  words_end h = rw (drop_of_length-le xs h)
