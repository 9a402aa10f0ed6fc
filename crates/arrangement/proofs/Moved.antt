-- Words wanted of a keyed list, one put directly after the other.
use Prim.Native.Nat.{ℕ, ◌+◌, ◌≤◌}
use mathlib.Core.Path.{◌≡◌, refl}
use mathlib.Core.Logic.{◌≢◌}
use mathlib.Core.List.{List, [], ◌∷◌}
use native.Mathlib.Omega.{arith}
use Rattle.lists.specs.Choice.{indicator}
use Rattle.lists.specs.Keyed.{count_by_key, put_after}
use Rattle.lists.specs.Arranged.{in_order}
use Rattle.lists.proofs.Picks.{is_yes, is_zero}
use Rattle.lists.proofs.Arranged.{times, find_key, count_put}
use Rattle.graph.specs.Graph.{itself}

-- words in an order wanted are the words wanted
pub order_words : (ws l : List ℕ) → ((n : ℕ) → times n ws ≤ count_by_key itself n l) → in_order itself 0 ws l ≡ ws
order_words [] l h = refl
order_words (w ∷ ws) l h =
    let e = find_key itself 0 w l (omega (arith, h w, is_yes w w refl)) in
    λ i. e i ∷ order_words ws l (λ n. omega (arith, h n)) i

-- what holds of the one before, b, and of those still wanted: they are keys of the list, each once
pub record Wanted {A : Type 0} (key : A → ℕ) (b : ℕ) (ws : List ℕ) (l : List A) : Type 0 where
  pub first : 1 ≤ count_by_key key b l
  pub apart : times b ws ≡ 0
  pub once : (n : ℕ) → times n ws ≤ 1
  pub there : (n : ℕ) → times n ws ≤ count_by_key key n l

module _ {A : Type 0} (key : A → ℕ) (d : A) (b a : ℕ) (ws : List ℕ) (l : List A) (h : Wanted key b (a ∷ ws) l) where
  pub next_there : 1 ≤ count_by_key key a l
  next_there = omega (arith, h.there a, is_yes a a refl)

  pub next_apart : a ≢ b
  next_apart = is_zero a b (omega (arith, h.apart))

  pub next_wanted : Wanted key a ws (put_after key d a b l)
  next_wanted = record {
    first = omega (arith, count_put key d a a b l next_there, next_there);
    apart = omega (arith, h.once a, is_yes a a refl);
    once = λ n. omega (arith, h.once n);
    there = λ n. omega (arith, h.there n, count_put key d n a b l next_there);
  }

-- where the wanted words are the keys, each once
pub all_wanted : {A : Type 0} (key : A → ℕ) (b : ℕ) (ws : List ℕ) (l : List A) → ((n : ℕ) → indicator 0 n + count_by_key key n l ≤ 1) → ((n : ℕ) → times n (b ∷ ws) ≡ count_by_key key n l)
    → Wanted key b ws l
all_wanted key b ws l u c = record {
  first = omega (arith, c b, is_yes b b refl);
  apart = omega (arith, c b, u b, is_yes b b refl);
  once = λ n. omega (arith, c n, u n);
  there = λ n. omega (arith, c n);
}
