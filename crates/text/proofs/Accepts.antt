-- Which inputs are lists of calls: exactly those of lines of five good numbers, within the two limits.
use Rattle.std.specs.Prelude.{◌==◌}
use Prim.Native.Nat.{ℕ, ◌*◌, ◌≤◌}
use mathlib.Core.Path.{◌≡◌, refl, sym, ap, ◌∙◌}
use mathlib.Core.Bool.{Bool, true, false}
use mathlib.Core.List.{List, [], ◌∷◌, ◌++◌}
use native.Mathlib.Omega.{arith}
use lib.ListN.{length}
use lib.Dec.{ltb}
use borrow.Author.Tests.{leb-true, ltb-false, le-ltb, eqb-true, eq-eqb, ne_eqb}
use Rattle.lists.specs.Choice.{◌⇒◌else◌}
use Rattle.lists.specs.Lists.{all, All, done, more}
use Rattle.lists.proofs.Bools.{and_true, and_both}
use Rattle.lists.proofs.Sums.{all_bool}
use Rattle.text.specs.Reading.{calls, unreadable, digit, pieces, good_number, good_line, line_count, first_bad, words_in, read_text}
use Rattle.text.proofs.Pieces.{Free, Parts, rest, cut, parts, pieces_rest, pieces_cut, NonEmpty, nonempty, pieces_nonempty}
use Rattle.text.proofs.Scans.{Good, good, good_none, good_digits, words_count}

-- ---- a good line is five good numbers with one space between

abbrev pub joined : ℕ → List (List ℕ) → List ℕ
joined s [] = []
joined s (p ∷ []) = p
joined s (p ∷ q ∷ ps) = p ++ s ∷ joined s (q ∷ ps)

pub record Five (l : List ℕ) (numbers : List (List ℕ)) : Type 0 where
  pub five : length numbers ≡ 5
  pub good : all good_number numbers ≡ true
  pub spaces : l ≡ joined 32 numbers

module _ (s : ℕ) where
  joined_cons : (p : List ℕ) {ls : List (List ℕ)} → NonEmpty ls → joined s (p ∷ ls) ≡ p ++ s ∷ joined s ls
  joined_cons p (nonempty l ls) = refl

  pieces_joined : {xs : List ℕ} → Parts s xs → joined s (pieces s xs) ≡ xs
  pieces_joined (rest f) = rw (pieces_rest s f)
  pieces_joined (cut {p = p} {xs = xs} f q) = rw (pieces_cut s f xs, joined_cons p (pieces_nonempty s q)) (ap (λ (l : List ℕ). p ++ s ∷ l) (pieces_joined q))

  joined_pieces : (p : List ℕ) {ls : List (List ℕ)} → Free s p → All (Free s) ls → pieces s (joined s (p ∷ ls)) ≡ p ∷ ls
  joined_pieces p f done = pieces_rest s f
  joined_pieces p f (more {x = q} {xs = qs} g h) = pieces_cut s f (joined s (q ∷ qs)) ∙ ap (λ (ls : List (List ℕ)). p ∷ ls) (joined_pieces q g h)

pub no_space : (p : List ℕ) → good_number p ≡ true → Free 32 p
no_space p e = all_bool digit (λ x f. ne_eqb x 32 (λ z. omega (arith, leb-true 48 x (and_true _ _ f).0))) p (good_digits p e)

pub line_numbers : (l : List ℕ) → good_line l ≡ true → Five l (pieces 32 l)
unfolding good_line
line_numbers l e =
    let a = and_true (length (pieces 32 l) == 5) (all good_number (pieces 32 l)) e in
    record { five = eqb-true (length (pieces 32 l)) 5 a.0; good = a.1; spaces = sym (pieces_joined 32 (parts 32 l)) }

pub numbers_line : (l : List ℕ) (numbers : List (List ℕ)) → Five l numbers → good_line l ≡ true
unfolding good_line
numbers_line l [] v = absurd (omega (arith, v.five))
numbers_line l (p ∷ ls) v =
    let a = and_true (good_number p) (all good_number ls) v.good in
    let e : pieces 32 l ≡ p ∷ ls = ap (pieces 32) v.spaces ∙ joined_pieces 32 p (no_space p a.0) (all_bool good_number no_space ls a.1) in
    rw e (and_both (length (p ∷ ls) == 5) (all good_number (p ∷ ls)) (eq-eqb (length (p ∷ ls)) 5 v.five) v.good)

-- ---- the whole input

pub record Accepted (bytes ws : List ℕ) : Type 0 where
  pub short : length bytes ≤ 60000
  pub few : line_count (pieces 10 bytes) ≤ 1000
  pub lines : Good bytes
  pub words : ws ≡ words_in (pieces 10 bytes)

pub accepts : (bytes ws : List ℕ) → Accepted bytes ws → read_text bytes ≡ calls ws
unfolding read_text
accepts bytes ws a =
    let n : line_count (pieces 10 bytes) ≤ 1000 = a.few in
    rw (le-ltb 60000 (length bytes) a.short, le-ltb 1000 (line_count (pieces 10 bytes)) n, good_none a.lines 1) (ap calls (sym a.words))

no_calls : {X : Type 0} (n : ℕ) (ws : List ℕ) → unreadable n ≡ calls ws → X
no_calls n ws e = let z : ◌≡◌ {A = ℕ} 0 1 = cc in absurd (omega arith)

pub accepted_only : (bytes ws : List ℕ) → read_text bytes ≡ calls ws → Accepted bytes ws
unfolding read_text
accepted_only bytes ws = go (ltb 60000 (length bytes)) refl (ltb 1000 (line_count (pieces 10 bytes))) refl (first_bad 1 (pieces 10 bytes) == 0) refl
  where
    go : (s : Bool) → ltb 60000 (length bytes) ≡ s → (t : Bool) → ltb 1000 (line_count (pieces 10 bytes)) ≡ t → (u : Bool) → (first_bad 1 (pieces 10 bytes) == 0) ≡ u →
        (s ⇒ unreadable 0 else t ⇒ unreadable 1001 else u ⇒ calls (words_in (pieces 10 bytes)) else unreadable (first_bad 1 (pieces 10 bytes))) ≡ calls ws → Accepted bytes ws
    go true a t b u d e = no_calls 0 ws e
    go false a true b u d e = no_calls 1001 ws e
    go false a false b false d e = no_calls (first_bad 1 (pieces 10 bytes)) ws e
    go false a false b true d e = record {
      short = ltb-false 60000 (length bytes) a;
      few = ltb-false 1000 (line_count (pieces 10 bytes)) b;
      lines = good (parts 10 bytes) 1 (omega arith) (eqb-true (first_bad 1 (pieces 10 bytes)) 0 d);
      words = cc;
    }

-- five words a line
pub five_a_line : (bytes ws : List ℕ) → read_text bytes ≡ calls ws → length ws ≡ 5 * line_count (pieces 10 bytes)
five_a_line bytes ws e = let a = accepted_only bytes ws e in ap length a.words ∙ words_count a.lines

pub words_most : (bytes ws : List ℕ) → read_text bytes ≡ calls ws → length ws ≤ 5000
words_most bytes ws e = omega (arith, five_a_line bytes ws e, (accepted_only bytes ws e).few)
