-- Pairs of edges of two graphs: the counts add up, and are the same either way round where each number stands once.
use Rattle.std.specs.Prelude.{◌==◌}
use Prim.Native.Nat.{ℕ, suc, ◌+◌, ◌≤◌}
use mathlib.Core.Path.{◌≡◌, refl, sym, ap, ap₂, ◌∙◌}
use mathlib.Core.Logic.{◌≢◌}
use mathlib.Core.Bool.{Bool, true, false, not, ◌&&◌, ◌||◌}
use mathlib.Core.List.{List, [], ◌∷◌}
use native.Mathlib.Omega.{arith}
use lib.ListN.{length}
use lib.Dec.{leb}
use borrow.Author.Tests.{eq-eqb, ne_eqb}
use Rattle.lists.specs.Choice.{to_bit}
use Rattle.lists.specs.Lists.{any, sum_of, All, done, more}
use Rattle.lists.specs.Keyed.{count_by_key}
use Rattle.lists.proofs.Bools.{or_false}
use Rattle.lists.proofs.Sums.{bit_le}
use Rattle.lists.proofs.Picks.{pick_yes, pick_no, same, differ, same?, is_yes, is_no, is_zero}
use Rattle.graph.specs.Graph.{Edge, edge_number, edge_in}
use Rattle.graph.specs.declared.Reading.{Reading}
use Rattle.graph.specs.declared.Reading.TheVariants.{Untested, Silent, Heard}
use Rattle.comparison.specs.Comparison.{matches, apart, agrees, alike, how_many, paired, unmatched}

-- ---- sums

module _ {A : Type 0} where
  pub sum_agree : (f g : A → ℕ) {xs : List A} → All (λ (x : A). f x ≡ g x) xs → sum_of f xs ≡ sum_of g xs
  sum_agree f g done = refl
  sum_agree f g (more p a) = ap₂ ◌+◌ p (sum_agree f g a)

  pub sum_same : (f g : A → ℕ) (xs : List A) → ((x : A) → f x ≡ g x) → sum_of f xs ≡ sum_of g xs
  sum_same f g [] h = refl
  sum_same f g (x ∷ xs) h = ap₂ ◌+◌ (h x) (sum_same f g xs h)

  sum_none : (xs : List A) → sum_of (λ (x : A). 0) xs ≡ 0
  sum_none [] = refl
  sum_none (x ∷ xs) = omega (arith, sum_none xs)

  sum_plus : (f g : A → ℕ) (xs : List A) → sum_of f xs + sum_of g xs ≡ sum_of (λ (x : A). f x + g x) xs
  sum_plus f g [] = refl
  sum_plus f g (x ∷ xs) = omega (arith, sum_plus f g xs)

  sum_le : (f g : A → ℕ) (xs : List A) → ((x : A) → f x ≤ g x) → sum_of f xs ≤ sum_of g xs
  sum_le f g [] h = omega arith
  sum_le f g (x ∷ xs) h = omega (arith, h x, sum_le f g xs h)

  -- those that pass and those that do not
  pub many_adds : (p : A → Bool) (xs : List A) → how_many p xs + how_many (λ (x : A). not (p x)) xs ≡ length xs
  many_adds p [] = refl
  many_adds p (x ∷ xs) = go (p x) (many_adds p xs)
    where
      go : (t : Bool) → how_many p xs + how_many (λ (y : A). not (p y)) xs ≡ length xs →
          (to_bit t + how_many p xs) + (to_bit (not t) + how_many (λ (y : A). not (p y)) xs) ≡ suc (length xs)
      go true h = omega arith
      go false h = omega arith

exchange : {A B : Type 0} (f : A → B → ℕ) (xs : List A) (ys : List B) →
    sum_of (λ (x : A). sum_of (λ (y : B). f x y) ys) xs ≡ sum_of (λ (y : B). sum_of (λ (x : A). f x y) xs) ys
exchange f [] ys = sym (sum_none ys)
exchange {B = B} f (x ∷ xs) ys =
    ap (λ (n : ℕ). sum_of (λ (y : B). f x y) ys + n) (exchange f xs ys)
    ∙ sum_plus (λ (y : B). f x y) (λ (y : B). sum_of (λ (z : _). f z y) xs) ys

-- ---- a test of two edges that fails where their numbers differ

abbrev pub ByNumber : (Edge → Edge → Bool) → Type 0
ByNumber q = (e f : Edge) → e.number ≢ f.number → q e f ≡ false

abbrev pub Once : List Edge → Type 0
Once es = (n : ℕ) → count_by_key edge_number n es ≤ 1

module _ (q : Edge → Edge → Bool) (by : ByNumber q) (e : Edge) where
  pub any_none : (fs : List Edge) → count_by_key edge_number e.number fs ≡ 0 → any (q e) fs ≡ false
  any_none [] h = refl
  any_none (f ∷ fs) h =
      let d : e.number ≢ f.number = λ i. is_zero f.number e.number (omega arith) (sym i) in
      rw (by e f d) (any_none fs (omega arith))

  -- the one that has the number decides
  pub any_one : (fs : List Edge) → Once fs → 1 ≤ count_by_key edge_number e.number fs → any (q e) fs ≡ q e (edge_in fs e.number)
  any_one [] u h = absurd (omega arith)
  any_one (f ∷ fs) u h = elim (same? f.number e.number) [
    | same i j ↦
        let z : count_by_key edge_number e.number fs ≡ 0 = omega (arith, u e.number, is_yes f.number e.number i) in
        rw (any_none fs z, pick_yes f.number e.number f (edge_in fs e.number) i) (or_false (q e f))
    | differ i j ↦
        rw (by e f j, pick_no f.number e.number f (edge_in fs e.number) i)
        (any_one fs (λ n. omega (arith, u n)) (omega (arith, is_no f.number e.number i)))
  ]

  bits_none : (fs : List Edge) → count_by_key edge_number e.number fs ≡ 0 → sum_of (λ (f : Edge). to_bit (q e f)) fs ≡ 0
  bits_none [] h = refl
  bits_none (f ∷ fs) h =
      let d : e.number ≢ f.number = λ i. is_zero f.number e.number (omega arith) (sym i) in
      rw (by e f d) (omega (arith, bits_none fs (omega arith)))

  bits : (fs : List Edge) → Once fs → to_bit (any (q e) fs) ≡ sum_of (λ (f : Edge). to_bit (q e f)) fs
  bits [] u = refl
  bits (f ∷ fs) u = elim (same? f.number e.number) [
    | same i j ↦
        let z : count_by_key edge_number e.number fs ≡ 0 = omega (arith, u e.number, is_yes f.number e.number i) in
        rw (any_none fs z, bits_none fs z) (go (q e f))
    | differ i j ↦ rw (by e f j) (omega (arith, bits fs (λ n. omega (arith, u n))))
  ]
    where
      go : (t : Bool) → to_bit (t || false) ≡ to_bit t + 0
      go true = refl
      go false = refl

-- as many edges of the one have a pair as of the other
pub paired_swap : (q : Edge → Edge → Bool) → ByNumber q → ((e f : Edge) → q e f ≡ q f e) → (es fs : List Edge) → Once es → Once fs →
    paired q es fs ≡ paired q fs es
paired_swap q by turns es fs u v =
    sum_same (λ (e : Edge). to_bit (any (q e) fs)) (λ (e : Edge). sum_of (λ (f : Edge). to_bit (q e f)) fs) es (λ e. bits q by e fs v)
    ∙ exchange (λ (e f : Edge). to_bit (q e f)) es fs
    ∙ sum_same (λ (f : Edge). sum_of (λ (e : Edge). to_bit (q e f)) es) (λ (f : Edge). to_bit (any (q f) es)) fs λ f.
    sum_same (λ (e : Edge). to_bit (q e f)) (λ (e : Edge). to_bit (q f e)) es (λ e. ap to_bit (turns e f))
    ∙ sym (bits q by f es u)

-- ---- matches and agreements

eqb_turns : (m n : ℕ) → (m == n) ≡ (n == m)
eqb_turns m n = elim (same? m n) [ same i j ↦ rw (eq-eqb m n i, eq-eqb n m j) | differ i j ↦ rw (ne_eqb m n i, ne_eqb n m j) ]

pub matches_turns : (e f : Edge) → matches e f ≡ matches f e
matches_turns e f =
    rw (eqb_turns e.number f.number, eqb_turns e.alpha f.alpha, eqb_turns e.omega f.omega)

pub agrees_turns : (t : ℕ) (x y : Reading) → agrees t x y ≡ agrees t y x
agrees_turns t Untested Untested = refl
agrees_turns t Untested Silent = refl
agrees_turns t Untested (Heard y) = refl
agrees_turns t Silent Untested = refl
agrees_turns t Silent Silent = refl
agrees_turns t Silent (Heard y) = refl
agrees_turns t (Heard x) Untested = refl
agrees_turns t (Heard x) Silent = refl
agrees_turns t (Heard x) (Heard y) = let e : apart x y ≡ apart y x = omega arith in ap (λ (n : ℕ). leb n t) e

pub alike_turns : (t : ℕ) (e f : Edge) → alike t e f ≡ alike t f e
alike_turns t e f = ap₂ ◌&&◌ (matches_turns e f) (agrees_turns t e.reading f.reading)

pub matches_by : ByNumber matches
matches_by e f h = rw (ne_eqb e.number f.number h)

pub alike_by : (t : ℕ) → ByNumber (alike t)
alike_by t e f h = rw (ne_eqb e.number f.number h)

-- ---- the laws of the counts

pub first_adds : (es fs : List Edge) → paired matches es fs + unmatched es fs ≡ length es
first_adds es fs = many_adds (λ (e : Edge). any (matches e) fs) es

pub matched_swap : (es fs : List Edge) → Once es → Once fs → paired matches es fs ≡ paired matches fs es
matched_swap es fs u v = paired_swap matches matches_by matches_turns es fs u v

pub agreeing_swap : (t : ℕ) (es fs : List Edge) → Once es → Once fs → paired (alike t) es fs ≡ paired (alike t) fs es
agreeing_swap t es fs u v = paired_swap (alike t) (alike_by t) (alike_turns t) es fs u v

pub second_adds : (es fs : List Edge) → Once es → Once fs → paired matches es fs + unmatched fs es ≡ length fs
second_adds es fs u v = omega (arith, matched_swap es fs u v, first_adds fs es)

-- with no premise
pub agreeing_few : (t : ℕ) (es fs : List Edge) → paired (alike t) es fs ≤ paired matches es fs
agreeing_few t es fs = sum_le (λ (e : Edge). to_bit (any (alike t e) fs)) (λ (e : Edge). to_bit (any (matches e) fs)) es (λ e. fewer e fs)
  where
    both : (a b c d : Bool) → to_bit c ≤ to_bit d → to_bit ((a && b) || c) ≤ to_bit (a || d)
    both true true c d h = omega arith
    both true false c d h = omega (arith, bit_le c)
    both false b c d h = h

    fewer : (e : Edge) (gs : List Edge) → to_bit (any (alike t e) gs) ≤ to_bit (any (matches e) gs)
    fewer e [] = omega arith
    fewer e (g ∷ gs) = both (matches e g) (agrees t e.reading g.reading) (any (alike t e) gs) (any (matches e) gs) (fewer e gs)
