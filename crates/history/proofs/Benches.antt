-- The steps between two places, and how many of them each bench made.
use Rattle.std.specs.Prelude.{◌==◌}
use Prim.Native.Nat.{ℕ, zero, suc, ◌+◌, ◌-◌, ◌≤◌, ◌<◌}
use mathlib.Core.Path.{◌≡◌, refl, sym, ap, ◌∙◌}
use mathlib.Core.List.{List, [], ◌∷◌, ◌++◌}
use native.Mathlib.Omega.{arith}
use lib.ListN.{length, take, drop, length-append, length-drop}
use lib.Seq.{length-take-le}
use borrow.Author.Tests.{eq-eqb, ne_eqb}
use Rattle.lists.specs.Choice.{to_bit}
use Rattle.lists.specs.Lists.{sum_of, range, All, done, more}
use Rattle.lists.proofs.Sums.{sum_append, all_append, bit_le}
use Rattle.lists.proofs.Picks.{same, differ, same?}
use Rattle.history.specs.Machine.{Step, distance, steps_between, made_by}

-- ---- sums over a range

pub sum_same : (n : ℕ) (f g : ℕ → ℕ) → ((i : ℕ) → i < n → f i ≡ g i) → sum_of f (range n) ≡ sum_of g (range n)
sum_same zero f g h = refl
sum_same (suc n) f g h =
    sum_append f (range n) (n ∷ []) ∙ (λ k. sum_same n f g (λ i l. h i (omega arith)) k + (h n (omega arith) k + 0)) ∙ sym (sum_append g (range n) (n ∷ []))

pub sum_zero : (n : ℕ) → sum_of (λ (i : ℕ). 0) (range n) ≡ 0
sum_zero zero = refl
sum_zero (suc n) = sum_append (λ (i : ℕ). 0) (range n) (n ∷ []) ∙ omega (arith, sum_zero n)

sum_add : (f g : ℕ → ℕ) (xs : List ℕ) → sum_of (λ i. f i + g i) xs ≡ sum_of f xs + sum_of g xs
sum_add f g [] = refl
sum_add f g (x ∷ xs) = omega (arith, sum_add f g xs)

no_hit : (n b : ℕ) → n ≤ b → sum_of (λ i. to_bit (b == i)) (range n) ≡ 0
no_hit zero b h = refl
no_hit (suc n) b h =
    let e : to_bit (b == n) ≡ 0 = ap to_bit (ne_eqb b n (omega arith)) in
    sum_append (λ i. to_bit (b == i)) (range n) (n ∷ []) ∙ omega (arith, no_hit n b (omega arith), e)

one_hit : (n b : ℕ) → b < n → sum_of (λ i. to_bit (b == i)) (range n) ≡ 1
one_hit zero b h = absurd (omega arith)
one_hit (suc n) b h = sum_append (λ i. to_bit (b == i)) (range n) (n ∷ []) ∙ elim (same? b n) [
  | same u v ↦ let e : to_bit (b == n) ≡ 1 = ap to_bit (eq-eqb b n u) in omega (arith, no_hit n b (omega arith), e)
  | differ u v ↦ let e : to_bit (b == n) ≡ 0 = ap to_bit (ne_eqb b n u) in omega (arith, one_hit n b (omega (arith, u)), e)
]

-- ---- steps

pub made_length : (b : ℕ) (ss : List Step) → made_by b ss ≤ length ss
made_length b [] = omega arith
made_length b (s ∷ ss) = omega (arith, made_length b ss, bit_le (s.bench == b))

-- each step was made by one bench
pub made_adds : (n : ℕ) {ss : List Step} → All (λ (s : Step). s.bench < n) ss → sum_of (λ b. made_by b ss) (range n) ≡ length ss
made_adds n done = sum_zero n
made_adds n (more {x} {xs} h hs) =
    sum_add (λ b. to_bit (x.bench == b)) (λ b. made_by b xs) (range n) ∙ omega (arith, one_hit n x.bench h, made_adds n hs)

all_take : {P : Step → Type 0} (n : ℕ) {ss : List Step} → All P ss → All P (take n ss)
all_take zero h = done
all_take (suc n) done = done
all_take (suc n) (more h hs) = more h (all_take n hs)

all_drop : {P : Step → Type 0} (n : ℕ) {ss : List Step} → All P ss → All P (drop n ss)
all_drop zero h = h
all_drop (suc n) done = done
all_drop (suc n) (more h hs) = all_drop n hs

pub all_between : {P : Step → Type 0} (p q : ℕ) {ss : List Step} → All P ss → All P (steps_between p q ss)
all_between p q h = all_append (all_take (q - p) (all_drop p h)) (all_take (p - q) (all_drop q h))

pub all_cut : {P : Step → Type 0} (p : ℕ) {ss : List Step} (s : Step) → All P ss → P s → All P (take p ss ++ (s ∷ []))
all_cut p s h i = all_append (all_take p h) (more i done)

pub between_length : (p q : ℕ) (ss : List Step) → p ≤ length ss → q ≤ length ss → length (steps_between p q ss) ≡ distance p q
between_length p q ss i j =
    let x : length (take (q - p) (drop p ss)) ≡ q - p = length-take-le (q - p) (drop p ss) (rw (length-drop p ss) (omega arith)) in
    let y : length (take (p - q) (drop q ss)) ≡ p - q = length-take-le (p - q) (drop q ss) (rw (length-drop q ss) (omega arith)) in
    length-append (take (q - p) (drop p ss)) (take (p - q) (drop q ss)) ∙ omega (arith, x, y)

-- one of the two parts is empty
pub made_up : (b p q : ℕ) (ss : List Step) → p ≤ q → made_by b (take (q - p) (drop p ss)) ≡ made_by b (steps_between p q ss)
made_up b p q ss h =
    let e : 0 ≡ p - q = omega arith in
    let f : Step → ℕ = λ s. to_bit (s.bench == b) in
    let z : made_by b (take (q - p) (drop p ss)) ≡ made_by b (take (q - p) (drop p ss)) + 0 = omega arith in
    z ∙ sym (sum_append f (take (q - p) (drop p ss)) []) ∙ ap (λ (n : ℕ). made_by b (take (q - p) (drop p ss) ++ take n (drop q ss))) e

pub made_down : (b p q : ℕ) (ss : List Step) → q ≤ p → made_by b (take (p - q) (drop q ss)) ≡ made_by b (steps_between p q ss)
made_down b p q ss h = let e : 0 ≡ q - p = omega arith in ap (λ (n : ℕ). made_by b (take n (drop p ss) ++ take (p - q) (drop q ss))) e
