-- The steps counted through from the first.
use Rattle.std.specs.Prelude.{◌==◌}
use Prim.Native.Nat.{ℕ, zero, suc, ◌+◌, ◌-◌, ◌≤◌, ◌<◌}
use mathlib.Core.Path.{◌≡◌, refl, sym, ap, ◌∙◌}
use mathlib.Core.Bool.{Bool, true, false, ◌&&◌}
use mathlib.Core.List.{List, [], ◌∷◌}
use native.Mathlib.Omega.{arith}
use lib.Dec.{leb}
use lib.ListN.{length, take, drop}
use borrow.Author.Tests.{le-leb, lt-leb, leb-true, leb-false}
use Rattle.lists.specs.Choice.{to_bit}
use Rattle.graph.specs.Graph.{Graph}
use Rattle.history.specs.Machine.{Step, made_by}
use Rattle.history.proofs.Benches.{made_length}
use Rattle.journal.specs.Rows.{step_at, bench_at}
use Rattle.timeline.specs.Steps.{rows_to, StepsAt, Behind}
use Rattle.timeline.proofs.Steps.{NextStep, next_step}

first_more : (t : List ℕ) (g : Graph) (b i p : ℕ) (ss : List Step) → StepsAt t g i ss → p < length ss
    → made_by b (take (suc p) ss) ≡ made_by b (take p ss) + to_bit (bench_at t (rows_to i p ss) == b)
first_more t g b i p [] l h = absurd (omega arith)
first_more t g b i zero (x ∷ ss) l h = let e = ap (λ (k : ℕ). to_bit (k == b)) l.0.benched in omega (arith, e)
first_more t g b i (suc p) (x ∷ ss) l h = omega (arith, first_more t g b (i + x.cost) p ss l.1 (omega arith))

-- step p + 1, counted where it lies above `low`
one_more : (t : List ℕ) (g : Graph) (low b i p : ℕ) (ss : List Step) → StepsAt t g i ss → p < length ss
    → made_by b (take (suc p - low) (drop low ss)) ≡ made_by b (take (p - low) (drop low ss)) + to_bit (leb low p && (bench_at t (rows_to i p ss) == b))
one_more t g low b i p [] l h = absurd (omega arith)
one_more t g zero b i p (x ∷ ss) l h =
    let e : suc p - zero ≡ suc p = omega arith in
    let f : p - zero ≡ p = omega arith in
    rw (e, f, le-leb zero p (omega arith)) (first_more t g b i p (x ∷ ss) l h)
one_more t g (suc low) b i zero (x ∷ ss) l h =
    let e : suc zero - suc low ≡ 0 = omega arith in
    let f : zero - suc low ≡ 0 = omega arith in
    rw (e, f, lt-leb (suc low) zero (omega arith))
one_more t g (suc low) b i (suc p) (x ∷ ss) l h =
    let e : suc (suc p) - suc low ≡ suc p - low = omega arith in
    let f : suc p - suc low ≡ p - low = omega arith in
    let k : leb (suc low) (suc p) ≡ leb low p = shift low p in
    rw (e, f, k) (one_more t g low b (i + x.cost) p ss l.1 (omega arith))
  where
    shift : (m n : ℕ) → leb (suc m) (suc n) ≡ leb m n
    shift m n = go (leb m n) refl
      where
        go : (u : Bool) → leb m n ≡ u → leb (suc m) (suc n) ≡ u
        go true f = let i = leb-true m n f in le-leb (suc m) (suc n) (omega arith)
        go false f = let i = leb-false m n f in lt-leb (suc m) (suc n) (omega arith)

take_most : (n : ℕ) (ss : List Step) → length (take n ss) ≤ n
take_most zero ss = omega arith
take_most (suc n) [] = omega arith
take_most (suc n) (x ∷ ss) = omega (arith, take_most n ss)

-- what a turn of the loop makes of place, row and count
pub record Counted (t : List ℕ) (g : Graph) (ss : List Step) (low high bench place row n : ℕ) : Type 0 where
  pub behind : Behind t g ss place row
  pub upto : place ≤ high
  pub count : n ≡ made_by bench (take (place - low) (drop low ss))

module _ (t : List ℕ) (g : Graph) (ss : List Step) (low high bench : ℕ) where
  pub count_start : (u : ℕ) → Behind t g ss high u → Counted t g ss low high bench 0 0 0
  count_start u k = record {
    behind = record { steps_at = k.steps_at; within = k.within; short = k.short; inside = omega arith; used = refl };
    upto = omega arith;
    count = let e : 0 - low ≡ 0 = omega arith in ap (λ (i : ℕ). made_by bench (take i (drop low ss))) (sym e);
  }

  module _ (place row n : ℕ) (k : Counted t g ss low high bench place row n) (inside : high ≤ length ss) (less : place < high) where
    pub count_next : NextStep t g ss place row false
    count_next = next_step t g ss place row k.behind false (omega (arith, less, inside))

    pub count_on : (cost more : ℕ) → cost ≡ (step_at t row).cost → more ≡ to_bit (leb low place && (bench_at t row == bench))
        → Counted t g ss low high bench (place + 1) (row + cost) (n + more)
    count_on cost more e f = record {
      behind = rw (e ∙ count_next.word) count_next.after;
      upto = omega (arith, less);
      count =
          let z : place + 1 ≡ suc place = omega arith in
          let b : bench_at t row ≡ bench_at t (rows_to 0 place ss) = ap (bench_at t) k.behind.used in
          let m : more ≡ to_bit (leb low place && (bench_at t (rows_to 0 place ss) == bench)) = f ∙ ap (λ (i : ℕ). to_bit (leb low place && (i == bench))) b in
          omega (arith, k.count, m, one_more t g low bench 0 place ss k.behind.steps_at (omega (arith, less, inside)), ap (λ (i : ℕ). made_by bench (take (i - low) (drop low ss))) z);
    }

  -- no more are counted than were passed
  pub count_le : (place row n : ℕ) → Counted t g ss low high bench place row n → n ≤ place
  count_le place row n k =
      omega (
        arith,
        k.count,
        made_length bench (take (place - low) (drop low ss)),
        take_most (place - low) (drop low ss),
      )
