-- The degrees of vertex records: the run over scratch is the walk over lists, and what a sound walk says.
use Rattle.std.specs.Prelude.{◌==◌}
use Prim.Native.Nat.{ℕ, zero, suc, ◌+◌, ◌-◌, ◌≤◌}
use mathlib.Core.Path.{◌≡◌, refl, ap}
use mathlib.Core.Bool.{Bool, true, false}
use mathlib.Core.List.{List, [], ◌∷◌, ◌++◌}
use native.Mathlib.Omega.{arith}
use lib.ListN.{length, get_or, drop}
use borrow.Author.Tests.{eq-eqb, eqb-true, le-ltb}
use Rattle.lists.specs.Lists.{member}
use Rattle.graph.specs.Graph.{Edge}
use Rattle.graph.specs.WellFormed.{words_at}
use Rattle.image.specs.Image.{vertex_size, degree_word, numbers_in}
use Rattle.image_check.specs.Checks.{walk, passed}
use Rattle.image_check.proofs.Walks.{good_degree, degree_walk}
use Rattle.image_check.specs.Scratch.{degree_run}
use Rattle.image.proofs.Sizes.{Size, old, new}
use Rattle.image_check.proofs.Verdicts.{record_same, record_sound}
use Rattle.lists.proofs.Members.{has_self, has_later}
use Rattle.std.specs.Prelude.{Ok}

pub good_range : (degree d : ℕ) → (3 ≤ good_degree degree d) × (good_degree degree d ≤ 4)
good_range degree d = go (d == degree)
  where
    go : (t : Bool) → (3 ≤ passed (true ∷ true ∷ true ∷ t ∷ [])) × (passed (true ∷ true ∷ true ∷ t ∷ []) ≤ 4)
    go true = (omega arith, omega arith)
    go false = (omega arith, omega arith)

pub four_good : (degree d : ℕ) → 4 ≤ good_degree degree d → d ≡ degree
four_good degree d h = go (d == degree) refl h
  where
    go : (t : Bool) → (d == degree) ≡ t → 4 ≤ passed (true ∷ true ∷ true ∷ t ∷ []) → d ≡ degree
    go true e h = eqb-true d degree e
    go false e h = absurd (omega arith)

pub good_degree_lem : (degree d : ℕ) → d ≡ degree → good_degree degree d ≡ 4
good_degree_lem degree d e = rw (eq-eqb d degree e)

-- a record with its degree, or with none, is whole
pub degree_whole : (size : ℕ) → Size size → (n t x degree d : ℕ) (rest : List ℕ) → d ≡ degree → size ≤ good_degree degree (get_or (n ∷ t ∷ x ∷ (degree_word size d ++ rest)) 3 0)
degree_whole size old n t x degree d rest e = (good_range degree (get_or rest 0 0)).0
degree_whole size new n t x degree d rest e = omega (arith, good_degree_lem degree d e)

-- a whole good record has its degree, where it has one
degree_good : (size : ℕ) → Size size → (degree d : ℕ) → size ≤ good_degree degree d → degree_word size d ≡ degree_word size degree
degree_good size old degree d h = refl
degree_good size new degree d h = ap (degree_word vertex_size) (four_good degree d h)

-- records of three words have no degree
pub old_run : (size : ℕ) (deg : List ℕ) (k : ℕ) (ws : List ℕ) (at : ℕ) → size ≤ 3 → degree_run size deg k ws at ≡ Ok tt
unfolding degree_run
old_run size deg zero ws at h = refl
old_run size deg (suc k) ws at h =
    rw (le-ltb (good_degree (get_or deg (get_or ws 0 0) 0 - 1) (get_or ws 3 0)) size (omega (arith, (good_range (get_or deg (get_or ws 0 0) 0 - 1) (get_or ws 3 0)).0)))
    (old_run size deg k (drop size ws) (at + size) h)

pub degree_agrees : (size : ℕ) (es : List Edge) (deg : List ℕ) (k : ℕ) (ws : List ℕ) (at : ℕ) →
    ((v : ℕ) → member v (numbers_in size k ws) ≡ true → get_or deg v 0 - 1 ≡ length (words_at es v)) → degree_run size deg k ws at ≡ degree_walk size es k ws at
unfolding degree_run walk numbers_in
degree_agrees size es deg zero ws at h = refl
degree_agrees size es deg (suc k) ws at h =
    let n = get_or ws 0 0 in
    let ns = numbers_in size k (drop size ws) in
    rw (h n (has_self n ns))
    (record_same size at (good_degree (length (words_at es n)) (get_or ws 3 0)) _ _ λ g.
    degree_agrees size es deg k (drop size ws) (at + size) (λ v m. h v (has_later v n ns m)))

-- a sound walk of one record more: its degree, and the rest
pub degree_step : (size : ℕ) → Size size → (es : List Edge) (k : ℕ) (ws : List ℕ) (at : ℕ) → degree_walk size es (suc k) ws at ≡ Ok tt →
    (degree_word size (get_or ws 3 0) ≡ degree_word size (length (words_at es (get_or ws 0 0)))) × (degree_walk size es k (drop size ws) (at + size) ≡ Ok tt)
unfolding walk
degree_step size z es k ws at s =
    let d = length (words_at es (get_or ws 0 0)) in
    let r = record_sound size at (good_degree d (get_or ws 3 0)) (degree_walk size es k (drop size ws) (at + size)) s in
    (degree_good size z d (get_or ws 3 0) r.0, r.1)
