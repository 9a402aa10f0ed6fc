-- One turn of each loop: what a run says of the words from `at` on, by what stands there.
use Rattle.std.specs.Prelude.{◌==◌}
use Prim.Native.Nat.{ℕ, zero, suc, ◌+◌, ◌*◌, ◌-◌, ◌≤◌, ◌<◌}
use mathlib.Core.Path.{◌≡◌, refl, sym, ap, ap₂, subst}
use mathlib.Core.Bool.{Bool, true, false}
use mathlib.Core.List.{List, [], ◌∷◌, ◌++◌}
use native.Mathlib.Omega.{arith}
use lib.Dec.{eqb, ltb}
use lib.ListN.{length, length-append, get_or, get_or-append, drop, set, replicate, drop_of_length-le}
use lib.Seq.{drop-cons, drop-append_seam}
use borrow.Author.Tests.{eq-eqb, ne_eqb, lt-ltb, le-ltb, ltb-true}
use Rattle.lists.specs.Choice.{◌⇒◌else◌}
use Rattle.lists.proofs.Bools.{within_range}
use Rattle.lists.proofs.Picks.{same?, same, differ}
use Rattle.lists.proofs.WordLaws.{word_at, first_at, one_drop, inside}
use Rattle.image_check.specs.Checks.{part_limits}
use Rattle.image_check.proofs.Walks.{good_vertex}
use Rattle.image_check.proofs.Verdicts.{vertex_ok, edge_ok}
use Rattle.image_check.specs.Scratch.{NoneAbove, bumped, with_ends, edge_good, edge_ends, edge_owned, vertex_run, vertex_marks, edge_run, edge_degrees, edge_owners, degree_run, list_run}
use Rattle.image_check.specs.Scratch.{list_owners, incidence_run}
use Rattle.std.specs.Prelude.{Ok, Err}
use Rattle.image_check.specs.declared.BadImage.TheVariants.{Record, Incidence}

-- ---- one turn of a loop over records: x is the record at `at`, and rest the words behind it

-- where words are left a record is left, and where fewer are than a record has none is
pub turn_on : (size d n : ℕ) → size * d ≡ n → 1 ≤ n → 1 ≤ d
turn_on size zero n e h = omega (arith, e, h)
turn_on size (suc d) n e h = omega arith

pub none_left : (size d n : ℕ) → size * d ≡ n → n < size → d ≡ 0
none_left size zero n e h = omega arith
none_left size (suc d) n e h = absurd (omega (arith, e, h))

-- the records left are those behind this one, and it
pub row_next : (size count i n m : ℕ) → i < count → size * (count - i) ≡ n → n ≡ size + m → size * (count - (i + 1)) ≡ m
row_next size count i n m turn e f =
    let left : count - i ≡ suc (count - (i + 1)) = omega arith in
    let g : size * suc (count - (i + 1)) ≡ n = subst (λ (k : ℕ). size * k ≡ n) left e in omega (arith, f, g)

pub parted : (x rest ws : List ℕ) (size : ℕ) → ws ≡ x ++ rest → length x ≡ size → length ws ≡ size + length rest
parted x rest ws size cut long = rw (cut, ← long) (length-append x rest)

-- there is a record left, and so many behind it
pub turn_of : (size count i : ℕ) (x rest ws : List ℕ) → 3 ≤ size → ws ≡ x ++ rest → length x ≡ size → size * (count - i) ≡ length ws →
    (i < count) × (size * (count - (i + 1)) ≡ length rest)
turn_of size count i x rest ws three cut long e =
    let p = parted x rest ws size cut long in
    let d = turn_on size (count - i) (length ws) e (omega (arith, p)) in
    let turn : i < count = omega (arith, d) in
    (turn, row_next size count i (length ws) (length rest) turn e p)

pub piece_of : (size left : ℕ) (x rest ws : List ℕ) → 3 ≤ size → ws ≡ x ++ rest → length x ≡ size → size * left ≡ length ws →
    (m : ℕ) × (left ≡ suc m) × (size * m ≡ length rest)
piece_of size zero x rest ws three cut long e = absurd (omega (arith, e, parted x rest ws size cut long))
piece_of size (suc m) x rest ws three cut long e = (m, refl, omega (arith, e, parted x rest ws size cut long))

-- how far the records before reach
pub along : (size i n : ℕ) (x rest ws : List ℕ) → ws ≡ x ++ rest → length x ≡ size → size * i + length ws ≡ n → size * (i + 1) + length rest ≡ n
along size i n x rest ws cut long e = omega (arith, e, parted x rest ws size cut long)

module _ (size count i : ℕ) (x rest ws : List ℕ) (turn : i < count) (cut : ws ≡ x ++ rest) (long : length x ≡ size) where
  left : count - i ≡ suc (count - (i + 1))
  left = omega arith

  behind : drop size ws ≡ rest
  behind = rw (cut, ← long) (drop-append_seam x rest)

  word : (j : ℕ) → j < size → get_or ws j 0 ≡ get_or x j 0
  word j h = rw cut (get_or-append x rest 0 j (omega (arith, h, long)))

  module _ (three : 3 ≤ size) (cap types : ℕ) (deg : List ℕ) (at g : ℕ) (good : g ≡ good_vertex cap types (eqb (get_or deg (get_or x 0 0) 0) 0) (get_or x 0 0) (get_or x 1 0) 0) where
    pub vertex_stop : g < 3 → Err (Record (at + g)) ≡ vertex_run size (part_limits cap types) deg (count - i) ws at
    unfolding vertex_run
    vertex_stop h = rw (left, word 0 (omega arith), word 1 (omega arith), ← good, lt-ltb g 3 h)

    pub vertex_go : 3 ≤ g → (to : ℕ) → to ≡ at + size →
        vertex_run size (part_limits cap types) (set deg (get_or x 0 0) 1) (count - (i + 1)) rest to ≡ vertex_run size (part_limits cap types) deg (count - i) ws at
    unfolding vertex_run
    vertex_go h to e = rw (left, word 0 (omega arith), word 1 (omega arith), ← good, le-ltb g 3 h, behind, e)

  pub marks_go : 3 ≤ size → (deg : List ℕ) → vertex_marks size (set deg (get_or x 0 0) 1) (count - (i + 1)) rest ≡ vertex_marks size deg (count - i) ws
  unfolding vertex_marks
  marks_go three deg =
      rw left
      (ap₂ (λ (d l : List ℕ). vertex_marks size d (count - (i + 1)) l) (ap (λ (n : ℕ). set deg n 1) (sym (word 0 (omega arith)))) (sym behind))

  module _ (four : size ≡ 4) (deg : List ℕ) (at d y : ℕ) (degree : d ≡ get_or deg (get_or x 0 0) 0 - 1) (is : y ≡ get_or x 3 0) where
    pub degree_stop : (y ≡ d → ⊥) → Err (Record (at + 3)) ≡ degree_run size deg (count - i) ws at
    unfolding degree_run
    degree_stop h = rw (left, word 0 (omega arith), word 3 (omega arith), ← degree, ← is, ne_eqb y d h, four)

    pub degree_go : y ≡ d → (to : ℕ) → to ≡ at + size → degree_run size deg (count - (i + 1)) rest to ≡ degree_run size deg (count - i) ws at
    unfolding degree_run
    degree_go h to e = rw (left, word 0 (omega arith), word 3 (omega arith), ← degree, ← is, eq-eqb y d h, behind, e, four)
        (ap (λ (s : ℕ). degree_run s deg (count - (i + 1)) rest (at + 4)) (sym four))

module _ (count i : ℕ) (x rest ws : List ℕ) (turn : i < count) (cut : ws ≡ x ++ rest) (long : length x ≡ 6) where
  six : (j : ℕ) → j < 6 → get_or ws j 0 ≡ get_or x j 0
  six j h = word 6 count i x rest ws turn cut long j h

  edge_same : (cap types : ℕ) (deg own : List ℕ) → edge_good (part_limits cap types) deg own ws ≡ edge_good (part_limits cap types) deg own x
  edge_same cap types deg own =
      rw (six 0 (omega arith), six 1 (omega arith), six 2 (omega arith), six 3 (omega arith), six 4 (omega arith), six 5 (omega arith))

  module _ (cap types : ℕ) (deg own : List ℕ) (at g : ℕ) (good : g ≡ edge_good (part_limits cap types) deg own x) where
    pub edge_stop : g < 6 → Err (Record (at + g)) ≡ edge_run (part_limits cap types) deg own (count - i) ws at
    unfolding edge_run
    edge_stop h = rw (left 6 count i x rest ws turn cut long, edge_same cap types deg own, ← good, lt-ltb g 6 h)

    pub edge_go : 6 ≤ g → (to : ℕ) → to ≡ at + 6 →
        edge_run (part_limits cap types) (edge_ends x 0 deg) (edge_owned x 0 own) (count - (i + 1)) rest to ≡ edge_run (part_limits cap types) deg own (count - i) ws at
    unfolding edge_run
    edge_go h to e =
        rw (
          left 6 count i x rest ws turn cut long,
          edge_same cap types deg own,
          ← good,
          le-ltb g 6 h,
          six 0 (omega arith),
          six 1 (omega arith),
          six 2 (omega arith),
          behind 6 count i x rest ws turn cut long,
          e,
        )

  ends_same : (deg : List ℕ) → edge_ends x 0 deg ≡ edge_ends ws 0 deg
  ends_same deg = rw (six 1 (omega arith), six 2 (omega arith))

  owned_same : (own : List ℕ) → edge_owned x 0 own ≡ edge_owned ws 0 own
  owned_same own = rw (six 0 (omega arith), six 1 (omega arith), six 2 (omega arith))

  pub degrees_go : (deg : List ℕ) → edge_degrees (edge_ends x 0 deg) (count - (i + 1)) rest ≡ edge_degrees deg (count - i) ws
  unfolding edge_degrees
  degrees_go deg =
      rw (left 6 count i x rest ws turn cut long)
      (ap₂ (λ (d l : List ℕ). edge_degrees d (count - (i + 1)) l) (ends_same deg) (sym (behind 6 count i x rest ws turn cut long)))

  pub owners_go : (own : List ℕ) → edge_owners (edge_owned x 0 own) (count - (i + 1)) rest ≡ edge_owners own (count - i) ws
  unfolding edge_owners
  owners_go own =
      rw (left 6 count i x rest ws turn cut long)
      (ap₂ (λ (o l : List ℕ). edge_owners o (count - (i + 1)) l) (owned_same own) (sym (behind 6 count i x rest ws turn cut long)))

module _ (size n m : ℕ) (x rest ws : List ℕ) (more : n ≡ suc m) (cut : ws ≡ x ++ rest) (long : length x ≡ size) (three : 3 ≤ size)
    (deg own is : List ℕ) (at d g : ℕ) (degree : d ≡ get_or deg (get_or x 0 0) 0 - 1) (good : g ≡ list_run (get_or x 0 0) d own is) where
  number : get_or ws 0 0 ≡ get_or x 0 0
  number = rw cut (get_or-append x rest 0 0 (omega (arith, three, long)))

  pub incidence_stop : g < d → Err (Incidence (at + g)) ≡ incidence_run size deg own n ws is at
  unfolding incidence_run
  incidence_stop h = rw (more, number, ← degree, ← good, lt-ltb g d h)

  pub incidence_go : d ≤ g → incidence_run size deg (list_owners d own is) m rest (drop d is) (at + d) ≡ incidence_run size deg own n ws is at
  unfolding incidence_run
  incidence_go h =
      let behind : drop size ws ≡ rest = rw (cut, ← long) (drop-append_seam x rest) in
      rw (more, number, ← degree, ← good, le-ltb g d h, behind)

-- ---- the end of a loop over records

module _ (d : ℕ) (none : d ≡ 0) (ws : List ℕ) (at : ℕ) where
  pub vertex_end : (size cap types : ℕ) (deg : List ℕ) → (vertex_run size (part_limits cap types) deg d ws at ≡ Ok tt) × (vertex_marks size deg d ws ≡ deg)
  unfolding vertex_run vertex_marks
  vertex_end size cap types deg = (rw none, rw none)

  pub edge_end : (cap types : ℕ) (deg own : List ℕ) →
      (edge_run (part_limits cap types) deg own d ws at ≡ Ok tt) × (edge_degrees deg d ws ≡ deg) × (edge_owners own d ws ≡ own)
  unfolding edge_run edge_degrees edge_owners
  edge_end cap types deg own = (rw none, rw none, rw none)

  pub degree_end : (size : ℕ) (deg : List ℕ) → degree_run size deg d ws at ≡ Ok tt
  unfolding degree_run
  degree_end size deg = rw none

  pub incidence_more : (size : ℕ) (deg own is : List ℕ) (k : ℕ) → k < length is → Err (Incidence at) ≡ incidence_run size deg own d ws (drop k is) at
  unfolding incidence_run
  incidence_more size deg own is k m = rw (none, drop-cons is k 0 m)

  pub incidence_done : (size : ℕ) (deg own is : List ℕ) (k : ℕ) → length is ≤ k → Ok tt ≡ incidence_run size deg own d ws (drop k is) at
  unfolding incidence_run
  incidence_done size deg own is k m = rw (none, drop_of_length-le is m)

-- ---- where good records lead

-- the number of a good vertex record is within the capacity
pub vertex_in : (cap types : ℕ) (fresh : Bool) (n t g : ℕ) → g ≡ good_vertex cap types fresh n t 0 → 3 ≤ g → n ≤ cap
vertex_in cap types fresh n t g e h = (within_range 1 cap n (vertex_ok cap types fresh n t 0 (subst (λ (k : ℕ). 3 ≤ k) e h)).number).1

-- so is that of a good edge record, and its ends have counts
pub record EdgeIn (cap : ℕ) (deg ws : List ℕ) (at : ℕ) : Type 0 where
  pub number : get_or ws at 0 ≤ cap
  pub alpha : get_or ws (at + 1) 0 < length deg
  pub omega : get_or ws (at + 2) 0 < length deg

pub edge_in : (cap types : ℕ) (deg own ws : List ℕ) (at g : ℕ) → g ≡ edge_good (part_limits cap types) deg own (drop at ws) → 6 ≤ g → EdgeIn cap deg ws at
edge_in cap types deg own ws at g e h =
    let us = drop at ws in
    let n = get_or us 0 0 in
    let k = edge_ok cap types (get_or own (2 * n) 0 == 0) (ltb 0 (get_or deg (get_or us 1 0) 0)) (ltb 0 (get_or deg (get_or us 2 0) 0)) n (get_or us 3 0) (get_or us 4 0) (get_or us 5 0)
    (subst (λ (m : ℕ). 6 ≤ m) e h) in
    let end : (j : ℕ) → ltb 0 (get_or deg (get_or us j 0) 0) ≡ true → get_or ws (at + j) 0 < length deg =
    λ j y. subst (λ (x : ℕ). x < length deg) (word_at ws at j) (inside deg (get_or us j 0) (ltb-true 0 (get_or deg (get_or us j 0) 0) y)) in
    record {
      number = subst (λ (x : ℕ). x ≤ cap) (first_at ws at) (within_range 1 cap n k.number).1;
      alpha = end 1 k.starts;
      omega = end 2 k.stops;
    }

-- ---- one vertex's list

module _ (v d k i : ℕ) (own ws : List ℕ) (turn : k < d) where
  more_left : d - k ≡ suc (d - (k + 1))
  more_left = omega arith

  list_end : length ws ≤ i → list_run v (d - k) own (drop i ws) ≡ 0
  unfolding list_run
  list_end h = rw (more_left, drop_of_length-le ws h)

  pub list_miss : i < length ws → (get_or own (get_or ws i 0) 0 ≡ v → ⊥) → list_run v (d - k) own (drop i ws) ≡ 0
  unfolding list_run
  list_miss h n = rw (more_left, one_drop ws i h, ne_eqb (get_or own (get_or ws i 0) 0) v n)

  pub list_hit : i < length ws → get_or own (get_or ws i 0) 0 ≡ v → list_run v (d - k) own (drop i ws) ≡ suc (list_run v (d - (k + 1)) (set own (get_or ws i 0) 0) (drop (i + 1) ws))
  unfolding list_run
  list_hit h y = rw (more_left, one_drop ws i h, eq-eqb (get_or own (get_or ws i 0) 0) v y)

  pub list_owners_lem : i < length ws → list_owners (d - k) own (drop i ws) ≡ list_owners (d - (k + 1)) (set own (get_or ws i 0) 0) (drop (i + 1) ws)
  unfolding list_owners
  list_owners_lem h = rw (more_left, one_drop ws i h)

list_done : (v d k : ℕ) (own ws : List ℕ) → d ≤ k → (list_run v (d - k) own ws ≡ 0) × (list_owners (d - k) own ws ≡ own)
unfolding list_run list_owners
list_done v d k own ws h = let e : d - k ≡ 0 = omega arith in (rw e, rw e)

-- where d words are found, or no word is left, the list is gone through
pub list_over : (v d k i : ℕ) (own ws : List ℕ) → k ≤ d → (k < d → length ws ≤ i) → (list_run v (d - k) own (drop i ws) ≡ 0) × (k ≡ d → list_owners (d - k) own (drop i ws) ≡ own)
list_over v d k i own ws le h = elim (same? k d) [
  | same e f ↦ let r = list_done v d k own (drop i ws) (omega (arith, e)) in (r.0, λ q. r.1)
  | differ e f ↦ (list_end v d k i own ws (omega (arith, le, e)) (h (omega (arith, le, e))), λ q. absurd (e q))
]

pub list_le : (v d : ℕ) (own ws : List ℕ) → (list_run v d own ws ≤ d) × (list_run v d own ws ≤ length ws)
unfolding list_run
list_le v zero own ws = (omega arith, omega arith)
list_le v (suc d) own [] = (omega arith, omega arith)
list_le v (suc d) own (w ∷ ws) = go (list_le v d (set own w 0) ws) (get_or own w 0 == v)
  where
    go : (list_run v d (set own w 0) ws ≤ d) × (list_run v d (set own w 0) ws ≤ length ws) → (t : Bool) →
        ((t ⇒ suc (list_run v d (set own w 0) ws) else 0) ≤ suc d) × ((t ⇒ suc (list_run v d (set own w 0) ws) else 0) ≤ suc (length ws))
    go ih true = (omega arith, omega arith)
    go ih false = (omega arith, omega arith)

-- ---- bounds of the counts

pub below_set : (k : ℕ) (s : List ℕ) (v x : ℕ) → NoneAbove k s → x ≤ k → NoneAbove k (set s v x)
below_set k [] v x b h i = b i
below_set k (a ∷ s) zero x b h zero = h
below_set k (a ∷ s) zero x b h (suc i) = b (suc i)
below_set k (a ∷ s) (suc v) x b h zero = b zero
below_set k (a ∷ s) (suc v) x b h (suc i) = below_set k s v x (λ j. b (suc j)) h i

pub below_more : (k m : ℕ) (s : List ℕ) → k ≤ m → NoneAbove k s → NoneAbove m s
below_more k m s h b i = omega (arith, b i)

pub below_bump : (k : ℕ) (s : List ℕ) (v : ℕ) → NoneAbove k s → NoneAbove (k + 1) (bumped v s)
below_bump k s v b = below_set (k + 1) s v (get_or s v 0 + 1) (below_more k (k + 1) s (omega arith) b) (omega (arith, b v))

pub below_ends : (at : ℕ) (s : List ℕ) (a o : ℕ) → NoneAbove (1 + at) s → NoneAbove (1 + (at + 6)) (with_ends a o s)
below_ends at s a o b =
    below_more (1 + at + 1 + 1) (1 + (at + 6)) (with_ends a o s) (omega arith) (below_bump (1 + at + 1) (bumped a s) o (below_bump (1 + at) s a b))

pub below_zeros : (n k : ℕ) → NoneAbove k (replicate n 0)
below_zeros zero k i = omega arith
below_zeros (suc n) k zero = omega arith
below_zeros (suc n) k (suc i) = below_zeros n k i
