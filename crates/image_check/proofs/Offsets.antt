-- Where the first bad word stands, and that the words up to it decide: words that begin with them have the same verdict.
use Prim.Native.Nat.{ℕ, zero, suc, ◌+◌, ◌*◌, ◌^◌, ◌≤◌, ◌<◌}
use mathlib.Core.Path.{◌≡◌, refl, sym, ap, ◌∙◌}
use mathlib.Core.Logic.{◌⊎◌, inl, inr}
use mathlib.Core.Bool.{Bool, true, false, not, ◌&&◌}
use mathlib.Core.List.{List, [], ◌∷◌}
use native.Mathlib.Omega.{arith}
use lib.Dec.{leb, ltb}
use lib.ListN.{length, get_or, drop, length-drop}
use lib.Seq.{get_or-drop}
use borrow.Author.Tests.{ltb-true, ltb-false}
use Rattle.lists.specs.Choice.{◌⇒◌else◌, within}
use Rattle.lists.specs.Lists.{member}
use Rattle.lists.specs.Keyed.{remove_by}
use Rattle.graph.specs.Graph.{Edge, itself, is_reading}
use Rattle.graph.specs.WellFormed.{words_at}
use Rattle.image_check.specs.Checks.{walk, record_at, good_list, list_at, list_walk, and_then, passed, part_limits, seeing, vertex_by, edge_by}
use Rattle.image_check.proofs.Walks.{good_vertex, good_edge, good_degree, vertex_walk, edge_walk, degree_walk}
use Rattle.image.proofs.Sizes.{Size, size_range, row_in}
use Rattle.image_check.proofs.Verdicts.{record_sound}
use Rattle.image_check.proofs.DegreePass.{good_range, good_degree_lem, four_good}
use Rattle.std.specs.Prelude.{Ok, Err}
use Rattle.image_check.specs.declared.BadImage.TheVariants.{Header, Record, Incidence}
use Rattle.image_check.specs.Checks.{Verdict}

-- ---- verdicts that differ

pub sound_record : {k : ℕ} → ◌≡◌ {A = Verdict} (Ok tt) (Err (Record k)) → ⊥
sound_record e = let z : ◌≡◌ {A = ℕ} 0 1 = cc in omega arith

pub sound_incidence : {k : ℕ} → ◌≡◌ {A = Verdict} (Ok tt) (Err (Incidence k)) → ⊥
sound_incidence e = let z : ◌≡◌ {A = ℕ} 0 1 = cc in omega arith

pub record_incidence : {k m : ℕ} → ◌≡◌ {A = Verdict} (Err (Record k)) (Err (Incidence m)) → ⊥
record_incidence e = let z : ◌≡◌ {A = ℕ} 0 1 = cc in omega arith

pub header_record : {k : ℕ} → ◌≡◌ {A = Verdict} (Err Header) (Err (Record k)) → ⊥
header_record e = let z : ◌≡◌ {A = ℕ} 0 1 = cc in omega arith

pub header_incidence : {k : ℕ} → ◌≡◌ {A = Verdict} (Err Header) (Err (Incidence k)) → ⊥
header_incidence e = let z : ◌≡◌ {A = ℕ} 0 1 = cc in omega arith

record_offset : {k m : ℕ} → ◌≡◌ {A = Verdict} (Err (Record k)) (Err (Record m)) → k ≡ m
record_offset e = cc

incidence_offset : {k m : ℕ} → ◌≡◌ {A = Verdict} (Err (Incidence k)) (Err (Incidence m)) → k ≡ m
incidence_offset e = cc

-- ---- one step of a walk that finds a bad word: here, or in the rest

pub record_bad : (size at g m : ℕ) (x : Verdict) → record_at size at g x ≡ Err (Record m) → ((g < size) × (at + g ≡ m)) ⊎ ((size ≤ g) × (x ≡ Err (Record m)))
record_bad size at g m x h = go (ltb g size) refl h
  where
    go : (t : Bool) → ltb g size ≡ t → (t ⇒ Err (Record (at + g)) else x) ≡ Err (Record m) → ((g < size) × (at + g ≡ m)) ⊎ ((size ≤ g) × (x ≡ Err (Record m)))
    go true e h = inl (ltb-true g size e, record_offset h)
    go false e h = inr (ltb-false g size e, h)

pub list_bad : (d at g m : ℕ) (x : Verdict) → list_at d at g x ≡ Err (Incidence m) → ((g < d) × (at + g ≡ m)) ⊎ ((d ≤ g) × (x ≡ Err (Incidence m)))
list_bad d at g m x h = go (ltb g d) refl h
  where
    go : (t : Bool) → ltb g d ≡ t → (t ⇒ Err (Incidence (at + g)) else x) ≡ Err (Incidence m) → ((g < d) × (at + g ≡ m)) ⊎ ((d ≤ g) × (x ≡ Err (Incidence m)))
    go true e h = inl (ltb-true g d e, incidence_offset h)
    go false e h = inr (ltb-false g d e, h)

record_no_incidence : (size at g m : ℕ) (x : Verdict) → record_at size at g x ≡ Err (Incidence m) → x ≡ Err (Incidence m)
record_no_incidence size at g m x h = go (ltb g size) h
  where
    go : (t : Bool) → (t ⇒ Err (Record (at + g)) else x) ≡ Err (Incidence m) → x ≡ Err (Incidence m)
    go true h = absurd (record_incidence h)
    go false h = h

list_no_record : (d at g m : ℕ) (x : Verdict) → list_at d at g x ≡ Err (Record m) → x ≡ Err (Record m)
list_no_record d at g m x h = go (ltb g d) h
  where
    go : (t : Bool) → (t ⇒ Err (Incidence (at + g)) else x) ≡ Err (Record m) → x ≡ Err (Record m)
    go true h = absurd (record_incidence (sym h))
    go false h = h

pub then_record : (r x : Verdict) (m : ℕ) → and_then r x ≡ Err (Record m) → (r ≡ Err (Record m)) ⊎ ((r ≡ Ok tt) × (x ≡ Err (Record m)))
then_record (Ok tt) x m h = inr (refl, h)
then_record (Err Header) x m h = inl h
then_record (Err (Record at)) x m h = inl h
then_record (Err (Incidence at)) x m h = inl h

pub then_incidence : (r x : Verdict) (m : ℕ) → and_then r x ≡ Err (Incidence m) → (r ≡ Err (Incidence m)) ⊎ ((r ≡ Ok tt) × (x ≡ Err (Incidence m)))
then_incidence (Ok tt) x m h = inr (refl, h)
then_incidence (Err Header) x m h = inl h
then_incidence (Err (Record at)) x m h = inl h
then_incidence (Err (Incidence at)) x m h = inl h

-- the same place in words whose record is as good
record_keeps : (size at g f m : ℕ) (x y : Verdict) → f ≡ g → record_at size at g x ≡ Err (Record m) → (size ≤ g → x ≡ Err (Record m) → y ≡ Err (Record m)) → record_at size at f y ≡ Err (Record m)
record_keeps size at g f m x y e h k = rw e (go (ltb g size) refl h)
  where
    go : (t : Bool) → ltb g size ≡ t → (t ⇒ Err (Record (at + g)) else x) ≡ Err (Record m) → (t ⇒ Err (Record (at + g)) else y) ≡ Err (Record m)
    go true p h = h
    go false p h = k (ltb-false g size p) h

list_keeps : (d at g f m : ℕ) (x y : Verdict) → f ≡ g → list_at d at g x ≡ Err (Incidence m) → (d ≤ g → x ≡ Err (Incidence m) → y ≡ Err (Incidence m)) → list_at d at f y ≡ Err (Incidence m)
list_keeps d at g f m x y e h k = rw e (go (ltb g d) refl h)
  where
    go : (t : Bool) → ltb g d ≡ t → (t ⇒ Err (Incidence (at + g)) else x) ≡ Err (Incidence m) → (t ⇒ Err (Incidence (at + g)) else y) ≡ Err (Incidence m)
    go true p h = h
    go false p h = k (ltb-false g d p) h

-- us has the words of ws up to the place m, where both begin at `at`
abbrev pub Upto : ℕ → ℕ → List ℕ → List ℕ → Type 0
Upto at m us ws = (i : ℕ) → at + i ≤ m → get_or us i 0 ≡ get_or ws i 0

upto_drop : (size at m : ℕ) (us ws : List ℕ) → Upto at m us ws → Upto (at + size) m (drop size us) (drop size ws)
upto_drop size at m us ws a i h = get_or-drop size us i 0 ∙ a (size + i) (omega arith) ∙ sym (get_or-drop size ws i 0)

-- ---- vertex records

vertex_cut : (p z u z' u' : Bool) → (1 ≤ passed (p ∷ z ∷ u ∷ []) → z' ≡ z) → (2 ≤ passed (p ∷ z ∷ u ∷ []) → u' ≡ u) →
    passed (p ∷ z' ∷ u' ∷ []) ≡ passed (p ∷ z ∷ u ∷ [])
vertex_cut false z u z' u' h k = refl
vertex_cut true false u z' u' h k = rw (h (omega arith))
vertex_cut true true false z' u' h k = rw (h (omega arith), k (omega arith))
vertex_cut true true true z' u' h k = rw (h (omega arith), k (omega arith))

-- how many words of the first record are sound
abbrev pub vertex_at : ℕ → ℕ → List ℕ → List ℕ → ℕ
vertex_at cap types seen ws = good_vertex cap types (not (member (get_or ws 0 0) seen)) (get_or ws 0 0) (get_or ws 1 0) (get_or ws 2 0)

-- us has the words of the records of ws up to the place m, their degrees left aside
abbrev pub UptoRecords : ℕ → ℕ → ℕ → List ℕ → List ℕ → Type 0
UptoRecords size at m us ws = (j r : ℕ) → r < 3 → at + (size * j + r) ≤ m → get_or us (size * j + r) 0 ≡ get_or ws (size * j + r) 0

-- the next record's word in what is behind the first
pub row_drop : (size j r : ℕ) (ws : List ℕ) → get_or (drop size ws) (size * j + r) 0 ≡ get_or ws (size * suc j + r) 0
row_drop size j r ws =
    let e : size + (size * j + r) ≡ size * suc j + r = omega arith in
    get_or-drop size ws (size * j + r) 0 ∙ ap (λ (i : ℕ). get_or ws i 0) e

pub row_first : (size r : ℕ) (ws : List ℕ) → get_or ws (size * 0 + r) 0 ≡ get_or ws r 0
row_first size r ws = let e : size * 0 + r ≡ r = omega arith in ap (λ (i : ℕ). get_or ws i 0) e

records_drop : (size at m : ℕ) (us ws : List ℕ) → UptoRecords size at m us ws → UptoRecords size (at + size) m (drop size us) (drop size ws)
records_drop size at m us ws a j r l h = row_drop size j r us ∙ a (suc j) r l (omega arith) ∙ sym (row_drop size j r ws)

-- a place among k records: word r of record j
pub record Place (size k r at m : ℕ) : Type 0 where
  pub row : ℕ
  pub inside : row < k
  pub place : m ≡ at + (size * row + r)

place_here : (size k r at m : ℕ) → at + r ≡ m → Place size (suc k) r at m
place_here size k r at m e = record { row = 0; inside = omega arith; place = omega arith }

place_later : (size k r at m : ℕ) → Place size k r (at + size) m → Place size (suc k) r at m
place_later size k r at m p = record { row = suc p.row; inside = omega (arith, p.inside); place = omega (arith, p.place) }

module _ {S : Type 0} (tests : S → List ℕ → List Bool) (next : S → List ℕ → S) (tested size : ℕ) where
  -- the bad word is one of those that are tested of a record
  pub walk_place : (s : S) (k : ℕ) (ws : List ℕ) (at m : ℕ) → walk tests next tested size s k ws at ≡ Err (Record m) → (r : ℕ) × (r < tested) × Place size k r at m
  unfolding walk
  walk_place s zero ws at m h = absurd (sound_record h)
  walk_place s (suc k) ws at m h = elim (record_bad tested at (passed (tests s ws)) m (walk tests next tested size (next s ws) k (drop size ws) (at + size)) h) [
    | inl x ↦ (passed (tests s ws), x.0, place_here size k _ at m x.1)
    | inr x ↦ let p = walk_place (next s ws) k (drop size ws) (at + size) m x.1 in (p.0, p.1, place_later size k p.0 at m p.2)
  ]

  pub walk_no_incidence : (s : S) (k : ℕ) (ws : List ℕ) (at m : ℕ) → walk tests next tested size s k ws at ≡ Err (Incidence m) → ⊥
  unfolding walk
  walk_no_incidence s zero ws at m h = sound_incidence h
  walk_no_incidence s (suc k) ws at m h = walk_no_incidence (next s ws) k (drop size ws) (at + size) m (record_no_incidence tested at (passed (tests s ws)) m _ h)

  module _ (fits : tested ≤ size) where
    walk_range : (s : S) (k : ℕ) (ws : List ℕ) (at m : ℕ) → walk tests next tested size s k ws at ≡ Err (Record m) → (at ≤ m) × (m < at + size * k)
    walk_range s k ws at m h =
        let p = walk_place s k ws at m h in
        let q = p.2 in
        (omega (arith, q.place), omega (arith, q.place, row_in size q.row p.0 k q.inside (omega (arith, p.1, fits))))

    -- the place of the bad word, in the first record or behind it
    walk_near : (s : S) (k : ℕ) (ws : List ℕ) (at m i : ℕ) → walk tests next tested size s (suc k) ws at ≡ Err (Record m) → i < tested → i ≤ passed (tests s ws) → at + i ≤ m
    unfolding walk
    walk_near s k ws at m i h l g = elim (record_bad tested at (passed (tests s ws)) m (walk tests next tested size (next s ws) k (drop size ws) (at + size)) h) [
      | inl x ↦ omega (arith, g, x.1)
      | inr x ↦ omega (arith, (walk_range (next s ws) k (drop size ws) (at + size) m x.1).0, l, fits)
    ]

module _ (size : ℕ) (z : Size size) (cap types : ℕ) where
  pub vertex_range : (seen : List ℕ) (k : ℕ) (ws : List ℕ) (at m : ℕ) → vertex_walk size cap types seen k ws at ≡ Err (Record m) → (at ≤ m) × (m < at + size * k)
  vertex_range seen k ws at m h = walk_range (vertex_by (part_limits cap types)) seeing 3 size (size_range size z).0 seen k ws at m h

  -- the words of a record up to the first bad one decide how many are sound
  vertex_same : (seen us ws : List ℕ) → ((i : ℕ) → i < 3 → i ≤ vertex_at cap types seen ws → get_or us i 0 ≡ get_or ws i 0) → vertex_at cap types seen us ≡ vertex_at cap types seen ws
  vertex_same seen us ws a =
      rw (a 0 (omega arith) (omega arith))
      (vertex_cut (within 1 cap (get_or ws 0 0) && not (member (get_or ws 0 0) seen)) (ltb (get_or ws 1 0) types) (ltb (get_or ws 2 0) (2 ^ 32)) (ltb (get_or us 1 0) types)
      (ltb (get_or us 2 0) (2 ^ 32))
      (λ h. ap (λ (t : ℕ). ltb t types) (a 1 (omega arith) h)) (λ h. ap (λ (x : ℕ). ltb x (2 ^ 32)) (a 2 (omega arith) h)))

  vertex_near : (seen : List ℕ) (k : ℕ) (ws : List ℕ) (at m i : ℕ) → vertex_walk size cap types seen (suc k) ws at ≡ Err (Record m) → i < 3 → i ≤ vertex_at cap types seen ws → at + i ≤ m
  vertex_near seen k ws at m i h l g = walk_near (vertex_by (part_limits cap types)) seeing 3 size (size_range size z).0 seen k ws at m i h l g

  pub vertex_prefix : (seen : List ℕ) (k : ℕ) (us ws : List ℕ) (at m : ℕ) → vertex_walk size cap types seen k ws at ≡ Err (Record m) → UptoRecords size at m us ws →
      vertex_walk size cap types seen k us at ≡ Err (Record m)
  unfolding walk
  vertex_prefix seen zero us ws at m h a = h
  vertex_prefix seen (suc k) us ws at m h a =
      let b : (i : ℕ) → i < 3 → at + i ≤ m → get_or us i 0 ≡ get_or ws i 0 = λ i l g. sym (row_first size i us) ∙ a 0 i l (omega arith) ∙ row_first size i ws in
      let e : get_or us 0 0 ≡ get_or ws 0 0 = b 0 (omega arith) (vertex_near seen k ws at m 0 h (omega arith) (omega arith)) in
      let f = vertex_same seen us ws (λ i l g. b i l (vertex_near seen k ws at m i h l g)) in
      record_keeps 3 at (vertex_at cap types seen ws) (vertex_at cap types seen us) m _ _ f h
      (λ l q. rw e (vertex_prefix (get_or ws 0 0 ∷ seen) k (drop size us) (drop size ws) (at + size) m q (records_drop size at m us ws a)))

-- ---- edge records

abbrev edge_cut : Bool → Bool → Bool → Bool → Bool → Bool → ℕ
edge_cut p a b z u v = passed (p ∷ a ∷ b ∷ z ∷ u ∷ v ∷ [])

edge_cut_lem : (p a b z u v a' b' z' u' v' : Bool) → (1 ≤ edge_cut p a b z u v → a' ≡ a) → (2 ≤ edge_cut p a b z u v → b' ≡ b) → (3 ≤ edge_cut p a b z u v → z' ≡ z) →
    (4 ≤ edge_cut p a b z u v → u' ≡ u) → (5 ≤ edge_cut p a b z u v → v' ≡ v) → edge_cut p a' b' z' u' v' ≡ edge_cut p a b z u v
edge_cut_lem false a b z u v a' b' z' u' v' h1 h2 h3 h4 h5 = refl
edge_cut_lem true false b z u v a' b' z' u' v' h1 h2 h3 h4 h5 = rw (h1 (omega arith))
edge_cut_lem true true false z u v a' b' z' u' v' h1 h2 h3 h4 h5 = rw (h1 (omega arith), h2 (omega arith))
edge_cut_lem true true true false u v a' b' z' u' v' h1 h2 h3 h4 h5 = rw (h1 (omega arith), h2 (omega arith), h3 (omega arith))
edge_cut_lem true true true true false v a' b' z' u' v' h1 h2 h3 h4 h5 = rw (h1 (omega arith), h2 (omega arith), h3 (omega arith), h4 (omega arith))
edge_cut_lem true true true true true false a' b' z' u' v' h1 h2 h3 h4 h5 = rw (h1 (omega arith), h2 (omega arith), h3 (omega arith), h4 (omega arith), h5 (omega arith))
edge_cut_lem true true true true true true a' b' z' u' v' h1 h2 h3 h4 h5 = rw (h1 (omega arith), h2 (omega arith), h3 (omega arith), h4 (omega arith), h5 (omega arith))

abbrev pub edge_at : ℕ → ℕ → List ℕ → List ℕ → List ℕ → ℕ
edge_at cap types ns seen ws =
    good_edge cap types (not (member (get_or ws 0 0) seen)) (member (get_or ws 1 0) ns) (member (get_or ws 2 0) ns) (get_or ws 0 0) (get_or ws 3 0) (get_or ws 4 0) (get_or ws 5 0)

module _ (cap types : ℕ) (ns : List ℕ) where
  pub edge_range : (seen : List ℕ) (k : ℕ) (ws : List ℕ) (at m : ℕ) → edge_walk cap types ns seen k ws at ≡ Err (Record m) → (at ≤ m) × (m < at + 6 * k)
  edge_range seen k ws at m h = walk_range (edge_by (part_limits cap types) ns) seeing 6 6 (omega arith) seen k ws at m h

  edge_same : (seen us ws : List ℕ) → ((i : ℕ) → i < 6 → i ≤ edge_at cap types ns seen ws → get_or us i 0 ≡ get_or ws i 0) → edge_at cap types ns seen us ≡ edge_at cap types ns seen ws
  edge_same seen us ws a =
      rw (a 0 (omega arith) (omega arith))
      (edge_cut_lem (within 1 cap (get_or ws 0 0) && not (member (get_or ws 0 0) seen)) (member (get_or ws 1 0) ns) (member (get_or ws 2 0) ns) (ltb (get_or ws 3 0) types) (leb (get_or ws 4 0) 2)
      (is_reading (get_or ws 4 0) (get_or ws 5 0))
      (member (get_or us 1 0) ns) (member (get_or us 2 0) ns) (ltb (get_or us 3 0) types) (leb (get_or us 4 0) 2) (is_reading (get_or us 4 0) (get_or us 5 0))
      (λ h. ap (λ (x : ℕ). member x ns) (a 1 (omega arith) h))
      (λ h. ap (λ (x : ℕ). member x ns) (a 2 (omega arith) h))
      (λ h. ap (λ (x : ℕ). ltb x types) (a 3 (omega arith) h))
      (λ h. ap (λ (x : ℕ). leb x 2) (a 4 (omega arith) h))
      (λ h. ap (λ (x : ℕ). is_reading x (get_or us 5 0)) (a 4 (omega arith) (omega (arith, h))) ∙ ap (λ (x : ℕ). is_reading (get_or ws 4 0) x) (a 5 (omega arith) h)))

  edge_near : (seen : List ℕ) (k : ℕ) (ws : List ℕ) (at m i : ℕ) → edge_walk cap types ns seen (suc k) ws at ≡ Err (Record m) → i < 6 → i ≤ edge_at cap types ns seen ws → at + i ≤ m
  edge_near seen k ws at m i h l g = walk_near (edge_by (part_limits cap types) ns) seeing 6 6 (omega arith) seen k ws at m i h l g

  pub edge_prefix : (seen : List ℕ) (k : ℕ) (us ws : List ℕ) (at m : ℕ) → edge_walk cap types ns seen k ws at ≡ Err (Record m) → Upto at m us ws → edge_walk cap types ns seen k us at ≡ Err (Record m)
  unfolding walk
  edge_prefix seen zero us ws at m h a = h
  edge_prefix seen (suc k) us ws at m h a =
      let e : get_or us 0 0 ≡ get_or ws 0 0 = a 0 (edge_near seen k ws at m 0 h (omega arith) (omega arith)) in
      let f = edge_same seen us ws (λ i l g. a i (edge_near seen k ws at m i h l g)) in
      record_keeps 6 at (edge_at cap types ns seen ws) (edge_at cap types ns seen us) m _ _ f h
      (λ l q. rw e (edge_prefix (get_or ws 0 0 ∷ seen) k (drop 6 us) (drop 6 ws) (at + 6) m q (upto_drop 6 at m us ws a)))

-- ---- degrees

-- the first degree that disagrees, in records of four words
pub record Wrong (size : ℕ) (es : List Edge) (k : ℕ) (ws : List ℕ) (at m : ℕ) : Type 0 where
  pub four : size ≡ 4
  pub at_row : Place size k 3 at m
  pub disagrees : get_or ws (size * at_row.row + 3) 0 ≡ length (words_at es (get_or ws (size * at_row.row + 0) 0)) → ⊥
  pub before : (i : ℕ) → i < at_row.row → get_or ws (size * i + 3) 0 ≡ length (words_at es (get_or ws (size * i + 0) 0))

module _ (size : ℕ) (z : Size size) (es : List Edge) where
  pub degree_wrong : (k : ℕ) (ws : List ℕ) (at m : ℕ) → degree_walk size es k ws at ≡ Err (Record m) → Wrong size es k ws at m
  unfolding walk place_here place_later
  degree_wrong zero ws at m h = absurd (sound_record h)
  degree_wrong (suc k) ws at m h =
      let d = length (words_at es (get_or ws 0 0)) in
      let x = get_or ws 3 0 in
      let g = good_range d x in
      let l = size_range size z in
      elim (record_bad size at (good_degree d x) m (degree_walk size es k (drop size ws) (at + size)) h) [
        | inl y ↦
            record {
              four = omega (arith, g.0, y.0, l.1);
              at_row = place_here size k 3 at m (omega (arith, g.0, y.0, y.1, l.1));
              disagrees = λ e. omega (arith, y.0, l.1, good_degree_lem d x (sym (row_first size 3 ws) ∙ e ∙ ap (λ (n : ℕ). length (words_at es n)) (row_first size 0 ws)));
              before = λ i q. absurd (omega arith);
            }
        | inr y ↦
            let w = degree_wrong k (drop size ws) (at + size) m y.1 in
            let j = w.at_row.row in
            record {
              four = w.four;
              at_row = place_later size k 3 at m w.at_row;
              disagrees = λ e. w.disagrees (row_drop size j 3 ws ∙ e ∙ sym (ap (λ (n : ℕ). length (words_at es n)) (row_drop size j 0 ws)));
              before = λ i q. earlier i q (four_good d x (omega (arith, y.0, w.four))) w.before;
            }
      ]
    where
      earlier : (i : ℕ) {j : ℕ} → i < suc j → get_or ws 3 0 ≡ length (words_at es (get_or ws 0 0)) →
          ((n : ℕ) → n < j → get_or (drop size ws) (size * n + 3) 0 ≡ length (words_at es (get_or (drop size ws) (size * n + 0) 0))) →
          get_or ws (size * i + 3) 0 ≡ length (words_at es (get_or ws (size * i + 0) 0))
      earlier zero q e f = row_first size 3 ws ∙ e ∙ ap (λ (n : ℕ). length (words_at es n)) (sym (row_first size 0 ws))
      earlier (suc i) q e f = sym (row_drop size i 3 ws) ∙ f i (omega arith) ∙ ap (λ (n : ℕ). length (words_at es n)) (row_drop size i 0 ws)

  -- a sound walk: every degree agrees
  pub degrees_right : size ≡ 4 → (k : ℕ) (ws : List ℕ) (at : ℕ) → degree_walk size es k ws at ≡ Ok tt → (i : ℕ) → i < k →
      get_or ws (size * i + 3) 0 ≡ length (words_at es (get_or ws (size * i + 0) 0))
  unfolding walk
  degrees_right f zero ws at s i h = absurd (omega arith)
  degrees_right f (suc k) ws at s zero h =
      let d = length (words_at es (get_or ws 0 0)) in
      let r = record_sound size at (good_degree d (get_or ws 3 0)) (degree_walk size es k (drop size ws) (at + size)) s in
      row_first size 3 ws ∙ four_good d (get_or ws 3 0) (omega (arith, r.0, f)) ∙ ap (λ (n : ℕ). length (words_at es n)) (sym (row_first size 0 ws))
  degrees_right f (suc k) ws at s (suc i) h =
      let d = length (words_at es (get_or ws 0 0)) in
      let r = record_sound size at (good_degree d (get_or ws 3 0)) (degree_walk size es k (drop size ws) (at + size)) s in
      sym (row_drop size i 3 ws) ∙ degrees_right f k (drop size ws) (at + size) r.1 i (omega arith) ∙ ap (λ (n : ℕ). length (words_at es n)) (row_drop size i 0 ws)

-- ---- lists

good_same : (d : ℕ) (wanted us ws : List ℕ) → length us ≡ length ws → ((i : ℕ) → i < d → i ≤ good_list d wanted ws → get_or us i 0 ≡ get_or ws i 0) → good_list d wanted us ≡ good_list d wanted ws
unfolding good_list
good_same zero wanted us ws e a = refl
good_same (suc d) wanted [] [] e a = refl
good_same (suc d) wanted [] (w ∷ ws) e a = absurd (omega arith)
good_same (suc d) wanted (u ∷ us) [] e a = absurd (omega arith)
good_same (suc d) wanted (u ∷ us) (w ∷ ws) e a = rw (a 0 (omega arith) (omega arith)) (go (λ k. good_same d (remove_by itself w wanted) us ws (omega arith) k) (member w wanted) refl)
  where
    go : (((i : ℕ) → i < d → i ≤ good_list d (remove_by itself w wanted) ws → get_or us i 0 ≡ get_or ws i 0) → good_list d (remove_by itself w wanted) us
        ≡ good_list d (remove_by itself w wanted) ws) →
        (t : Bool) → member w wanted ≡ t → ◌≡◌ {A = ℕ} (t ⇒ suc (good_list d (remove_by itself w wanted) us) else 0) (t ⇒ suc (good_list d (remove_by itself w wanted) ws) else 0)
    go ih true f = ap suc (ih (λ i l g. a (suc i) (omega arith) (rw f (omega arith))))
    go ih false f = refl

pub list_from : (es : List Edge) (ns ws : List ℕ) (at m : ℕ) → list_walk es ns ws at ≡ Err (Incidence m) → at ≤ m
unfolding list_walk
list_from es [] [] at m h = absurd (sound_incidence h)
list_from es [] (w ∷ ws) at m h = omega (arith, incidence_offset h)
list_from es (n ∷ ns) ws at m h =
    let wanted = words_at es n in
    let d = length wanted in
    elim (list_bad d at (good_list d wanted ws) m (list_walk es ns (drop d ws) (at + d)) h) [
      | inl x ↦ omega (arith, x.1)
      | inr x ↦ omega (arith, list_from es ns (drop d ws) (at + d) m x.1)
    ]

pub list_no_bad_record : (es : List Edge) (ns ws : List ℕ) (at m : ℕ) → list_walk es ns ws at ≡ Err (Record m) → ⊥
unfolding list_walk
list_no_bad_record es [] [] at m h = sound_record h
list_no_bad_record es [] (w ∷ ws) at m h = record_incidence (sym h)
list_no_bad_record es (n ∷ ns) ws at m h =
    let d = length (words_at es n) in
    list_no_bad_record es ns (drop d ws) (at + d) m (list_no_record d at (good_list d (words_at es n) ws) m _ h)

pub list_prefix : (es : List Edge) (ns us ws : List ℕ) (at m : ℕ) → length us ≡ length ws → list_walk es ns ws at ≡ Err (Incidence m) → Upto at m us ws → list_walk es ns us at ≡ Err (Incidence m)
unfolding list_walk
list_prefix es [] [] [] at m e h a = h
list_prefix es [] [] (w ∷ ws) at m e h a = absurd (omega arith)
list_prefix es [] (u ∷ us) [] at m e h a = absurd (omega arith)
list_prefix es [] (u ∷ us) (w ∷ ws) at m e h a = h
list_prefix es (n ∷ ns) us ws at m e h a =
    let wanted = words_at es n in
    let d = length wanted in
    let near : (i : ℕ) → i < d → i ≤ good_list d wanted ws → at + i ≤ m = λ i l g. elim (list_bad d at (good_list d wanted ws) m (list_walk es ns (drop d ws) (at + d)) h) [
      | inl x ↦ omega (arith, g, x.1)
      | inr x ↦ omega (arith, list_from es ns (drop d ws) (at + d) m x.1)
    ]
    in
    list_keeps d at (good_list d wanted ws) (good_list d wanted us) m _ _ (good_same d wanted us ws e (λ i l g. a i (near i l g))) h
    (λ l q. list_prefix es ns (drop d us) (drop d ws) (at + d) m (omega (arith, length-drop d us, length-drop d ws)) q (upto_drop d at m us ws a))
