-- The vertex part: the run over scratch is the walk over lists.
use Rattle.std.specs.Prelude.{◌==◌}
use Prim.Native.Nat.{ℕ, zero, suc, ◌+◌, ◌^◌, ◌≤◌, ◌<◌}
use mathlib.Core.Path.{◌≡◌, refl, sym, ap, ◌∙◌, subst}
use mathlib.Core.Bool.{Bool, true, false, not, ◌||◌}
use mathlib.Core.List.{List, [], ◌∷◌}
use native.Mathlib.Omega.{arith}
use lib.Dec.{eqb}
use lib.ListN.{length, get_or, take, drop, set, length-set}
use lib.Seq.{get_or-set_same, get_or-set_other}
use borrow.Author.Tests.{ne_eqb, eqb-true, eqb-false, not-true}
use Rattle.lists.specs.Choice.{to_bit}
use Rattle.lists.specs.Lists.{member, distinct}
use Rattle.lists.proofs.Bools.{within_range, or_false}
use Rattle.image_check.specs.Checks.{walk, part_limits, passed, vertex_by}
use Rattle.image_check.proofs.Walks.{good_vertex, vertex_walk}
use Rattle.image.specs.Image.{numbers_in}
use Rattle.image_check.specs.Scratch.{vertex_run, vertex_marks}
use Rattle.image_check.proofs.Numbers.{numbers_distinct}
use Rattle.image_check.proofs.Verdicts.{record_same, record_sound, VertexOk, vertex_ok, any_value}
use Rattle.std.specs.Prelude.{Ok}

-- each word is one of 32 bits
abbrev pub Small : List ℕ → Type 0
Small ws = (i : ℕ) → get_or ws i 0 < 2 ^ 32

pub small_take : (n : ℕ) (ws : List ℕ) → Small ws → Small (take n ws)
small_take zero ws s i = omega arith
small_take (suc n) [] s i = omega arith
small_take (suc n) (w ∷ ws) s zero = s 0
small_take (suc n) (w ∷ ws) s (suc i) = small_take n ws (λ j. s (suc j)) i

pub small_drop : (n : ℕ) (ws : List ℕ) → Small ws → Small (drop n ws)
small_drop zero ws s = s
small_drop (suc n) [] s = s
small_drop (suc n) (w ∷ ws) s = small_drop n ws (λ j. s (suc j))

-- a number has 1 in the table where it is in the list, else 0
abbrev pub Indicator : List ℕ → List ℕ → Type 0
Indicator seen deg = (n : ℕ) → get_or deg n 0 ≡ to_bit (member n seen)

fresh_by : (x : ℕ) (t : Bool) → x ≡ to_bit t → (x == 0) ≡ not t
fresh_by x true e = rw e
fresh_by x false e = rw e

indicator_set : (seen deg : List ℕ) (n : ℕ) → n < length deg → Indicator seen deg → Indicator (n ∷ seen) (set deg n 1)
indicator_set seen deg n h a m = go (n == m) refl
  where
    go : (t : Bool) → (n == m) ≡ t → get_or (set deg n 1) m 0 ≡ to_bit (t || member m seen)
    go true e = subst (λ (k : ℕ). get_or (set deg n 1) k 0 ≡ 1) (eqb-true n m e) (get_or-set_same deg n 1 0 h)
    go false e = get_or-set_other deg n m 1 0 (λ q. eqb-false n m e (sym q)) ∙ a m

or_swap : (a b c : Bool) → ((a || b) || c) ≡ (b || (a || c))
or_swap true true c = refl
or_swap true false c = refl
or_swap false true c = refl
or_swap false false c = refl

module _ (size cap types : ℕ) where
  pub vertex_agrees : (deg seen : List ℕ) (k : ℕ) (ws : List ℕ) (at : ℕ) → cap < length deg → Indicator seen deg → Small ws →
      vertex_run size (part_limits cap types) deg k ws at ≡ vertex_walk size cap types seen k ws at
  unfolding vertex_run walk
  vertex_agrees deg seen zero ws at h a m = refl
  vertex_agrees deg seen (suc k) ws at h a m =
      let n = get_or ws 0 0 in
      let t = get_or ws 1 0 in
      let x = get_or ws 2 0 in
      rw (fresh_by (get_or deg n 0) (member n seen) (a n), any_value cap types (not (member n seen)) n t x (m 2))
      (record_same 3 at (good_vertex cap types (not (member n seen)) n t x) _ _ λ g.
      let l = within_range 1 cap n (vertex_ok cap types (not (member n seen)) n t x g).number in
      vertex_agrees (set deg n 1) (n ∷ seen) k (drop size ws) (at + size) (rw length-set h) (indicator_set seen deg n (omega arith) a) (small_drop size ws m))

  -- a sound walk of one record more: the record, and the rest
  pub record VertexStep (seen : List ℕ) (k : ℕ) (ws : List ℕ) (at : ℕ) : Type 0 where
    pub ok : VertexOk cap types (not (member (get_or ws 0 0) seen)) (get_or ws 0 0) (get_or ws 1 0) (get_or ws 2 0)
    pub low : 1 ≤ get_or ws 0 0
    pub high : get_or ws 0 0 ≤ cap
    pub rest : vertex_walk size cap types (get_or ws 0 0 ∷ seen) k (drop size ws) (at + size) ≡ Ok tt

  pub vertex_step : (seen : List ℕ) (k : ℕ) (ws : List ℕ) (at : ℕ) → vertex_walk size cap types seen (suc k) ws at ≡ Ok tt → VertexStep seen k ws at
  unfolding walk
  vertex_step seen k ws at s =
      let n = get_or ws 0 0 in
      let t = get_or ws 1 0 in
      let x = get_or ws 2 0 in
      let r = record_sound 3 at (good_vertex cap types (not (member n seen)) n t x) (vertex_walk size cap types (n ∷ seen) k (drop size ws) (at + size)) s in
      let o = vertex_ok cap types (not (member n seen)) n t x r.0 in
      let l = within_range 1 cap n o.number in
      record { ok = o; low = l.0; high = l.1; rest = r.1 }

  pub marks_agree : (deg seen : List ℕ) (k : ℕ) (ws : List ℕ) (at : ℕ) → cap < length deg → Indicator seen deg → vertex_walk size cap types seen k ws at ≡ Ok tt →
      (m : ℕ) → get_or (vertex_marks size deg k ws) m 0 ≡ to_bit (member m seen || member m (numbers_in size k ws))
  unfolding vertex_marks numbers_in
  marks_agree deg seen zero ws at h a s m = rw (or_false (member m seen)) (a m)
  marks_agree deg seen (suc k) ws at h a s m =
      let n = get_or ws 0 0 in
      let r = vertex_step seen k ws at s in
      marks_agree (set deg n 1) (n ∷ seen) k (drop size ws) (at + size) (rw length-set h) (indicator_set seen deg n (omega (arith, r.high)) a) r.rest m
      ∙ ap to_bit (or_swap (n == m) (member m seen) (member m (numbers_in size k (drop size ws))))

  -- what a sound walk says of the numbers: they are distinct, none is 0
  pub walk_distinct : (seen : List ℕ) (k : ℕ) (ws : List ℕ) (at : ℕ) → vertex_walk size cap types seen k ws at ≡ Ok tt → distinct (numbers_in size k ws) ≡ true
  walk_distinct seen k ws at s = numbers_distinct (vertex_by (part_limits cap types)) 3 size fresh seen k ws at s
    where
      fresh : (us ws : List ℕ) → 3 ≤ passed (vertex_by (part_limits cap types) us ws) → member (get_or ws 0 0) us ≡ false
      fresh us ws h = not-true (member (get_or ws 0 0) us) (vertex_ok cap types (not (member (get_or ws 0 0) us)) (get_or ws 0 0) (get_or ws 1 0) (get_or ws 2 0) h).new

  pub walk_positive : (seen : List ℕ) (k : ℕ) (ws : List ℕ) (at : ℕ) → vertex_walk size cap types seen k ws at ≡ Ok tt → member 0 (numbers_in size k ws) ≡ false
  unfolding numbers_in
  walk_positive seen zero ws at s = refl
  walk_positive seen (suc k) ws at s =
      let n = get_or ws 0 0 in
      let r = vertex_step seen k ws at s in
      let e : eqb n 0 ≡ false = ne_eqb n 0 (λ q. omega (arith, r.low)) in
      rw e (walk_positive (n ∷ seen) k (drop size ws) (at + size) r.rest)
