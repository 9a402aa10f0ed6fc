-- The edge part: the run over scratch is the walk over lists, and what it leaves in the tables.
use Rattle.std.specs.Prelude.{◌==◌}
use Prim.Native.Nat.{ℕ, zero, suc, ◌+◌, ◌*◌, ◌≤◌, ◌<◌}
use mathlib.Core.Path.{◌≡◌, refl, sym, ap, ◌∙◌, subst}
use mathlib.Core.Bool.{Bool, true, false, not, ◌||◌, true≢false}
use mathlib.Core.List.{List, [], ◌∷◌, ◌++◌}
use native.Mathlib.Omega.{arith}
use lib.Dec.{ltb, eqb}
use lib.ListN.{length, get_or, drop, set, length-set, length-append}
use lib.Seq.{get_or-set_same, get_or-set_other}
use borrow.Author.Tests.{eq-eqb, ne_eqb, eqb-true, eqb-false, lt-ltb, ltb-true}
use Rattle.lists.specs.Choice.{◌⇒◌else◌, to_bit}
use Rattle.lists.specs.Lists.{member, count}
use Rattle.lists.proofs.Sums.{sum_append}
use Rattle.graph.specs.Graph.{Edge, out_word, in_word, reading_of}
use Rattle.graph.specs.WellFormed.{words_of, words_at}
use Rattle.image.specs.Image.{edge_size, edges_from}
use Rattle.image_check.specs.Checks.{walk, part_limits}
use Rattle.image_check.proofs.Walks.{good_edge, edge_walk}
use Rattle.image_check.specs.Scratch.{bumped, with_ends, owned, edge_run, edge_degrees, edge_owners}
use Rattle.lists.proofs.Bools.{within_range}
use Rattle.lists.proofs.WordLaws.{inside}
use Rattle.image.proofs.Ends.{words_length}
use Rattle.image_check.proofs.Verdicts.{record_same, record_sound, EdgeOk, edge_ok}
use Rattle.image_check.proofs.VertexPass.{Indicator}
use Rattle.std.specs.Prelude.{Ok}

-- ---- the tables

-- a number stands in deg where it is one of the vertices
abbrev pub Marked : List ℕ → List ℕ → Type 0
Marked vs deg = (m : ℕ) → ltb 0 (get_or deg m 0) ≡ member m vs

-- an edge's out word has 0 in own until the edge is seen
abbrev pub Seen : List ℕ → List ℕ → Type 0
Seen seen own = (n : ℕ) → eqb (get_or own (out_word n) 0) 0 ≡ not (member n seen)

-- an in word stands in own only beside its out word
abbrev pub Paired : List ℕ → Type 0
Paired own = (n : ℕ) → get_or own (out_word n) 0 ≡ 0 → get_or own (in_word n) 0 ≡ 0

pub marked_by : (vs deg : List ℕ) → Indicator vs deg → Marked vs deg
marked_by vs deg a m = go (member m vs) (a m)
  where
    go : (t : Bool) → get_or deg m 0 ≡ to_bit t → ltb 0 (get_or deg m 0) ≡ t
    go true e = rw e
    go false e = rw e

marked_inside : (vs deg : List ℕ) (v : ℕ) → Marked vs deg → member v vs ≡ true → v < length deg
marked_inside vs deg v m h = inside deg v (ltb-true 0 (get_or deg v 0) (m v ∙ h))

bump_at : (s : List ℕ) (v m : ℕ) → v < length s → get_or (bumped v s) m 0 ≡ get_or s m 0 + to_bit (v == m)
bump_at s v m h = go (v == m) refl
  where
    go : (t : Bool) → (v == m) ≡ t → get_or (bumped v s) m 0 ≡ get_or s m 0 + to_bit t
    go true e = subst (λ (k : ℕ). get_or (bumped v s) k 0 ≡ get_or s k 0 + 1) (eqb-true v m e) (get_or-set_same s v (get_or s v 0 + 1) 0 h)
    go false e = let f = get_or-set_other s v m (get_or s v 0 + 1) 0 (λ q. eqb-false v m e (sym q)) in omega arith

-- both ends of an edge counted
ends_at : (s : List ℕ) (a o m : ℕ) → a < length s → o < length s → get_or (with_ends a o s) m 0 ≡ get_or s m 0 + to_bit (a == m) + to_bit (o == m)
ends_at s a o m h k = bump_at (bumped a s) o m (rw length-set k) ∙ ap (λ (x : ℕ). x + to_bit (o == m)) (bump_at s a m h)

marked_ends : (vs deg : List ℕ) (a o : ℕ) → member a vs ≡ true → member o vs ≡ true → Marked vs deg → Marked vs (with_ends a o deg)
marked_ends vs deg a o ha ho k m =
    rw (ends_at deg a o m (marked_inside vs deg a k ha) (marked_inside vs deg o k ho)) (go (a == m) (o == m) refl refl)
  where
    go : (x y : Bool) → (a == m) ≡ x → (o == m) ≡ y → ltb 0 (get_or deg m 0 + to_bit x + to_bit y) ≡ member m vs
    go true y e f = lt-ltb 0 (get_or deg m 0 + 1 + to_bit y) (omega arith) ∙ sym (subst (λ (v : ℕ). member v vs ≡ true) (eqb-true a m e) ha)
    go false true e f = lt-ltb 0 (get_or deg m 0 + 0 + 1) (omega arith) ∙ sym (subst (λ (v : ℕ). member v vs ≡ true) (eqb-true o m f) ho)
    go false false e f = let z : get_or deg m 0 + 0 + 0 ≡ get_or deg m 0 = omega arith in rw z (k m)

-- own once an edge is entered
module _ (own : List ℕ) (n a o : ℕ) where
  owned_out : in_word n < length own → get_or (owned n a o own) (out_word n) 0 ≡ a
  owned_out h =
      get_or-set_other (set own (out_word n) a) (in_word n) (out_word n) o 0 (λ q. omega arith) ∙ get_or-set_same own (out_word n) a 0 (omega arith)

  owned_in : in_word n < length own → get_or (owned n a o own) (in_word n) 0 ≡ o
  owned_in h = get_or-set_same (set own (out_word n) a) (in_word n) o 0 (rw length-set h)

  owned_other : (w : ℕ) → (w ≡ out_word n → ⊥) → (w ≡ in_word n → ⊥) → get_or (owned n a o own) w 0 ≡ get_or own w 0
  owned_other w p q = get_or-set_other (set own (out_word n) a) (in_word n) w o 0 q ∙ get_or-set_other own (out_word n) w a 0 p

  seen_owned : (seen : List ℕ) → in_word n < length own → (a ≡ 0 → ⊥) → Seen seen own → Seen (n ∷ seen) (owned n a o own)
  seen_owned seen h z k m = go (n == m) refl
    where
      go : (t : Bool) → (n == m) ≡ t → eqb (get_or (owned n a o own) (out_word m) 0) 0 ≡ not (t || member m seen)
      go true e =
          subst (λ (v : ℕ). eqb (get_or (owned n a o own) (out_word v) 0) 0 ≡ false) (eqb-true n m e)
          (rw (owned_out h) (ne_eqb a 0 z))
      go false e =
          let ne : n ≡ m → ⊥ = eqb-false n m e in
          rw (owned_other (out_word m) (λ q. ne (omega arith)) (λ q. omega arith)) (k m)

  paired_owned : in_word n < length own → (a ≡ 0 → ⊥) → Paired own → Paired (owned n a o own)
  paired_owned h z p m = go (n == m) refl
    where
      go : (t : Bool) → (n == m) ≡ t → get_or (owned n a o own) (out_word m) 0 ≡ 0 → get_or (owned n a o own) (in_word m) 0 ≡ 0
      go true e q = absurd (z (sym (owned_out h) ∙ subst (λ (k : ℕ). get_or (owned n a o own) (out_word k) 0 ≡ 0) (sym (eqb-true n m e)) q))
      go false e q =
          let ne : n ≡ m → ⊥ = eqb-false n m e in
          owned_other (in_word m) (λ r. omega arith) (λ r. ne (omega arith))
          ∙ p m (sym (owned_other (out_word m) (λ r. ne (omega arith)) (λ r. omega arith)) ∙ q)

-- ---- the words of one edge at v

eqb_sym : (a b : ℕ) → (a == b) ≡ (b == a)
eqb_sym a b = go (a == b) refl
  where
    go : (t : Bool) → (a == b) ≡ t → t ≡ (b == a)
    go true e = sym (eq-eqb b a (sym (eqb-true a b e)))
    go false e = sym (ne_eqb b a (λ q. eqb-false a b e (sym q)))

words_count : (n w : ℕ) (x y : Bool) →
    count w ((x ⇒ (out_word n ∷ []) else []) ++ (y ⇒ (in_word n ∷ []) else [])) ≡ (x ⇒ to_bit (out_word n == w) else 0) + (y ⇒ to_bit (in_word n == w) else 0)
words_count n w true true = omega arith
words_count n w true false = omega arith
words_count n w false true = omega arith
words_count n w false false = omega arith

-- v owns w after the edge is entered: before, or by this edge
owned_count : (own : List ℕ) (n a o v w : ℕ) → in_word n < length own → get_or own (out_word n) 0 ≡ 0 → get_or own (in_word n) 0 ≡ 0 → 1 ≤ v →
    to_bit (get_or (owned n a o own) w 0 == v) ≡ to_bit (get_or own w 0 == v) + ((v == a) ⇒ to_bit (out_word n == w) else 0) + ((v == o) ⇒ to_bit (in_word n == w) else 0)
owned_count own n a o v w h p q l = go (out_word n == w) (in_word n == w) refl refl
  where
    zero_v : (0 == v) ≡ false
    zero_v = ne_eqb 0 v (λ e. omega arith)

    first : (x y : Bool) → to_bit x ≡ to_bit false + (x ⇒ 1 else 0) + (y ⇒ 0 else 0)
    first true true = refl
    first true false = refl
    first false true = refl
    first false false = refl

    second : (x y : Bool) → to_bit y ≡ to_bit false + (x ⇒ 0 else 0) + (y ⇒ 1 else 0)
    second true true = refl
    second true false = refl
    second false true = refl
    second false false = refl

    none : (x y : Bool) (b : ℕ) → b ≡ b + (x ⇒ 0 else 0) + (y ⇒ 0 else 0)
    none true true b = omega arith
    none true false b = omega arith
    none false true b = omega arith
    none false false b = omega arith

    go : (s t : Bool) → (out_word n == w) ≡ s → (in_word n == w) ≡ t →
        to_bit (get_or (owned n a o own) w 0 == v) ≡ to_bit (get_or own w 0 == v) + ((v == a) ⇒ to_bit s else 0) + ((v == o) ⇒ to_bit t else 0)
    go true true e f = absurd (let x : out_word n ≡ w = eqb-true (out_word n) w e in let y : in_word n ≡ w = eqb-true (in_word n) w f in omega arith)
    go true false e f =
        let x : out_word n ≡ w = eqb-true (out_word n) w e in
        rw (← x, owned_out own n a o h, p, zero_v, eqb_sym a v) (first (v == a) (v == o))
    go false true e f =
        let y : in_word n ≡ w = eqb-true (in_word n) w f in
        rw (← y, owned_in own n a o h, q, zero_v, eqb_sym o v) (second (v == a) (v == o))
    go false false e f =
        rw (owned_other own n a o w (λ r. eqb-false (out_word n) w e (sym r)) (λ r. eqb-false (in_word n) w f (sym r)))
        (none (v == a) (v == o) (to_bit (get_or own w 0 == v)))

-- ---- the part

module _ (cap types : ℕ) (vs : List ℕ) where
  -- a sound walk of one record more: the record, and the rest
  pub record EdgeStep (seen : List ℕ) (k : ℕ) (ws : List ℕ) (at : ℕ) : Type 0 where
    pub ok : EdgeOk cap types (not (member (get_or ws 0 0) seen)) (member (get_or ws 1 0) vs) (member (get_or ws 2 0) vs) (get_or ws 0 0) (get_or ws 3 0) (get_or ws 4 0) (get_or ws 5 0)
    pub high : get_or ws 0 0 ≤ cap
    pub rest : edge_walk cap types vs (get_or ws 0 0 ∷ seen) k (drop edge_size ws) (at + edge_size) ≡ Ok tt

  pub edge_step : (seen : List ℕ) (k : ℕ) (ws : List ℕ) (at : ℕ) → edge_walk cap types vs seen (suc k) ws at ≡ Ok tt → EdgeStep seen k ws at
  unfolding walk
  edge_step seen k ws at s =
      let n = get_or ws 0 0 in
      let f = not (member n seen) in
      let a = member (get_or ws 1 0) vs in
      let o = member (get_or ws 2 0) vs in
      let r = record_sound 6 at (good_edge cap types f a o n (get_or ws 3 0) (get_or ws 4 0) (get_or ws 5 0)) (edge_walk cap types vs (n ∷ seen) k (drop edge_size ws) (at + edge_size)) s in
      let q = edge_ok cap types f a o n (get_or ws 3 0) (get_or ws 4 0) (get_or ws 5 0) r.0 in
      record { ok = q; high = (within_range 1 cap n q.number).1; rest = r.1 }

  module _ (no_zero : member 0 vs ≡ false) where
    not_zero : (a : ℕ) → member a vs ≡ true → a ≡ 0 → ⊥
    not_zero a h e = true≢false (sym h ∙ subst (λ (v : ℕ). member v vs ≡ false) (sym e) no_zero)

    pub edge_agrees : (deg own seen : List ℕ) (k : ℕ) (ws : List ℕ) (at : ℕ) → 2 * cap + 1 < length own → Marked vs deg → Seen seen own →
        edge_run (part_limits cap types) deg own k ws at ≡ edge_walk cap types vs seen k ws at
    unfolding edge_run walk
    edge_agrees deg own seen zero ws at h m s = refl
    edge_agrees deg own seen (suc k) ws at h m s =
        let n = get_or ws 0 0 in
        let a = get_or ws 1 0 in
        let o = get_or ws 2 0 in
        rw (s n, m a, m o)
        (record_same 6 at (good_edge cap types (not (member n seen)) (member a vs) (member o vs) n (get_or ws 3 0) (get_or ws 4 0) (get_or ws 5 0)) _ _ λ g.
        let ok = edge_ok cap types (not (member n seen)) (member a vs) (member o vs) n (get_or ws 3 0) (get_or ws 4 0) (get_or ws 5 0) g in
        let l = within_range 1 cap n ok.number in
        edge_agrees (with_ends a o deg) (owned n a o own) (n ∷ seen) k (drop edge_size ws) (at + edge_size)
        (rw (length-set, length-set) h)
        (marked_ends vs deg a o ok.starts ok.stops m)
        (seen_owned own n a o seen (omega arith) (not_zero a ok.starts) s))

    pub degrees_agree : (deg seen : List ℕ) (k : ℕ) (ws : List ℕ) (at : ℕ) → Marked vs deg → edge_walk cap types vs seen k ws at ≡ Ok tt →
        (v : ℕ) → get_or (edge_degrees deg k ws) v 0 ≡ get_or deg v 0 + length (words_at (edges_from k ws) v)
    unfolding edge_degrees edges_from words_at
    degrees_agree deg seen zero ws at m s v = omega arith
    degrees_agree deg seen (suc k) ws at m s v =
        let n = get_or ws 0 0 in
        let a = get_or ws 1 0 in
        let o = get_or ws 2 0 in
        let e : Edge = record { number = n; alpha = a; omega = o; type = get_or ws 3 0; reading = reading_of (get_or ws 4 0) (get_or ws 5 0) } in
        let r = edge_step seen k ws at s in
        omega (
          arith,
          degrees_agree (with_ends a o deg) (n ∷ seen) k (drop edge_size ws) (at + edge_size) (marked_ends vs deg a o r.ok.starts r.ok.stops m) r.rest v,
          ends_at deg a o v (marked_inside vs deg a m r.ok.starts) (marked_inside vs deg o m r.ok.stops),
          length-append (words_of v e) (words_at (edges_from k (drop edge_size ws)) v),
          words_length v e,
          ap to_bit (eqb_sym v a),
          ap to_bit (eqb_sym v o),
        )

    pub owners_agree : (own seen : List ℕ) (k : ℕ) (ws : List ℕ) (at : ℕ) → 2 * cap + 1 < length own → Seen seen own → Paired own → edge_walk cap types vs seen k ws at ≡ Ok tt →
        (v : ℕ) → 1 ≤ v → (w : ℕ) → to_bit (get_or (edge_owners own k ws) w 0 == v) ≡ to_bit (get_or own w 0 == v) + count w (words_at (edges_from k ws) v)
    unfolding edge_owners edges_from words_at
    owners_agree own seen zero ws at h u p s v l w = omega arith
    owners_agree own seen (suc k) ws at h u p s v l w =
        let n = get_or ws 0 0 in
        let a = get_or ws 1 0 in
        let o = get_or ws 2 0 in
        let r = edge_step seen k ws at s in
        let i : in_word n < length own = omega (arith, r.high) in
        let out : get_or own (out_word n) 0 ≡ 0 = eqb-true (get_or own (out_word n) 0) 0 (u n ∙ r.ok.new) in
        let z : a ≡ 0 → ⊥ = not_zero a r.ok.starts in
        omega (
          arith,
          owners_agree (owned n a o own) (n ∷ seen) k (drop edge_size ws) (at + edge_size) (rw (length-set, length-set) h) (seen_owned own n a o seen i z u) (paired_owned own n a o i z p)
              r.rest v l w,
          owned_count own n a o v w i out (p n out) l,
          sum_append (λ x. to_bit (x == w)) (((v == a) ⇒ (out_word n ∷ []) else []) ++ ((v == o) ⇒ (in_word n ∷ []) else [])) (words_at (edges_from k (drop edge_size ws)) v),
          words_count n w (v == a) (v == o),
        )
