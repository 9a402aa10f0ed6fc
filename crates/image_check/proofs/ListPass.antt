-- The incidence part: the run over scratch is the walk over lists.
use Rattle.std.specs.Prelude.{◌==◌}
use Prim.Native.Nat.{ℕ, zero, suc, ◌+◌, ◌-◌, ◌≤◌}
use mathlib.Core.Path.{◌≡◌, refl, sym, ap, ◌∙◌, subst}
use mathlib.Core.Bool.{Bool, true, false, not}
use mathlib.Core.List.{List, [], ◌∷◌}
use native.Mathlib.Omega.{arith}
use lib.Dec.{ltb}
use lib.ListN.{length, get_or, drop, set}
use lib.Seq.{set_out, get_or-set_same, get_or-set_other}
use borrow.Author.Tests.{ne_eqb, eqb-true, eqb-false, ltb-true, ltb-false, not-true}
use Rattle.lists.specs.Choice.{◌⇒◌else◌, to_bit}
use Rattle.lists.specs.Lists.{member, count, distinct}
use Rattle.lists.specs.Keyed.{remove_by}
use Rattle.lists.proofs.Bools.{and_true, or_none}
use Rattle.lists.proofs.Sums.{has_count, has_not, bit_le}
use Rattle.graph.specs.Graph.{Edge, itself}
use Rattle.graph.specs.WellFormed.{words_at}
use Rattle.image_check.specs.Checks.{good_list, list_walk}
use Rattle.image.specs.Image.{numbers_in}
use Rattle.image_check.specs.Scratch.{list_run, list_owners, incidence_run}
use Rattle.image.proofs.Counts.{rem_count}
use Rattle.image_check.proofs.Verdicts.{list_same}
use Rattle.lists.proofs.Members.{has_self, has_later, not_has, positive}
use Rattle.lists.proofs.WordLaws.{inside}

-- ---- one list

-- v owns exactly the words that are wanted, each once
abbrev pub Owns : ℕ → List ℕ → List ℕ → Type 0
Owns v own wanted = (w : ℕ) → to_bit (get_or own w 0 == v) ≡ count w wanted

owns_has : (v : ℕ) (own wanted : List ℕ) → Owns v own wanted → (w : ℕ) → (get_or own w 0 == v) ≡ member w wanted
owns_has v own wanted k w = go (get_or own w 0 == v) (member w wanted) refl refl (k w)
  where
    go : (s t : Bool) → (get_or own w 0 == v) ≡ s → member w wanted ≡ t → to_bit s ≡ count w wanted → s ≡ t
    go true true e f q = refl
    go true false e f q = absurd (omega (arith, has_not w wanted f))
    go false true e f q = absurd (omega (arith, has_count w wanted f))
    go false false e f q = refl

owns_set : (v : ℕ) (own wanted : List ℕ) (w : ℕ) → 1 ≤ v → Owns v own wanted → member w wanted ≡ true → Owns v (set own w 0) (remove_by itself w wanted)
owns_set v own wanted w l k h x = go (w == x) refl
  where
    at_w : get_or own w 0 ≡ v
    at_w = eqb-true (get_or own w 0) v (owns_has v own wanted k w ∙ h)

    less : to_bit (w == x) + count x (remove_by itself w wanted) ≡ count x wanted
    less = rem_count w wanted (has_count w wanted h) x

    go : (t : Bool) → (w == x) ≡ t → to_bit (get_or (set own w 0) x 0 == v) ≡ count x (remove_by itself w wanted)
    go true e =
        let q : w ≡ x = eqb-true w x e in
        let s : get_or (set own w 0) x 0 ≡ 0 = subst (λ (y : ℕ). get_or (set own w 0) y 0 ≡ 0) q (get_or-set_same own w 0 0 (inside own w (omega (arith, at_w)))) in
        let z : (0 == v) ≡ false = ne_eqb 0 v (λ r. omega arith) in
        let less' : 1 + count x (remove_by itself w wanted) ≡ count x wanted = rw e at less in
        rw (s, z) (omega (arith, k x, bit_le (get_or own x 0 == v)))
    go false e =
        let less' : 0 + count x (remove_by itself w wanted) ≡ count x wanted = rw e at less in
        rw (get_or-set_other own w x 0 0 (λ r. eqb-false w x e (sym r))) (omega (arith, k x))

list_agrees : (v d : ℕ) (own wanted ws : List ℕ) → 1 ≤ v → Owns v own wanted → list_run v d own ws ≡ good_list d wanted ws
unfolding list_run good_list
list_agrees v zero own wanted ws l k = refl
list_agrees v (suc d) own wanted [] l k = refl
list_agrees v (suc d) own wanted (w ∷ ws) l k =
    rw (owns_has v own wanted k w) (go (λ e. list_agrees v d (set own w 0) (remove_by itself w wanted) ws l (owns_set v own wanted w l k e)) (member w wanted) refl)
  where
    go : (member w wanted ≡ true → list_run v d (set own w 0) ws ≡ good_list d (remove_by itself w wanted) ws) → (t : Bool) → member w wanted ≡ t →
        (t ⇒ suc (list_run v d (set own w 0) ws) else 0) ≡ (t ⇒ suc (good_list d (remove_by itself w wanted) ws) else 0)
    go ih true e = ap suc (ih e)
    go ih false e = refl

-- a word of v that is taken is no word of u
taken_keeps : (u v : ℕ) (own : List ℕ) (w : ℕ) → 1 ≤ u → (u ≡ v → ⊥) → get_or own w 0 ≡ v → (x : ℕ) → (get_or (set own w 0) x 0 == u) ≡ (get_or own x 0 == u)
taken_keeps u v own w l n a x = go (w == x) refl
  where
    go : (t : Bool) → (w == x) ≡ t → (get_or (set own w 0) x 0 == u) ≡ (get_or own x 0 == u)
    go false f = rw (get_or-set_other own w x 0 0 (λ r. eqb-false w x f (sym r)))
    go true f = subst (λ (y : ℕ). (get_or (set own w 0) y 0 == u) ≡ (get_or own y 0 == u)) (eqb-true w x f) (at_w (ltb w (length own)) refl)
      where
        at_w : (t : Bool) → ltb w (length own) ≡ t → (get_or (set own w 0) w 0 == u) ≡ (get_or own w 0 == u)
        at_w true i =
            rw (get_or-set_same own w 0 0 (ltb-true w (length own) i), ne_eqb 0 u (λ r. omega arith), ne_eqb (get_or own w 0) u (λ r. n (sym r ∙ a)))
        at_w false i = rw (set_out own w 0 (ltb-false w (length own) i))

-- a list of v takes nothing from u
list_keeps : (u v d : ℕ) (own ws : List ℕ) → 1 ≤ u → (u ≡ v → ⊥) → d ≤ list_run v d own ws → (x : ℕ) → to_bit (get_or (list_owners d own ws) x 0 == u) ≡ to_bit (get_or own x 0 == u)
unfolding list_run list_owners
list_keeps u v zero own ws l n h x = refl
list_keeps u v (suc d) own [] l n h x = absurd (omega arith)
list_keeps u v (suc d) own (w ∷ ws) l n h x = go (λ i. list_keeps u v d (set own w 0) ws l n i x) (get_or own w 0 == v) refl h
  where
    go : (d ≤ list_run v d (set own w 0) ws → to_bit (get_or (list_owners d (set own w 0) ws) x 0 == u) ≡ to_bit (get_or (set own w 0) x 0 == u)) →
        (t : Bool) → (get_or own w 0 == v) ≡ t → suc d ≤ (t ⇒ suc (list_run v d (set own w 0) ws) else 0) →
        to_bit (get_or (list_owners d (set own w 0) ws) x 0 == u) ≡ to_bit (get_or own x 0 == u)
    go ih false e h = absurd (omega arith)
    go ih true e h = ih (omega arith) ∙ ap to_bit (taken_keeps u v own w l n (eqb-true (get_or own w 0) v e) x)

-- ---- each vertex's list in turn

pub incidence_agrees : (size : ℕ) (es : List Edge) (deg own : List ℕ) (k : ℕ) (vs ws : List ℕ) (at : ℕ) →
    ((v : ℕ) → member v (numbers_in size k vs) ≡ true → get_or deg v 0 - 1 ≡ length (words_at es v)) →
    ((v : ℕ) → member v (numbers_in size k vs) ≡ true → Owns v own (words_at es v)) →
    member 0 (numbers_in size k vs) ≡ false → distinct (numbers_in size k vs) ≡ true →
    incidence_run size deg own k vs ws at ≡ list_walk es (numbers_in size k vs) ws at
unfolding incidence_run list_walk numbers_in
incidence_agrees size es deg own zero vs ws at dg ow z ds = refl
incidence_agrees size es deg own (suc k) vs ws at dg ow z ds =
    let v = get_or vs 0 0 in
    let ns = numbers_in size k (drop size vs) in
    let d = length (words_at es v) in
    let self = has_self v ns in
    let dd = and_true (not (member v ns)) (distinct ns) ds in
    let tie = list_agrees v d own (words_at es v) ws (positive v (v ∷ ns) z self) (ow v self) in
    rw (dg v self, tie)
    (list_same d at (good_list d (words_at es v) ws) _ _ λ g.
    incidence_agrees size es deg (list_owners d own ws) k (drop size vs) (drop d ws) (at + d)
    (λ u h. dg u (has_later u v ns h))
    (λ u h w.
    list_keeps u v d own ws (positive u (v ∷ ns) z (has_later u v ns h)) (not_has u v ns (not-true (member v ns) dd.0) h) (rw tie g) w
    ∙ ow u (has_later u v ns h) w)
    (or_none (v == 0) (member 0 ns) z).1
    dd.1)
