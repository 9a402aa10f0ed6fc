-- What is noted for a number leads to its edge: looking edges up so finds what looking through all of them finds.
use Prim.Native.Nat.{ℕ, zero, suc, ◌+◌, ◌*◌, ◌≤◌, ◌<◌}
use mathlib.Core.Path.{◌≡◌, refl, sym, ap, ◌∙◌, subst}
use mathlib.Core.Logic.{◌≢◌}
use mathlib.Core.Bool.{Bool}
use mathlib.Core.List.{List, ◌∷◌}
use native.Mathlib.Omega.{arith}
use lib.ListN.{length, get_or, set, drop, replicate, length-set, length-replicate, get_or-replicate, get_or-eq_default}
use lib.Seq.{get_or-set_same, get_or-set_other}
use Rattle.lists.specs.Choice.{to_bit}
use Rattle.lists.specs.Lists.{any, All}
use Rattle.lists.specs.Keyed.{count_by_key}
use Rattle.lists.proofs.Picks.{pick_yes, pick_no, same, differ, same?, is_yes, is_no, is_zero}
use Rattle.lists.proofs.Sums.{all_imp}
use Rattle.graph.specs.Graph.{Edge, edge_number, edge_in}
use Rattle.graph.specs.Limits.{most_edges}
use Rattle.image.specs.Image.{edges_from}
use Rattle.comparison.specs.Comparison.{paired}
use Rattle.comparison.specs.Walks.{edge_at, noted, places_of, partner, paired_from}
use Rattle.comparison.proofs.Turns.{records_next, noted_next}
use Rattle.comparison.proofs.PairLaws.{ByNumber, Once, any_none, any_one, sum_agree}

-- a number that no record has keeps what was noted before
other : (ps ws : List ℕ) (i k at n : ℕ) → count_by_key edge_number n (edges_from k (drop at ws)) ≡ 0 →
    get_or (noted ps i k (drop at ws)) n 0 ≡ get_or ps n 0
unfolding noted
other ps ws i zero at n h = refl
other ps ws i (suc k) at n h =
    let m = get_or ws at 0 in
    let h' : count_by_key edge_number n (edge_at ws at ∷ edges_from k (drop (at + 6) ws)) ≡ 0 = rw (records_next k at ws) at h in
    let d : n ≢ m = λ e. is_zero m n (omega arith) (sym e) in
    rw (noted_next ps i k at ws) (other (set ps m i) ws (i + 1) k (at + 6) n (omega arith) ∙ get_or-set_other ps m n i 0 d)

no_records : (n : ℕ) (ws : List ℕ) → count_by_key edge_number n (edges_from 0 ws) ≡ 0
unfolding edges_from
no_records n ws = refl

-- one that a record has leads to it
found : (ps ws : List ℕ) (i k at n : ℕ) → at ≡ 6 * i → n < length ps → Once (edges_from k (drop at ws)) →
    1 ≤ count_by_key edge_number n (edges_from k (drop at ws)) →
    partner (noted ps i k (drop at ws)) ws n ≡ edge_in (edges_from k (drop at ws)) n
found ps ws i zero at n z r u h = absurd (omega (arith, no_records n (drop at ws)))
found ps ws i (suc k) at n z r u h =
    let m = get_or ws at 0 in
    let rest = edges_from k (drop (at + 6) ws) in
    let u' : Once (edge_at ws at ∷ rest) = λ j. rw (records_next k at ws) at (u j) in
    let h' : 1 ≤ count_by_key edge_number n (edge_at ws at ∷ rest) = rw (records_next k at ws) at h in
    let later = noted (set ps m i) (i + 1) k (drop (at + 6) ws) in
    rw (records_next k at ws, noted_next ps i k at ws) (elim (same? m n) [
      | same e f ↦
          let c : count_by_key edge_number n rest ≡ 0 = omega (arith, u' n, is_yes m n e) in
          let p : get_or later n 0 ≡ i =
          other (set ps m i) ws (i + 1) k (at + 6) n c
          ∙ subst (λ (j : ℕ). get_or (set ps j i) n 0 ≡ i) f (get_or-set_same ps n i 0 r) in
          let q : 6 * get_or later n 0 ≡ at = omega (arith, p) in
          rw (pick_yes m n (edge_at ws at) (edge_in rest n) e) (ap (edge_at ws) q)
      | differ e f ↦
          rw (pick_no m n (edge_at ws at) (edge_in rest n) e)
          (found (set ps m i) ws (i + 1) k (at + 6) n (omega arith) (rw (length-set ps m i) r) (λ j. omega (arith, u' j))
          (omega (arith, h', is_no m n e)))
    ])

module _ (q : Edge → Edge → Bool) (by : ByNumber q) (ws : List ℕ) (k : ℕ) (long : length ws ≡ 6 * k) (once : Once (edges_from k ws)) where
  -- where no record has the number, the first one has another
  stranger : (j : ℕ) → j ≡ k → (n : ℕ) → 1 ≤ n → count_by_key edge_number n (edges_from j ws) ≡ 0 → n ≢ get_or ws 0 0
  unfolding edges_from
  stranger zero f n p c e = omega (arith, get_or-eq_default ws 0 {n = 0} (omega arith))
  stranger (suc j) f n p c e = is_zero (get_or ws 0 0) n (omega arith) (sym e)

  looked_up : (e : Edge) → 1 ≤ e.number → e.number ≤ most_edges → q e (partner (places_of k ws) ws e.number) ≡ any (q e) (edges_from k ws)
  looked_up e p r = go (count_by_key edge_number e.number (edges_from k ws)) refl
    where
      here : e.number < length (replicate {A = ℕ} 4001 0)
      here = rw (length-replicate {A = ℕ} 4001 0) (omega arith)

      go : (c : ℕ) → count_by_key edge_number e.number (edges_from k ws) ≡ c → q e (partner (places_of k ws) ws e.number) ≡ any (q e) (edges_from k ws)
      go zero c =
          let z : get_or (places_of k ws) e.number 0 ≡ 0 =
          other (replicate 4001 0) ws 0 k 0 e.number c ∙ get_or-replicate 4001 e.number 0 0 (omega arith) in
          let s : 6 * get_or (places_of k ws) e.number 0 ≡ 0 = omega (arith, z) in
          ap (λ (j : ℕ). q e (edge_at ws j)) s
          ∙ by e (edge_at ws 0) (stranger k refl e.number p c)
          ∙ sym (any_none q by e (edges_from k ws) c)
      go (suc c) h =
          ap (q e) (found (replicate 4001 0) ws 0 k 0 e.number refl here once (omega arith))
          ∙ sym (any_one q by e (edges_from k ws) once (omega arith))

  -- the whole of it
  pub paired_walk : (us : List ℕ) (m : ℕ) → All (λ (e : Edge). (1 ≤ e.number) × (e.number ≤ most_edges)) (edges_from m us) →
      paired_from q (places_of k ws) ws m us ≡ paired q (edges_from m us) (edges_from k ws)
  paired_walk us m a =
      sum_agree (λ (e : Edge). to_bit (q e (partner (places_of k ws) ws e.number))) (λ (e : Edge). to_bit (any (q e) (edges_from k ws)))
      (all_imp (λ (e : Edge) r. ap to_bit (looked_up e r.0 r.1)) a)
