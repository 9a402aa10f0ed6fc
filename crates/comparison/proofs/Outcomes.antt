-- The three answers: the first's code, 110, or the counts; and what holds of every comparison, with code 0 and with
-- another (REFERENCE 17.2, 17.5, 17.6).
use Rattle.std.specs.Prelude.{◌==◌}
use Prim.Native.Nat.{ℕ, ◌+◌, ◌*◌, ◌-◌, ◌≤◌}
use mathlib.Core.Path.{◌≡◌, refl, sym, ap, ◌∙◌}
use mathlib.Core.Bool.{Bool, true, false}
use mathlib.Core.List.{List}
use native.Mathlib.Omega.{arith}
use lib.ListN.{length}
use borrow.Author.Tests.{ne_eqb, eqb-true, eqb-false}
use Rattle.lists.specs.Lists.{All}
use Rattle.lists.proofs.Bools.{within_range}
use Rattle.lists.proofs.Counts.{count_by_key_lem}
use Rattle.lists.proofs.Sums.{distinct_count, all_bool}
use Rattle.graph.specs.Graph.{Edge, edge_number, edge_numbers}
use Rattle.graph.specs.Limits.{most_edges}
use Rattle.graph.specs.WellFormed.{sound_edge, well_formed}
use Rattle.image.specs.Image.{record_size, part, edge_count, edge_part, edges_from, load, loadable}
use Rattle.image_check.specs.Checks.{saved_bounds, load_code, verdict}
use Rattle.image_check.proofs.Verdicts.{zero_sound}
use Rattle.image_check.proofs.LoadCodes.{code_loads}
use Rattle.image.proofs.Loads.{loaded}
use Rattle.image.proofs.Parts.{long_edges}
use Rattle.image.proofs.Room.{few_edges_lem}
use Rattle.image.proofs.EdgePart.{part_two, load_edges, eseq_count}
use Rattle.image.proofs.Formed.{formed, edge_facts}
use Rattle.comparison.specs.declared.Compared.{Compared}
use Rattle.comparison.specs.Comparison.{matches, alike, paired, unmatched, compared, refused, comparison}
use Rattle.comparison.specs.Walks.{places_of, paired_from}
use Rattle.comparison.proofs.PairLaws.{Once, matches_by, alike_by, first_adds, second_adds, matched_swap, agreeing_swap, agreeing_few}
use Rattle.comparison.proofs.Notes.{paired_walk}

-- ---- refusals

module _ (us ws : List ℕ) (t : ℕ) where
  pub first_refused : (code : ℕ) → code ≡ load_code saved_bounds us → (code ≡ 0 → ⊥) → refused code ≡ comparison us ws t
  unfolding comparison
  first_refused code e n = simp (ne_eqb (load_code saved_bounds us) 0 (λ z. n (e ∙ z))) (rw e)

  pub second_refused : load_code saved_bounds us ≡ 0 → (load_code saved_bounds ws ≡ 0 → ⊥) → refused 110 ≡ comparison us ws t
  unfolding comparison
  second_refused y n = rw (zero_sound (verdict saved_bounds us) y) (simp (ne_eqb (load_code saved_bounds ws) 0 n))

  pub both_load : load_code saved_bounds us ≡ 0 → load_code saved_bounds ws ≡ 0 →
      compared t (load us).eseq (load ws).eseq ≡ comparison us ws t
  unfolding comparison
  both_load y z = rw (zero_sound (verdict saved_bounds us) y, zero_sound (verdict saved_bounds ws) z)

-- ---- the edges of words that load

abbrev Numbered : Edge → Type 0
Numbered e = (1 ≤ e.number) × (e.number ≤ most_edges)

module _ (ws : List ℕ) (z : load_code saved_bounds ws ≡ 0) where
  good : loadable saved_bounds ws ≡ true
  good = (code_loads saved_bounds ws).0 z

  fine : well_formed saved_bounds (load ws) ≡ true
  fine = (loaded saved_bounds ws good).formed

  pub edges_once : Once (load ws).eseq
  edges_once n =
      omega (arith, distinct_count (edge_numbers (load ws)) (formed saved_bounds (load ws) fine).distinct_edge_numbers n, count_by_key_lem edge_number n (load ws).eseq)

  numbered : All Numbered (load ws).eseq
  numbered =
      all_bool (sound_edge saved_bounds (load ws))
      (λ e s. within_range 1 most_edges e.number (edge_facts saved_bounds (load ws) e s).number)
      (load ws).eseq (formed saved_bounds (load ws) fine).edges_sound

  pub few : edge_count ws ≤ most_edges
  few = omega (arith, few_edges_lem saved_bounds (load ws) fine, eseq_count ws)

  records : part 2 ws ≡ edge_part (record_size ws) ws
  records = part_two ws (loaded saved_bounds ws good).header

  long : length (part 2 ws) ≡ 6 * edge_count ws
  long = ap length records ∙ long_edges ws (loaded saved_bounds ws good).header

  pub edges_of : (n : ℕ) → n ≡ edge_count ws → (es : List ℕ) → es ≡ part 2 ws → 6 * n ≡ length es
  edges_of n f es p = rw (f, p) (sym long)

  read : edges_from (edge_count ws) (part 2 ws) ≡ (load ws).eseq
  read = ap (edges_from (edge_count ws)) records ∙ sym (load_edges ws)

-- ---- what the walk counts

module _ (us ws : List ℕ) (t : ℕ) (y : load_code saved_bounds us ≡ 0) (z : load_code saved_bounds ws ≡ 0) where
  walk : (q : Edge → Edge → Bool) → ((e f : Edge) → (e.number ≡ f.number → ⊥) → q e f ≡ false) →
      paired_from q (places_of (edge_count ws) (part 2 ws)) (part 2 ws) (edge_count us) (part 2 us)
      ≡ paired q (load us).eseq (load ws).eseq
  walk q by =
      paired_walk q by (part 2 ws) (edge_count ws) (long ws z) (rw (read ws z) (edges_once ws z)) (part 2 us) (edge_count us)
      (rw (read us y) (numbered us y))
      ∙ rw (read us y, read ws z)

  -- m and n are the counts of the headers, rs and ss the edge parts, a and b what is counted
  module _ (m n : ℕ) (f : m ≡ edge_count us) (g : n ≡ edge_count ws) (rs ss : List ℕ) (p : rs ≡ part 2 us) (q : ss ≡ part 2 ws)
      (a b : ℕ) (c : a ≡ paired_from matches (places_of n ss) ss m rs) (d : b ≡ paired_from (alike t) (places_of n ss) ss m rs) where
    matched_is : a ≡ paired matches (load us).eseq (load ws).eseq
    matched_is = c ∙ rw (f, g, p, q) (walk matches matches_by)

    agreeing_is : b ≡ paired (alike t) (load us).eseq (load ws).eseq
    agreeing_is = d ∙ rw (f, g, p, q) (walk (alike t) (alike_by t))

    first_is : a + unmatched (load us).eseq (load ws).eseq ≡ m
    first_is = omega (arith, matched_is, first_adds (load us).eseq (load ws).eseq, eseq_count us, f)

    second_is : a + unmatched (load ws).eseq (load us).eseq ≡ n
    second_is =
        omega (arith, matched_is, second_adds (load us).eseq (load ws).eseq (edges_once us y) (edges_once ws z), eseq_count ws, g)

    pub under_first : a ≤ m
    under_first = omega (arith, first_is)

    pub under_second : a ≤ n
    under_second = omega (arith, second_is)

    pub counted_all : record { code = 0; matched = a; agreeing = b; first = m - a; second = n - a } ≡ comparison us ws t
    counted_all = rw (← both_load us ws t y z) (parts matched_is agreeing_is (omega (arith, first_is)) (omega (arith, second_is)))
      where
        parts : {i j k l i' j' k' l' : ℕ} → i ≡ i' → j ≡ j' → k ≡ k' → l ≡ l' →
            ◌≡◌ {A = Compared} (record { code = 0; matched = i; agreeing = j; first = k; second = l })
            (record { code = 0; matched = i'; agreeing = j'; first = k'; second = l' })
        parts e f g h = rw (e, f, g, h)

-- ---- the promises of the request, for all words

module _ (us ws : List ℕ) (t : ℕ) where
  -- a code: nothing is counted
  pub refused_nothing : ((comparison us ws t).code ≡ 0 → ⊥) → comparison us ws t ≡ refused (comparison us ws t).code
  refused_nothing n = go (load_code saved_bounds us == 0) refl
    where
      from : (k : ℕ) → refused k ≡ comparison us ws t → comparison us ws t ≡ refused (comparison us ws t).code
      from k e = rw (← e)

      second : (b : Bool) → (load_code saved_bounds ws == 0) ≡ b → load_code saved_bounds us ≡ 0 → comparison us ws t ≡ refused (comparison us ws t).code
      second true f y = absurd (n (ap (λ (r : Compared). r.code) (sym (both_load us ws t y (eqb-true _ _ f)))))
      second false f y = from 110 (second_refused us ws t y (eqb-false _ _ f))

      go : (b : Bool) → (load_code saved_bounds us == 0) ≡ b → comparison us ws t ≡ refused (comparison us ws t).code
      go true e = second (load_code saved_bounds ws == 0) refl (eqb-true _ _ e)
      go false e = from (load_code saved_bounds us) (first_refused us ws t (load_code saved_bounds us) refl (eqb-false _ _ e))

  -- code 0 exactly where both load
  pub both_loaded : (comparison us ws t).code ≡ 0 → (load_code saved_bounds us ≡ 0) × (load_code saved_bounds ws ≡ 0)
  both_loaded c = go (load_code saved_bounds us == 0) refl
    where
      second : (b : Bool) → (load_code saved_bounds ws == 0) ≡ b → load_code saved_bounds us ≡ 0 → (load_code saved_bounds us ≡ 0) × (load_code saved_bounds ws ≡ 0)
      second true f y = (y, eqb-true _ _ f)
      second false f y =
          absurd (omega (arith, ap (λ (r : Compared). r.code) (second_refused us ws t y (eqb-false _ _ f)), c))

      go : (b : Bool) → (load_code saved_bounds us == 0) ≡ b → (load_code saved_bounds us ≡ 0) × (load_code saved_bounds ws ≡ 0)
      go true e = second (load_code saved_bounds ws == 0) refl (eqb-true _ _ e)
      go false e =
          absurd (eqb-false _ _ e (ap (λ (r : Compared). r.code) (first_refused us ws t (load_code saved_bounds us) refl (eqb-false _ _ e)) ∙ c))

  module _ (c : (comparison us ws t).code ≡ 0) where
    says : compared t (load us).eseq (load ws).eseq ≡ comparison us ws t
    says = both_load us ws t (both_loaded c).0 (both_loaded c).1

    -- the edges of each image are the matched and its own
    pub first_sum : (comparison us ws t).matched + (comparison us ws t).first ≡ length (load us).eseq
    first_sum = rw (← says) (first_adds (load us).eseq (load ws).eseq)

    pub second_sum : (comparison us ws t).matched + (comparison us ws t).second ≡ length (load ws).eseq
    second_sum = rw (← says) (second_adds (load us).eseq (load ws).eseq (edges_once us (both_loaded c).0) (edges_once ws (both_loaded c).1))

    pub fewer_agree : (comparison us ws t).agreeing ≤ (comparison us ws t).matched
    fewer_agree = rw (← says) (agreeing_few t (load us).eseq (load ws).eseq)

    -- the images the other way round: the last two numbers change places, the others stay
    pub swapped : comparison ws us t ≡ record {
      code = 0;
      matched = (comparison us ws t).matched;
      agreeing = (comparison us ws t).agreeing;
      first = (comparison us ws t).second;
      second = (comparison us ws t).first;
    }
    swapped =
        let u = edges_once us (both_loaded c).0 in
        let v = edges_once ws (both_loaded c).1 in
        rw (← says, ← both_load ws us t (both_loaded c).1 (both_loaded c).0)
        (rw (matched_swap (load ws).eseq (load us).eseq v u, agreeing_swap t (load ws).eseq (load us).eseq v u))
