-- A look-up finds a number exactly where the graph has it.
use Rattle.std.specs.Prelude.{◌==◌}
use Rattle.std.proofs.Math.Nat.{div-le_self, mul-le-mul_left, mul-div-le, lt-mul-div-succ, le_trans}
use Rattle.std.proofs.Common.{◌≡◌, ℕ, ◌+◌, ◌-◌, ◌*◌, ◌/◌, ◌%◌, ◌^◌, ◌<◌, ◌≤◌, Bool, true, false, eqb, ltb, ◌≢◌, List, length, get_or, refl, ◌∙◌, arith, le-ltb, lt-ltb, eq-eqb, ne_eqb}
use Rattle.lists.specs.Choice.{◌⇒◌else◌}
use borrow.Author.Tests.{eqb-false}
use Rattle.lists.proofs.Picks.{same, differ, same?}
use Rattle.graph.specs.Graph.{Graph, has_vertex, has_edge}
use Rattle.graph.proofs.Numbers.{vertex_none, edge_none, vertex_once, edge_once}
use Rattle.graph_tables.specs.declared.Lookup.TheVariants.{Found, Missing}
use Rattle.graph_tables.specs.Tables.{State, vertex_list_ends, edge_list_ends, found_row, lookup_vertex, lookup_edge}
use Rattle.graph_tables.specs.Holds.{Holds}
use Rattle.graph_tables.proofs.Frames.{row_v, row_e}

module _ (size live : ℕ) (table : List ℕ) (n : ℕ) where
  row_missing : (1 ≤ n → get_or table (size * n - size + live) 0 ≡ 0) → found_row size live table n ≡ Missing
  unfolding found_row
  row_missing h = go (eqb n 0) (ltb (length table) (size * n)) refl
    where
      go : (b d : Bool) → eqb n 0 ≡ b → (b ⇒ Missing else d ⇒ Missing else (get_or table (size * n - size + live) 0 == 0) ⇒ Missing else Found (size * n - size)) ≡ Missing
      go true d p = refl
      go false true p = refl
      go false false p = simp (eq-eqb (get_or table (size * n - size + live) 0) 0 (h (omega (arith, eqb-false n 0 p))))

  row_found : (1 ≤ n) × (size * n ≤ length table) → get_or table (size * n - size + live) 0 ≡ 1 → found_row size live table n ≡ Found (size * n - size)
  unfolding found_row
  row_found r e = simp (ne_eqb n 0 (λ q. omega arith), le-ltb (length table) (size * n) r.1, e)

  -- one test for 0 and for what is past the table: n less 1 wraps to the greatest word
  pub row_past : (n ≢ 0 → length table < size * n) → found_row size live table n ≡ Missing
  unfolding found_row
  row_past h = elim (same? n 0) [
    | same e f ↦ simp (eq-eqb n 0 e)
    | differ e f ↦ simp (ne_eqb n 0 e, lt-ltb (length table) (size * n) (h e))
  ]

-- what the one test says, by n less 1 wrapped, which for 0 is the greatest word
module _ (size length n : ℕ) (some : 1 ≤ size) (few : n < 2 ^ 32) (short : length < 2 ^ 62) where
  pub row_there : (n + 18446744073709551615) % 18446744073709551616 < length / size → (n ≢ 0) × (size * n ≤ length)
  row_there h =
      let d = div-le_self length size in
      let m : n ≤ length / size = omega (arith, h, few) in
      (λ z. omega (arith, h, z, d, short), le_trans (mul-le-mul_left size m) (mul-div-le length size))

  pub row_beyond : length / size ≤ (n + 18446744073709551615) % 18446744073709551616 → n ≢ 0 → length < size * n
  row_beyond h z =
      let m : length / size + 1 ≤ n = omega (arith, h, few, z) in
      le_trans (lt-mul-div-succ length some) (mul-le-mul_left size m)

-- as one equation with the test of codes 3, 4 and 5
module _ (s : State) (g : Graph) (h : Holds s g) (n : ℕ) where
  pub found_vertex : lookup_vertex s.vertices n ≡ (has_vertex g n ⇒ Found (8 * n - 8) else Missing)
  found_vertex = go (has_vertex g n) refl
    where
      go : (b : Bool) → has_vertex g n ≡ b → lookup_vertex s.vertices n ≡ (b ⇒ Found (8 * n - 8) else Missing)
      go true e =
          let c = vertex_once g n h.sound e in
          let r = row_v s.vertices (vertex_list_ends s.head) g.vseq h.core.vseq n (omega arith) in
          row_found 8 0 s.vertices n r ((h.core.vrows n r.0).live ∙ c)
      go false e = row_missing 8 0 s.vertices n (λ p. (h.core.vrows n p).live ∙ vertex_none g n e)

  pub found_edge : lookup_edge s.edges n ≡ (has_edge g n ⇒ Found (12 * n - 12) else Missing)
  found_edge = go (has_edge g n) refl
    where
      go : (b : Bool) → has_edge g n ≡ b → lookup_edge s.edges n ≡ (b ⇒ Found (12 * n - 12) else Missing)
      go true e =
          let c = edge_once g n h.sound e in
          let r = row_e s.edges (edge_list_ends s.head) g.eseq h.core.eseq n (omega arith) in
          row_found 12 3 s.edges n r ((h.core.erows n r.0).live ∙ c)
      go false e = row_missing 12 3 s.edges n (λ p. (h.core.erows n p).live ∙ edge_none g n e)
