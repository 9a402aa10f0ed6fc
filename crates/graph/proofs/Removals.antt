-- Taking out an edge or a vertex, and moving a word: the edits apply.
use Prim.Native.Nat.{ℕ, ◌+◌, ◌≤◌}
use mathlib.Core.Path.{◌≡◌, refl}
use mathlib.Core.List.{[]}
use Rattle.lists.specs.Choice.{indicator}
use Rattle.lists.specs.Keyed.{count_by_key}
use Rattle.graph.specs.Graph.{Graph, itself, vertex, edge, list_of, edge_of}
use Rattle.graph.specs.Changes.{delete_edge, VertexThere, EdgeThere}
use Rattle.graph.specs.Edits.{apply, Applies}
use Rattle.graph.specs.Plans.{removal, vertex_removal, word_move, list_without}
use Rattle.graph.proofs.Numbers.{vertex_number_lem, edge_number_lem}

module _ (g : Graph) where
  pub removal_applies : (n : ℕ) → EdgeThere g n → Applies (removal n g) g
  unfolding removal
  removal_applies n h = (
    record { there = h; before = refl },
    (λ i. record { number = edge_number_lem g n h i; alpha = (edge g n).alpha; omega = (edge g n).omega; type = (edge g n).type; reading = (edge g n).reading }),
    refl,
    refl,
  )

  pub removal_is : (n : ℕ) → apply (removal n g) g ≡ delete_edge n g
  unfolding removal delete_edge
  removal_is n = refl

  pub vertex_removal_applies : (a : ℕ) → VertexThere g a → list_of g a ≡ [] → Applies (vertex_removal a g) g
  unfolding vertex_removal
  vertex_removal_applies a h e = (
    record { there = h; before = refl },
    λ i. record { number = vertex_number_lem g a h i; type = (vertex g a).type; value = (vertex g a).value; incidences = e i },
  )

  pub word_move_applies : (x u p : ℕ) → EdgeThere g (edge_of x) → VertexThere g u → 1 ≤ indicator 0 p + count_by_key itself p (list_without x u g) → Applies (word_move x u p g) g
  unfolding word_move
  word_move_applies x u p h i j = (h, refl, i, refl, j)
