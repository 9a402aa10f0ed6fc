-- No edit changes the length of a table.
use Rattle.std.proofs.Common.{◌≡◌, ℕ, ◌+◌, ◌*◌, length, refl, ◌∙◌, length-set}
use Rattle.graph.specs.declared.Reading.{Reading}
use Rattle.graph.specs.declared.Edit.{Edit}
use Rattle.graph.specs.declared.Edit.TheVariants.{InsertVertex, RemoveVertex, InsertEdge, RemoveEdge, SetVertex, SetEdge, MoveVertex, MoveEdge, MoveWord}
use Rattle.graph_tables.specs.Tables.{State, vertex_links, edge_links, incidence_links, vertex_list_ends, edge_list_ends, vertex_ends, state_detach, state_attach, state_set_this}
use Rattle.graph_tables.specs.Tables.{state_place_edge, state_drop_edge, state_move_word}
use Rattle.graph_tables.specs.Tables.{state_insert_edge, state_remove_edge, state_set_vertex, state_move_vertex, state_insert_vertex, state_remove_vertex, state_set_edge, state_move_edge}
use Rattle.graph_tables.specs.Edits.{state_apply}
use Rattle.graph_tables.proofs.Frames.{unlink_len, insert_len, ends_len}
use Rattle.graph_tables.proofs.Sequences.{move_len}
use Rattle.graph_tables.proofs.VertexLaws.{row_len as vrow_len}
use Rattle.graph_tables.proofs.EdgeLaws.{row_len as erow_len, ends_len as this_len}

-- two states with tables of the same lengths
pub record Alike (s s' : State) : Type 0 where
  pub vertices : length s'.vertices ≡ length s.vertices
  pub edges : length s'.edges ≡ length s.edges

then : (s s' s'' : State) → Alike s s' → Alike s' s'' → Alike s s''
then s s' s'' a b = record { vertices = b.vertices ∙ a.vertices; edges = b.edges ∙ a.edges }

detach_len : (v w : ℕ) (s : State) → Alike s (state_detach v w s)
unfolding state_detach
detach_len v w s = record { vertices = ends_len v _ s.vertices; edges = unlink_len s.edges (vertex_ends s.vertices v) w incidence_links }

attach_len : (v p w : ℕ) (s : State) → Alike s (state_attach v p w s)
unfolding state_attach
attach_len v p w s = record { vertices = ends_len v _ s.vertices; edges = insert_len s.edges (vertex_ends s.vertices v) w incidence_links p }

this_set_len : (w u : ℕ) (s : State) → Alike s (state_set_this w u s)
unfolding state_set_this
this_set_len w u s = record { vertices = refl; edges = simp length-set }

place_len : (n a z t : ℕ) (r : Reading) (p : ℕ) (s : State) → Alike s (state_place_edge n a z t r p s)
unfolding state_place_edge
place_len n a z t r p s = record { vertices = refl; edges = this_len n a z _ ∙ erow_len n 1 t r _ ∙ insert_len s.edges (edge_list_ends s.head) n edge_links p }

drop_len : (n : ℕ) (s : State) → Alike s (state_drop_edge n s)
unfolding state_drop_edge
drop_len n s = record { vertices = refl; edges = this_len n 0 0 _ ∙ erow_len n 0 0 _ _ ∙ unlink_len s.edges (edge_list_ends s.head) n edge_links }

pub same_size : (e : Edit) (s : State) → Alike s (state_apply e s)
unfolding state_insert_vertex state_remove_vertex state_insert_edge state_remove_edge state_set_vertex state_set_edge state_move_vertex state_move_edge state_move_word
same_size (InsertVertex n t v p) s = record { vertices = vrow_len n 1 t v _ ∙ insert_len s.vertices (vertex_list_ends s.head) n vertex_links p; edges = refl }
same_size (RemoveVertex n t v p) s = record { vertices = vrow_len n 0 0 0 _ ∙ unlink_len s.vertices (vertex_list_ends s.head) n vertex_links; edges = refl }
same_size (InsertEdge n a z t r p o i) s =
    let s₁ = state_place_edge n a z t r p s in
    let s₂ = state_attach a o (2 * n) s₁ in
    then s s₁ _ (place_len n a z t r p s) (then s₁ s₂ _ (attach_len a o (2 * n) s₁) (attach_len z i (2 * n + 1) s₂))
same_size (RemoveEdge n a z t r p o i) s =
    let s₁ = state_detach z (2 * n + 1) s in
    let s₂ = state_detach a (2 * n) s₁ in
    then s s₁ _ (detach_len z (2 * n + 1) s) (then s₁ s₂ _ (detach_len a (2 * n) s₁) (drop_len n s₂))
same_size (SetVertex n t v t' v') s = record { vertices = vrow_len n 1 t' v' s.vertices; edges = refl }
same_size (SetEdge n t r t' r') s = record { vertices = refl; edges = erow_len n 1 t' r' s.edges }
same_size (MoveVertex n old new) s = record { vertices = move_len n new s.vertices (vertex_list_ends s.head) vertex_links; edges = refl }
same_size (MoveEdge n old new) s = record { vertices = refl; edges = move_len n new s.edges (edge_list_ends s.head) edge_links }
same_size (MoveWord w v old u new) s =
    let s₁ = state_detach v w s in
    let s₂ = state_attach u new w s₁ in
    then s s₁ _ (detach_len v w s) (then s₁ s₂ _ (attach_len u new w s₁) (this_set_len w u s₂))
