-- The words that saving writes are the image of the graph that the tables hold.
use Prim.Native.Nat.{ℕ, zero, suc, ◌+◌, ◌*◌, ◌≤◌}
use mathlib.Core.Path.{◌≡◌, refl, sym, ap, ap₂, ◌∙◌}
use mathlib.Core.Bool.{true}
use mathlib.Core.List.{List, [], ◌∷◌, ◌++◌, map}
use native.Mathlib.Omega.{arith}
use lib.ListN.{length, length-append}
use lib.Seq.{sets}
use Rattle.lists.specs.Lists.{concat_map, overwritten}
use Rattle.linked_lists.specs.Links.{nodes}
use Rattle.graph.specs.Graph.{Vertex, Edge, Graph, edge_in, reading_kind, decimetres}
use Rattle.graph.proofs.Readings.{reading_back}
use Rattle.graph.specs.WellFormed.{well_formed}
use Rattle.graph.proofs.Facts.{from_facts}
use Rattle.image.specs.Image.{vertex_size, vertex_record, edge_size, edge_record, incidences_of, vertex_offset, edge_offset, incidence_offset, image_length, header_of, save}
use Rattle.image.proofs.Sizes.{new}
use Rattle.image.proofs.Formed.{formed}
use Rattle.image.proofs.RecordWords.{vertices_length, edges_length}
use Rattle.image.proofs.Ends.{incidences_length}
use Rattle.image.proofs.Loads.{image_length_lem}
use Rattle.image.proofs.Room.{few_vertices_lem, few_edges_lem}
use Rattle.graph_tables.specs.Tables.{State, vertex_links, edge_links, incidence_links, vertex_list_ends, edge_list_ends, vertex_ends, etype, ekind, edecimetres, wthis, reading_at}
use Rattle.graph_tables.specs.Holds.{Holds}
use Rattle.graph_tables.specs.Read.{vertex_at, edge_at, graph_of}
use Rattle.graph_tables.proofs.GraphRead.{graph_is}
use Rattle.image_tables.specs.Words.{edge_words, vertex_part_of, edge_part_of, incidence_part_of, HoldsSome, CanSave}
use Rattle.image_tables.proofs.Stores.{then_by}
use Rattle.lists.proofs.Stores.{sets_over, sets_apart}

-- ---- the words

each_map : {A : Type 0} (f : A → List ℕ) (h : ℕ → A) (l : List ℕ) → concat_map (λ x. f (h x)) l ≡ concat_map f (map h l)
each_map f h [] = refl
each_map f h (x ∷ l) = ap (λ (k : List ℕ). f (h x) ++ k) (each_map f h l)

each_same : (f g : ℕ → List ℕ) → ((x : ℕ) → f x ≡ g x) → (l : List ℕ) → concat_map f l ≡ concat_map g l
each_same f g e [] = refl
each_same f g e (x ∷ l) = ap₂ (λ (m n : List ℕ). m ++ n) (e x) (each_same f g e l)

-- the image, read off the tables
image_of : State → List ℕ
image_of s =
    header_of vertex_size s.head.vertices s.head.edges
    ++ (vertex_part_of s.head s.vertices s.edges ++ (edge_part_of s.head s.edges ++ incidence_part_of s.head s.vertices s.edges))

module _ (s : State) (g : Graph) (h : Holds s g) where
  vertex_part : vertex_part_of s.head s.vertices s.edges ≡ concat_map (vertex_record vertex_size) g.vseq
  unfolding vertex_part_of graph_of
  vertex_part = each_map (vertex_record vertex_size) (vertex_at s) (nodes vertex_links s.vertices (vertex_list_ends s.head))
      ∙ ap (λ (x : Graph). concat_map (vertex_record vertex_size) x.vseq) (graph_is s g h)

  -- a row has the words of its reading
  AsRead : ℕ → Type 0
  AsRead e = (ekind s.edges e ≡ reading_kind (reading_at s.edges e)) × (edecimetres s.edges e ≡ decimetres (reading_at s.edges e))

  row_read : (e : ℕ) → 1 ≤ e → AsRead e
  unfolding AsRead
  row_read e l =
      let o = h.core.erows e l in
      let r = (edge_in g.eseq e).reading in
      let q : reading_at s.edges e ≡ r = rw (o.kind, o.decimetres) (reading_back r) in
      (o.kind ∙ ap reading_kind (sym q), o.decimetres ∙ ap decimetres (sym q))

  -- number 0 has the place of row 1
  as_read : (e : ℕ) → AsRead e
  unfolding AsRead
  as_read zero = row_read 1 (omega arith)
  as_read (suc e) = row_read (suc e) (omega arith)

  edge_words_lem : (e : ℕ) → edge_words s.edges e ≡ edge_record (edge_at s e)
  unfolding AsRead
  edge_words_lem e = λ i. e ∷ wthis s.edges (2 * e) ∷ wthis s.edges (2 * e + 1) ∷ etype s.edges e ∷ (as_read e).0 i ∷ (as_read e).1 i ∷ []

  edge_part : edge_part_of s.head s.edges ≡ concat_map edge_record g.eseq
  unfolding edge_part_of graph_of
  edge_part = each_same (edge_words s.edges) (λ e. edge_record (edge_at s e)) edge_words_lem (nodes edge_links s.edges (edge_list_ends s.head))
      ∙ each_map edge_record (edge_at s) (nodes edge_links s.edges (edge_list_ends s.head)) ∙ ap (λ (x : Graph). concat_map edge_record x.eseq) (graph_is s g h)

  incidence_part : incidence_part_of s.head s.vertices s.edges ≡ concat_map incidences_of g.vseq
  unfolding incidence_part_of graph_of
  incidence_part = each_map incidences_of (vertex_at s) (nodes vertex_links s.vertices (vertex_list_ends s.head)) ∙ ap (λ (x : Graph). concat_map incidences_of x.vseq) (graph_is s g h)

  image_is : image_of s ≡ save g
  unfolding image_of save
  image_is =
      let v = h.core.vertices in
      let e = h.core.edges in
      λ i. header_of vertex_size (v i) (e i) ++ (vertex_part i ++ (edge_part i ++ incidence_part i))

-- ---- what saving asks, and what it leaves

module _ (s : State) (size : ℕ) (k : CanSave s size) where
  abbrev g : Graph
  g = k.graph

  sound : well_formed k.bounds g ≡ true
  sound = from_facts k.bounds g k.holds.sound k.within

  pub few_v : s.head.vertices ≤ 1000
  few_v = omega (arith, k.holds.core.vertices, few_vertices_lem k.bounds g sound, k.sized.few_vertices)

  pub few_e : s.head.edges ≤ 4000
  few_e = omega (arith, k.holds.core.edges, few_edges_lem k.bounds g sound, k.sized.few_edges)

  pub some_v : HoldsSome vertex_links s.vertices (vertex_list_ends s.head)
  some_v = (map (λ (v : Vertex). v.number) g.vseq, k.holds.core.vseq)

  pub some_e : HoldsSome edge_links s.edges (edge_list_ends s.head)
  some_e = (map (λ (e : Edge). e.number) g.eseq, k.holds.core.eseq)

  pub some_i : (v : ℕ) → 1 ≤ v → HoldsSome incidence_links s.edges (vertex_ends s.vertices v)
  some_i v r = (_, k.holds.core.lists v r)

  -- how long the parts are: so each begins where the header says, and there is room for all
  pub record Lengths : Type 0 where
    pub vertices : length (vertex_part_of s.head s.vertices s.edges) ≡ vertex_size * s.head.vertices
    pub edges : length (edge_part_of s.head s.edges) ≡ edge_size * s.head.edges
    pub lists : length (incidence_part_of s.head s.vertices s.edges) ≡ 2 * s.head.edges
    pub room : image_length s.head.vertices s.head.edges ≤ size

  pub lengths : Lengths
  lengths =
      let v = k.holds.core.vertices in
      let e = k.holds.core.edges in
      record {
        vertices = omega (arith, ap length (vertex_part s g k.holds), vertices_length vertex_size new g.vseq, v);
        edges = omega (arith, ap length (edge_part s g k.holds), edges_length g.eseq, e);
        lists = omega (arith, ap length (incidence_part s g k.holds), incidences_length k.bounds g (formed k.bounds g sound), e);
        room = k.room;
      }

  image_fits : length (image_of s) ≤ size
  image_fits = omega (arith, ap length (image_is s g k.holds), image_length_lem k.bounds g sound, k.holds.core.vertices, k.holds.core.edges, k.room)

-- the header, the edges, and the records of the vertices with their lists
pub saved_by : (s : State) (out : List ℕ) → CanSave s (length out) → (out₁ out₂ out₃ : List ℕ) (a b r : ℕ) →
    a ≡ edge_offset vertex_size s.head.vertices → b ≡ incidence_offset vertex_size s.head.vertices s.head.edges →
    out₁ ≡ sets out 0 (header_of vertex_size s.head.vertices s.head.edges) → out₂ ≡ sets out₁ a (edge_part_of s.head s.edges) →
    (out₃ ≡ sets (sets out₂ vertex_offset (vertex_part_of s.head s.vertices s.edges)) b (incidence_part_of s.head s.vertices s.edges))
    × (r ≡ b + length (incidence_part_of s.head s.vertices s.edges)) →
    (g : Graph) → Holds s g → (out₃ ≡ overwritten (save g) out) × (r ≡ length (save g))
unfolding image_of
saved_by s out k out₁ out₂ out₃ a b r ea eb p q w g h =
    let vp = vertex_part_of s.head s.vertices s.edges in
    let ep = edge_part_of s.head s.edges in
    let ip = incidence_part_of s.head s.vertices s.edges in
    let n = lengths s (length out) k in
    let la : a ≡ 6 + length vp = omega (arith, ea, n.vertices) in
    let lb : b ≡ a + length ep = omega (arith, ea, eb, n.edges) in
    let swap : sets out₂ 6 vp ≡ sets (sets out₁ 6 vp) a ep = ap (λ (l : List ℕ). sets l 6 vp) q ∙ sym (sets_apart out₁ 6 a vp ep (omega (arith, la))) in
    let e₃ : out₃ ≡ sets (sets out₁ 6 vp) a (ep ++ ip) = then_by (sets out₁ 6 vp) a b ep ip swap lb w.0 in
    let e₂ : out₃ ≡ sets out₁ 6 (vp ++ (ep ++ ip)) = then_by out₁ 6 a vp (ep ++ ip) refl la e₃ in
    let e₁ : out₃ ≡ sets out 0 (image_of s) = then_by out 0 6 (header_of vertex_size s.head.vertices s.head.edges) (vp ++ (ep ++ ip)) p refl e₂ in (
      e₁ ∙ sets_over (image_of s) out (image_fits s (length out) k) ∙ ap (λ (x : List ℕ). overwritten x out) (image_is s g h),
      omega (arith, la, lb, w.1, length-append vp (ep ++ ip), length-append ep ip, ap length (image_is s g h)),
    )
