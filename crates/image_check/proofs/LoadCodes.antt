-- What the code and the offset of words say.
use Prim.Native.Nat.{ℕ, ◌+◌, ◌*◌, ◌≤◌, ◌<◌}
use mathlib.Core.Path.{◌≡◌, sym, ap, ◌∙◌, subst}
use mathlib.Core.Logic.{◌↔◌, inl, inr}
use mathlib.Core.Bool.{true, false}
use mathlib.Core.List.{List, []}
use native.Mathlib.Omega.{arith}
use lib.ListN.{length, get_or, drop}
use lib.Seq.{get_or-take, get_or-drop}
use Rattle.lists.proofs.Bools.{tf}
use Rattle.graph.specs.WellFormed.{Bounds, words_at}
use Rattle.image.specs.Image.{vertex_size, vertex_offset, edge_offset, incidence_offset, vertex_count, edge_count, record_size, vertex_part, edge_part, loadable}
use Rattle.image_check.specs.Checks.{code_of, load_code, load_offset, numbers_of, edges_of, verdict}
use Rattle.image_check.specs.FirstBad.{is_degree, Begins, FirstBad, end_count, FirstDegree}
use Rattle.image.proofs.Sizes.{row_in, record_size_lem}
use Rattle.image_check.proofs.Verdicts.{zero_sound, coded_record, coded_incidence, uncoded}
use Rattle.image_check.proofs.SavedSound.{sound_exactly}
use Rattle.image.proofs.Headers.{sound_length}
use Rattle.image_check.proofs.Offsets.{Wrong, walk_place, edge_range, degree_wrong}
use Rattle.image_check.proofs.ReadOrder.{row_plain, behind_plain}
use Rattle.image_check.proofs.FirstBad.{Found, in_vertex, in_edge, in_degree, record_headed, record_found, record_in, incidence_in, nothing_follows}
use Rattle.image_check.proofs.Follows.{Follows, record_follows, incidence_follows}

module _ (b : Bounds) (ws : List ℕ) where
  -- code 0 for exactly the words that load
  pub code_loads : (load_code b ws ≡ 0) ↔ (loadable b ws ≡ true)
  code_loads = (λ e. (sound_exactly b ws).0 (zero_sound (verdict b ws) e), λ h. ap code_of ((sound_exactly b ws).1 h))

  -- an offset goes with 108 and 109 alone
  pub no_offset : (load_code b ws ≡ 108 → ⊥) → (load_code b ws ≡ 109 → ⊥) → load_offset b ws ≡ 0
  no_offset = uncoded (verdict b ws)

  both : {k : ℕ} → k < length ws → ((us : List ℕ) → Begins ws k us → get_or us k 0 ≡ get_or ws k 0 → loadable b us ≡ false) → Follows b ws k → FirstBad b ws k
  both i n f = record { inside = i; nothing = n; something = f.words; loads = f.loads; begin = f.begin }

  -- 108: the first bad word, among the records; without types no words with a vertex load (Follows: no-types)
  pub bad_record : load_code b ws ≡ 108 →
      (vertex_offset ≤ load_offset b ws) × (load_offset b ws < incidence_offset (record_size ws) (vertex_count ws) (edge_count ws)) × (1 ≤ b.types → FirstBad b ws (load_offset b ws))
  bad_record e =
      let r = coded_record (verdict b ws) e in
      let i = record_in b ws (load_offset b ws) r in
      let h = sound_length ws (record_headed b ws (load_offset b ws) r).header in
      (i.0, i.1, λ some. both (omega (arith, i.1, h)) (λ us q t. nothing_follows b ws (load_offset b ws) us q t (inl r)) (record_follows b ws (load_offset b ws) some r))

  -- 108 at a degree: the first that disagrees with the edges
  pub bad_degree : load_code b ws ≡ 108 → is_degree ws (load_offset b ws) ≡ true →
      (i : ℕ) × (load_offset b ws ≡ vertex_offset + vertex_size * i + 3) × FirstDegree ws i
  bad_degree e d = go (record_found b ws k (coded_record (verdict b ws) e))
    where
      k : ℕ
      k = load_offset b ws

      size : ℕ
      size = record_size ws

      v : ℕ
      v = vertex_count ws

      -- a word of record i in the part and in the words
      word_of : (i r : ℕ) → i < v → r < 4 → get_or (vertex_part vertex_size ws) (vertex_size * i + r) 0 ≡ get_or ws (vertex_offset + vertex_size * i + r) 0
      word_of i r h l =
          let q : vertex_offset + (vertex_size * i + r) ≡ vertex_offset + vertex_size * i + r = omega arith in
          get_or-take (vertex_size * v) (drop vertex_offset ws) (vertex_size * i + r) 0 (row_in 4 i r v h l) ∙ get_or-drop vertex_offset ws (vertex_size * i + r) 0
          ∙ ap (λ (n : ℕ). get_or ws n 0) q

      ends_of : (i : ℕ) → i < v → length (words_at (edges_of vertex_size ws) (get_or (vertex_part vertex_size ws) (vertex_size * i + 0) 0)) ≡ end_count ws i
      ends_of i h =
          let q : vertex_offset + vertex_size * i + 0 ≡ vertex_offset + vertex_size * i = omega arith in
          ap (λ (n : ℕ). length (words_at (edges_of vertex_size ws) n)) (word_of i 0 h (omega arith) ∙ ap (λ (n : ℕ). get_or ws n 0) q)

      wrong : Wrong vertex_size (edges_of vertex_size ws) v (vertex_part vertex_size ws) vertex_offset k → (i : ℕ) × (k ≡ vertex_offset + vertex_size * i + 3) × FirstDegree ws i
      wrong w =
          let p = w.at_row in (
            p.row,
            omega (arith, p.place),
            record {
              inside = p.inside;
              disagrees = λ q. w.disagrees (word_of p.row 3 p.inside (omega arith) ∙ q ∙ sym (ends_of p.row p.inside));
              before = λ j l.
                  let h : j < v = omega (arith, l, p.inside) in
                  sym (word_of j 3 h (omega arith)) ∙ w.before j l ∙ ends_of j h;
            },
          )

      go : Found b ws k → (i : ℕ) × (k ≡ vertex_offset + vertex_size * i + 3) × FirstDegree ws i
      go (in_vertex x) =
          let p = walk_place _ _ _ _ [] v (vertex_part size ws) vertex_offset k x in
          tf (sym d ∙ row_plain ws k p.0 p.1 p.2)
      go (in_edge x y) =
          tf (sym d ∙ behind_plain ws k (edge_range b.edges b.types (numbers_of size ws) [] (edge_count ws) (edge_part size ws) (edge_offset size v) k y).0)
      go (in_degree x y q) =
          let w = degree_wrong size (record_size_lem ws) (edges_of size ws) v (vertex_part size ws) vertex_offset k q in
          wrong (subst (λ (n : ℕ). Wrong n (edges_of n ws) v (vertex_part n ws) vertex_offset k) w.four w)

  -- 109: the first bad word, in the incidence part
  pub bad_incidence : load_code b ws ≡ 109 → (incidence_offset (record_size ws) (vertex_count ws) (edge_count ws) ≤ load_offset b ws) × FirstBad b ws (load_offset b ws)
  bad_incidence e =
      let r = coded_incidence (verdict b ws) e in
      let i = incidence_in b ws (load_offset b ws) r in
      (i.0, both i.1 (λ us q t. nothing_follows b ws (load_offset b ws) us q t (inr r)) (incidence_follows b ws (load_offset b ws) r))
