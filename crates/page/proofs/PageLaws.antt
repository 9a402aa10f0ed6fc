-- The three answers: the code of words that do not load, 107, or the rows.
use Rattle.std.specs.Prelude.{◌==◌}
use Prim.Native.Nat.{ℕ, ◌*◌, ◌/◌, ◌≤◌, ◌<◌}
use mathlib.Core.Path.{◌≡◌, refl, sym, ap, ◌∙◌}
use mathlib.Core.Logic.{◌⊎◌, inl, inr, ⊎_elim, ◌↔◌}
use mathlib.Core.Bool.{Bool, true, false}
use mathlib.Core.List.{List}
use native.Mathlib.Omega.{arith}
use lib.ListN.{length}
use lib.Dec.{ltb}
use borrow.Author.Tests.{lt-ltb, le-ltb, ltb-true, ltb-false, eqb-true, eqb-false, ne_eqb}
use Rattle.lists.specs.Lists.{overwritten}
use Rattle.decimal.specs.Stored.{Stored}
use Rattle.decimal.proofs.Stores.{stored_over}
use Rattle.graph.specs.Graph.{Graph}
use Rattle.graph.specs.WellFormed.{well_formed}
use Rattle.image.specs.Image.{SavesAs, record_size, part, edge_count, edge_part, load, loadable}
use Rattle.image_check.specs.Checks.{code_of, load_code, load_offset, verdict}
use Rattle.image_check.proofs.Verdicts.{zero_sound, code_not_zero}
use Rattle.image_check.proofs.LoadCodes.{code_loads}
use Rattle.image.proofs.Loads.{loads, loads_back, saves_loads, loaded}
use Rattle.image_check.proofs.SavedSound.{loads_sound}
use Rattle.image.proofs.Parts.{long_edges}
use Rattle.image.proofs.Room.{few_edges_lem}
use Rattle.image.proofs.EdgePart.{part_two, eseq_count}
use Rattle.page.specs.Rows.{row_bytes, rows_of, rows_from}
use Rattle.page.specs.declared.NoPage.{NoPage}
use Rattle.page.specs.declared.NoPage.TheVariants.{Image, Short}
use Rattle.page.specs.Page.{PageResult, page_bounds, page_bytes, page_code, page_of, no_page_code}
use Rattle.page.proofs.RowLaws.{rows_length}
use Rattle.std.specs.Prelude.{Ok, Err}
use Rattle.image_check.specs.declared.BadImage.TheVariants.{Header, Record, Incidence}
use Rattle.image_check.specs.Checks.{Verdict}

pub no_page_not_zero : (none : NoPage) → no_page_code none ≡ 0 → ⊥
no_page_not_zero (Image bad) e = code_not_zero bad e
no_page_not_zero Short e = omega arith

abbrev pub answer : ℕ → ℕ → List ℕ → PageResult
answer code bytes page = record { code = code; bytes = bytes; page = page }

pub page_refused : (ws page : List ℕ) (code offset : ℕ) → code ≡ load_code page_bounds ws →
    offset ≡ load_offset page_bounds ws → (code ≡ 0 → ⊥) → answer code offset page ≡ page_of ws page
unfolding page_of page_code
page_refused ws page code offset e f n =
    simp (ne_eqb (load_code page_bounds ws) 0 (λ z. n (e ∙ z))) (rw (e, f))

pub page_under : (ws page : List ℕ) → load_code page_bounds ws ≡ 0 → length page < page_bytes ws →
    answer 107 0 page ≡ page_of ws page
unfolding page_of page_code
page_under ws page z k =
    rw (zero_sound (verdict page_bounds ws) z, lt-ltb (length page) (page_bytes ws) k)

pub page_full : (ws page : List ℕ) → load_code page_bounds ws ≡ 0 → page_bytes ws ≤ length page →
    answer 0 (length (rows_of (load ws))) (overwritten (rows_of (load ws)) page) ≡ page_of ws page
unfolding page_of page_code
page_full ws page z k =
    rw (zero_sound (verdict page_bounds ws) z, le-ltb (length page) (page_bytes ws) k)

-- the page is the same for new and old words of a graph
pub page_same : (g : Graph) → well_formed page_bounds g ≡ true → (us ws page : List ℕ) → SavesAs g us → SavesAs g ws →
    page_of us page ≡ page_of ws page
unfolding page_of page_code
page_same g h us ws page s t =
    let e : load us ≡ load ws = loads_back page_bounds g h us s ∙ sym (loads_back page_bounds g h ws t) in
    rw (
      loads_sound page_bounds us (saves_loads page_bounds g h us s),
      loads_sound page_bounds ws (saves_loads page_bounds g h ws t),
      e,
    )

-- the page of words that a graph within the bounds saves as: 107 under 25 bytes an edge, else the graph's rows
module _ (g : Graph) (h : well_formed page_bounds g ≡ true) (ws page : List ℕ) (s : SavesAs g ws) where
  loaded_code : load_code page_bounds ws ≡ 0
  loaded_code = (code_loads page_bounds ws).1 (saves_loads page_bounds g h ws s)

  loaded_graph : load ws ≡ g
  loaded_graph = loads_back page_bounds g h ws s

  pub graph_short : length page < row_bytes * length g.eseq → page_of ws page ≡ answer 107 0 page
  graph_short k = sym (page_under ws page loaded_code (rw loaded_graph k))

  pub graph_rows : row_bytes * length g.eseq ≤ length page →
      page_of ws page ≡ answer 0 (row_bytes * length g.eseq) (overwritten (rows_of g) page)
  graph_rows k =
      sym (page_full ws page loaded_code (rw loaded_graph k)) ∙ ap (λ (x : Graph). answer 0 (length (rows_of x)) (overwritten (rows_of x) page)) loaded_graph
      ∙ ap (λ (n : ℕ). answer 0 n (overwritten (rows_of g) page)) (rows_length g)

-- a page is refused for its words exactly where no graph within the bounds saves as them
pub page_loads : (ws page : List ℕ) →
    (((page_of ws page).code ≡ 0) ⊎ ((page_of ws page).code ≡ 107)) ↔ ((g : Graph) × (well_formed page_bounds g ≡ true) × SavesAs g ws)
page_loads ws page = (λ o. go (load_code page_bounds ws == 0) refl o, λ w. from w.0 w.1 w.2)
  where
    own : (load_code page_bounds ws ≡ 0 → ⊥) → (page_of ws page).code ≡ load_code page_bounds ws
    own n = sym (ap (λ (x : PageResult). x.code) (page_refused ws page _ _ refl refl n))

    no_107 : (v : Verdict) → code_of v ≡ 107 → ⊥
    no_107 (Ok tt) e = omega arith
    no_107 (Err Header) e = omega arith
    no_107 (Err (Record at)) e = omega arith
    no_107 (Err (Incidence at)) e = omega arith

    go : (t : Bool) → (load_code page_bounds ws == 0) ≡ t → (((page_of ws page).code ≡ 0) ⊎ ((page_of ws page).code ≡ 107)) →
        (g : Graph) × (well_formed page_bounds g ≡ true) × SavesAs g ws
    go true e o = (loads page_bounds ws).0 ((code_loads page_bounds ws).0 (eqb-true _ 0 e))
    go false e o =
        let n = eqb-false (load_code page_bounds ws) 0 e in
        ⊎_elim (λ z. absurd (n (sym (own n) ∙ z))) (λ z. absurd (no_107 (verdict page_bounds ws) (sym (own n) ∙ z))) o

    from : (g : Graph) → well_formed page_bounds g ≡ true → SavesAs g ws → ((page_of ws page).code ≡ 0) ⊎ ((page_of ws page).code ≡ 107)
    from g h s = split (ltb (length page) (row_bytes * length g.eseq)) refl
      where
        split : (t : Bool) → ltb (length page) (row_bytes * length g.eseq) ≡ t → ((page_of ws page).code ≡ 0) ⊎ ((page_of ws page).code ≡ 107)
        split true e = inr (ap (λ (x : PageResult). x.code) (graph_short g h ws page s (ltb-true _ _ e)))
        split false e = inl (ap (λ (x : PageResult). x.code) (graph_rows g h ws page s (ltb-false _ _ e)))

-- ---- the edge part of words that load

load_rows : (ws : List ℕ) → rows_of (load ws) ≡ rows_from (edge_count ws) (edge_part (record_size ws) ws)
unfolding rows_of load
load_rows ws = refl

module _ (ws rs : List ℕ) (z : load_code page_bounds ws ≡ 0) (e : rs ≡ part 2 ws) where
  h : loadable page_bounds ws ≡ true
  h = (code_loads page_bounds ws).0 z

  records : rs ≡ edge_part (record_size ws) ws
  records = e ∙ part_two ws (loaded page_bounds ws h).header

  records_length : length rs ≡ 6 * edge_count ws
  records_length = ap length records ∙ long_edges ws (loaded page_bounds ws h).header

  counted : length rs / 6 ≡ edge_count ws
  counted = omega (arith, records_length)

  -- what 107 asks for, by the records
  needed : page_bytes ws ≡ 25 * (length rs / 6)
  needed = omega (arith, eseq_count ws, counted)

  pub few_records : length rs / 6 ≤ 4000
  few_records = omega (arith, few_edges_lem page_bounds (load ws) (loaded page_bounds ws h).formed, eseq_count ws, counted)

  pub page_short : (page : List ℕ) → length page < 25 * (length rs / 6) → answer 107 0 page ≡ page_of ws page
  page_short page k = page_under ws page z (omega (arith, needed))

  pub page_done : (page last : List ℕ) (r : ℕ) → 25 * (length rs / 6) ≤ length page →
      Stored (rows_from (length rs / 6) rs) 0 page last r → answer 0 r last ≡ page_of ws page
  page_done page last r k s = finish (stored_over (omega (arith, ap length rows_same, rows_length (load ws), needed)) s)
    where
      rows_same : rows_from (length rs / 6) rs ≡ rows_of (load ws)
      rows_same =
          ap (λ (n : ℕ). rows_from n rs) counted ∙ ap (rows_from (edge_count ws)) records ∙ sym (load_rows ws)

      finish : (r ≡ length (rows_from (length rs / 6) rs)) × (last ≡ overwritten (rows_from (length rs / 6) rs) page) →
          answer 0 r last ≡ page_of ws page
      finish t =
          ap (λ (n : ℕ). answer 0 n last) (t.0 ∙ ap length rows_same)
          ∙ ap (answer 0 (length (rows_of (load ws)))) (t.1 ∙ ap (λ (l : List ℕ). overwritten l page) rows_same)
          ∙ page_full ws page z (omega (arith, needed))
