-- What stands beside the code of a page that is refused: with 108 and 109 the offset of the first bad word, else 0.
use Rattle.std.specs.Prelude.{◌==◌}
use Prim.Native.Nat.{ℕ, ◌+◌, ◌*◌, ◌≤◌, ◌<◌}
use mathlib.Core.Path.{◌≡◌, refl, sym, ap, ◌∙◌}
use mathlib.Core.Logic.{◌⊎◌, inl, inr, ⊎_elim}
use mathlib.Core.Bool.{Bool, true, false}
use mathlib.Core.List.{List}
use native.Mathlib.Omega.{arith}
use lib.Dec.{ltb}
use lib.ListN.{length}
use borrow.Author.Tests.{ltb-true, ltb-false, eqb-true, eqb-false}
use Rattle.image.specs.Image.{vertex_size, vertex_offset, incidence_offset, vertex_count, edge_count, record_size}
use Rattle.image_check.specs.Checks.{code_of, offset_of, load_code, load_offset, verdict}
use Rattle.image_check.specs.FirstBad.{is_degree, FirstBad, FirstDegree}
use Rattle.image_check.proofs.LoadCodes.{no_offset, bad_record, bad_degree, bad_incidence}
use Rattle.page.specs.Page.{PageResult, page_bounds, page_bytes, page_of}
use Rattle.page.proofs.PageLaws.{page_refused, page_under, page_full}
use Rattle.std.specs.Prelude.{Ok, Err}
use Rattle.image_check.specs.declared.BadImage.TheVariants.{Header, Record, Incidence}
use Rattle.image_check.specs.Checks.{Verdict}

-- the offset is at most the number of words
pub offset_inside : (ws : List ℕ) → load_offset page_bounds ws ≤ length ws
offset_inside ws = go (verdict page_bounds ws) refl
  where
    go : (v : Verdict) → verdict page_bounds ws ≡ v → load_offset page_bounds ws ≤ length ws
    go (Ok tt) e = omega (arith, ap offset_of e)
    go (Err Header) e = omega (arith, ap offset_of e)
    go (Err (Record at)) e = omega (arith, ((bad_record page_bounds ws (ap code_of e)).2 (omega arith)).inside)
    go (Err (Incidence at)) e = omega (arith, (bad_incidence page_bounds ws (ap code_of e)).1.inside)

module _ (ws page : List ℕ) where
  -- the words' own code and offset, or 107 and 0, or 0
  cases : (((page_of ws page).code ≡ load_code page_bounds ws) × ((page_of ws page).bytes ≡ load_offset page_bounds ws)) ⊎
      ((((page_of ws page).code ≡ 107) × ((page_of ws page).bytes ≡ 0)) ⊎ ((page_of ws page).code ≡ 0))
  cases = go (load_code page_bounds ws == 0) (ltb (length page) (page_bytes ws)) refl refl
    where
      both : {c n : ℕ} {p : List ℕ} → record { code = c; bytes = n; page = p } ≡ page_of ws page →
          ((page_of ws page).code ≡ c) × ((page_of ws page).bytes ≡ n)
      both e = (sym (ap (λ (x : PageResult). x.code) e), sym (ap (λ (x : PageResult). x.bytes) e))

      go : (t u : Bool) → (load_code page_bounds ws == 0) ≡ t → ltb (length page) (page_bytes ws) ≡ u →
          (((page_of ws page).code ≡ load_code page_bounds ws) × ((page_of ws page).bytes ≡ load_offset page_bounds ws)) ⊎
          ((((page_of ws page).code ≡ 107) × ((page_of ws page).bytes ≡ 0)) ⊎ ((page_of ws page).code ≡ 0))
      go false u e f = inl (both (page_refused ws page _ _ refl refl (eqb-false _ _ e)))
      go true true e f = inr (inl (both (page_under ws page (eqb-true _ _ e) (ltb-true _ _ f))))
      go true false e f = inr (inr (both (page_full ws page (eqb-true _ _ e) (ltb-false _ _ f))).0)

  -- a code above 107 is the words' own
  coded : (k : ℕ) → (page_of ws page).code ≡ k → 107 < k →
      (load_code page_bounds ws ≡ k) × ((page_of ws page).bytes ≡ load_offset page_bounds ws)
  coded k e g =
      ⊎_elim (λ w. (sym w.0 ∙ e, w.1)) (λ w. ⊎_elim (λ x. absurd (omega arith)) (λ x. absurd (omega arith)) w) cases

  -- 108: the offset of the first bad word, which stands among the records
  pub record_bytes : (page_of ws page).code ≡ 108 →
      FirstBad page_bounds ws (page_of ws page).bytes × (vertex_offset ≤ (page_of ws page).bytes)
      × ((page_of ws page).bytes < incidence_offset (record_size ws) (vertex_count ws) (edge_count ws))
  record_bytes e =
      let f = coded 108 e (omega arith) in
      let r = bad_record page_bounds ws f.0 in
      rw f.1 (r.2 (omega arith), r.0, r.1)

  -- 108 at a degree: that of record i, the first that disagrees with the edges
  pub degree_bytes : (page_of ws page).code ≡ 108 → is_degree ws (page_of ws page).bytes ≡ true →
      (i : ℕ) × ((page_of ws page).bytes ≡ vertex_offset + vertex_size * i + 3) × FirstDegree ws i
  degree_bytes e d =
      let f = coded 108 e (omega arith) in
      rw f.1 (bad_degree page_bounds ws f.0 (ap (is_degree ws) (sym f.1) ∙ d))

  -- 109: it stands in the incidence part
  pub incidence_bytes : (page_of ws page).code ≡ 109 →
      FirstBad page_bounds ws (page_of ws page).bytes × (incidence_offset (record_size ws) (vertex_count ws) (edge_count ws) ≤ (page_of ws page).bytes)
  incidence_bytes e =
      let f = coded 109 e (omega arith) in
      let r = bad_incidence page_bounds ws f.0 in
      rw f.1 (r.1, r.0)

  -- any other code has 0 beside it
  pub no_bytes : ((page_of ws page).code ≡ 0 → ⊥) → ((page_of ws page).code ≡ 108 → ⊥) → ((page_of ws page).code ≡ 109 → ⊥) →
      (page_of ws page).bytes ≡ 0
  no_bytes z m n =
      ⊎_elim (λ w. w.1 ∙ no_offset page_bounds ws (λ q. m (w.0 ∙ q)) (λ q. n (w.0 ∙ q)))
      (λ w. ⊎_elim (λ x. x.1) (λ x. absurd (z x)) w) cases
