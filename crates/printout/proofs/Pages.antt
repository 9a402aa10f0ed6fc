-- What the page call left, as the text that is written, and what the words read are.
use Rattle.std.specs.Prelude.{◌==◌}
use Prim.Native.Nat.{ℕ, ◌≤◌}
use mathlib.Core.Path.{◌≡◌, refl, sym, ap, ◌∙◌}
use mathlib.Core.Bool.{Bool, true, false}
use mathlib.Core.List.{List}
use native.Mathlib.Omega.{arith}
use lib.ListN.{length, take}
use borrow.Author.Tests.{eqb-true, eqb-false}
use Rattle.lists.specs.Lists.{overwritten}
use Rattle.decimal.specs.Stored.{WrittenAt}
use Rattle.decimal.proofs.Stores.{over_front, over_fits}
use Rattle.image.specs.Image.{load}
use Rattle.image_check.specs.Checks.{load_code, load_offset}
use Rattle.image_check.proofs.LoadCodes.{code_loads}
use Rattle.image.proofs.Loads.{loaded}
use Rattle.image.proofs.Room.{few_edges_lem}
use Rattle.page.specs.declared.Printed.{Printed}
use Rattle.page.specs.Rows.{rows_of}
use Rattle.page.specs.Page.{PageResult, page_bounds, page_of, printed as printed_page}
use Rattle.page.proofs.PageLaws.{page_refused, page_full}
use Rattle.page.proofs.BadWords.{offset_inside}
use Rattle.text.specs.Writing.{refused_line}
use Rattle.text.specs.ImageLine.{other, read_image, line_words, line_verdict}
use Rattle.std.specs.Prelude.{Option, Some, None}
use Rattle.text.proofs.ImageLines.{image_few, told_words, told_other}
use Rattle.printout.specs.Printout.{rows_or_code, printed_line, printout}

-- ---- the page call with room for every page

module _ (ws out out' : List ℕ) (r : Printed) (room : 100000 ≤ length out) (e : printed_page r out' ≡ page_of ws out) where
  loads : load_code page_bounds ws ≡ 0 →
      (r.code ≡ 0) × ((r.bytes ≡ length (rows_of (load ws))) × (out' ≡ overwritten (rows_of (load ws)) out))
  loads z =
      let k = few_edges_lem page_bounds (load ws) (loaded page_bounds ws ((code_loads page_bounds ws).0 z)).formed in
      let p = e ∙ sym (page_full ws out z (omega (arith, k))) in
      (ap (λ (x : PageResult). x.code) p, (ap (λ (x : PageResult). x.bytes) p, ap (λ (x : PageResult). x.page) p))

  unloadable : (load_code page_bounds ws ≡ 0 → ⊥) →
      (r.code ≡ load_code page_bounds ws) × (r.bytes ≡ load_offset page_bounds ws) × (out' ≡ out)
  unloadable n =
      let p = e ∙ sym (page_refused ws out _ _ refl refl n) in
      (ap (λ (x : PageResult). x.code) p, ap (λ (x : PageResult). x.bytes) p, ap (λ (x : PageResult). x.page) p)

  pub rows_written : r.code ≡ 0 → WrittenAt (rows_or_code ws) r.bytes out out'
  unfolding rows_or_code
  rows_written z = go (load_code page_bounds ws == 0) refl
    where
      go : (t : Bool) → (load_code page_bounds ws == 0) ≡ t → WrittenAt (rows_or_code ws) r.bytes out out'
      go true t = rw t (loads (eqb-true _ _ t)).1
      go false t = absurd (eqb-false _ _ t (sym (unloadable (eqb-false _ _ t)).0 ∙ z))

  pub code_given : (r.code ≡ 0 → ⊥) →
      (out' ≡ out) × (r.bytes ≤ length ws) × (refused_line r.code r.bytes ≡ rows_or_code ws)
  unfolding rows_or_code
  code_given n = go (load_code page_bounds ws == 0) refl
    where
      go : (t : Bool) → (load_code page_bounds ws == 0) ≡ t →
          (out' ≡ out) × (r.bytes ≤ length ws) × (refused_line r.code r.bytes ≡ rows_or_code ws)
      go true t = absurd (n (loads (eqb-true _ _ t)).0)
      go false t =
          let u = unloadable (eqb-false _ _ t) in
          (u.2, omega (arith, offset_inside ws, u.1), rw (t, u.0, u.1))

-- ---- the words read

pub record WordsRead (input words : List ℕ) (n : ℕ) : Type 0 where
  pub fit : n ≤ length words
  pub few : length (take n words) ≤ 200000
  pub text : rows_or_code (take n words) ≡ printout input

module _ (input : List ℕ) (v : Option ℕ) (read : v ≡ line_verdict (read_image input)) where
  pub words_read : (n : ℕ) (slice slice' : List ℕ) → v ≡ Some n → slice' ≡ overwritten (line_words (read_image input)) slice →
      WordsRead input slice' n
  unfolding printout printed_line
  words_read n slice slice' e f =
      let t = told_words (read_image input) n (sym e ∙ read) in
      let ws = line_words (read_image input) in
      record {
        fit = over_fits ws slice slice' n (length slice') t.1 f refl;
        few = rw (over_front ws slice slice' n t.1 f) (image_few input);
        text = ap rows_or_code (over_front ws slice slice' n t.1 f) ∙ sym (ap printed_line t.0);
      }

  pub other_read : v ≡ None → printed_line other ≡ printout input
  unfolding printout
  other_read e = sym (ap printed_line (told_other (read_image input) (sym e ∙ read)))
