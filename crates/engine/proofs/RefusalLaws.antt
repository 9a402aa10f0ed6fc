-- The code of a list and the number beside it, by which test stops it.
use Rattle.std.specs.Prelude.{◌==◌}
use Prim.Native.Nat.{ℕ, suc, ◌*◌, ◌/◌, ◌%◌, ◌≤◌}
use mathlib.Core.Path.{◌≡◌, refl, sym, ap, ◌∙◌}
use mathlib.Core.Bool.{Bool, true, false, not, ◌&&◌}
use mathlib.Core.List.{List}
use native.Mathlib.Omega.{arith}
use lib.Dec.{ltb}
use lib.ListN.{length}
use borrow.Author.Tests.{not-false, lt-ltb, le-ltb}
use Rattle.lists.specs.Choice.{◌⇒◌else◌, within}
use Rattle.lists.proofs.Bools.{and_true, within_range}
use Rattle.type_rows.specs.Rows.{good_rows}
use Rattle.image.specs.Image.{image_length}
use Rattle.image_check.specs.Checks.{bounds, verdict, bad_code, bad_offset, code_of, offset_of, load_offset}
use Rattle.machine.specs.Calls.{bounds_in}
use Rattle.machine.specs.Run.{Lent, parameters_of, list_refusal, number_beside, list_number}
use Rattle.machine.proofs.ListRows.{start_rows}
use Rattle.engine.specs.Refusals.{list_code, list_offset, of_image, in_limits, lengths_code, Lends}
use Rattle.std.specs.Prelude.{Ok, Err}
use Rattle.image_check.specs.declared.BadImage.{BadImage}
use Rattle.image_check.specs.declared.BadImage.TheVariants.{Header, Record, Incidence}
use Rattle.engine.specs.declared.list_refusal.ListRefusal.{ListRefusal}
use Rattle.engine.specs.declared.list_refusal.ListRefusal.TheVariants.{
  BadCalls,
  ShortAnswers,
  BadCapacity,
  BadRows,
  BadStart,
  ShortImage,
  BadRecord,
  BadIncidence,
  ShortCopies,
  BadList,
  NoFailure,
}
use Rattle.image_check.specs.Checks.{Verdict}

-- ---- codes

pub code_positive : (r : ListRefusal) → list_code r ≡ 0 → ⊥
code_positive BadCalls e = omega (arith, e)
code_positive ShortAnswers e = omega (arith, e)
code_positive BadCapacity e = omega (arith, e)
code_positive BadRows e = omega (arith, e)
code_positive BadStart e = omega (arith, e)
code_positive ShortImage e = omega (arith, e)
code_positive (BadRecord offset) e = omega (arith, e)
code_positive (BadIncidence offset) e = omega (arith, e)
code_positive ShortCopies e = omega (arith, e)
code_positive BadList e = omega (arith, e)
code_positive NoFailure e = omega (arith, e)

-- what is told of a bad start image
pub of_image_tells : (bad : BadImage) → (list_code (of_image bad) ≡ bad_code bad) × (list_offset (of_image bad) ≡ bad_offset bad)
of_image_tells Header = (refl, refl)
of_image_tells (Record offset) = (refl, refl)
of_image_tells (Incidence offset) = (refl, refl)

-- ---- three tests first

abbrev pub Beside : ℕ → ℕ → Type 0
Beside c n = (o : ℕ) → n ≡ number_beside c o

pub stopped : (x y z : Bool) (c r : ℕ) → c ≡ (x ⇒ 101 else y ⇒ 102 else z ⇒ 103 else 0) → (c ≡ 0 → ⊥) →
    (c ≡ (x ⇒ 101 else y ⇒ 102 else z ⇒ 103 else r)) × Beside c 0
stopped true y z c r e n = (e, λ o. rw e)
stopped false true z c r e n = (e, λ o. rw e)
stopped false false true c r e n = (e, λ o. rw e)
stopped false false false c r e n = absurd (n e)

pub gone_on : (x y z : Bool) (r : ℕ) → ◌≡◌ {A = ℕ} (x ⇒ 101 else y ⇒ 102 else z ⇒ 103 else 0) 0 → (z ≡ false) × (◌≡◌ {A = ℕ} (x ⇒ 101 else y ⇒ 102 else z ⇒ 103 else r) r)
gone_on true y z r e = absurd (omega arith)
gone_on false true z r e = absurd (omega arith)
gone_on false false true r e = absurd (omega arith)
gone_on false false false r e = (refl, refl)

-- the capacities of a list that 103 does not refuse
pub capacities : (calls answers vertices edges journal : ℕ) → lengths_code calls answers vertices edges journal ≡ 0 → (vertices / 8 ≤ 1000) × (edges / 12 ≤ 4000)
capacities calls answers vertices edges journal e =
    let v = vertices / 8 in
    let n = edges / 12 in
    let k = journal / 12 in
    let z = (gone_on (not (calls % 5 == 0)) (ltb answers (2 * (calls / 5))) (not (in_limits v n k)) 0 e).0 in
    let a = and_true (within 1 1000 v && within 1 4000 n) (within 1 20000 k) (not-false _ z) in
    let b = and_true (within 1 1000 v) (within 1 4000 n) a.0 in
    ((within_range 1 1000 v b.0).1, (within_range 1 4000 n b.1).1)

module _ (l : Lent) where
  lengths_of : ℕ
  lengths_of = lengths_code (length l.calls) (length l.answers) l.vertex_table l.edge_table l.change_table

  x : Bool
  x = not (length l.calls % 5 == 0)

  y : Bool
  y = ltb (length l.answers) (2 * (length l.calls / 5))

  z : Bool
  z = not (in_limits (l.vertex_table / 8) (l.edge_table / 12) (l.change_table / 12))

  by_lengths : (c : ℕ) → c ≡ lengths_of → (c ≡ 0 → ⊥) → (c ≡ list_refusal l) × Beside c 0
  unfolding list_refusal lengths_of x y z
  by_lengths c e n = stopped x y z c _ e n

  others : lengths_of ≡ 0 →
      list_refusal l ≡ (
      not (good_rows l.rows) ⇒ 104 else
      start_rows (verdict (bounds_in (parameters_of l)) l.start)
      (ltb (length l.end) (image_length (parameters_of l).vertices (parameters_of l).edges) ⇒ 106 else
      0)
      )
  unfolding list_refusal lengths_of x y z start_rows
  others e = (gone_on x y z _ e).1

  -- a code that goes with no offset
  pub beside : (c : ℕ) → c ≡ list_refusal l → Beside c 0 → 0 ≡ list_number l
  unfolding list_number
  beside c e b = b (load_offset (bounds_in (parameters_of l)) l.start) ∙ ap (λ (k : ℕ). number_beside k (load_offset (bounds_in (parameters_of l)) l.start)) e

-- what `refusal` ensures of the list
abbrev Refuses : Lent → ℕ → ℕ → Type 0
Refuses l c n = (c ≡ list_refusal l) × (n ≡ list_number l)

sound_start : (v : Verdict) (r : ℕ) → code_of v ≡ 0 → start_rows v r ≡ r
unfolding start_rows
sound_start (Ok tt) r e = refl
sound_start (Err Header) r e = absurd (omega arith)
sound_start (Err (Record at)) r e = absurd (omega arith)
sound_start (Err (Incidence at)) r e = absurd (omega arith)

bad_start : (v : Verdict) (r : ℕ) → (code_of v ≡ 0 → ⊥) → (code_of v ≡ start_rows v r) × (offset_of v ≡ number_beside (code_of v) (offset_of v))
unfolding start_rows
bad_start (Ok tt) r n = absurd (n refl)
bad_start (Err Header) r n = (refl, refl)
bad_start (Err (Record at)) r n = (refl, refl)
bad_start (Err (Incidence at)) r n = (refl, refl)

module _ (l : Lent) (start rows : List ℕ) (calls vertices edges journal answers image : ℕ) (h : Lends l start rows calls vertices edges journal answers image) where
  lengths_are : lengths_code calls answers vertices edges journal ≡ lengths_of l
  unfolding lengths_of
  lengths_are =
      λ i. lengths_code (sym h.calls_are i) (sym h.answers_are i) (sym h.vertices_are i) (sym h.edges_are i) (sym h.journal_is i)

  verdict_is : verdict (bounds_in (parameters_of l)) l.start ≡ verdict (bounds (vertices / 8) (edges / 12) (length rows)) start
  verdict_is = λ i. verdict (bounds (h.vertices_are i / 8) (h.edges_are i / 12) (length (h.rows_are i))) (h.start_is i)

  -- a code that goes with no offset
  alone : (c : ℕ) → c ≡ list_refusal l → Beside c 0 → Refuses l c 0
  alone c e b = (e, beside l c e b)

  pub lengths_refused : (c : ℕ) → c ≡ lengths_code calls answers vertices edges journal → (c ≡ 0 → ⊥) → Refuses l c 0
  lengths_refused c e n = let r = by_lengths l c (e ∙ lengths_are) n in alone c r.0 r.1

  module _ (e : lengths_code calls answers vertices edges journal ≡ 0) where
    pub rows_refused : good_rows rows ≡ false → Refuses l 104 0
    rows_refused f = alone 104 (sym (rw (others l (sym lengths_are ∙ e), ap good_rows h.rows_are, f) refl)) (λ o. refl)

    module _ (g : good_rows rows ≡ true) (v : Verdict) (is : v ≡ verdict (bounds (vertices / 8) (edges / 12) (length rows)) start) where
      -- past 104: the start's rows, then 106
      rest : list_refusal l ≡ start_rows v (ltb (length l.end) (image_length (parameters_of l).vertices (parameters_of l).edges) ⇒ 106 else 0)
      rest = rw (others l (sym lengths_are ∙ e), ap good_rows h.rows_are, g, verdict_is, ← is) refl

      pub start_refused : (code_of v ≡ 0 → ⊥) → Refuses l (code_of v) (offset_of v)
      unfolding list_number
      start_refused n =
          let b = bad_start v _ n in
          let c = b.0 ∙ sym rest in
          let o : offset_of v ≡ load_offset (bounds_in (parameters_of l)) l.start = ap offset_of (is ∙ sym verdict_is) in
          (c, b.1 ∙ λ i. number_beside (c i) (o i))

      module _ (k : code_of v ≡ 0) where
        last : list_refusal l ≡ (ltb image (image_length (vertices / 8) (edges / 12)) ⇒ 106 else 0)
        last = rest ∙ sound_start v _ k ∙ rw (h.image_is, h.vertices_are, h.edges_are) refl

        pub image_refused : suc image ≤ image_length (vertices / 8) (edges / 12) → Refuses l 106 0
        image_refused f = alone 106 (sym (rw (last, lt-ltb image (image_length (vertices / 8) (edges / 12)) f) refl)) (λ o. refl)

        pub none_refused : image_length (vertices / 8) (edges / 12) ≤ image → Refuses l 0 0
        none_refused f = alone 0 (sym (rw (last, le-ltb image (image_length (vertices / 8) (edges / 12)) f) refl)) (λ o. refl)
