-- What 108 and 109 say of a list's start image, and the number beside them.
use Rattle.std.specs.Prelude.{◌==◌}
use Prim.Native.Nat.{ℕ, ◌+◌, ◌*◌, ◌/◌, ◌%◌, ◌≤◌, ◌<◌}
use mathlib.Core.Path.{◌≡◌, refl}
use mathlib.Core.Bool.{Bool, true, false, not, ◌&&◌}
use native.Mathlib.Omega.{arith}
use lib.Dec.{ltb}
use lib.ListN.{length}
use borrow.Author.Tests.{ne_eqb, not-false}
use Rattle.lists.specs.Choice.{◌⇒◌else◌, within}
use Rattle.lists.specs.Lists.{all}
use Rattle.lists.proofs.Bools.{and_true, within_range}
use Rattle.type_rows.specs.Rows.{row_fits, good_rows}
use Rattle.image.specs.Image.{vertex_size, vertex_offset, incidence_offset, image_length, vertex_count, edge_count, record_size}
use Rattle.image_check.specs.Checks.{code_of, load_code, verdict}
use Rattle.image_check.specs.FirstBad.{is_degree, FirstBad, FirstDegree}
use Rattle.image_check.proofs.LoadCodes.{bad_record, bad_degree, bad_incidence}
use Rattle.machine.specs.Calls.{bounds_in}
use Rattle.machine.specs.Run.{Lent, parameters_of, list_refusal, list_number}
use Rattle.machine.proofs.ListRows.{start_rows}
use Rattle.std.specs.Prelude.{Ok, Err}
use Rattle.image_check.specs.declared.BadImage.TheVariants.{Header, Record, Incidence}
use Rattle.image_check.specs.Checks.{Verdict}

-- a row whose code is another does not apply
other : (t : Bool) (n r k : ℕ) → (t ⇒ n else r) ≡ k → (n ≡ k → ⊥) → (t ≡ false) × (r ≡ k)
other true n r k h z = absurd (z h)
other false n r k h z = (refl, h)

-- a code from 105 on among the last rows, but for 106, is the start's
start_code : (v : Verdict) (t : Bool) (k : ℕ) → start_rows v (t ⇒ 106 else 0) ≡ k → 105 ≤ k → (106 ≡ k → ⊥) → code_of v ≡ k
unfolding start_rows
start_code (Ok tt) true k h l n = absurd (n h)
start_code (Ok tt) false k h l n = absurd (omega (arith, h, l))
start_code (Err Header) t k h l n = h
start_code (Err (Record at)) t k h l n = h
start_code (Err (Incidence at)) t k h l n = h

module _ (l : Lent) where
  -- the start's code is given, and there is a type: 104 came before
  pub found : (k : ℕ) → list_refusal l ≡ k → 105 ≤ k → (106 ≡ k → ⊥) → (load_code (bounds_in (parameters_of l)) l.start ≡ k) × (1 ≤ length l.rows)
  unfolding list_refusal good_rows start_rows
  found k e g m =
      let w = parameters_of l in
      let r1 = other (not (length l.calls % 5 == 0)) 101 _ k e (λ z. omega arith) in
      let r2 = other (ltb (length l.answers) (2 * (length l.calls / 5))) 102 _ k r1.1 (λ z. omega arith) in
      let r3 = other (not (within 1 1000 w.vertices && within 1 4000 w.edges && within 1 20000 w.changes)) 103 _ k r2.1 (λ z. omega arith) in
      let r4 = other (not (good_rows l.rows)) 104 _ k r3.1 (λ z. omega arith) in
      let c = and_true (within 1 64 (length l.rows)) (all (row_fits (length l.rows)) l.rows) (not-false _ r4.0) in (
        start_code (verdict (bounds_in w) l.start) (ltb (length l.end) (image_length w.vertices w.edges)) k r4.1 g m,
        (within_range 1 64 (length l.rows) c.0).0,
      )

  -- 108: the number is the offset of the first bad word, which stands among the records
  pub record_number : list_refusal l ≡ 108 →
      FirstBad (bounds_in (parameters_of l)) l.start (list_number l) × (vertex_offset ≤ list_number l)
      × (list_number l < incidence_offset (record_size l.start) (vertex_count l.start) (edge_count l.start))
  unfolding list_number
  record_number e =
      let f = found 108 e (omega arith) (λ z. omega arith) in
      let r = bad_record (bounds_in (parameters_of l)) l.start f.0 in
      rw e (r.2 f.1, r.0, r.1)

  -- 108 at a degree: that of record i, the first that disagrees with the edges
  pub degree_number : list_refusal l ≡ 108 → is_degree l.start (list_number l) ≡ true →
      (i : ℕ) × (list_number l ≡ vertex_offset + vertex_size * i + 3) × FirstDegree l.start i
  unfolding list_number
  degree_number e d = let f = found 108 e (omega arith) (λ z. omega arith) in rw e (bad_degree (bounds_in (parameters_of l)) l.start f.0 (rw e at d))

  -- 109: it stands in the incidence part
  pub incidence_number : list_refusal l ≡ 109 →
      FirstBad (bounds_in (parameters_of l)) l.start (list_number l) × (incidence_offset (record_size l.start) (vertex_count l.start) (edge_count l.start) ≤ list_number l)
  unfolding list_number
  incidence_number e =
      let f = found 109 e (omega arith) (λ z. omega arith) in
      let r = bad_incidence (bounds_in (parameters_of l)) l.start f.0 in
      rw e (r.1, r.0)

  -- any other code has 0 beside it
  pub no_number : (list_refusal l ≡ 108 → ⊥) → (list_refusal l ≡ 109 → ⊥) → list_number l ≡ 0
  unfolding list_number
  no_number m n = rw (ne_eqb (list_refusal l) 108 m, ne_eqb (list_refusal l) 109 n)
