-- What a list that is not refused has passed: no row of its table applies.
use Rattle.std.specs.Prelude.{◌==◌}
use Prim.Native.Nat.{ℕ, suc, ◌*◌, ◌/◌, ◌%◌, ◌≤◌}
use mathlib.Core.Path.{◌≡◌, refl}
use mathlib.Core.Bool.{Bool, true, false, not, ◌&&◌}
use native.Mathlib.Omega.{arith}
use lib.Dec.{ltb}
use lib.ListN.{length}
use borrow.Author.Tests.{eqb-true, eq-eqb, not-false, ltb-false}
use Rattle.lists.specs.Choice.{◌⇒◌else◌, within}
use Rattle.lists.specs.Lists.{all}
use Rattle.lists.proofs.Bools.{and_true, within_range}
use Rattle.type_rows.specs.Rows.{row_fits, good_rows}
use Rattle.image.specs.Image.{load, loadable, image_length}
use Rattle.image_check.specs.Checks.{code_of, verdict}
use Rattle.image_check.proofs.LoadCodes.{code_loads}
use Rattle.image.proofs.Loads.{loaded}
use Rattle.image.proofs.WordSize.{InRange}
use Rattle.machine.specs.Calls.{Parameters, bounds_in}
use Rattle.machine.specs.Run.{Lent, parameters_of, Limits, list_refusal}
use Rattle.machine.proofs.Graphs.{Formed}
use Rattle.std.specs.Prelude.{Ok, Err}
use Rattle.image_check.specs.declared.BadImage.TheVariants.{Header, Record, Incidence}
use Rattle.image_check.specs.Checks.{Verdict}

chain_zero : (t : Bool) (n r : ℕ) → ((t ⇒ suc n else r) == 0) ≡ true → (t ≡ false) × ((r == 0) ≡ true)
chain_zero true n r h = absurd (omega (arith, eqb-true (suc n) 0 h))
chain_zero false n r h = (refl, h)

-- the three rows of the start image
unfoldable pub start_rows : Verdict → ℕ → ℕ
start_rows v r = (code_of v == 105) ⇒ 105 else (code_of v == 108) ⇒ 108 else (code_of v == 109) ⇒ 109 else r

start_zero : (v : Verdict) (r : ℕ) → (start_rows v r == 0) ≡ true → (code_of v ≡ 0) × ((r == 0) ≡ true)
unfolding start_rows
start_zero (Ok tt) r h = (refl, h)
start_zero (Err Header) r h = absurd (omega (arith, eqb-true 105 0 h))
start_zero (Err (Record at)) r h = absurd (omega (arith, eqb-true 108 0 h))
start_zero (Err (Incidence at)) r h = absurd (omega (arith, eqb-true 109 0 h))

pub limits_in : (w : Parameters) → Limits w → InRange (bounds_in w)
limits_in w k = record { vertices = k.few_vertices; edges = k.few_edges; types = k.few_types }

pub record Passed (l : Lent) : Type 0 where
  pub calls_whole : length l.calls % 5 ≡ 0
  pub answers_room : 2 * (length l.calls / 5) ≤ length l.answers
  pub limits : Limits (parameters_of l)
  pub rows_good : good_rows l.rows ≡ true
  pub start_loads : loadable (bounds_in (parameters_of l)) l.start ≡ true
  pub end_room : image_length (parameters_of l).vertices (parameters_of l).edges ≤ length l.end

pub passed : (l : Lent) → list_refusal l ≡ 0 → Passed l
unfolding list_refusal good_rows start_rows
passed l e =
    let w = parameters_of l in
    let r1 = chain_zero (not (length l.calls % 5 == 0)) 100 _ (eq-eqb _ 0 e) in
    let r2 = chain_zero (ltb (length l.answers) (2 * (length l.calls / 5))) 101 _ r1.1 in
    let r3 = chain_zero (not (within 1 1000 w.vertices && within 1 4000 w.edges && within 1 20000 w.changes)) 102 _ r2.1 in
    let r4 = chain_zero (not (good_rows l.rows)) 103 _ r3.1 in
    let r5 = start_zero (verdict (bounds_in w) l.start) _ r4.1 in
    let r6 = chain_zero (ltb (length l.end) (image_length w.vertices w.edges)) 105 _ r5.1 in
    let a = and_true (within 1 1000 w.vertices && within 1 4000 w.edges) (within 1 20000 w.changes) (not-false _ r3.0) in
    let b = and_true (within 1 1000 w.vertices) (within 1 4000 w.edges) a.0 in
    let c = and_true (within 1 64 (length l.rows)) (all (row_fits (length l.rows)) l.rows) (not-false _ r4.0) in
    let v = within_range 1 1000 w.vertices b.0 in
    let n = within_range 1 4000 w.edges b.1 in
    let k = within_range 1 20000 w.changes a.1 in
    let t = within_range 1 64 (length l.rows) c.0 in
    record {
      calls_whole = eqb-true (length l.calls % 5) 0 (not-false _ r1.0);
      answers_room = ltb-false _ _ r2.0;
      limits = record {
        some_vertices = v.0;
        few_vertices = v.1;
        some_edges = n.0;
        few_edges = n.1;
        some_changes = k.0;
        few_changes = k.1;
        some_types = t.0;
        few_types = t.1;
      };
      rows_good = not-false _ r4.0;
      start_loads = (code_loads (bounds_in w) l.start).0 r5.0;
      end_room = ltb-false _ _ r6.0;
    }

pub start_formed : (l : Lent) → list_refusal l ≡ 0 → Formed (parameters_of l) (load l.start)
start_formed l e = (loaded (bounds_in (parameters_of l)) l.start (passed l e).start_loads).formed
