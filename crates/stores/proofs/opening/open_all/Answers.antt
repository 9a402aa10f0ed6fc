use Prim.Native.Nat.{ℕ, ◌+◌, ◌*◌, ◌/◌, ◌≤◌, ◌<◌}
use mathlib.Core.Path.{refl, sym, ap, ◌∙◌}
use native.Mathlib.Omega.{arith}
use lib.ListN.{length, length-set, length-drop}
use Rattle.image.specs.Image.{loadable}
use Rattle.store_calls.proofs.Parts.{part_end, part_length, length_with, behind_with}
use Rattle.stores.proofs.StartLaws.{first_is, image_at_lem, images_on}
use Rattle.stores.proofs.OpeningLaws.{begun_more}
use Rattle.stores.proofs.opening.open_all.Goals as goal

vertices_end : (c : goal.After-begin-arg-in-loop-i-2-1)
    → c.loop-i.i * c.args.v + c.args.v ≤ length c.loop-i.vertices
vertices_end c =
    omega (
      arith,
      part_end c.args.v c.loop-i.i c.args.stores
          (length c.args.vertices.now) (omega arith) c.requires.vertices_fit,
    )

edges_end : (c : goal.After-begin-arg-in-loop-i-2-1)
    → c.loop-i.i * c.args.e + c.args.e ≤ length c.loop-i.edges
edges_end c =
    omega (
      arith,
      part_end c.args.e c.loop-i.i c.args.stores
          (length c.args.edges.now) (omega arith) c.requires.edges_fit,
    )

image_end : (c : goal.After-slice_known-in-loop-i-2-1)
    → c.loop-i.at + c.first_length-n.result ≤ length c.args.start.now
image_end c = omega (arith, c.first_length-n.ensures.1, length-drop c.loop-i.at c.args.start.now)

vertices_end_at_After_slice_known_in_loop_i_2_1 : (c : goal.After-slice_known-in-loop-i-2-1)
    → c.loop-i.i * c.args.v + c.args.v ≤ length c.loop-i.vertices
vertices_end_at_After_slice_known_in_loop_i_2_1 c =
    omega (
      arith,
      part_end c.args.v c.loop-i.i c.args.stores
          (length c.args.vertices.now) (omega arith) c.requires.vertices_fit,
    )

edges_end_at_After_slice_known_in_loop_i_2_1 : (c : goal.After-slice_known-in-loop-i-2-1)
    → c.loop-i.i * c.args.e + c.args.e ≤ length c.loop-i.edges
edges_end_at_After_slice_known_in_loop_i_2_1 c =
    omega (
      arith,
      part_end c.args.e c.loop-i.i c.args.stores
          (length c.args.edges.now) (omega arith) c.requires.edges_fit,
    )

pub loop-i-init : goal.loop-i-init
loop-i-init c = (omega arith, refl, refl, refl, refl, (λ j h. absurd (omega (arith, h))), refl, refl)

pub begin-requires : goal.begin-requires
begin-requires c =
    let l = c.loop-i in
    let a = c.args in
    let p = c.requires in
    let n = c.first_length-n in
    record {
      bounds = p.bounds;
      sized = record {
        vertices = p.vertices_are ∙ ap (λ (k : ℕ). k / 8) (sym (part_length a.v l.i l.vertices (vertices_end c)));
        edges = p.edges_are ∙ ap (λ (k : ℕ). k / 12) (sym (part_length a.e l.i l.edges (edges_end c)));
        few_vertices = p.few_vertices;
        few_edges = p.few_edges;
      };
      sound = ap (loadable p.bounds) (image_at_lem a.start.now l.at n.result (first_is a.start.now l.at n.result l.invariant.0 n.ensures.0) l.i l.invariant.4)
          ∙ p.sound l.i (omega arith);
    }

pub loop-i-preserved : goal.loop-i-preserved
loop-i-preserved c =
    let l = c.loop-i in
    let a = c.args in
    let t : c.loop-i.i < a.stores = omega arith in
    let vend = vertices_end_at_After_slice_known_in_loop_i_2_1 c in
    let eend = edges_end_at_After_slice_known_in_loop_i_2_1 c in
    let n = c.first_length-n in
    let b = c.begin in
    let is = first_is a.start.now l.at n.result l.invariant.0 n.ensures.0 in
    let vl = b.auto.vertices ∙ part_length a.v l.i l.vertices vend in
    let el = b.auto.edges ∙ part_length a.e l.i l.edges eend in (
      image_end c,
      length_with a.v l.i b.new.vertices l.vertices vl vend ∙ l.invariant.1,
      length_with a.e l.i b.new.edges l.edges el eend ∙ l.invariant.2,
      length-set l.all l.i b.result ∙ l.invariant.3,
      images_on a.start.now l.at n.result is l.i l.invariant.4,
      begun_more a.start.now l.all l.vertices l.edges a.v a.e l.i
          (omega (arith, t, c.requires.few, l.invariant.3)) vend eend
          b.result b.new.vertices b.new.edges _ vl el
          (image_at_lem a.start.now l.at n.result is l.i l.invariant.4) b.ensures l.invariant.5,
      behind_with a.v l.i b.new.vertices l.vertices vl vend a.stores t ∙ l.invariant.6,
      behind_with a.e l.i b.new.edges l.edges el eend a.stores t ∙ l.invariant.7,
    )

pub returns : goal.returns
returns c =
    let k = c.loop-i.invariant in
    record {
      many = k.3;
      begun = λ j h. k.5 j (omega (arith, h));
      behind_vertices = k.6;
      behind_edges = k.7;
    }
