use Prim.Native.Nat.{ℕ, ◌+◌, ◌*◌, ◌≤◌, ◌<◌}
use mathlib.Core.Path.{◌≡◌, refl, sym, ap, subst, ◌∙◌}
use mathlib.Core.List.{List}
use native.Mathlib.Omega.{arith}
use lib.ListN.{length}
use Rattle.lists.specs.Lists.{sum_of, overwritten, done}
use Rattle.graph.specs.Graph.{Graph}
use Rattle.image.specs.Image.{save}
use Rattle.machine.specs.StoreRun.{over_parts}
use Rattle.graph_tables.specs.Holds.{Holds}
use Rattle.image_tables.specs.Words.{CanSave}
use Rattle.store_calls.specs.Parts.{part, with_part}
use Rattle.stores.specs.Saving.{tables_at, images_to}
use Rattle.store_calls.proofs.Parts.{part_end, part_length, length_with}
use Rattle.stores.proofs.OverParts.{over_short, over_more, short_more, sum_more}
use Rattle.stores.proofs.saving.save_all.Goals as goal

image_end_at_After_slice_known_in_loop_i_1 : (c : goal.After-slice_known-in-loop-i-1) → c.loop-i.i * c.args.n + c.args.n ≤ length
    c.loop-i.image
image_end_at_After_slice_known_in_loop_i_1 c =
    omega (
      arith,
      part_end c.args.n c.loop-i.i c.args.stores
          (length c.args.image.now) (omega arith) c.requires.image_fits,
    )

-- the image of any graph that the tables hold fits into the part
short : (c : goal.After-slice_known-in-loop-i-1) → let l = c.loop-i in let a =
    c.args in
    (g : Graph) → Holds (tables_at a.all a.vertices.now a.edges.now a.v a.e l.i) g → length (save g) ≤ a.n
short c g h =
    let l = c.loop-i in
    let a = c.args in
    over_short (save g) (part a.n l.i l.image) a.n
    (ap length (sym (c.save-words.ensures g h).0) ∙ c.save-words.auto.out ∙ part_length a.n l.i l.image (image_end_at_After_slice_known_in_loop_i_1 c))

-- and so many words it has
few : (c : goal.After-slice_known-in-loop-i-1) → c.save-words.result ≤ c.args.n
few c = let w = c.requires.each c.loop-i.i
    (omega arith) in omega (arith, short c w.graph w.holds, (c.save-words.ensures w.graph w.holds).1)

pub loop-i-init : goal.loop-i-init
loop-i-init c = (refl, omega arith, λ g h. (refl, refl, done))

pub save-words-requires : goal.save-words-requires
save-words-requires c =
    let l = c.loop-i in
    let a = c.args in
    let e : l.i * a.n + a.n ≤ length l.image = omega (arith, part_end a.n l.i a.stores (length a.image.now) (omega arith) c.requires.image_fits) in
    subst (λ (k : ℕ). CanSave (tables_at a.all a.vertices.now a.edges.now a.v a.e l.i) k)
    (sym (part_length a.n l.i l.image e))
    (c.requires.each l.i (omega arith))

pub loop-i-preserved : goal.loop-i-preserved
loop-i-preserved c =
    let l = c.loop-i in
    let a = c.args in
    let t : c.loop-i.i < a.stores = omega arith in
    let e = image_end_at_After_slice_known_in_loop_i_1 c in
    let s = c.save-words in (
      length_with a.n l.i s.new.out l.image (s.auto.out ∙ part_length a.n l.i l.image e) e ∙ l.invariant.0,
      omega (arith, few c, l.invariant.1),
      λ g h.
          let r = l.invariant.2 g h in
          let q = s.ensures (g l.i) (h l.i t) in (
            ap (λ (ws : List ℕ). with_part a.n l.i ws l.image) q.0
                ∙ (λ j. with_part a.n l.i (overwritten (save (g l.i)) (part a.n l.i (r.0 j))) (r.0 j))
                ∙ over_more g l.i a.n r.2 a.image.now (omega (arith, e, l.invariant.0)),
            omega (arith, r.1, q.1, sum_more g l.i),
            short_more g l.i a.n r.2 (short c (g l.i) (h l.i t)),
          ),
    )

pub returns : goal.returns
returns c =
    let l = c.loop-i in
    let a = c.args in
    let e : l.i ≡ a.stores = omega arith in
    λ g h.
    let r = l.invariant.2 g h in
    (r.0 ∙ ap (λ (k : ℕ). over_parts a.n (images_to g k) a.image.now) e, r.1 ∙ ap (λ (k : ℕ). sum_of length (images_to g k)) e)
