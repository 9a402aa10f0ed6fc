use Prim.Native.Nat.{ℕ}
use mathlib.Core.Path.{◌≡◌, refl, sym, ap, ◌∙◌}
use mathlib.Core.List.{List}
use Rattle.std.specs.Borrow.{Bor}
use Rattle.linked_lists.specs.Links.{nodes}
use Rattle.graph.specs.declared.Reading.{Reading}
use Rattle.graph_tables.specs.Tables.{incidence_links, vertex_ends, vfirst, wnext}
use Rattle.walks.proofs.ListWalks.{along_start, along_row, along_in, along_link, along_less, along_on, first_link}
use Rattle.graph.specs.declared.Reading.TheVariants.{Untested}
use Rattle.prices.specs.Prices.{later, last_tested}
use Rattle.price_calls.specs.Ways.{reading_to, way_at}
use Rattle.price_calls.proofs.Passes.{Stands, rest, ahead_end, ahead_on}
use Rattle.price_calls.proofs.one_way.Goals as goal

start : (vertices edges : List ℕ) (a b w : ℕ) → w ≡ vfirst vertices a → last_tested (reading_to edges b) Untested (rest vertices edges a w) ≡ way_at vertices edges a b
unfolding way_at nodes
start vertices edges a b w q = ap (λ (x : ℕ). last_tested (reading_to edges b) Untested (rest vertices edges a x)) (q ∙ first_link vertices edges a)

on : (vertices edges : List ℕ) (a b w : ℕ) → Stands vertices edges a w → (w ≡ 0 → ⊥) → (way way' r : Reading) (y : ℕ) → r ≡ reading_to edges b w → way' ≡ later way r → y ≡ wnext edges w →
    last_tested (reading_to edges b) way (rest vertices edges a w) ≡ way_at vertices edges a b →
    last_tested (reading_to edges b) way' (rest vertices edges a y) ≡ way_at vertices edges a b
on vertices edges a b w k z way way' r y p q n h =
    ap (λ (x : Reading). last_tested (reading_to edges b) x (rest vertices edges a y)) (q ∙ ap (later way) p)
    ∙ sym (ap (last_tested (reading_to edges b) way) (ahead_on _ _ incidence_links edges (vertex_ends vertices a) w 0 _ k.walk z y (along_link _ vertices edges a w 0 k z y n)))
    ∙ h

-- the cursor's next word is that of the tables
next : {word : ℕ} {read edges : List ℕ} (w : ℕ) → word ≡ wnext read w → read ≡ edges → word ≡ wnext edges w
next w e i = e ∙ ap (λ (l : List ℕ). wnext l w) i

pub loop-cursor-init : goal.loop-cursor-init
loop-cursor-init c = record {
  edges = c.first-cursor.ensures.edges;
  stands = along_start _ _ _ _ c.requires _ c.first-cursor.ensures.word;
  decides = start _ _ _ _ _ c.first-cursor.ensures.word;
}

pub reading_to-requires : goal.reading_to-requires
reading_to-requires c = along_row _ _ _ _ _ _ c.loop-cursor.invariant.stands c.loop-cursor-test.true

pub step-requires : goal.step-requires
step-requires c = rw c.loop-cursor.invariant.edges (along_in _ _ _ _ _ _ c.loop-cursor.invariant.stands c.loop-cursor-test.true)

pub loop-cursor-smaller : goal.loop-cursor-smaller
loop-cursor-smaller c =
    along_less _ _ _ _ _ _ c.loop-cursor.invariant.stands c.loop-cursor-test.true _
    (next _ c.step.ensures.word c.loop-cursor.invariant.edges)

pub loop-cursor-preserved : goal.loop-cursor-preserved
loop-cursor-preserved c =
    let l = c.loop-cursor in
    let z = c.loop-cursor-test.true in
    let n = next _ c.step.ensures.word l.invariant.edges in record {
      edges = ap (λ (b : Bor (List ℕ)). b.now) c.step.ensures.edges ∙ l.invariant.edges;
      stands = along_on _ _ _ _ _ _ l.invariant.stands z _ n 0 refl;
      decides = on _ _ _ _ _ l.invariant.stands z l.way _ _ _ c.reading_to.ensures c.with_reading-way.ensures n l.invariant.decides;
    }

pub returns : goal.returns
returns c =
    let l = c.loop-cursor in
    let t = c.args.tables.now in
    sym (ap (last_tested (reading_to t.edges.now c.args.b) l.way) (ahead_end (λ x. 0) (λ x. ℕ) incidence_links t.edges.now (vertex_ends t.vertices.now c.args.a) l.cursor.word 0 0 c.loop-cursor-test.false))
    ∙ l.invariant.decides
