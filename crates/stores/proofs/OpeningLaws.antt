-- One more store has begun.
use Prim.Native.Nat.{ℕ, ◌+◌, ◌*◌, ◌≤◌, ◌<◌}
use mathlib.Core.Path.{◌≡◌, refl, sym, subst}
use mathlib.Core.List.{List}
use native.Mathlib.Omega.{arith}
use lib.ListN.{length, set}
use lib.Seq.{get_or-set_same, get_or-set_other}
use Rattle.lists.proofs.Picks.{same, differ, same?}
use Rattle.history_calls.specs.declared.Store.{Store}
use Rattle.machine.specs.StoreRun.{image_at}
use Rattle.store_calls.specs.Parts.{part, with_part}
use Rattle.store_calls.specs.Serving.{store_at}
use Rattle.stores.specs.Opening.{Begun}
use Rattle.store_calls.proofs.Parts.{before_part, part_same, part_other}

record Place : Type 0 where
  start : List ℕ
  store : Store
  vertices : List ℕ
  edges : List ℕ

begun_as : {s s' : List ℕ} {x x' : Store} {v v' e e' : List ℕ} → s ≡ s' → x ≡ x' → v ≡ v' → e ≡ e' → Begun s x v e → Begun s' x' v' e'
begun_as a b c d r =
    let q : ◌≡◌ {A = Place} _ _ = λ k. record { start = a k; store = b k; vertices = c k; edges = d k } in
    subst (λ (y : Place). Begun y.start y.store y.vertices y.edges) q r

module _ (start : List ℕ) (all : List Store) (vertices edges : List ℕ) (v e i : ℕ) (eight : i < length all) (vend : i * v + v ≤ length vertices) (eend : i * e + e ≤ length edges)
    (x : Store) (v' e' image : List ℕ) (vl : length v' ≡ v) (el : length e' ≡ e) (c : image ≡ image_at i start) (new : Begun image x v' e')
    (old : (j : ℕ) → j < i → Begun (image_at j start) (store_at all j) (part v j vertices) (part e j edges)) where
  pub begun_more : (j : ℕ) → j < i + 1 → Begun (image_at j start) (store_at (set all i x) j) (part v j (with_part v i v' vertices)) (part e j (with_part e i e' edges))
  begun_more j h = elim (same? j i) [
    | same f g ↦
        subst (λ (k : ℕ). Begun (image_at k start) (store_at (set all i x) k) (part v k (with_part v i v' vertices)) (part e k (with_part e i e' edges))) g
        (begun_as c (sym (get_or-set_same all i x _ eight)) (sym (part_same v i v' vertices vl vend)) (sym (part_same e i e' edges el eend)) new)
    | differ f g ↦
        let b : j < i = omega (arith, h, f) in
        begun_as refl (sym (get_or-set_other all i j x _ f))
        (sym (part_other v i v' vertices vl vend j f (omega (arith, before_part v j i b, vend))))
        (sym (part_other e i e' edges el eend j f (omega (arith, before_part e j i b, eend))))
        (old j b)
  ]
