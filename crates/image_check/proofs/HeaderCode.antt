-- 105 is given for the header and the counts in it, and for nothing else.
use Prim.Native.Nat.{ℕ, zero, suc, ◌+◌}
use mathlib.Core.Path.{◌≡◌, refl}
use mathlib.Core.Logic.{◌↔◌}
use mathlib.Core.Bool.{Bool, true, false, not, ◌&&◌}
use mathlib.Core.List.{List, [], ◌∷◌}
use native.Mathlib.Omega.{arith}
use lib.ListN.{length, drop}
use lib.Dec.{ltb}
use Rattle.lists.specs.Choice.{◌⇒◌else◌}
use Rattle.lists.proofs.Bools.{tf}
use Rattle.graph.specs.Graph.{Edge}
use Rattle.graph.specs.WellFormed.{Bounds, words_at}
use Rattle.image.specs.Image.{old_vertex_size, edge_size, vertex_offset, edge_offset, incidence_offset, vertex_count, edge_count, record_size, sound_header, vertex_part, edge_part, incidence_part}
use Rattle.image_check.specs.Checks.{walk, code_of, good_list, record_at, list_at, ended, and_then, list_walk, sound_counts, numbers_of, passed}
use Rattle.image_check.specs.Checks.{edges_of, vertex_verdict, edge_verdict, degree_verdict, list_verdict, parts_verdict, verdict, load_code}
use Rattle.std.specs.Prelude.{Ok, Err}
use Rattle.image_check.specs.declared.BadImage.TheVariants.{Header, Record, Incidence}
use Rattle.image_check.specs.Checks.{Verdict}

-- another code than that of a header
abbrev Other : Verdict → Type 0
Other v = code_of v ≡ 105 → ⊥

record_other : (size at good : ℕ) (rest : Verdict) → Other rest → Other (record_at size at good rest)
record_other size at good rest n = go (ltb good size)
  where
    go : (t : Bool) → Other (t ⇒ Err (Record (at + good)) else rest)
    go true e = omega arith
    go false e = n e

list_other : (d at good : ℕ) (rest : Verdict) → Other rest → Other (list_at d at good rest)
list_other d at good rest n = go (ltb good d)
  where
    go : (t : Bool) → Other (t ⇒ Err (Incidence (at + good)) else rest)
    go true e = omega arith
    go false e = n e

then_other : (x y : Verdict) → Other x → Other y → Other (and_then x y)
then_other (Ok tt) y m n = n
then_other (Err Header) y m n = m
then_other (Err (Record at)) y m n = m
then_other (Err (Incidence at)) y m n = m

module _ {S : Type 0} (tests : S → List ℕ → List Bool) (next : S → List ℕ → S) (tested size : ℕ) where
  walk_other : (s : S) (k : ℕ) (ws : List ℕ) (at : ℕ) → Other (walk tests next tested size s k ws at)
  unfolding walk
  walk_other s zero ws at = λ e. omega arith
  walk_other s (suc k) ws at =
      record_other tested at (passed (tests s ws)) (walk tests next tested size (next s ws) k (drop size ws) (at + size)) (walk_other (next s ws) k (drop size ws) (at + size))

ended_other : (ws : List ℕ) (at : ℕ) → Other (ended ws at)
ended_other [] at e = omega arith
ended_other (w ∷ ws) at e = omega arith

lists_other : (es : List Edge) (vs ws : List ℕ) (at : ℕ) → Other (list_walk es vs ws at)
unfolding list_walk
lists_other es [] ws at = ended_other ws at
lists_other es (v ∷ vs) ws at =
    list_other (length (words_at es v)) at (good_list (length (words_at es v)) (words_at es v) ws)
    (list_walk es vs (drop (length (words_at es v)) ws) (at + length (words_at es v)))
    (lists_other es vs (drop (length (words_at es v)) ws) (at + length (words_at es v)))

module _ (b : Bounds) (ws : List ℕ) where
  parts_other : (size : ℕ) → Other (parts_verdict size b ws)
  parts_other size =
      then_other (vertex_verdict size b ws) (and_then (edge_verdict size b ws) (and_then (degree_verdict size ws) (list_verdict size ws)))
      (walk_other _ _ old_vertex_size size [] (vertex_count ws) (vertex_part size ws) vertex_offset)
      (then_other (edge_verdict size b ws) (and_then (degree_verdict size ws) (list_verdict size ws))
      (walk_other _ _ edge_size edge_size [] (edge_count ws) (edge_part size ws) (edge_offset size (vertex_count ws)))
      (then_other (degree_verdict size ws) (list_verdict size ws) (walk_other _ _ size size tt (vertex_count ws) (vertex_part size ws) vertex_offset)
      (lists_other (edges_of size ws) (numbers_of size ws) (incidence_part size ws) (incidence_offset size (vertex_count ws) (edge_count ws)))))

  -- 105 exactly where the header is not sound, a count is above its capacity, or there are edges and no vertex
  pub header_code : (load_code b ws ≡ 105) ↔ ((sound_header ws && sound_counts b.vertices b.edges (vertex_count ws) (edge_count ws)) ≡ false)
  unfolding verdict
  header_code = go (sound_header ws && sound_counts b.vertices b.edges (vertex_count ws) (edge_count ws))
    where
      go : (t : Bool) → (code_of (not t ⇒ (Err Header) else parts_verdict (record_size ws) b ws) ≡ 105) ↔ (t ≡ false)
      go true = (λ e. absurd (parts_other (record_size ws) e), λ e. tf e)
      go false = (λ e. refl, λ e. refl)
