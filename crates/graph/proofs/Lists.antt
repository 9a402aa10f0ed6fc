-- What the lists of a well-formed graph hold.
use mathlib.Core.Path.{◌≡◌, refl, ap, ◌∙◌}
use Prim.Native.Nat.{ℕ, ◌/◌}
use native.Mathlib.Omega.{arith}
use Rattle.lists.specs.Keyed.{count_by_key, remove_by, prev_by}
use Rattle.lists.proofs.Picks.{pick_yes, pick_both, same, differ, same?, is_yes, is_no, is_le}
use Rattle.graph.specs.declared.Reading.{Reading}
use Rattle.graph.specs.Graph.{Edge, Graph, vertex_number, edge_number, itself, out_word, in_word, edge_in, list_in, this_in}
use Rattle.graph.specs.WellFormed.{Ordered, WellFormed}
use Rattle.graph.specs.Changes.{on_list, detach}
use Rattle.graph.specs.Edits.{attach, Placed}
use Rattle.graph.proofs.Orders.{ordered_upd}
use Rattle.graph.proofs.Incidence.{count_detach, detach_back, count_attach_other, count_detach_other, ordered_detach, pick_le, apart, apart', out_half, into_half, this_out, this_into}

module _ (g : Graph) (wf : WellFormed g) where
  pub held : (k u : ℕ) → count_by_key edge_number (k / 2) g.eseq ≡ 1 → this_in g.eseq k ≡ u → count_by_key itself k (list_in g.vseq u) ≡ 1
  held k u h e = wf.lists u k ∙ pick_yes (this_in g.eseq k) u _ _ e ∙ h

  pub unheld : (k u : ℕ) → count_by_key edge_number (k / 2) g.eseq ≡ 0 → count_by_key itself k (list_in g.vseq u) ≡ 0
  unheld k u h = wf.lists u k ∙ rw h (pick_both (this_in g.eseq k) u 0)

  pub ends_at : (k v : ℕ) → count_by_key edge_number (k / 2) g.eseq ≡ 1 → this_in g.eseq k ≡ v → count_by_key vertex_number v g.vseq ≡ 1
  ends_at k v h e = rw e at (wf.ends k h)

  pub gone : (k v u : ℕ) → count_by_key edge_number (k / 2) g.eseq ≡ 1 → this_in g.eseq k ≡ v → count_by_key itself k (list_in (detach g.vseq v k) u) ≡ 0
  gone k v u h e = count_detach g.vseq v k u k (ends_at k v h e) ∙ rw (wf.lists u k, e, h, is_yes k k refl) (omega arith)

  pub ordered_list : (u : ℕ) → Ordered itself (list_in g.vseq u)
  ordered_list u k = elim (same? 0 k) [
    | same e f ↦ omega (arith, wf.lists u k, pick_le (this_in g.eseq k) u (count_by_key edge_number (k / 2) g.eseq), wf.eorder (k / 2), is_yes 0 (k / 2) (omega arith), is_le 0 k)
    | differ e f ↦ omega (arith, wf.lists u k, pick_le (this_in g.eseq k) u (count_by_key edge_number (k / 2) g.eseq), wf.eorder (k / 2), is_no 0 k e)
  ]

  -- an edge that is not there: its words are free
  pub free_out : (n a : ℕ) → count_by_key edge_number n g.eseq ≡ 0 → count_by_key itself (out_word n) (list_in g.vseq a) ≡ 0
  free_out n a h = unheld (out_word n) a (rw out_half h)

  pub free_into : (n a o z : ℕ) → count_by_key edge_number n g.eseq ≡ 0 → count_by_key vertex_number a g.vseq ≡ 1 → count_by_key itself (in_word n) (list_in (attach g.vseq a o (out_word n)) z) ≡ 0
  free_into n a o z h c = count_attach_other g.vseq a o (out_word n) z (in_word n) c (apart n) ∙ unheld (in_word n) z (rw into_half h)

  -- an edge that is there: its words stand in their lists
  module _ (n a z t : ℕ) (r : Reading) (h : count_by_key edge_number n g.eseq ≡ 1) (e : edge_in g.eseq n ≡ record { number = n; alpha = a; omega = z; type = t; reading = r }) where
    pub out_at : this_in g.eseq (out_word n) ≡ a
    out_at = this_out g.eseq n ∙ ap (λ (x : Edge). x.alpha) e

    pub into_at : this_in g.eseq (in_word n) ≡ z
    into_at = this_into g.eseq n ∙ ap (λ (x : Edge). x.omega) e

    pub a_there : count_by_key vertex_number a g.vseq ≡ 1
    a_there = ends_at (out_word n) a (rw out_half h) out_at

    pub z_there : count_by_key vertex_number z g.vseq ≡ 1
    z_there = ends_at (in_word n) z (rw into_half h) into_at

    pub placed_into : (i : ℕ) → prev_by itself 0 (in_word n) (list_in g.vseq z) ≡ i → Placed itself (list_in g.vseq z) (in_word n) i
    placed_into i b = record { there = held (in_word n) z (rw into_half h) into_at; before = b }

    pub placed_out : (o : ℕ) → prev_by itself 0 (out_word n) (list_in (detach g.vseq z (in_word n)) a) ≡ o → Placed itself (list_in (detach g.vseq z (in_word n)) a) (out_word n) o
    placed_out o b = record { there = count_detach_other g.vseq z (in_word n) a (out_word n) z_there (apart' n) ∙ held (out_word n) a (rw out_half h) out_at; before = b }

    pub back_out : (o : ℕ) → Placed itself (list_in (detach g.vseq z (in_word n)) a) (out_word n) o
        → attach (detach (detach g.vseq z (in_word n)) a (out_word n)) a o (out_word n) ≡ detach g.vseq z (in_word n)
    back_out o q = detach_back (detach g.vseq z (in_word n)) a o (out_word n) (ordered_upd vertex_number (on_list (remove_by itself (in_word n))) g.vseq z (λ y. refl) wf.vorder)
        (ordered_detach g.vseq z (in_word n) a z_there (ordered_list a)) q
