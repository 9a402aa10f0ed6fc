-- The nodes that a walk has before it.
use Prim.Native.Nat.{ℕ, zero, suc, ◌+◌, ◌≤◌}
use mathlib.Core.Path.{◌≡◌, refl, sym, ap, ◌∙◌}
use mathlib.Core.List.{List, [], ◌∷◌}
use native.Mathlib.Omega.{arith}
use lib.ListN.{length}
use borrow.Author.Tests.{eq-eqb}
use Rattle.linked_lists.specs.declared.LinkLayout.{LinkLayout}
use Rattle.linked_lists.specs.declared.Ends.{Ends}
use Rattle.linked_lists.specs.Lists.{Fresh}
use Rattle.linked_lists.specs.Links.{backward, forward, link_of, Chain, nodes_from}
use Rattle.linked_lists.proofs.Model.{nodes_chain}
use Rattle.graph_tables.specs.Tables.{incidence_links, vertex_ends}
use Rattle.walks.proofs.ListWalks.{Walk, Along}

abbrev pub ahead : LinkLayout → List ℕ → Ends → ℕ → List ℕ
ahead layout t e w = nodes_from (link_of forward layout t e) (length t + layout.offset) w

none_ahead : (n : ℕ → ℕ) (f w : ℕ) → w ≡ 0 → nodes_from n f w ≡ []
none_ahead n zero w z = refl
none_ahead n (suc f) w z = simp (eq-eqb w 0 z)

module _ (f : ℕ → ℕ) (P : ℕ → Type 0) (layout : LinkLayout) (t : List ℕ) (e : Ends) (w n total : ℕ) where
  pub ahead_end : w ≡ 0 → ahead layout t e w ≡ []
  ahead_end z = none_ahead (link_of forward layout t e) (length t + layout.offset) w z

  pub ahead_on : Walk f P layout t e w n total → (w ≡ 0 → ⊥) → (y : ℕ) → y ≡ link_of forward layout t e w → ahead layout t e w ≡ w ∷ ahead layout t e y
  ahead_on k z y p = go k.rest k.chain k.real k.few
    where
      go : (l : List ℕ) → Chain (link_of forward layout t e) (link_of backward layout t e) k.from l 0 → Fresh 0 l → length l ≤ length t + layout.offset → ahead layout t e w ≡ w ∷ ahead layout t e y
      go [] c r m = absurd (z (k.here ∙ c.0))
      go (x ∷ l) c r m =
          let here : w ≡ x = k.here ∙ c.0.0 in
          let now : ahead layout t e w ≡ x ∷ l =
          ap (ahead layout t e) k.here ∙ nodes_chain (link_of forward layout t e) (link_of backward layout t e) (length t + layout.offset) k.from (x ∷ l) c r m in
          let then : ahead layout t e y ≡ l =
          ap (ahead layout t e) (p ∙ ap (link_of forward layout t e) here)
          ∙ nodes_chain (link_of forward layout t e) (link_of backward layout t e) (length t + layout.offset) x l c.1 r.1 (omega arith) in
          now ∙ (λ i. sym here i ∷ sym then i)

-- ---- along the list of vertex a

-- it stands at word w, and adds no numbers up
abbrev pub Stands : List ℕ → List ℕ → ℕ → ℕ → Type 0
Stands vertices edges a w = Along (λ x. 0) vertices edges a w 0

-- what is ahead of word w
abbrev pub rest : List ℕ → List ℕ → ℕ → ℕ → List ℕ
rest vertices edges a w = ahead incidence_links edges (vertex_ends vertices a) w
