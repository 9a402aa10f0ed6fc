-- The list read off a table is the one list that it holds.
use Prim.Native.Nat.{ℕ, zero, suc, ◌+◌, ◌*◌, ◌≤◌, ◌<◌}
use mathlib.Core.Path.{◌≡◌, refl, sym, ap, ◌∙◌}
use mathlib.Core.List.{List, [], ◌∷◌}
use native.Mathlib.Omega.{arith}
use native.Mathlib.Nat.{mul-le-mul_right}
use lib.ListN.{length}
use borrow.Author.Tests.{eq-eqb, ne_eqb}
use Rattle.linked_lists.specs.declared.LinkLayout.{LinkLayout}
use Rattle.linked_lists.specs.declared.Ends.{Ends}
use Rattle.linked_lists.specs.Lists.{Fresh}
use Rattle.linked_lists.specs.Links.{ValidLayout, forward, backward, node_address, HasAddress, link_of, Chain, Held, nodes_from, nodes}
use Rattle.linked_lists.proofs.ListLaws.{last_or}
use Rattle.linked_lists.proofs.Chains.{last_link, next_last}
use Rattle.linked_lists.proofs.Pigeonhole.{held_length}

-- the nodes read off a chain are its nodes
pub nodes_chain : (n p : ℕ → ℕ) (f a : ℕ) (l : List ℕ) → Chain n p a l 0 → Fresh 0 l → length l ≤ f → nodes_from n f (n a) ≡ l
nodes_chain n p zero a [] c z h = refl
nodes_chain n p zero a (x ∷ l) c z h = absurd (omega arith)
nodes_chain n p (suc f) a [] c z h = simp (eq-eqb (n a) 0 c.0)
nodes_chain n p (suc f) a (x ∷ l) c z h =
    let r : nodes_from n f (n x) ≡ l = nodes_chain n p f x l c.1 z.1 (omega arith) in
    simp (c.0.0, ne_eqb x 0 (λ q. z.0 (sym q)), r)

-- a node whose words are in a table has a number below this bound
pub node_below : (layout : LinkLayout) (n x : ℕ) → ValidLayout layout → HasAddress layout x → node_address layout x + 1 < n → x < n + layout.offset
node_below layout n x valid s i =
    let f : 2 * x ≤ layout.stride * x = mul-le-mul_right x valid.two in
    omega arith

pub held_nodes : (layout : LinkLayout) (t : List ℕ) (e : Ends) → ValidLayout layout → (l : List ℕ) → Held layout t e l → nodes layout t e ≡ l
unfolding nodes
held_nodes layout t e valid l h =
    nodes_chain (link_of forward layout t e) (link_of backward layout t e) (length t + layout.offset) 0 l h.chain h.distinct.0
    (held_length layout t e (length t + layout.offset) l (λ x s i. node_below layout (length t) x valid s i) h)

pub held_last : (layout : LinkLayout) (t : List ℕ) (e : Ends) (l : List ℕ) → Held layout t e l → e.last ≡ last_or 0 l
unfolding link_of
held_last layout t e l h = last_link (link_of forward layout t e) (link_of backward layout t e) 0 l 0 h.chain

-- no node follows the last
pub held_end : (layout : LinkLayout) (t : List ℕ) (e : Ends) (l : List ℕ) → Held layout t e l → link_of forward layout t e e.last ≡ 0
held_end layout t e l h =
    ap (link_of forward layout t e) (held_last layout t e l h) ∙ next_last (link_of forward layout t e) (link_of backward layout t e) 0 l 0 h.chain
