-- Doubly linked lists in a table of words: where the links stand, what it is to hold a list, and what unlinking,
-- inserting and moving leave.
-- Vseq, Eseq and the incidence list of each vertex are lists of this kind.
use Rattle.std.specs.Prelude.{ℕ, zero, suc, ◌+◌, ◌-◌, ◌*◌, ◌≤◌, ◌<◌, ◌≡◌, List, [], ◌∷◌, Bool, true, length, get_or, set, ltb, ◌==◌}
use Rattle.lists.specs.Choice.{◌⇒◌else◌}
use Rattle.lists.specs.Lists.{member}
use Rattle.linked_lists.specs.declared.LinkLayout.{LinkLayout}
use Rattle.linked_lists.specs.declared.Ends.{Ends}
use Rattle.linked_lists.specs.Lists.{Distinct, Every}

-- ---- where the links stand

-- a layout that can be used: nodes do not overlap, and an address is computed without overflow
pub record ValidLayout (layout : LinkLayout) : Type 0 where
  pub two : 2 ≤ layout.stride
  pub near : layout.offset ≤ 65536

-- the prev side of a node, and its next side
pub data Direction : Type 0 where
  backward forward : Direction

-- where node x's words start
abbrev pub node_address : LinkLayout → ℕ → ℕ
node_address layout x = layout.stride * x - layout.offset

-- where node x's word of a side stands
abbrev pub link_address : Direction → LinkLayout → ℕ → ℕ
link_address backward layout x = node_address layout x
link_address forward layout x = node_address layout x + 1

-- The difference in `node_address` is 0 where a node would start before the table, so such nodes share an address.
-- They have no words: `HasAddress` is the fact that a node is none of them, and `lacks_address` the test that it is one.
-- With the test in `link_of` and `table_put`, a link that is put changes no other node's link, whatever the numbers are.
abbrev pub HasAddress : LinkLayout → ℕ → Type 0
HasAddress layout x = layout.offset ≤ layout.stride * x

abbrev pub lacks_address : LinkLayout → ℕ → Bool
lacks_address layout x = ltb (layout.stride * x) layout.offset

-- node x's two words are in a table of n words; node 0 has none
abbrev pub Inside : LinkLayout → ℕ → ℕ → Type 0
Inside layout n x = (x ≡ 0 → ⊥) → HasAddress layout x × (node_address layout x + 1 < n)

-- ---- one link

-- node 0 is the ends: its next node is the first, its prev node the last
abbrev pub end_of : Direction → Ends → ℕ
end_of backward e = e.last
end_of forward e = e.first

abbrev pub with_end : Direction → ℕ → Ends → Ends
with_end backward v e = record { first = e.first; last = v }
with_end forward v e = record { first = v; last = e.last }

-- the link of node k on a side: read off the ends at 0, and off the table elsewhere
unfoldable pub link_of : Direction → LinkLayout → List ℕ → Ends → ℕ → ℕ
link_of s layout t e k = (k == 0) ⇒ end_of s e else lacks_address layout k ⇒ 0 else get_or t (link_address s layout k) 0

-- the table, and the ends, once the link of node k is v
unfoldable pub table_put : Direction → LinkLayout → ℕ → ℕ → List ℕ → List ℕ
table_put s layout k v t = (k == 0) ⇒ t else lacks_address layout k ⇒ t else set t (link_address s layout k) v

unfoldable pub ends_put : Direction → ℕ → ℕ → Ends → Ends
ends_put s k v e = (k == 0) ⇒ with_end s v e else e

-- ---- the list that is held

-- by n and p, which give the next and the prev node: b follows a, and a precedes b
abbrev pub Link : (ℕ → ℕ) → (ℕ → ℕ) → ℕ → ℕ → Type 0
Link n p a b = (n a ≡ b) × (p b ≡ a)

-- from a through l to b, each linked to the one after it
abbrev pub Chain : (ℕ → ℕ) → (ℕ → ℕ) → ℕ → List ℕ → ℕ → Type 0
Chain n p a [] b = Link n p a b
Chain n p a (x ∷ l) b = Link n p a x × Chain n p x l b

-- the list l is held by a table and ends: its nodes are linked in a circle through 0, differ, are not 0, and are in the
-- table
pub record Held (layout : LinkLayout) (t : List ℕ) (e : Ends) (l : List ℕ) : Type 0 where
  pub chain : Chain (link_of forward layout t e) (link_of backward layout t e) 0 l 0
  pub distinct : Distinct (0 ∷ l)
  pub inside : Every (Inside layout (length t)) l

-- some list is held that has the node x
abbrev pub HeldAt : LinkLayout → List ℕ → Ends → ℕ → Type 0
HeldAt layout t e x = (l : List ℕ) × Held layout t e l × (member x l ≡ true)

-- the nodes from k on along n, at most f of them
abbrev pub nodes_from : (ℕ → ℕ) → ℕ → ℕ → List ℕ
nodes_from n zero k = []
nodes_from n (suc f) k = (k == 0) ⇒ [] else (k ∷ nodes_from n f (n k))

-- the list read off a table from its first node on. It has no more nodes than a layout has in the table, and these are
-- below this bound.
unfoldable pub nodes : LinkLayout → List ℕ → Ends → List ℕ
nodes layout t e = nodes_from (link_of forward layout t e) (length t + layout.offset) (link_of forward layout t e 0)

-- ---- what the functions leave, and what they ask

-- a and b linked to each other: b follows a, and a precedes b
unfoldable pub table_join : LinkLayout → ℕ → ℕ → List ℕ → List ℕ
table_join layout a b t = table_put backward layout b a (table_put forward layout a b t)

unfoldable pub ends_join : ℕ → ℕ → Ends → Ends
ends_join a b e = ends_put backward b a (ends_put forward a b e)

-- x taken out: the node before x and the node after it are linked to each other
abbrev pub table_unlink : LinkLayout → List ℕ → Ends → ℕ → List ℕ
table_unlink layout t e x = table_join layout (link_of backward layout t e x) (link_of forward layout t e x) t

abbrev pub ends_unlink : LinkLayout → List ℕ → Ends → ℕ → Ends
ends_unlink layout t e x = ends_join (link_of backward layout t e x) (link_of forward layout t e x) e

-- x put in directly after p: x is linked to p, and to the node that followed p
abbrev pub table_insert : LinkLayout → List ℕ → Ends → ℕ → ℕ → List ℕ
table_insert layout t e p x = table_join layout x (link_of forward layout t e p) (table_join layout p x t)

abbrev pub ends_insert : LinkLayout → List ℕ → Ends → ℕ → ℕ → Ends
ends_insert layout t e p x = ends_join x (link_of forward layout t e p) (ends_join p x e)

-- what unlinking x asks: it is a node, and the words that it reads and writes are in the table
pub record CanUnlink (layout : LinkLayout) (t : List ℕ) (e : Ends) (x : ℕ) : Type 0 where
  pub valid : ValidLayout layout
  pub node : x ≡ 0 → ⊥
  pub here : Inside layout (length t) x
  pub prev : Inside layout (length t) (link_of backward layout t e x)
  pub next : Inside layout (length t) (link_of forward layout t e x)

-- what inserting x after p asks
pub record CanInsert (layout : LinkLayout) (t : List ℕ) (e : Ends) (p x : ℕ) : Type 0 where
  pub valid : ValidLayout layout
  pub node : x ≡ 0 → ⊥
  pub here : Inside layout (length t) x
  pub prev : Inside layout (length t) p
  pub next : Inside layout (length t) (link_of forward layout t e p)

-- what putting x behind the last node asks: no node follows that one
pub record CanAppend (layout : LinkLayout) (t : List ℕ) (e : Ends) (x : ℕ) : Type 0 where
  pub back : CanInsert layout t e e.last x
  pub end : link_of forward layout t e e.last ≡ 0

-- x taken out and put in again directly after p
unfoldable pub table_move : LinkLayout → ℕ → ℕ → List ℕ → Ends → List ℕ
table_move layout x p t e = table_insert layout (table_unlink layout t e x) (ends_unlink layout t e x) p x

unfoldable pub ends_move : LinkLayout → ℕ → ℕ → List ℕ → Ends → Ends
ends_move layout x p t e = ends_insert layout (table_unlink layout t e x) (ends_unlink layout t e x) p x

-- what moving x after p asks
pub record CanMove (layout : LinkLayout) (x p : ℕ) (t : List ℕ) (e : Ends) : Type 0 where
  pub out : CanUnlink layout t e x
  pub back : CanInsert layout (table_unlink layout t e x) (ends_unlink layout t e x) p x
