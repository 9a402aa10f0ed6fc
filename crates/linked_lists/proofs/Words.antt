-- Where a node's words stand: the product fits, and two nodes' words are apart.
use Prim.Native.Nat.{ℕ, ◌+◌, ◌*◌, ◌≤◌, ◌<◌, ◌^◌}
use native.Mathlib.Nat.{mul-le-mul_left, mul-suc}
use native.Mathlib.Decide.{dec_lt, ℕ_discrete}
use native.Mathlib.Omega.{arith}
use mathlib.Core.Path.{◌≡◌, ap}
use Rattle.linked_lists.specs.declared.LinkLayout.{LinkLayout}
use Rattle.linked_lists.specs.Links.{ValidLayout, Direction, backward, forward, link_address, node_address, HasAddress, Inside}

pub product : (layout : LinkLayout) (n x : ℕ) → ValidLayout layout → (x ≡ 0 → ⊥) → Inside layout n x → n < 2 ^ 62 → layout.stride * x < 2 ^ 64
product layout n x f h i b = omega (arith, (i h).1)

-- a later node starts at least a stride later
pub step : (s x y : ℕ) → x < y → s * x + s ≤ s * y
step s x y h = rw mul-suc at (mul-le-mul_left s h)

data Order (x y : ℕ) : Type 0 where
  less : x < y → Order x y
  more : y < x → Order x y

order : (x y : ℕ) → (x ≡ y → ⊥) → Order x y
order x y h = elim (dec_lt x y) [ yes l ↦ less l | no g ↦ more (omega arith) ]

-- the words of two nodes on any two sides are apart
pub nodes_apart : (layout : LinkLayout) (s r : Direction) (x y : ℕ) → ValidLayout layout → HasAddress layout x → HasAddress layout y → (x ≡ y → ⊥)
    → link_address s layout x ≡ link_address r layout y → ⊥
nodes_apart layout s r x y f hx hy ne = go s r (order x y ne)
  where
    go : (s r : Direction) → Order x y → link_address s layout x ≡ link_address r layout y → ⊥
    go backward backward (less h) e = omega (arith, step layout.stride x y h)
    go backward forward (less h) e = omega (arith, step layout.stride x y h)
    go forward backward (less h) e = omega (arith, step layout.stride x y h)
    go forward forward (less h) e = omega (arith, step layout.stride x y h)
    go backward backward (more h) e = omega (arith, step layout.stride y x h)
    go backward forward (more h) e = omega (arith, step layout.stride y x h)
    go forward backward (more h) e = omega (arith, step layout.stride y x h)
    go forward forward (more h) e = omega (arith, step layout.stride y x h)

-- a prev word is no next word
pub sides_apart : (layout : LinkLayout) (x y : ℕ) → ValidLayout layout → HasAddress layout x → HasAddress layout y → link_address backward layout x ≡ link_address forward layout y → ⊥
sides_apart layout x y f hx hy = go (ℕ_discrete x y)
  where
    go : Dec (x ≡ y) → link_address backward layout x ≡ link_address forward layout y → ⊥
    go (yes e) q = omega (arith, ap (λ k. node_address layout k) e)
    go (no n) q = nodes_apart layout backward forward x y f hx hy n q
