-- A vertex record has three words or four, and the words of an image show which.
use Rattle.std.specs.Prelude.{◌==◌}
use Prim.Native.Nat.{ℕ, zero, suc, ◌+◌, ◌*◌, ◌≤◌, ◌<◌}
use mathlib.Core.Path.{◌≡◌, refl}
use mathlib.Core.Bool.{Bool, true, false}
use mathlib.Core.List.{List, [], ◌∷◌, ◌++◌}
use native.Mathlib.Omega.{arith}
use lib.ListN.{length, get_or, drop}
use borrow.Author.Tests.{eq-eqb, ne_eqb}
use Rattle.lists.specs.Choice.{◌⇒◌else◌}
use Rattle.image.specs.Image.{vertex_size, old_vertex_size, degree_word, edge_offset, vertex_count, record_size}

pub data Size : ℕ → Type 0 where
  old : Size old_vertex_size
  new : Size vertex_size

pub size_range : (size : ℕ) → Size size → (3 ≤ size) × (size ≤ 4)
size_range size old = (omega arith, omega arith)
size_range size new = (omega arith, omega arith)

-- a record is as long as its size
pub degree_length : (size : ℕ) → Size size → (d : ℕ) → 3 + length (degree_word size d) ≡ size
degree_length size old d = refl
degree_length size new d = refl

-- what stands behind the first three words of a record
pub degree_cut : (size : ℕ) → Size size → (ws : List ℕ) (m : ℕ) → length ws ≡ size + m → degree_word size (get_or ws 3 0) ++ drop size ws ≡ drop 3 ws
degree_cut size old ws m e = refl
degree_cut size new (a ∷ b ∷ c ∷ d ∷ ws) m e = refl
degree_cut size new (a ∷ b ∷ c ∷ []) m e = absurd (omega arith)
degree_cut size new (a ∷ b ∷ []) m e = absurd (omega arith)
degree_cut size new (a ∷ []) m e = absurd (omega arith)
degree_cut size new [] m e = absurd (omega arith)

pub size_times : (size v : ℕ) → size ≤ 4 → size * v ≤ 4 * v
size_times size zero h = omega arith
size_times size (suc v) h = omega (arith, size_times size v h)

-- a word of record j is one of the words of v records
pub row_in : (size j r v : ℕ) → j < v → r < size → size * j + r < size * v
row_in size zero r zero h k = absurd (omega arith)
row_in size zero r (suc v) h k = omega arith
row_in size (suc j) r zero h k = absurd (omega arith)
row_in size (suc j) r (suc v) h k = omega (arith, row_in size j r v (omega arith) k)

-- and a place before the end of v records is in one of them
pub row_back : (size j r v : ℕ) → size * j + r < size * v → j < v
row_back size j r zero h = absurd (omega arith)
row_back size zero r (suc v) h = omega arith
row_back size (suc j) r (suc v) h = omega (arith, row_back size j r v (omega arith))

pub record_size_lem : (ws : List ℕ) → Size (record_size ws)
unfolding record_size
record_size_lem ws = go (get_or ws 3 0 == edge_offset vertex_size (vertex_count ws)) (get_or ws 3 0 == edge_offset old_vertex_size (vertex_count ws))
  where
    go : (s t : Bool) → Size (s ⇒ vertex_size else t ⇒ old_vertex_size else vertex_size)
    go true t = new
    go false true = old
    go false false = new

-- the first and the fourth word decide
pub size_by : (us ws : List ℕ) → vertex_count us ≡ vertex_count ws → get_or us 3 0 ≡ get_or ws 3 0 → record_size us ≡ record_size ws
unfolding record_size
size_by us ws e f = rw (e, f)

-- words with the offset of a size show that size, where there are vertices
pub size_shown : (size : ℕ) → Size size → (ws : List ℕ) → get_or ws 3 0 ≡ edge_offset size (vertex_count ws) → 1 ≤ vertex_count ws → record_size ws ≡ size
unfolding record_size
size_shown size new ws e l = rw (eq-eqb (get_or ws 3 0) (edge_offset vertex_size (vertex_count ws)) e)
size_shown size old ws e l =
    rw (ne_eqb (get_or ws 3 0) (edge_offset vertex_size (vertex_count ws)) (λ q. omega arith), eq-eqb (get_or ws 3 0) (edge_offset old_vertex_size (vertex_count ws)) e)

-- the tests one by one, with what the code read
module _ (ws : List ℕ) (v o : ℕ) (hv : v ≡ vertex_count ws) (ho : o ≡ get_or ws 3 0) where
  pub shows_new : o ≡ edge_offset vertex_size v → vertex_size ≡ record_size ws
  unfolding record_size
  shows_new e = rw (← hv, ← ho, eq-eqb o (edge_offset vertex_size v) e)

  module _ (other : o ≡ edge_offset vertex_size v → ⊥) where
    pub shows_old : o ≡ edge_offset old_vertex_size v → old_vertex_size ≡ record_size ws
    unfolding record_size
    shows_old e = rw (← hv, ← ho, ne_eqb o (edge_offset vertex_size v) other, eq-eqb o (edge_offset old_vertex_size v) e)

    pub shows_none : (o ≡ edge_offset old_vertex_size v → ⊥) → vertex_size ≡ record_size ws
    unfolding record_size
    shows_none n = rw (← hv, ← ho, ne_eqb o (edge_offset vertex_size v) other, ne_eqb o (edge_offset old_vertex_size v) n)
