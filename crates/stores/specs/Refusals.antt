-- The refusals of a list of several stores, from the words of the starts, the type rows and the lengths of all that is
-- lent.
use Rattle.std.specs.Prelude.{ℕ, ◌+◌, ◌*◌, ◌/◌, ◌%◌, ◌≡◌, Bool, not, ◌&&◌, List, ltb, ◌==◌, Ok, Err}
use Rattle.lists.specs.Choice.{◌⇒◌else◌, within}
use Rattle.graph.specs.Limits.{most_vertices, most_edges, most_changes}
use Rattle.machine.specs.StoreRun.{LentStores, most_stores}
use Rattle.engine.specs.Refusals.{Lends}
use Rattle.image_check.specs.Checks.{Verdict}
use Rattle.image_check.specs.declared.BadImage.TheVariants.{Header, Record, Incidence}

-- the number beside the code of a verdict on the image that stands at a place; 0 where it is sound
abbrev pub number_at : ℕ → Verdict → ℕ
number_at at (Ok tt) = 0
number_at at (Err Header) = 0
number_at at (Err (Record offset)) = at + offset
number_at at (Err (Incidence offset)) = at + offset

-- the stores and the capacities of a part
abbrev pub in_limits_in : ℕ → ℕ → ℕ → ℕ → Bool
in_limits_in stores vertices edges changes =
    within 1 most_stores stores && within 1 most_vertices vertices && within 1 most_edges edges
    && within 1 most_changes changes

-- 101 to 103, which go by lengths alone
abbrev pub lengths_in : ℕ → ℕ → ℕ → ℕ → ℕ → ℕ → ℕ
lengths_in calls answers vertices edges journal stores =
    not (calls % 6 == 0) ⇒ 101 else
    ltb answers (2 * (calls / 6)) ⇒ 102 else
    not (in_limits_in stores (vertices / stores / 8) (edges / stores / 12) (journal / stores / 12)) ⇒ 103 else
    0

-- what is lent has these starts, these rows and these lengths, for so many stores
pub record LendsIn (l : LentStores) (start rows : List ℕ) (calls vertices edges journal answers image stores : ℕ)
    : Type 0 where
  pub lends : Lends l.lent start rows calls vertices edges journal answers image
  pub count_is : l.count ≡ stores
