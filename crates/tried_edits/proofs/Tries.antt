-- An edit that was tried: nothing written, or its row written and the edit carried out.
use Rattle.std.specs.Prelude.{◌==◌}
use Prim.Native.Nat.{ℕ, ◌+◌, ◌*◌}
use mathlib.Core.Path.{◌≡◌, sym, ap, ◌∙◌}
use mathlib.Core.Logic.{◌≢◌}
use mathlib.Core.Bool.{true, false, ◌&&◌}
use mathlib.Core.List.{List, [], ◌∷◌}
use lib.ListN.{set}
use Rattle.std.specs.Prelude.{Result, Err}
use borrow.Author.Tests.{ne_eqb}
use Rattle.graph.specs.declared.Edit.{Edit}
use Rattle.graph.specs.declared.Edit.TheVariants.{SetEdge}
use Rattle.graph.specs.Graph.{reading_of, IsWords}
use Rattle.graph.specs.Same.{idle}
use Rattle.graph_tables.specs.declared.Head.{Head}
use Rattle.graph_tables.specs.declared.Tables.{Tables}
use Rattle.graph_tables.specs.Tables.{State, state_of, state_remove_edge}
use Rattle.graph_tables.specs.Edits.{state_apply}
use Rattle.journal.specs.declared.room.Room.{Room}
use Rattle.journal.specs.Rows.{row_words, costing, rowed, store_from}
use Rattle.journal.proofs.RowLaws.{rowed_by, edge_words}
use Rattle.commands.specs.declared.refusal.Refusal.{Refusal}
use Rattle.commands.specs.declared.refusal.Refusal.TheVariants.{NoRoom}
use Rattle.journal.specs.Written.{Written}
use Rattle.tried_edits.specs.declared.Made.{Made}
use Rattle.tried_edits.specs.declared.removal.RemovedEdge.{RemovedEdge}
use Rattle.tried_edits.specs.Plans.{removed_edge, removal_of}
use Rattle.tried_edits.specs.Tried.{attempt_of, outcome_of, outcome, tried, Tries}

-- nothing is written where the edit keeps the graph, or where there is no room
module _ {e : Edit} {h : Head} (tables : Tables) (room : Room) where
  pub tries_kept : idle e ≡ true → Tries e (attempt_of h tables room) (outcome 0 0 (state_of h tables) room.journal.now)
  unfolding tried
  tries_kept a = record { comes = rw a }

  pub tries_full : {r : Result Made Refusal} {t : List ℕ} → idle e ≡ false → room.free ≡ 0 → r ≡ Err NoRoom → t ≡ room.journal.now
      → Tries e (attempt_of h tables room) (outcome_of h r tables t)
  unfolding tried
  tries_full a z q p = record { comes = rw (a, z, q, p) }

  -- a row written and the edit carried out
  pub tries_made : {l t : List ℕ} {s : State} → idle e ≡ false → room.free ≢ 0 → l ≡ row_words e
      → t ≡ set (store_from (12 * room.row) l room.journal.now) (12 * room.row + 10) 1 → s ≡ state_apply e (state_of h tables)
      → Tries e (attempt_of h tables room) (outcome 0 1 s t)
  unfolding tried
  tries_made {l} {t} a n q p m =
      let w = rowed_by room.row e 1 room.journal.now t l q p in
      record { comes = rw (a, ne_eqb room.free 0 n) (λ j. outcome 0 1 (m j) (w j)) }

-- the words of an edge as the edit compares them
pub edge_idle : (n s s2 k d k2 d2 : ℕ) → IsWords k d → IsWords k2 d2 →
    idle (SetEdge n s (reading_of k d) s2 (reading_of k2 d2)) ≡ ((s == s2) && ((k == k2) && (d == d2)))
edge_idle n s s2 k d k2 d2 u v = rw (u.0, u.1, v.0, v.1)

-- ---- the removal of an edge, as a row

pub removed_words : (n : ℕ) (w : RemovedEdge) → IsWords w.kind w.decimetres
    → 4 ∷ n ∷ w.alpha ∷ w.omega ∷ w.sort ∷ w.kind ∷ w.decimetres ∷ w.order ∷ w.out ∷ w.into ∷ [] ≡ row_words (removal_of n w)
removed_words n w h = λ j. 4 ∷ n ∷ w.alpha ∷ w.omega ∷ w.sort ∷ sym h.0 j ∷ sym h.1 j ∷ w.order ∷ w.out ∷ w.into ∷ []

-- an edge taken out by the words that were read off its row
pub removal_written : (s : State) (n c i : ℕ) (t : List ℕ) (w : RemovedEdge) → w ≡ removed_edge s.edges n → (s' : State) (t' : List ℕ)
    → s' ≡ state_remove_edge n w.alpha w.omega s → t' ≡ rowed i (removal_of n w) (costing c) t → Written (removal_of n (removed_edge s.edges n)) (costing c) i s t s' t'
removal_written s n c i t w e s' t' p q = record {
  state = p ∙ ap (λ (x : RemovedEdge). state_remove_edge n x.alpha x.omega s) e;
  row = q ∙ ap (λ (x : RemovedEdge). rowed i (removal_of n x) (costing c) t) e;
}

-- what each edit's function is proved by
pub ruleset tries = (tries_kept, tries_full, tries_made, edge_idle, removed_words, edge_words)
