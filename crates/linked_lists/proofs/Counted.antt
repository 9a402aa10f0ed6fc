-- The laws of held lists with membership as a count, in the words of keyed lists:
-- `count_by_key`, `remove_by`, `insert_after_by`, `prev_by`.
use Prim.Native.Nat.{ℕ, ◌+◌, ◌≤◌}
use mathlib.Core.Path.{◌≡◌, refl, sym}
use mathlib.Core.List.{List, [], ◌∷◌}
use mathlib.Core.Bool.{true}
use mathlib.Core.Logic.{◌⊎◌, inl, inr}
use native.Mathlib.Omega.{arith}
use lib.ListN.{length}
use borrow.Author.Tests.{eq-eqb, ne_eqb}
use Rattle.lists.specs.Choice.{indicator}
use Rattle.lists.specs.Lists.{member, successor}
use Rattle.lists.specs.Keyed.{count_by_key, remove_by, insert_after_by, prev_by}
use Rattle.lists.proofs.Picks.{same, differ, same?, is_yes, is_no, is_zero}
use Rattle.linked_lists.specs.declared.LinkLayout.{LinkLayout}
use Rattle.linked_lists.specs.declared.Ends.{Ends}
use Rattle.linked_lists.specs.Lists.{Fresh, Distinct, Every}
use Rattle.linked_lists.specs.Links.{ValidLayout, backward, forward, Inside, link_of, Held, table_unlink, ends_unlink, table_insert, ends_insert, CanUnlink, CanInsert}
use Rattle.linked_lists.proofs.HeldLaws.{can_unlink, held_unlink, can_insert, held_insert, held_pred, held_inside}
use Rattle.linked_lists.proofs.Frames.{frame_unlink, frame_insert}
use Rattle.linked_lists.proofs.Walks.{next_after}

-- how often x is in l
abbrev pub times : ℕ → List ℕ → ℕ
times x l = count_by_key (λ k. k) x l

pub has_is : (x : ℕ) (l : List ℕ) → 1 ≤ times x l → member x l ≡ true
has_is x [] h = absurd (omega arith)
has_is x (y ∷ l) h = elim (same? y x) [
  | same e f ↦ rw (eq-eqb y x e)
  | differ e f ↦ rw (ne_eqb y x e) (has_is x l (omega (arith, is_no y x e)))
]

pub fresh_is : (x : ℕ) (l : List ℕ) → times x l ≡ 0 → Fresh x l
fresh_is x [] h = tt
fresh_is x (y ∷ l) h = ((λ e. is_zero y x (omega arith) (sym e)), fresh_is x l (omega arith))

pub fresh_times : (x : ℕ) (l : List ℕ) → Fresh x l → times x l ≡ 0
fresh_times x [] f = refl
fresh_times x (y ∷ l) f = omega (arith, is_no y x (λ e. f.0 (sym e)), fresh_times x l f.1)

pub distinct_times : (l : List ℕ) → Distinct l → (x : ℕ) → times x l ≤ 1
distinct_times [] d x = omega arith
distinct_times (y ∷ l) d x = elim (same? y x) [
  | same e f ↦ let z : times x l ≡ 0 = rw e at (fresh_times y l d.0) in omega (arith, is_yes y x e)
  | differ e f ↦ omega (arith, is_no y x e, distinct_times l d.1 x)
]

new : (x : ℕ) → 1 ≤ x → (l : List ℕ) → times x l ≡ 0 → Fresh x (0 ∷ l)
new x r l f = ((λ q. omega arith), fresh_is x l f)

apart_is : (l l' : List ℕ) → ((k : ℕ) → 1 ≤ times k l → times k l' ≡ 0) → Every (λ k. Fresh k l') l
apart_is [] l' h = tt
apart_is (y ∷ l) l' h = (fresh_is y l' (h y (omega (arith, is_yes y y refl))), apart_is l l' (λ k i. h k (omega arith)))

split_after_is : (p : ℕ) (l : List ℕ) → 1 ≤ indicator 0 p + times p l → (p ≡ 0) ⊎ (member p l ≡ true)
split_after_is p l h = elim (same? p 0) [ same e f ↦ inl e | differ e f ↦ inr (has_is p l (omega (arith, is_no 0 p f))) ]

module _ (layout : LinkLayout) (t : List ℕ) (e : Ends) (l : List ℕ) (valid : ValidLayout layout) (h : Held layout t e l) where
  -- 0 is not in the list, and no node twice
  pub ordered : (x : ℕ) → indicator 0 x + times x l ≤ 1
  ordered x = distinct_times (0 ∷ l) h.distinct x

  pub inside_is : (x : ℕ) → 1 ≤ times x l → Inside layout (length t) x
  inside_is x c = held_inside layout t e l x h (has_is x l c)

  pub prev_is : (x : ℕ) → 1 ≤ times x l → link_of backward layout t e x ≡ prev_by (λ k. k) 0 x l
  prev_is x c = held_pred layout t e l x h (has_is x l c)

  pub next_is : (x : ℕ) → 1 ≤ times x l → link_of forward layout t e x ≡ successor x l
  next_is x c = next_after layout t e l h x (has_is x l c)

  pub can_rem : (x : ℕ) → 1 ≤ times x l → CanUnlink layout t e x
  can_rem x c = can_unlink layout t e l x valid h (has_is x l c)

  pub held_rem : (x : ℕ) → 1 ≤ times x l → Held layout (table_unlink layout t e x) (ends_unlink layout t e x) (remove_by (λ k. k) x l)
  held_rem x c = held_unlink layout t e l x valid h (has_is x l c)

  -- x directly after p
  module _ (p x : ℕ) (r : 1 ≤ x) (f : times x l ≡ 0) (i : Inside layout (length t) x) (a : 1 ≤ indicator 0 p + times p l) where
    pub can_ins : CanInsert layout t e p x
    can_ins = can_insert layout t e l p x valid h (new x r l f) i (split_after_is p l a)

    pub held_ins : Held layout (table_insert layout t e p x) (ends_insert layout t e p x) (insert_after_by (λ k. k) 0 p x l)
    held_ins = held_insert layout t e l p x valid h (new x r l f) i (split_after_is p l a)

  -- another list of the same layout
  module _ (e' : Ends) (l' : List ℕ) (h' : Held layout t e' l') (apart : (k : ℕ) → times k l + times k l' ≤ 1) where
    other : Every (λ k. Fresh k l') l
    other = apart_is l l' (λ k i. omega (arith, apart k))

    pub frame_rem : (x : ℕ) → 1 ≤ times x l → Held layout (table_unlink layout t e x) e' l'
    frame_rem x c = frame_unlink layout valid t e l e' l' h h' other x (has_is x l c)

    pub frame_ins : (p x : ℕ) → times x l' ≡ 0 → 1 ≤ indicator 0 p + times p l → Held layout (table_insert layout t e p x) e' l'
    frame_ins p x f a = frame_insert layout valid t e l e' l' h h' other p x (split_after_is p l a) (fresh_is x l' f)
