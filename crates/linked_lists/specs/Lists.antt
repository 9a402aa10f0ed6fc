-- Lists of node numbers. 0 is no node: it stands for the place before the first node and after the last.
use Rattle.std.specs.Prelude.{ℕ, ◌≡◌, List, [], ◌∷◌}
use Rattle.lists.specs.Keyed.{remove_by, insert_after_by, prev_by}

-- x is not in l
abbrev pub Fresh : ℕ → List ℕ → Type 0
Fresh x [] = Unit {0}
Fresh x (y ∷ l) = (x ≡ y → ⊥) × Fresh x l

-- no number is in the list twice
abbrev pub Distinct : List ℕ → Type 0
Distinct [] = Unit {0}
Distinct (x ∷ l) = Fresh x l × Distinct l

-- P holds of each number of the list
abbrev pub Every : (ℕ → Type 0) → List ℕ → Type 0
Every P [] = Unit {0}
Every P (x ∷ l) = P x × Every P l

-- l without x
abbrev pub remove : ℕ → List ℕ → List ℕ
remove x l = remove_by (λ k. k) x l

-- x put directly after p, at the front where p is 0
abbrev pub insert_after : ℕ → ℕ → List ℕ → List ℕ
insert_after p x l = insert_after_by (λ k. k) 0 p x l

-- the node before x, 0 where x is the first; the last node where x is 0
abbrev pub pred_of : ℕ → List ℕ → ℕ
pred_of x l = prev_by (λ k. k) 0 x l
