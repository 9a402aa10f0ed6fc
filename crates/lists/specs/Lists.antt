-- Lists, and lists of numbers.
use Rattle.std.specs.Prelude.{ℕ, zero, suc, ◌+◌, Bool, true, false, not, ◌&&◌, ◌||◌, List, [], ◌∷◌, ◌++◌, length, drop, ◌==◌}
use Rattle.lists.specs.Choice.{◌⇒◌else◌, to_bit}

infix 40 ◌is◌
module _ {A : Type 0} where
  -- the elements that pass
  abbrev pub filter : (A → Bool) → List A → List A
  filter p [] = []
  filter p (x ∷ xs) = p x ⇒ (x ∷ filter p xs) else filter p xs

  abbrev pub any : (A → Bool) → List A → Bool
  any p [] = false
  any p (x ∷ xs) = p x || any p xs

  abbrev pub all : (A → Bool) → List A → Bool
  all p [] = true
  all p (x ∷ xs) = p x && all p xs

  -- the sum of f over the elements
  abbrev pub sum_of : (A → ℕ) → List A → ℕ
  sum_of f [] = 0
  sum_of f (x ∷ xs) = f x + sum_of f xs

  -- P holds of each element
  pub data All (P : A → Type 0) : List A → Type 0 where
    done : All P []
    more : {x : A} {xs : List A} → P x → All P xs → All P (x ∷ xs)

  -- the list without element i, counted from 0
  abbrev pub without : ℕ → List A → List A
  without i [] = []
  without zero (x ∷ xs) = xs
  without (suc i) (x ∷ xs) = x ∷ without i xs

  -- f of each element, one after another
  abbrev pub concat_map : (A → List ℕ) → List A → List ℕ
  concat_map f [] = []
  concat_map f (x ∷ xs) = f x ++ concat_map f xs

abbrev pub member : ℕ → List ℕ → Bool
member n xs = any (λ x. x == n) xs

abbrev pub ◌is◌ : ℕ → List ℕ → Bool
n is xs = member n xs

abbrev pub distinct : List ℕ → Bool
distinct [] = true
distinct (x ∷ xs) = not (member x xs) && distinct xs

-- each number that is not among those seen, once, where it stands first
abbrev pub dedup_from : List ℕ → List ℕ → List ℕ
dedup_from seen [] = []
dedup_from seen (x ∷ xs) = member x seen ⇒ dedup_from seen xs else (x ∷ dedup_from (x ∷ seen) xs)

abbrev pub dedup : List ℕ → List ℕ
dedup xs = dedup_from [] xs

abbrev pub equal_lists : List ℕ → List ℕ → Bool
equal_lists [] [] = true
equal_lists [] (y ∷ ys) = false
equal_lists (x ∷ xs) [] = false
equal_lists (x ∷ xs) (y ∷ ys) = (x == y) && equal_lists xs ys

-- how often n stands in the list
abbrev pub count : ℕ → List ℕ → ℕ
count n xs = sum_of (λ x. to_bit (x == n)) xs

-- the first of a list, and the one after a; 0 where there is none
abbrev pub first : List ℕ → ℕ
first [] = 0
first (x ∷ xs) = x

abbrev pub drop_through : ℕ → List ℕ → List ℕ
drop_through a [] = []
drop_through a (x ∷ xs) = (x == a) ⇒ xs else drop_through a xs

abbrev pub successor : ℕ → List ℕ → ℕ
successor a xs = first (drop_through a xs)

-- is b behind a
abbrev pub before : ℕ → ℕ → List ℕ → Bool
before a b xs = member b (drop_through a xs)

-- 0, 1, .. n - 1
abbrev pub range : ℕ → List ℕ
range zero = []
range (suc n) = range n ++ (n ∷ [])

-- what stands in a slice after words were written to its front
abbrev pub overwritten : List ℕ → List ℕ → List ℕ
overwritten ws slice = ws ++ drop (length ws) slice
