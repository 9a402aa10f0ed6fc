-- Lists whose elements have keys, which are numbers. 0 is no key: it stands for the place before the first element.
use Rattle.std.specs.Prelude.{ℕ, ◌+◌, List, [], ◌∷◌}
use Rattle.lists.specs.Choice.{if_equal, indicator}

module _ {A : Type 0} (key : A → ℕ) where
  -- how many elements have the key k
  abbrev pub count_by_key : ℕ → List A → ℕ
  count_by_key k [] = 0
  count_by_key k (y ∷ l) = indicator (key y) k + count_by_key k l

  -- x directly after the element of key p, where q stands before the list; last where there is none
  abbrev pub insert_after_by : ℕ → ℕ → A → List A → List A
  insert_after_by q p x [] = x ∷ []
  insert_after_by q p x (y ∷ l) = if_equal q p (x ∷ y ∷ l) (y ∷ insert_after_by (key y) p x l)

  -- x directly before the element of key b; last where there is none
  abbrev pub insert_before_by : ℕ → A → List A → List A
  insert_before_by b x [] = x ∷ []
  insert_before_by b x (y ∷ l) = if_equal (key y) b (x ∷ y ∷ l) (y ∷ insert_before_by b x l)

  -- the list without the element of key k
  abbrev pub remove_by : ℕ → List A → List A
  remove_by k [] = []
  remove_by k (y ∷ l) = if_equal (key y) k l (y ∷ remove_by k l)

  -- the key before the element of key k, where q stands before the list
  abbrev pub prev_by : ℕ → ℕ → List A → ℕ
  prev_by q k [] = q
  prev_by q k (y ∷ l) = if_equal (key y) k q (prev_by (key y) k l)

  -- the last key, q where there is none
  abbrev pub last_by : ℕ → List A → ℕ
  last_by q [] = q
  last_by q (y ∷ l) = last_by (key y) l

  -- the element of key k, d where there is none
  abbrev pub find_by : A → ℕ → List A → A
  find_by d k [] = d
  find_by d k (y ∷ l) = if_equal (key y) k y (find_by d k l)

  -- f applied to the element of key k
  abbrev pub update_by : ℕ → (A → A) → List A → List A
  update_by k f [] = []
  update_by k f (y ∷ l) = if_equal (key y) k (f y) y ∷ update_by k f l

  -- the element of key a taken out, and put directly before, after the element of key b
  abbrev pub put_before : A → ℕ → ℕ → List A → List A
  put_before d a b l = insert_before_by b (find_by d a l) (remove_by a l)

  abbrev pub put_after : A → ℕ → ℕ → List A → List A
  put_after d a b l = insert_after_by 0 b (find_by d a l) (remove_by a l)
