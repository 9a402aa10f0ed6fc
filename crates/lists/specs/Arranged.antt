-- Any order of a keyed list, by putting one wanted element behind the other.
use Rattle.std.specs.Prelude.{ℕ, List, [], ◌∷◌, map}
use Rattle.lists.specs.Keyed.{find_by, put_after}

module _ {A : Type 0} (key : A → ℕ) (d : A) where
  -- after b: the elements of these keys, one behind the other
  abbrev pub put_in_turn : ℕ → List ℕ → List A → List A
  put_in_turn b [] l = l
  put_in_turn b (a ∷ ws) l = put_in_turn a ws (put_after key d a b l)

  -- the first stays where it is, and the others are put behind it in turn
  abbrev pub arranged : List ℕ → List A → List A
  arranged [] l = l
  arranged (w ∷ ws) l = put_in_turn w ws l

  -- the elements in the order wanted
  abbrev pub in_order : List ℕ → List A → List A
  in_order ws l = map (λ (k : ℕ). find_by key d k l) ws
