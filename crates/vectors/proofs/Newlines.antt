-- Lines are counted by the newlines that end them.
use Rattle.std.proofs.Common.{◌≡◌, ℕ, ◌+◌, ◌<◌, ◌≤◌, Bool, List, ◌∷◌, length, get_or, drop, sym, ap, ◌∙◌, add-one, drop_of_length-le, drop-cons, eq-eqb, ne_eqb, ◌==◌}
use Rattle.lists.specs.Choice.{to_bit}
use Rattle.lists.specs.Lists.{count}

module _ (bytes : List ℕ) (k : ℕ) (h : k < length bytes) where
  turn : count 10 (drop k bytes) ≡ to_bit (get_or bytes k 0 == 10) + count 10 (drop (k + 1) bytes)
  turn = ap (count 10) (drop-cons bytes k 0 h ∙ ap (λ (j : ℕ). get_or bytes k 0 ∷ drop j bytes) (sym (add-one k)))

  pub newline : get_or bytes k 0 ≡ 10 → count 10 (drop k bytes) ≡ 1 + count 10 (drop (k + 1) bytes)
  newline e = turn ∙ ap (λ (b : Bool). to_bit b + count 10 (drop (k + 1) bytes)) (eq-eqb (get_or bytes k 0) 10 e)

  pub other_byte : (get_or bytes k 0 ≡ 10 → ⊥) → count 10 (drop k bytes) ≡ 0 + count 10 (drop (k + 1) bytes)
  other_byte e = turn ∙ ap (λ (b : Bool). to_bit b + count 10 (drop (k + 1) bytes)) (ne_eqb (get_or bytes k 0) 10 e)

pub at_end : (bytes : List ℕ) (k : ℕ) → length bytes ≤ k → count 10 (drop k bytes) ≡ 0
at_end bytes k h = rw (drop_of_length-le bytes h)
