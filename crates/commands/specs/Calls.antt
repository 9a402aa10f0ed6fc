-- A call's five words, and the calls of a list.
use Rattle.std.specs.Prelude.{ℕ, List, [], ◌∷◌, get_or}

-- REFERENCE 2.1
pub record Call : Type 0 where
  pub kind : ℕ
  pub a : ℕ
  pub b : ℕ
  pub c : ℕ
  pub d : ℕ

abbrev pub five : ℕ → ℕ → ℕ → ℕ → ℕ → Call
five k a b c d = record { kind = k; a = a; b = b; c = c; d = d }

abbrev pub call_at : List ℕ → Call
call_at ws = five (get_or ws 0 0) (get_or ws 1 0) (get_or ws 2 0) (get_or ws 3 0) (get_or ws 4 0)

-- five words a call; a rest of fewer is none
abbrev pub calls_of : List ℕ → List Call
calls_of (k ∷ a ∷ b ∷ c ∷ d ∷ ws) = five k a b c d ∷ calls_of ws
calls_of [] = []
calls_of (k ∷ []) = []
calls_of (k ∷ a ∷ []) = []
calls_of (k ∷ a ∷ b ∷ []) = []
calls_of (k ∷ a ∷ b ∷ c ∷ []) = []
