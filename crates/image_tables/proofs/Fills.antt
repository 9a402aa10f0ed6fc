-- A part read element by element, each put into the tables: what is past, what is left, and what the tables hold.
use Prim.Native.Nat.{ℕ, ◌+◌, ◌≤◌, ◌<◌}
use mathlib.Core.Path.{◌≡◌, refl, sym, ap, ◌∙◌, subst}
use mathlib.Core.List.{List, [], ◌∷◌, ◌++◌, append-nil, append_assoc}
use native.Mathlib.Omega.{arith}
use lib.ListN.{length, drop, length-append, length-drop}
use lib.Seq.{drop-drop, drop_at, drop-append_seam}
use Rattle.lists.specs.Lists.{concat_map}
use Rattle.graph_tables.specs.Tables.{State}

-- f gives the words of an element, and C says what the tables hold once the elements of a list are in them
module _ {A : Type 0} (f : A → List ℕ) (C : State → List A → Type 0) (whole : List A) where
  pub record Fill (part : List ℕ) (s : State) (at : ℕ) : Type 0 where
    pub past : List A
    pub left : List A
    pub all : past ++ left ≡ whole
    pub words : drop at part ≡ concat_map f left
    pub core : C s past

  -- the same where there is a next element
  pub record Turn (part : List ℕ) (s : State) (at : ℕ) : Type 0 where
    pub past : List A
    pub here : A
    pub left : List A
    pub all : past ++ here ∷ left ≡ whole
    pub words : drop at part ≡ f here ++ concat_map f left
    pub core : C s past

module _ {A : Type 0} (f : A → List ℕ) (C : State → List A → Type 0) (whole : List A) (part : List ℕ) (s : State) where
  pub fill_start : part ≡ concat_map f whole → C s [] → Fill f C whole part s 0
  fill_start e c = record { past = []; left = whole; all = refl; words = e; core = c }

  module _ (at : ℕ) where
    pub fill_turn : Fill f C whole part s at → at < length part → Turn f C whole part s at
    fill_turn h i = go h.left h.all h.words
      where
        go : (l : List A) → h.past ++ l ≡ whole → drop at part ≡ concat_map f l → Turn f C whole part s at
        go [] a w = absurd (omega (arith, ap length w, length-drop at part))
        go (x ∷ l) a w = record { past = h.past; here = x; left = l; all = a; words = w; core = h.core }

    pub fill_room : (t : Turn f C whole part s at) → 1 ≤ length (f t.here) → at + length (f t.here) ≤ length part
    fill_room t n = omega (arith, ap length t.words, length-drop at part, length-append (f t.here) (concat_map f t.left))

    pub fill_end : ((x : A) → 1 ≤ length (f x)) → Fill f C whole part s at → length part ≤ at → C s whole
    fill_end n h i = go h.left h.all h.words
      where
        go : (l : List A) → h.past ++ l ≡ whole → drop at part ≡ concat_map f l → C s whole
        go [] a w = subst (λ (k : List A). C s k) (sym (append-nil h.past) ∙ a) h.core
        go (x ∷ l) a w = absurd (omega (arith, ap length w, length-drop at part, length-append (f x) (concat_map f l), n x))

    module _ (t : Turn f C whole part s at) (size : ℕ) (e : length (f t.here) ≡ size) where
      pub fill_next : (s' : State) → C s' (t.past ++ t.here ∷ []) → Fill f C whole part s' (at + size)
      fill_next s' c = record {
        past = t.past ++ t.here ∷ [];
        left = t.left;
        all = append_assoc t.past (t.here ∷ []) t.left ∙ t.all;
        words = sym (drop-drop size at part) ∙ ap (drop size) t.words ∙ drop_at (f t.here) (concat_map f t.left) size e;
        core = c;
      }

-- ---- by chunks: what is left of a part begins with the words of the next element, all of one size

module _ {A : Type 0} (f : A → List ℕ) (C : State → List A → Type 0) (whole : List A) (size : ℕ) (part : List ℕ) (s : State) where
  -- a chunk of the part is taken, and the rest is left
  module _ (x rest : List ℕ) (cut : part ≡ x ++ rest) (e : length x ≡ size) where
    pub chunk_turn : 1 ≤ size → Fill f C whole part s 0 → Turn f C whole part s 0
    chunk_turn some h = fill_turn f C whole part s 0 h (omega (arith, some, e, ap length cut, length-append x rest))

    pub chunk_next : (at : ℕ) → at ≡ size → Fill f C whole part s at → Fill f C whole rest s 0
    chunk_next at q h =
        let behind : drop at part ≡ rest = rw (cut, q, ← e) (drop-append_seam x rest) in
        record { past = h.past; left = h.left; all = h.all; words = sym behind ∙ h.words; core = h.core }

  -- too few words for an element are left
  pub chunk_end : ((x : A) → length (f x) ≡ size) → Fill f C whole part s 0 → length part < size → C s whole
  chunk_end long h i = go h.left h.all h.words
    where
      go : (l : List A) → h.past ++ l ≡ whole → drop 0 part ≡ concat_map f l → C s whole
      go [] a w = subst (λ (k : List A). C s k) (sym (append-nil h.past) ∙ a) h.core
      go (x ∷ l) a w = absurd (omega (arith, i, ap length w, length-drop 0 part, length-append (f x) (concat_map f l), long x))
