-- The words of the closure: where they start, what a chain over k adds, and what is read from them.
use Rattle.std.specs.Prelude.{◌==◌}
use Prim.Native.Nat.{ℕ, zero, suc, ◌+◌, ◌*◌, ◌/◌, ◌%◌, ◌^◌, ◌≤◌, ◌<◌}
use mathlib.Core.Path.{◌≡◌, refl, sym, ap, ap₂, ◌∙◌}
use mathlib.Core.Logic.{◌⊎◌, inl, inr}
use mathlib.Core.Bool.{Bool, true, false, ◌&&◌}
use mathlib.Core.List.{List, [], ◌∷◌, ◌++◌, map, map-append}
use native.Mathlib.Omega.{arith}
use native.Mathlib.Nat.{one-mul, mod-eq_of_lt}
use native.Mathlib.Numerals.{add-one}
use lib.Bits.{bit_or}
use lib.Dec.{ltb}
use lib.ListN.{length, get_or, set, replicate, length-append, length-map, length-set, get_or-append}
use lib.Pow.{pow-lt}
use lib.Seq.{ext_get_or, get_or-set_same, get_or-set_other, get_or_at}
use borrow.Author.Tests.{lt-ltb, le-ltb, ltb-true, ltb-false, eq-eqb, ne_eqb}
use Rattle.lists.specs.Choice.{◌⇒◌else◌}
use Rattle.lists.specs.Lists.{range}
use Rattle.lists.proofs.Picks.{Same, same, differ, same?}
use Rattle.type_rows.specs.Types.{declared, direct, below_by, below}
use Rattle.type_rows.specs.Rows.{good_rows}
use Rattle.type_rows.specs.Closure.{word_of, closure_rows, closure_words, closure_of, bit_of}
use Rattle.type_rows.proofs.Least.{only_types, below_types}
use Rattle.type_rows.proofs.RowLaws.{good_facts}
use Rattle.type_rows.proofs.Words.{bit_test, none_word, one_word, word_ext, or_word, bit_word, word_digits}
use Rattle.lists.proofs.Bools.{or_false}

-- ---- a list of words by its places

length_upto : (n : ℕ) → length (range n) ≡ n
length_upto zero = refl
length_upto (suc n) = omega (arith, length-append (range n) (n ∷ []), length_upto n)

module _ (f : ℕ → ℕ) where
  length_words : (n : ℕ) → length (map f (range n)) ≡ n
  length_words n = length-map (range n) f ∙ length_upto n

  at_words : (n i : ℕ) → i < n → get_or (map f (range n)) i 0 ≡ f i
  at_words zero i h = absurd (omega arith)
  at_words (suc n) i h =
      ap (λ (l : List ℕ). get_or l i 0) (map-append f (range n) (n ∷ [])) ∙ go (at_words n i) (same? i n)
    where
      go : (i < n → get_or (map f (range n)) i 0 ≡ f i) → Same i n → get_or (map f (range n) ++ (f n ∷ [])) i 0 ≡ f i
      go ih (same e e') = get_or_at (map f (range n)) (f n) [] 0 i (length_words n ∙ e') ∙ ap f e'
      go ih (differ e e') = get_or-append (map f (range n)) (f n ∷ []) 0 i (omega (arith, length_words n)) ∙ ih (omega arith)

-- words of which those before s are f's, and the others g's
pub record Filled (f g : ℕ → ℕ) (s : ℕ) (words : List ℕ) : Type 0 where
  pub size : length words ≡ 64
  pub place : (i : ℕ) → i < 64 → get_or words i 0 ≡ (ltb i s ⇒ f i else g i)

module _ (f g : ℕ → ℕ) where
  pub fill_start : (words : List ℕ) → length words ≡ 64 → ((i : ℕ) → i < 64 → get_or words i 0 ≡ g i) → Filled f g 0 words
  fill_start words l h = record { size = l; place = λ i k. rw (le-ltb i 0 (omega arith)) (h i k) }

  pub fill_read : (s : ℕ) (words : List ℕ) → s < 64 → Filled f g s words → get_or words s 0 ≡ g s
  fill_read s words h w = w.place s h ∙ ap (λ (b : Bool). b ⇒ f s else g s) (le-ltb s s (omega arith))

  pub fill_turn : (s v : ℕ) (words : List ℕ) → s < 64 → v ≡ f s → Filled f g s words → Filled f g (s + 1) (set words s v)
  fill_turn s v words h e w = record { size = length-set words s v ∙ w.size; place = λ i k. go i k (same? i s) }
    where
      later : (i : ℕ) → (i ≡ s → ⊥) → (b : Bool) → ltb i s ≡ b → ltb i (s + 1) ≡ b
      later i d true l = lt-ltb i (s + 1) (omega (arith, ltb-true i s l))
      later i d false l = le-ltb i (s + 1) (omega (arith, ltb-false i s l))

      go : (i : ℕ) → i < 64 → Same i s → get_or (set words s v) i 0 ≡ (ltb i (s + 1) ⇒ f i else g i)
      go i k (same p q) = rw (p, get_or-set_same words s v 0 (omega (arith, w.size)), lt-ltb s (s + 1) (omega arith)) e
      go i k (differ p q) = rw (get_or-set_other words s i v 0 p, later i p (ltb i s) refl) (w.place i k)

module _ (n : ℕ) (holds : ℕ → ℕ → Bool) where
  pub words_length : length (closure_rows n holds) ≡ 64
  unfolding closure_rows
  words_length = length_words (λ s. word_of n (holds s)) 64

  pub words_at : (s : ℕ) → s < 64 → get_or (closure_rows n holds) s 0 ≡ word_of n (holds s)
  unfolding closure_rows
  words_at s h = at_words (λ s. word_of n (holds s)) 64 s h

  -- once the places under n are filled, where the others are the same
  pub fill_end : (g : ℕ → ℕ) (s : ℕ) (words : List ℕ) → n ≤ s → ((i : ℕ) → n ≤ i → g i ≡ word_of n (holds i))
      → Filled (λ i. word_of n (holds i)) g s words → words ≡ closure_rows n holds
  fill_end g s words h e w =
      ext_get_or 0 words (closure_rows n holds) (w.size ∙ sym words_length)
      (λ i k. let j : i < 64 = omega (arith, w.size) in w.place i j ∙ go i (ltb i s) refl ∙ sym (words_at i j))
    where
      go : (i : ℕ) (b : Bool) → ltb i s ≡ b → (b ⇒ word_of n (holds i) else g i) ≡ word_of n (holds i)
      go i true l = refl
      go i false l = e i (omega (arith, ltb-false i s l))

-- ---- the relation in words

module _ (rows : List ℕ) where
  -- the words at n and above are 0
  pub no_type : (k s : ℕ) → length rows ≤ s → word_of (length rows) (below_by rows k s) ≡ 0
  no_type k s h = none_word (below_by rows k s) (length rows) (λ t _. go t (below_by rows k s t) refl)
    where
      go : (t : ℕ) (b : Bool) → below_by rows k s t ≡ b → b ≡ false
      go t true e = absurd (omega (arith, (only_types rows k s t e).0))
      go t false e = refl

  -- the word of a type before any chain
  pub direct_word : (s : ℕ) → good_rows rows ≡ true → s < length rows
      → bit_or (bit_or ((1 * 2 ^ s) % 2 ^ 64) 1) (get_or rows s 0) ≡ word_of (length rows) (below_by rows 0 s)
  unfolding below_by
  direct_word s good h =
      let facts = good_facts rows good in
      let p : (1 * 2 ^ s) % 2 ^ 64 ≡ word_of (length rows) (λ t. s == t) =
      ap (λ (x : ℕ). x % 2 ^ 64) (one-mul (2 ^ s)) ∙ mod-eq_of_lt (pow-lt {i = s} {j = 64} (omega (arith, facts.few)))
      ∙ sym (one_word (λ t. s == t) (length rows) s h (eq-eqb s s refl) (λ t d. ne_eqb s t (λ e. d (sym e))))
      in
      let q : 1 ≡ word_of (length rows) (λ t. t == 0) = sym (one_word (λ t. t == 0) (length rows) 0 (omega arith) refl (λ t d. ne_eqb t 0 d)) in
      let r : get_or rows s 0 ≡ word_of (length rows) (λ t. declared rows s t) = word_digits (get_or rows s 0) (length rows) (facts.fits s) in
      ap₂ bit_or (ap₂ bit_or p q ∙ or_word _ _ (length rows)) r
      ∙ or_word _ _ (length rows)
      ∙ word_ext _ (direct rows s) (length rows) (λ t i. rw (lt-ltb s (length rows) h, lt-ltb t (length rows) i))

  -- a chain over k
  pub chained_word : (k s : ℕ) → k < length rows →
      (word_of (length rows) (below_by rows k s) / 2 ^ k % 2 == 1 ⇒
      bit_or (word_of (length rows) (below_by rows k s)) (word_of (length rows) (below_by rows k k)) else word_of (length rows) (below_by rows k s))
      ≡ word_of (length rows) (below_by rows (suc k) s)
  unfolding below_by
  chained_word k s h =
      let w = word_of (length rows) (below_by rows k s) in
      let v = word_of (length rows) (below_by rows k k) in
      let test : (w / 2 ^ k % 2 == 1) ≡ below_by rows k s k =
      ap (λ (x : ℕ). x == 1) (bit_word (below_by rows k s) (length rows) k) ∙ bit_test (ltb k (length rows) && below_by rows k s k)
      ∙ ap (λ (b : Bool). b && below_by rows k s k) (lt-ltb k (length rows) h)
      in
      ap (λ (b : Bool). b ⇒ bit_or w v else w) test ∙ go (below_by rows k s k) refl
    where
      go : (b : Bool) → below_by rows k s k ≡ b →
          (b ⇒ bit_or (word_of (length rows) (below_by rows k s)) (word_of (length rows) (below_by rows k k)) else word_of (length rows) (below_by rows k s))
          ≡ word_of (length rows) (below_by rows (suc k) s)
      go true e = or_word _ _ (length rows) ∙ word_ext _ _ (length rows) (λ t i. rw e)
      go false e = word_ext _ _ (length rows) (λ t i. rw e (sym (or_false (below_by rows k s t))))

-- words of which those before s have the chains over k
abbrev pub Chaining : List ℕ → ℕ → ℕ → List ℕ → Type 0
Chaining rows k s words = Filled (λ i. word_of (length rows) (below_by rows (suc k) i)) (λ i. word_of (length rows) (below_by rows k i)) s words

module _ (rows : List ℕ) (k : ℕ) (words : List ℕ) where
  pub chain_word : words ≡ closure_rows (length rows) (below_by rows k) → k < 64 → get_or words k 0 ≡ word_of (length rows) (below_by rows k k)
  chain_word e h = rw e (words_at (length rows) (below_by rows k) k h)

  pub chain_start : words ≡ closure_rows (length rows) (below_by rows k) → Chaining rows k 0 words
  chain_start e =
      fill_start _ _ words (ap length e ∙ words_length (length rows) (below_by rows k)) (λ i h. rw e (words_at (length rows) (below_by rows k) i h))

  pub chain_turn : (over s v : ℕ) → k < length rows → s < 64 → over ≡ word_of (length rows) (below_by rows k k)
      → v ≡ (get_or words s 0 / 2 ^ k % 2 == 1 ⇒ bit_or (get_or words s 0) over else get_or words s 0) → Chaining rows k s words → Chaining rows k (s + 1) (set words s v)
  chain_turn over s v h i o e w = fill_turn _ _ s v words i (e ∙ rw (fill_read _ _ s words i w, o) (chained_word rows k s h)) w

  pub chain_end : (s : ℕ) → length rows ≤ s → Chaining rows k s words → words ≡ closure_rows (length rows) (below_by rows (k + 1))
  chain_end s h w =
      rw (add-one k) (fill_end (length rows) (below_by rows (suc k)) _ s words h (λ i j. no_type rows k i j ∙ sym (no_type rows (suc k) i j)) w)

-- ---- what is read from the words of the closure

module _ (rows : List ℕ) where
  -- what is no type is below nothing, and nothing is below it
  pub not_below : (s t : ℕ) → (length rows ≤ s) ⊎ (length rows ≤ t) → below rows s t ≡ false
  not_below s t h = go (below rows s t) refl
    where
      out : (length rows ≤ s) ⊎ (length rows ≤ t) → (s < length rows) × (t < length rows) → ⊥
      out (inl a) b = omega arith
      out (inr a) b = omega arith

      go : (b : Bool) → below rows s t ≡ b → b ≡ false
      go true e = absurd (out h (below_types rows s t e))
      go false e = refl

  -- bit t of word s
  pub closure_bit : (s t : ℕ) → s < 64 → (get_or (closure_words rows) s 0 / 2 ^ t % 2 == 1) ≡ below rows s t
  closure_bit s t h =
      ap (λ (x : ℕ). x / 2 ^ t % 2 == 1) (words_at (length rows) (below rows) s h)
      ∙ ap (λ (x : ℕ). x == 1) (bit_word (below rows s) (length rows) t)
      ∙ bit_test (ltb t (length rows) && below rows s t)
      ∙ go (ltb t (length rows)) refl
    where
      go : (b : Bool) → ltb t (length rows) ≡ b → (b && below rows s t) ≡ below rows s t
      go true l = refl
      go false l = sym (not_below s t (inr (ltb-false t (length rows) l)))

  pub closed_below : (words : List ℕ) (s t : ℕ) → words ≡ closure_words rows → s < 64 → (get_or words s 0 / 2 ^ t % 2 == 1) ≡ below rows s t
  closed_below words s t e h = rw e (closure_bit s t h)

  -- every bit, also of what is no type
  pub bit_below : (words : List ℕ) (s t : ℕ) → good_rows rows ≡ true → words ≡ closure_words rows → bit_of words s t ≡ below rows s t
  bit_below words s t good e = go (ltb 63 s) (ltb 63 t) refl refl
    where
      few : length rows ≤ 64
      few = (good_facts rows good).few

      go : (p q : Bool) → ltb 63 s ≡ p → ltb 63 t ≡ q → (p ⇒ false else q ⇒ false else (get_or words s 0 / 2 ^ t % 2 == 1)) ≡ below rows s t
      go true q i j = sym (not_below s t (inl (omega (arith, few, ltb-true 63 s i))))
      go false true i j = sym (not_below s t (inr (omega (arith, few, ltb-true 63 t j))))
      go false false i j = closed_below words s t e (omega (arith, ltb-false 63 s i))

-- ---- rows that are refused

pub closure_good : (rows : List ℕ) → good_rows rows ≡ true → closure_of rows ≡ closure_words rows
unfolding closure_of
closure_good rows e = rw e

pub closure_bad : (rows : List ℕ) → good_rows rows ≡ false → closure_of rows ≡ replicate 64 0
unfolding closure_of closure_rows word_of
closure_bad rows e = rw e
