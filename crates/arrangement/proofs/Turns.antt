-- The loops: one turn, and the end.
use Prim.Native.Nat.{ℕ, suc, ◌+◌, ◌-◌, ◌*◌, ◌≤◌, ◌<◌}
use mathlib.Core.Path.{◌≡◌, refl, sym, ap, ◌∙◌}
use mathlib.Core.Bool.{true, false}
use mathlib.Core.List.{List, [], ◌∷◌, ◌++◌, append_assoc}
use native.Mathlib.Omega.{arith}
use lib.ListN.{length, get_or, set, take, drop, length-append, get_or-append, drop_of_length-le}
use lib.Seq.{sets, sets-eq, drop-drop, drop-append_seam}
use borrow.Rule.Slice.PartMut.{put_mid}
use borrow.Author.Tests.{eq-eqb, ne_eqb}
use Rattle.lists.specs.Lists.{member}
use Rattle.lists.proofs.WordLaws.{one_drop}
use Rattle.graph.specs.WellFormed.{words_at}
use Rattle.image.specs.Image.{edges_from, numbers_in}
use Rattle.arrangement.specs.Orders.{words_from, call_words}
use Rattle.arrangement.specs.Scratch.{marked, seen_from, taken}
use Rattle.arrangement.proofs.Taking.{marked_append}

-- ---- records: x is the next of n of size words, and rest has the m behind it

module _ (size n m : ℕ) (x rest ws : List ℕ) (three : 3 ≤ size) (more : n ≡ suc m) (cut : ws ≡ x ++ rest) (long : length x ≡ size) where
  behind : drop size ws ≡ rest
  behind = rw (cut, ← long) (drop-append_seam x rest)

  word : (j : ℕ) → j < size → get_or ws j 0 ≡ get_or x j 0
  word j h = rw cut (get_or-append x rest 0 j (omega (arith, h, long)))

  numbers_turn : numbers_in size n ws ≡ get_or x 0 0 ∷ numbers_in size m rest
  unfolding numbers_in
  numbers_turn = rw (more, word 0 (omega arith), behind)

  pub marks_turn : (s : List ℕ) → marked (numbers_in size m rest) (set s (get_or x 0 0) 1) ≡ marked (numbers_in size n ws) s
  marks_turn s = sym (ap (λ (l : List ℕ). marked l s) numbers_turn)

  pub has_here : (n' : ℕ) → get_or x 0 0 ≡ n' → true ≡ member n' (numbers_in size n ws)
  has_here n' f = sym (ap (member n') numbers_turn ∙ rw (eq-eqb (get_or x 0 0) n' f))

  pub has_turn : (n' : ℕ) → (get_or x 0 0 ≡ n' → ⊥) → member n' (numbers_in size m rest) ≡ member n' (numbers_in size n ws)
  has_turn n' f = sym (ap (member n') numbers_turn ∙ rw (ne_eqb (get_or x 0 0) n' f))

pub no_numbers : (size n : ℕ) (ws : List ℕ) → n ≡ 0 → numbers_in size n ws ≡ []
unfolding numbers_in
no_numbers size n ws e = rw e

-- ---- words seen from a vertex

module _ (v n m : ℕ) (x rest ws : List ℕ) (more : n ≡ suc m) (cut : ws ≡ x ++ rest) (long : length x ≡ 6) where
  six : (j : ℕ) → j < 6 → get_or ws j 0 ≡ get_or x j 0
  six j h = word 6 n m x rest ws (omega arith) more cut long j h

  words_turn : words_at (edges_from n ws) v
      ≡ (seen_from v (get_or x 1 0) (2 * get_or x 0 0) ++ seen_from v (get_or x 2 0) (2 * get_or x 0 0 + 1)) ++ words_at (edges_from m rest) v
  unfolding edges_from words_at
  words_turn =
      ap (λ (k : ℕ). words_at (edges_from k ws) v) more
      ∙ (λ j. (seen_from v (six 1 (omega arith) j) (2 * six 0 (omega arith) j) ++ seen_from v (six 2 (omega arith) j) (2 * six 0 (omega arith) j + 1)) ++ words_at (edges_from m (behind 6 n m x rest ws (omega arith) more cut long j)) v)

  pub ends_turn : (s s' s'' : List ℕ) → s' ≡ marked (seen_from v (get_or x 1 0) (2 * get_or x 0 0)) s →
      s'' ≡ marked (seen_from v (get_or x 2 0) (2 * get_or x 0 0 + 1)) s' →
      marked (words_at (edges_from m rest) v) s'' ≡ marked (words_at (edges_from n ws) v) s
  ends_turn s s' s'' f g =
      let us = seen_from v (get_or x 1 0) (2 * get_or x 0 0) in
      let vs = seen_from v (get_or x 2 0) (2 * get_or x 0 0 + 1) in
      let tail = words_at (edges_from m rest) v in
      ap (marked tail) (g ∙ ap (marked vs) f)
      ∙ ap (marked tail) (sym (marked_append us vs s))
      ∙ sym (marked_append (us ++ vs) tail s)
      ∙ ap (λ (l : List ℕ). marked l s) (sym words_turn)

  pub ends_count : (i j : ℕ) → i ≡ length (seen_from v (get_or x 1 0) (2 * get_or x 0 0)) → j ≡ length (seen_from v (get_or x 2 0) (2 * get_or x 0 0 + 1)) →
      (i + j) + length (words_at (edges_from m rest) v) ≡ length (words_at (edges_from n ws) v)
  ends_count i j f g =
      let us = seen_from v (get_or x 1 0) (2 * get_or x 0 0) in
      let vs = seen_from v (get_or x 2 0) (2 * get_or x 0 0 + 1) in
      let tail = words_at (edges_from m rest) v in
      omega (arith, f, g, length-append (us ++ vs) tail, length-append us vs, ap length words_turn)

pub no_words : (v n : ℕ) (ws : List ℕ) → n ≡ 0 → words_at (edges_from n ws) v ≡ []
unfolding edges_from words_at
no_words v n ws e = ap (λ (k : ℕ). words_at (edges_from k ws) v) e

-- ---- taking off

module _ (ws s : List ℕ) (i w : ℕ) (h : i < length ws) (e : w ≡ get_or ws i 0) where
  pub taken_stop : (x : ℕ) → x ≡ get_or s w 0 → (x ≡ 1 → ⊥) → false ≡ taken (drop i ws) s
  unfolding taken
  taken_stop x f n = sym (ap (λ (l : List ℕ). taken l s) (one_drop ws i h) ∙ rw (ne_eqb (get_or s (get_or ws i 0) 0) 1 (λ q. n (f ∙ ap (λ (k : ℕ). get_or s k 0) e ∙ q))))

  pub taken_turn : (x : ℕ) (s' : List ℕ) → x ≡ get_or s w 0 → x ≡ 1 → s' ≡ set s w 0 → taken (drop (i + 1) ws) s' ≡ taken (drop i ws) s
  unfolding taken
  taken_turn x s' f q g =
      ap (taken (drop (i + 1) ws)) (g ∙ ap (λ (k : ℕ). set s k 0) e)
      ∙ sym (ap (λ (l : List ℕ). taken l s) (one_drop ws i h) ∙ rw (eq-eqb (get_or s (get_or ws i 0) 0) 1 (sym (ap (λ (k : ℕ). get_or s k 0) e) ∙ sym f ∙ q)))

pub taken_end : (ws s : List ℕ) (i : ℕ) → length ws ≤ i → taken (drop i ws) s ≡ true
unfolding taken
taken_end ws s i h = ap (λ (l : List ℕ). taken l s) (drop_of_length-le ws h)

-- ---- the calls

pub calls_length : (kind b : ℕ) (ws : List ℕ) → length (words_from kind b ws) ≡ 5 * length ws
calls_length kind b [] = refl
calls_length kind b (a ∷ ws) = omega (arith, calls_length kind a ws)

pub words_length : (kind : ℕ) (ws : List ℕ) → length (call_words kind ws) ≡ 5 * (length ws - 1)
words_length kind [] = refl
words_length kind (w ∷ ws) = omega (arith, calls_length kind w ws)

-- a text in a part of a list, by `copy_from_slice`
pub copied : (l text : List ℕ) (at k : ℕ) → at + length text ≤ length l → k ≡ length text → put_mid at k l text ≡ sets l at text
copied l text at k h f =
    rw f
    (ap (λ (t : List ℕ). take at l ++ (text ++ t)) (drop-drop (length text) at l)
    ∙ sym (append_assoc (take at l) text (drop (at + length text) l)) ∙ sym (sets-eq text l at h))

-- ---- one end

module _ (v end word : ℕ) (s : List ℕ) where
  pub end_seen : (s' : List ℕ) → v ≡ end → s' ≡ set s word 1 → (1 ≡ length (seen_from v end word)) × (1 ≤ 1) × (s' ≡ marked (seen_from v end word) s)
  end_seen s' e f = rw (eq-eqb v end e) (refl, omega arith, f)

  pub end_unseen : (v ≡ end → ⊥) → (0 ≡ length (seen_from v end word)) × (0 ≤ 1) × (s ≡ marked (seen_from v end word) s)
  end_unseen n = rw (ne_eqb v end n) (refl, omega arith, refl)
