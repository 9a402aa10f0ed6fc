-- The names as marks are set, named, dropped and cut, and the holder of a name.
use Rattle.std.specs.Prelude.{◌==◌}
use Prim.Native.Nat.{ℕ, zero, suc, ◌+◌, ◌-◌, ◌≤◌, ◌<◌}
use mathlib.Core.Bool.{Bool, true, false, not, ◌&&◌}
use mathlib.Core.Path.{◌≡◌, refl, sym, ap, subst, ◌∙◌}
use mathlib.Core.Logic.{◌≢◌}
use mathlib.Core.List.{List}
use native.Mathlib.Omega.{arith}
use borrow.Author.Tests.{eq-eqb, ne_eqb}
use lib.ListN.{length, get_or, set, length-set}
use lib.Seq.{get_or-set_same, get_or-set_other}
use Rattle.lists.specs.Choice.{◌⇒◌else◌, within}
use Rattle.lists.proofs.Bools.{ft, and_true}
use Rattle.lists.proofs.Picks.{Same, same, differ, same?}
use Rattle.history.specs.Machine.{Machine, MarkPlace, gone, at, stands, marked, Name, name, no_name, is_name, same_name, named, kept_names, cut, cut_marks, bears, holder_but, seek}
use Rattle.std.specs.Prelude.{Option, None, Some}
use Rattle.std.specs.Option.{MatchOption}
use Rattle.history.proofs.Seeking.{seek_same, seek_found, seek_none}
use Rattle.marks.specs.Marked.{in_set, Marked}
use Rattle.marks.specs.Named.{name_at, name_in, name_set, mark_put, bears_in, holder_in, mark_found, Named}
use Rattle.marks.proofs.MarkLaws.{in_marks, in_set_lem, marked_other}

-- ---- a name is written behind the places

module _ (words : List ℕ) (a b c : ℕ) (low : 1 ≤ a) where
  abbrev written : List ℕ
  written = set (set words (name_at a) b) (name_at a + 1) c

  -- the places stay
  place_stays : (i : ℕ) → i < 64 → get_or written i 0 ≡ get_or words i 0
  place_stays i h =
      get_or-set_other (set words (name_at a) b) (name_at a + 1) i c 0 (λ e. omega (arith, e, h))
      ∙ get_or-set_other words (name_at a) i b 0 (λ e. omega (arith, e, h))

  -- the names of other marks stay
  name_stays : (k : ℕ) → 1 ≤ k → k ≢ a → name_in written k ≡ name_in words k
  name_stays k h d =
      let u : name_at a + 1 ≢ name_at k = λ e. omega (arith, e) in
      let v : name_at a ≢ name_at k = λ e. d (omega (arith, e)) in
      let x : name_at a + 1 ≢ name_at k + 1 = λ e. d (omega (arith, e)) in
      let y : name_at a ≢ name_at k + 1 = λ e. omega (arith, e) in
      let p = get_or-set_other (set words (name_at a) b) (name_at a + 1) (name_at k) c 0 (λ e. u (sym e)) ∙ get_or-set_other words (name_at a) (name_at k) b 0 (λ e. v (sym e)) in
      let q = get_or-set_other (set words (name_at a) b) (name_at a + 1) (name_at k + 1) c 0 (λ e. x (sym e)) ∙ get_or-set_other words (name_at a) (name_at k + 1) b 0 (λ e. y (sym e)) in
      λ i. name (p i) (q i)

  name_here : a ≤ 64 → length words ≡ 192 → name_in written a ≡ name b c
  name_here high r =
      let p = get_or-set_other (set words (name_at a) b) (name_at a + 1) (name_at a) c 0 (λ e. omega (arith, e)) ∙ get_or-set_same words (name_at a) b 0 (omega (arith, r)) in
      let l : length (set words (name_at a) b) ≡ 192 = length-set words (name_at a) b ∙ r in
      let q = get_or-set_same (set words (name_at a) b) (name_at a + 1) c 0 (omega (arith, l)) in
      λ i. name (p i) (q i)

-- ---- what it leaves of the relations

-- the set and the places do not read names
pub named_marked : (ms : ℕ → MarkPlace) (s : ℕ) (words : List ℕ) (a : ℕ) (n : Name) → 1 ≤ a → Marked ms s words → Marked ms s (name_set a n words)
named_marked ms s words a n l h = go (within 1 64 a)
  where
    go : (t : Bool) → Marked ms s (t ⇒ set (set words (name_at a) n.first) (name_at a + 1) n.second else words)
    go false = h
    go true = record {
      room = length-set (set words (name_at a) n.first) (name_at a + 1) n.second ∙ length-set words (name_at a) n.first ∙ h.room;
      bits = h.bits;
      known = λ k q e. let w = h.known k q e in (w.0, w.1, place_stays words a n.first n.second l (k - 1) (omega (arith, w.0, w.1)) ∙ w.2);
    }

standing_low : (ms : ℕ → MarkPlace) (s : ℕ) (words : List ℕ) → Marked ms s words → (k : ℕ) → stands (ms k) ≡ true → (1 ≤ k) × (k ≤ 64)
standing_low ms s words h k e = go (ms k) refl e
  where
    go : (x : MarkPlace) → ms k ≡ x → stands x ≡ true → (1 ≤ k) × (k ≤ 64)
    go gone f t = ft t
    go (at q) f t = let w = h.known k q f in (w.0, w.1)

-- mark a is named
pub name_put : (ms : ℕ → MarkPlace) (ns : ℕ → Name) (s : ℕ) (words : List ℕ) (a : ℕ) (n : Name) → Marked ms s words → 1 ≤ a → a ≤ 64 → Named ms ns words → Named ms (named a n ns) (name_set a n words)
name_put ms ns s words a n h low high f k e = rw (in_marks a low high) (go (same? k a))
  where
    go : Same k a → name_in (set (set words (name_at a) n.first) (name_at a + 1) n.second) k ≡ named a n ns k
    go (same u v) = rw (eq-eqb k a u, u) (name_here words a n.first n.second low high h.room)
    go (differ u v) = rw (ne_eqb k a u) (name_stays words a n.first n.second low k (standing_low ms s words h k e).0 u ∙ f k e)

-- mark a is set, with no name
pub set_named : (ms : ℕ → MarkPlace) (ns : ℕ → Name) (s : ℕ) (words : List ℕ) (a p : ℕ) → Marked ms s words → 1 ≤ a → a ≤ 64 → Named ms ns words
    → Named (marked a (at p) ms) (named a no_name ns) (mark_put a p words)
set_named ms ns s words a p h low high f k e = rw (in_marks a low high) (go (same? k a))
  where
    placed : List ℕ
    placed = set words (a - 1) p

    go : Same k a → name_in (set (set (set words (a - 1) p) (name_at a) 0) (name_at a + 1) 0) k ≡ named a no_name ns k
    go (same u v) = rw (eq-eqb k a u, u) (name_here (set words (a - 1) p) a 0 0 low high (length-set words (a - 1) p ∙ h.room))
    go (differ u v) =
        let e' : stands (ms k) ≡ true = sym (ap stands (marked_other a k (at p) ms u)) ∙ e in
        let r = standing_low ms s words h k e' in
        let x = get_or-set_other words (a - 1) (name_at k) p 0 (λ z. omega (arith, z, r.0)) in
        let y = get_or-set_other words (a - 1) (name_at k + 1) p 0 (λ z. omega (arith, z, r.0)) in
        rw (ne_eqb k a u) (name_stays (set words (a - 1) p) a 0 0 low k r.0 u ∙ (λ i. name (x i) (y i)) ∙ f k e')

-- ---- the holder of a name

pub holder_same : (m : Machine) (s : ℕ) (words : List ℕ) (but : ℕ) (n : Name) → Marked m.marks s words → Named m.marks m.names words → holder_in s words but n ≡ holder_but but n m
unfolding holder_in holder_but
holder_same m s words but n h f = seek_same 64 1 _ _ (λ k a b. ap (λ (t : Bool). not (k == but) && t) (go k a (omega arith) (stands (m.marks k)) refl))
  where
    go : (k : ℕ) → 1 ≤ k → k ≤ 64 → (t : Bool) → stands (m.marks k) ≡ t → bears_in s words n k ≡ bears m n k
    go k a b t e = rw (in_set_lem m.marks s words h k a b, e) (one t e)
      where
        one : (t : Bool) → stands (m.marks k) ≡ t → (t && (is_name n && same_name (name_in words k) n)) ≡ (t && (is_name n && same_name (m.names k) n))
        one true e = ap (λ (x : Name). is_name n && same_name x n) (f k e)
        one false e = refl

-- ---- a mark is dropped, marks are cut: their names are not read

pub drop_named : (ms : ℕ → MarkPlace) (ns : ℕ → Name) (words : List ℕ) (a : ℕ) → Named ms ns words → Named (marked a gone ms) (named a no_name ns) words
drop_named ms ns words a f k e = go (k == a) e (f k)
  where
    go : (t : Bool) → stands (t ⇒ gone else ms k) ≡ true → (stands (ms k) ≡ true → name_in words k ≡ ns k) → name_in words k ≡ (t ⇒ no_name else ns k)
    go true i g = ft i
    go false i g = g i

pub cut_named : (ms : ℕ → MarkPlace) (ns : ℕ → Name) (words : List ℕ) (p : ℕ) → Named ms ns words → Named (cut_marks p ms) (kept_names (cut_marks p ms) ns) words
cut_named ms ns words p f k e = rw e (f k (was (ms k) e))
  where
    was : (x : MarkPlace) → stands (cut p x) ≡ true → stands x ≡ true
    was gone i = i
    was (at q) i = refl

pub holder_bears : (s : ℕ) (words : List ℕ) (n : Name) → holder_in s words 0 n ≢ 0 → in_set s (holder_in s words 0 n) ≡ true
unfolding holder_in
holder_bears s words n d =
    let f = seek_found 64 1 (holder_in s words 0 n) (λ k. not (k == 0) && bears_in s words n k) refl d in
    (and_true (in_set s (holder_in s words 0 n)) _ (and_true (not (holder_in s words 0 n == 0)) _ f).1).0

-- ---- the holder of a name is the first mark that bears it

seek_first : (n k i : ℕ) (p : ℕ → Bool) → k ≤ i → i < k + n → p i ≡ true → ((j : ℕ) → k ≤ j → j < i → p j ≡ false) → seek n k p ≡ i
unfolding seek
seek_first zero k i p a b e f = absurd (omega arith)
seek_first (suc n) k i p a b e f = elim (same? k i) [
  | same u v ↦ rw (subst (λ (j : ℕ). p j ≡ true) v e) u
  | differ u v ↦ rw (f k (omega arith) (omega arith)) (seek_first n (suc k) i p (omega arith) (omega arith) e (λ j x y. f j (omega arith) y))
]

pub found_first : (r : Option ℕ) (p : ℕ → Bool) → MatchOption r ((k : ℕ) → 1 ≤ k → k < 65 → p k ≡ false)
    (λ i. (1 ≤ i) × (i < 65) × (p i ≡ true) × ((k : ℕ) → 1 ≤ k → k < i → p k ≡ false)) → r ≡ mark_found (seek 64 1 p)
found_first None p h = rw (seek_same 64 1 p (λ j. false) (λ j a b. h j a (omega arith)), seek_none 64 1 (λ j. false) (λ j. refl)) refl
found_first (Some i) p h = rw (seek_first 64 1 i p h.0 (omega (arith, h.1)) h.2 h.3, ne_eqb i 0 (omega (arith, h.0))) refl
