-- Words before a bad one go on: unused numbers, some vertex as both ends, untested readings; of lists the words still wanted.
use Rattle.std.specs.Prelude.{◌==◌}
use Prim.Native.Nat.{ℕ, zero, suc, ◌+◌, ◌*◌, ◌-◌, ◌^◌, ◌≤◌, ◌<◌}
use mathlib.Core.Path.{◌≡◌, refl, sym, ap, ◌∙◌, subst}
use mathlib.Core.Logic.{inl, inr}
use mathlib.Core.Bool.{Bool, true, false, not, ◌&&◌}
use mathlib.Core.List.{List, [], ◌∷◌, ◌++◌}
use native.Mathlib.Omega.{arith}
use lib.Dec.{leb, ltb}
use lib.ListN.{length, get_or, take, drop, length-drop, length-append, take-append-drop}
use lib.Seq.{drop_at, take-append-le, take-append-add, length-take-le}
use borrow.Author.Tests.{ne_eqb, lt-ltb, le-ltb, le-leb, leb-true}
use Rattle.lists.specs.Choice.{to_bit, within}
use Rattle.lists.specs.Lists.{member}
use Rattle.lists.specs.Keyed.{remove_by}
use Rattle.lists.proofs.Bools.{and_true, and_both}
use Rattle.lists.proofs.Sums.{has_count, has_not}
use Rattle.lists.proofs.Members.{none_there}
use Rattle.graph.specs.Graph.{Edge, itself, is_reading, reading_of}
use Rattle.graph.specs.WellFormed.{words_at}
use Rattle.image.specs.Image.{degree_word}
use Rattle.image_check.specs.Checks.{walk, good_list, list_walk, passed}
use Rattle.image_check.proofs.Walks.{vertex_walk, edge_walk}
use Rattle.image.proofs.Sizes.{Size, degree_length}
use Rattle.image.proofs.Counts.{rem_count, rem_length}
use Rattle.image.proofs.Ends.{ends}
use Rattle.image_check.proofs.Verdicts.{VertexOk, vertex_ok, EdgeOk, edge_ok}
use Rattle.image_check.proofs.SoundLoads.{good_alike, reading_known, cut_vertex, cut6}
use Rattle.image_check.proofs.SavedSound.{kind_le, alike_good}
use Rattle.image_check.proofs.Offsets.{sound_record, sound_incidence, record_bad, list_bad, vertex_at, vertex_range, edge_at, edge_range, list_from}
use Rattle.std.specs.Prelude.{Ok, Err}
use Rattle.image_check.specs.declared.BadImage.TheVariants.{Record, Incidence}
use Rattle.image_check.specs.Checks.{Verdict}

-- ---- a number that is not used

pub record Free (cap : ℕ) (seen : List ℕ) : Type 0 where
  pub n : ℕ
  pub number : within 1 cap n ≡ true
  pub high : n ≤ cap
  pub new : member n seen ≡ false

free : (cap : ℕ) (seen : List ℕ) → length seen < cap → Free cap seen
free zero seen h = absurd (omega arith)
free (suc cap) seen h = go (λ l q. free cap l q) (member (suc cap) seen) refl
  where
    go : ((l : List ℕ) → length l < cap → Free cap l) → (t : Bool) → member (suc cap) seen ≡ t → Free (suc cap) seen
    go ih true e =
        let c = has_count (suc cap) seen e in
        let f = ih (remove_by itself (suc cap) seen) (omega (arith, rem_length (suc cap) seen c)) in
        let n = f.n in
        let l = and_true (leb 1 n) (leb n cap) f.number in
        let q : (suc cap == n) ≡ false = ne_eqb (suc cap) n (λ r. omega (arith, f.high)) in
        let z : to_bit (suc cap == n) ≡ 0 = ap to_bit q in
        record {
          n = n;
          number = and_both (leb 1 n) (leb n (suc cap)) l.0 (le-leb n (suc cap) (omega (arith, f.high)));
          high = omega (arith, f.high);
          new = none_there n seen (omega (arith, z, rem_count (suc cap) seen c n, has_not n (remove_by itself (suc cap) seen) f.new));
        }
    go ih false e =
        record { n = suc cap; number = and_both (leb 1 (suc cap)) (leb (suc cap) (suc cap)) (le-leb 1 (suc cap) (omega arith)) (le-leb (suc cap) (suc cap) (omega arith)); high = omega arith; new = e }

-- n words that a walk finds sound, the first j as in ws
pub record Filled (walk : List ℕ → Verdict) (n j : ℕ) (ws : List ℕ) : Type 0 where
  pub words : List ℕ
  pub long : length words ≡ n
  pub sound : walk words ≡ Ok tt
  pub begin : take j words ≡ take j ws

-- the same words in front
begin_after : (h xs ys : List ℕ) (n k : ℕ) → k ≡ length h + n → take n xs ≡ take n ys → take k (h ++ xs) ≡ take k (h ++ ys)
begin_after h xs ys n k e q = rw e (take-append-add h xs n ∙ ap (λ (l : List ℕ). h ++ l) q ∙ sym (take-append-add h ys n))

-- the first d words, and some of the rest
after : (d j i : ℕ) (ws us : List ℕ) → length (take d ws) ≡ d → j ≡ d + i → take i us ≡ take i (drop d ws) → take j (take d ws ++ us) ≡ take j ws
after d j i ws us t e h = begin_after (take d ws) us (drop d ws) i j (omega (arith, t, e)) h ∙ ap (take j) (take-append-drop d ws)

-- ---- vertex records

module _ (size : ℕ) (z : Size size) (cap types : ℕ) (some : 1 ≤ types) where
  abbrev vwalk : List ℕ → ℕ → ℕ → List ℕ → Verdict
  vwalk seen k at us = vertex_walk size cap types seen k us at

  -- a record and what is behind it
  abbrev row : ℕ → ℕ → ℕ → ℕ → List ℕ → List ℕ
  row n t x d us = n ∷ t ∷ x ∷ (degree_word size d ++ us)

  row_length : (n t x d : ℕ) (us : List ℕ) → length (row n t x d us) ≡ size + length us
  row_length n t x d us = omega (arith, length-append (degree_word size d) us, degree_length size z d)

  vertex_cons : (seen : List ℕ) (k at n t x d : ℕ) (us : List ℕ) → VertexOk cap types (not (member n seen)) n t x → vwalk (n ∷ seen) k (at + size) us ≡ Ok tt →
      vwalk seen (suc k) at (row n t x d us) ≡ Ok tt
  unfolding walk
  vertex_cons seen k at n t x d us o s =
      rw (o.number, o.new, o.type, o.value, drop_at (n ∷ t ∷ x ∷ degree_word size d) us size (omega (arith, degree_length size z d))) s

  pub vertex_fill : (seen : List ℕ) (k at : ℕ) (ws : List ℕ) → length seen + k ≤ cap → Filled (vwalk seen k at) (size * k) 0 ws
  unfolding walk
  vertex_fill seen zero at ws h = record { words = []; long = omega arith; sound = refl; begin = refl }
  vertex_fill seen (suc k) at ws h =
      let f = free cap seen (omega arith) in
      let r = vertex_fill (f.n ∷ seen) k (at + size) ws (omega arith) in
      record {
        words = row f.n 0 0 0 r.words;
        long = omega (arith, r.long, row_length f.n 0 0 0 r.words);
        sound = vertex_cons seen k at f.n 0 0 0 r.words (record { number = f.number; new = ap not f.new; type = lt-ltb 0 types (omega arith); value = refl }) r.sound;
        begin = refl;
      }

  -- the first record, and the rest filled up
  vertex_then : (seen : List ℕ) (k at j n t x : ℕ) (ws : List ℕ) → length seen + suc k ≤ cap → VertexOk cap types (not (member n seen)) n t x →
      ((us : List ℕ) → take j (n ∷ t ∷ x ∷ us) ≡ take j ws) → Filled (vwalk seen (suc k) at) (size * suc k) j ws
  vertex_then seen k at j n t x ws h o q =
      let r = vertex_fill (n ∷ seen) k (at + size) ws (omega arith) in
      record {
        words = row n t x 0 r.words;
        long = omega (arith, r.long, row_length n t x 0 r.words);
        sound = vertex_cons seen k at n t x 0 r.words o r.sound;
        begin = q (degree_word size 0 ++ r.words);
      }

  vertex_here : (seen : List ℕ) (k at j : ℕ) (ws : List ℕ) → length ws ≡ size * suc k → length seen + suc k ≤ cap → j ≡ vertex_at cap types seen ws → j < 3 →
      Filled (vwalk seen (suc k) at) (size * suc k) j ws
  vertex_here seen k at j ws e h q l = go (within 1 cap n) (not (member n seen)) (ltb t types) (ltb x (2 ^ 32)) refl refl refl refl q
    where
      n : ℕ
      n = get_or ws 0 0

      t : ℕ
      t = get_or ws 1 0

      x : ℕ
      x = get_or ws 2 0

      cut : row n t x (get_or ws 3 0) (drop size ws) ≡ ws
      cut = cut_vertex size z ws (size * k) (omega arith)

      go : (p y c u : Bool) → within 1 cap n ≡ p → not (member n seen) ≡ y → ltb t types ≡ c → ltb x (2 ^ 32) ≡ u → j ≡ passed ((p && y) ∷ c ∷ u ∷ []) →
          Filled (vwalk seen (suc k) at) (size * suc k) j ws
      go true true true true e1 e2 e3 e4 q = absurd (omega arith)
      go true true true false e1 e2 e3 e4 q =
          vertex_then seen k at j n t 0 ws h (record { number = e1; new = e2; type = e3; value = refl }) (λ us. rw q (ap (take 2) cut))
      go true true false u e1 e2 e3 e4 q =
          vertex_then seen k at j n 0 0 ws h (record { number = e1; new = e2; type = lt-ltb 0 types (omega arith); value = refl }) (λ us. rw q (ap (take 1) cut))
      go true false c u e1 e2 e3 e4 q = subst (λ (i : ℕ). Filled (vwalk seen (suc k) at) (size * suc k) i ws) (sym q) (vertex_fill seen (suc k) at ws h)
      go false y c u e1 e2 e3 e4 q = subst (λ (i : ℕ). Filled (vwalk seen (suc k) at) (size * suc k) i ws) (sym q) (vertex_fill seen (suc k) at ws h)

  -- the first record as it is, and the rest filled up
  vertex_more : (seen : List ℕ) (k at n t x d : ℕ) (ws : List ℕ) {i j : ℕ} → VertexOk cap types (not (member n seen)) n t x →
      Filled (vwalk (n ∷ seen) k (at + size)) (size * k) i (drop size ws) → j ≡ size + i → row n t x d (drop size ws) ≡ ws → Filled (vwalk seen (suc k) at) (size * suc k) j ws
  vertex_more seen k at n t x d ws {i} {j} o r e cut =
      record {
        words = row n t x d r.words;
        long = omega (arith, r.long, row_length n t x d r.words);
        sound = vertex_cons seen k at n t x d r.words o r.sound;
        begin =
            begin_after (n ∷ t ∷ x ∷ degree_word size d) r.words (drop size ws) i j (omega (arith, e, degree_length size z d)) r.begin
            ∙ ap (take j) cut;
      }

  pub vertex_fit : (seen : List ℕ) (k : ℕ) (ws : List ℕ) (at m j : ℕ) → vertex_walk size cap types seen k ws at ≡ Err (Record m) → at + j ≡ m → length ws ≡ size * k →
      length seen + k ≤ cap → Filled (vwalk seen k at) (size * k) j ws
  unfolding walk
  vertex_fit seen zero ws at m j h q e l = absurd (sound_record h)
  vertex_fit seen (suc k) ws at m j h q e l =
      let n = get_or ws 0 0 in
      let t = get_or ws 1 0 in
      let x = get_or ws 2 0 in
      elim (record_bad 3 at (vertex_at cap types seen ws) m (vertex_walk size cap types (n ∷ seen) k (drop size ws) (at + size)) h) [
        | inl y ↦ vertex_here seen k at j ws e l (omega (arith, q, y.1)) (omega (arith, q, y.0, y.1))
        | inr y ↦
            let o = vertex_ok cap types (not (member n seen)) n t x y.0 in
            let g = (vertex_range size z cap types (n ∷ seen) k (drop size ws) (at + size) m y.1).0 in
            let i : j ≡ size + (j - size) = omega (arith, q, g) in
            let r = vertex_fit (n ∷ seen) k (drop size ws) (at + size) m (j - size) y.1 (omega (arith, q, g)) (omega (arith, e, length-drop size ws)) (omega (arith, l)) in
            vertex_more seen k at n t x (get_or ws 3 0) ws o r i (cut_vertex size z ws (size * k) (omega (arith, e)))
      ]

-- ---- edge records

zero_reading : (k : ℕ) → leb k 2 ≡ true → is_reading k 0 ≡ true
zero_reading zero h = refl
zero_reading (suc zero) h = refl
zero_reading (suc (suc zero)) h = refl
zero_reading (suc (suc (suc k))) h = absurd (omega (arith, leb-true (suc (suc (suc k))) 2 h))

reading_kind : (k d : ℕ) → is_reading k d ≡ true → leb k 2 ≡ true
reading_kind k d h = subst (λ (x : ℕ). leb x 2 ≡ true) (reading_known k d h).0 (kind_le (reading_of k d))

module _ (cap types : ℕ) (some : 1 ≤ types) (ns : List ℕ) where
  abbrev ewalk : List ℕ → ℕ → ℕ → List ℕ → Verdict
  ewalk seen k at us = edge_walk cap types ns seen k us at

  abbrev EdgeAt : List ℕ → ℕ → ℕ → ℕ → ℕ → ℕ → ℕ → Type 0
  EdgeAt seen n a o t c d = EdgeOk cap types (not (member n seen)) (member a ns) (member o ns) n t c d

  edge_cons : (seen : List ℕ) (k at n a o t c d : ℕ) (us : List ℕ) → EdgeAt seen n a o t c d → ewalk (n ∷ seen) k (at + 6) us ≡ Ok tt →
      ewalk seen (suc k) at (n ∷ a ∷ o ∷ t ∷ c ∷ d ∷ us) ≡ Ok tt
  unfolding walk
  edge_cons seen k at n a o t c d us x s = rw (x.number, x.new, x.starts, x.stops, x.type, reading_kind c d x.reading, x.reading) s

  module _ (v : ℕ) (there : member v ns ≡ true) where
    pub edge_fill : (seen : List ℕ) (k at : ℕ) (ws : List ℕ) → length seen + k ≤ cap → Filled (ewalk seen k at) (6 * k) 0 ws
    unfolding walk
    edge_fill seen zero at ws h = record { words = []; long = refl; sound = refl; begin = refl }
    edge_fill seen (suc k) at ws h =
        let f = free cap seen (omega arith) in
        let r = edge_fill (f.n ∷ seen) k (at + 6) ws (omega arith) in
        record {
          words = f.n ∷ v ∷ v ∷ 0 ∷ 0 ∷ 0 ∷ r.words;
          long = omega (arith, r.long);
          sound =
              edge_cons seen k at f.n v v 0 0 0 r.words
              (record { number = f.number; new = ap not f.new; starts = there; stops = there; type = lt-ltb 0 types (omega arith); reading = refl })
              r.sound;
          begin = refl;
        }

    edge_then : (seen : List ℕ) (k at j n a o t c d : ℕ) (ws : List ℕ) → length seen + suc k ≤ cap → EdgeAt seen n a o t c d →
        ((us : List ℕ) → take j (n ∷ a ∷ o ∷ t ∷ c ∷ d ∷ us) ≡ take j ws) → Filled (ewalk seen (suc k) at) (6 * suc k) j ws
    edge_then seen k at j n a o t c d ws h x q =
        let r = edge_fill (n ∷ seen) k (at + 6) ws (omega arith) in
        record { words = n ∷ a ∷ o ∷ t ∷ c ∷ d ∷ r.words; long = omega (arith, r.long); sound = edge_cons seen k at n a o t c d r.words x r.sound; begin = q r.words }

    edge_here : (seen : List ℕ) (k at j : ℕ) (ws : List ℕ) → length ws ≡ 6 * suc k → length seen + suc k ≤ cap → j ≡ edge_at cap types ns seen ws → j < 6 →
        Filled (ewalk seen (suc k) at) (6 * suc k) j ws
    edge_here seen k at j ws e h q l =
        go (within 1 cap n) (not (member n seen)) (member a ns) (member o ns) (ltb t types) (leb c 2) (is_reading c d) refl refl refl refl refl refl refl q
      where
        n : ℕ
        n = get_or ws 0 0

        a : ℕ
        a = get_or ws 1 0

        o : ℕ
        o = get_or ws 2 0

        t : ℕ
        t = get_or ws 3 0

        c : ℕ
        c = get_or ws 4 0

        d : ℕ
        d = get_or ws 5 0

        cut : n ∷ a ∷ o ∷ t ∷ c ∷ d ∷ drop 6 ws ≡ ws
        cut = cut6 ws (6 * k) (omega arith)

        zt : ltb 0 types ≡ true
        zt = lt-ltb 0 types (omega arith)

        go : (p y f g z u r : Bool) → within 1 cap n ≡ p → not (member n seen) ≡ y → member a ns ≡ f → member o ns ≡ g → ltb t types ≡ z → leb c 2 ≡ u → is_reading c d ≡ r →
            j ≡ passed ((p && y) ∷ f ∷ g ∷ z ∷ u ∷ r ∷ []) → Filled (ewalk seen (suc k) at) (6 * suc k) j ws
        go true true true true true true true e1 e2 e3 e4 e5 e6 e7 q = absurd (omega arith)
        go true true true true true true false e1 e2 e3 e4 e5 e6 e7 q =
            edge_then seen k at j n a o t c 0 ws h (record { number = e1; new = e2; starts = e3; stops = e4; type = e5; reading = zero_reading c e6 }) (λ us. rw q (ap (take 5) cut))
        go true true true true true false r e1 e2 e3 e4 e5 e6 e7 q =
            edge_then seen k at j n a o t 0 0 ws h (record { number = e1; new = e2; starts = e3; stops = e4; type = e5; reading = refl }) (λ us. rw q (ap (take 4) cut))
        go true true true true false u r e1 e2 e3 e4 e5 e6 e7 q =
            edge_then seen k at j n a o 0 0 0 ws h (record { number = e1; new = e2; starts = e3; stops = e4; type = zt; reading = refl }) (λ us. rw q (ap (take 3) cut))
        go true true true false z u r e1 e2 e3 e4 e5 e6 e7 q =
            edge_then seen k at j n a v 0 0 0 ws h (record { number = e1; new = e2; starts = e3; stops = there; type = zt; reading = refl }) (λ us. rw q (ap (take 2) cut))
        go true true false g z u r e1 e2 e3 e4 e5 e6 e7 q =
            edge_then seen k at j n v v 0 0 0 ws h (record { number = e1; new = e2; starts = there; stops = there; type = zt; reading = refl }) (λ us. rw q (ap (take 1) cut))
        go true false f g z u r e1 e2 e3 e4 e5 e6 e7 q = subst (λ (i : ℕ). Filled (ewalk seen (suc k) at) (6 * suc k) i ws) (sym q) (edge_fill seen (suc k) at ws h)
        go false y f g z u r e1 e2 e3 e4 e5 e6 e7 q = subst (λ (i : ℕ). Filled (ewalk seen (suc k) at) (6 * suc k) i ws) (sym q) (edge_fill seen (suc k) at ws h)

    edge_more : (seen : List ℕ) (k at n a o t c d : ℕ) (ws : List ℕ) {i j : ℕ} → EdgeAt seen n a o t c d → Filled (ewalk (n ∷ seen) k (at + 6)) (6 * k) i (drop 6 ws) →
        j ≡ suc (suc (suc (suc (suc (suc i))))) → n ∷ a ∷ o ∷ t ∷ c ∷ d ∷ drop 6 ws ≡ ws → Filled (ewalk seen (suc k) at) (6 * suc k) j ws
    edge_more seen k at n a o t c d ws {i} {j} x r e cut =
        record {
          words = n ∷ a ∷ o ∷ t ∷ c ∷ d ∷ r.words;
          long = omega (arith, r.long);
          sound = edge_cons seen k at n a o t c d r.words x r.sound;
          begin = rw e (ap (λ (z : List ℕ). n ∷ a ∷ o ∷ t ∷ c ∷ d ∷ z) r.begin ∙ ap (take (suc (suc (suc (suc (suc (suc i))))))) cut);
        }

    pub edge_fit : (seen : List ℕ) (k : ℕ) (ws : List ℕ) (at m j : ℕ) → edge_walk cap types ns seen k ws at ≡ Err (Record m) → at + j ≡ m → length ws ≡ 6 * k →
        length seen + k ≤ cap → Filled (ewalk seen k at) (6 * k) j ws
    unfolding walk
    edge_fit seen zero ws at m j h q e l = absurd (sound_record h)
    edge_fit seen (suc k) ws at m j h q e l =
        let n = get_or ws 0 0 in
        let a = get_or ws 1 0 in
        let o = get_or ws 2 0 in
        let t = get_or ws 3 0 in
        let c = get_or ws 4 0 in
        let d = get_or ws 5 0 in
        elim (record_bad 6 at (edge_at cap types ns seen ws) m (edge_walk cap types ns (n ∷ seen) k (drop 6 ws) (at + 6)) h) [
          | inl y ↦ edge_here seen k at j ws e l (omega (arith, q, y.1)) (omega (arith, q, y.0, y.1))
          | inr y ↦
              let x = edge_ok cap types (not (member n seen)) (member a ns) (member o ns) n t c d y.0 in
              let g = (edge_range cap types ns (n ∷ seen) k (drop 6 ws) (at + 6) m y.1).0 in
              let i : j ≡ suc (suc (suc (suc (suc (suc (j - 6)))))) = omega (arith, q, g) in
              let r = edge_fit (n ∷ seen) k (drop 6 ws) (at + 6) m (j - 6) y.1 (omega (arith, q, g)) (omega (arith, e, length-drop 6 ws)) (omega (arith, l)) in
              edge_more seen k at n a o t c d ws x r i (cut6 ws (6 * k) (omega (arith, e)))
        ]

-- ---- lists

record ListFit (d : ℕ) (wanted ws : List ℕ) : Type 0 where
  words : List ℕ
  long : length words ≡ d
  good : (rest : List ℕ) → good_list d wanted (words ++ rest) ≡ d
  begin : take (good_list d wanted ws) words ≡ take (good_list d wanted ws) ws

list_fit : (d : ℕ) (wanted ws : List ℕ) → length wanted ≡ d → ListFit d wanted ws
unfolding good_list
list_fit zero wanted ws e = record { words = []; long = refl; good = λ rest. refl; begin = refl }
list_fit (suc d) wanted [] e = record { words = wanted; long = e; good = λ rest. alike_good (suc d) wanted wanted rest e (λ n. refl); begin = refl }
list_fit (suc d) wanted (w ∷ ws) e = go (λ q. list_fit d (remove_by itself w wanted) ws q) (member w wanted) refl
  where
    go : (length (remove_by itself w wanted) ≡ d → ListFit d (remove_by itself w wanted) ws) → (t : Bool) → member w wanted ≡ t → ListFit (suc d) wanted (w ∷ ws)
    go ih true f =
        let r = ih (omega (arith, rem_length w wanted (has_count w wanted f))) in
        record { words = w ∷ r.words; long = ap suc r.long; good = λ rest. rw f (ap suc (r.good rest)); begin = rw f (ap (λ (l : List ℕ). w ∷ l) r.begin) }
    go ih false f = record { words = wanted; long = e; good = λ rest. alike_good (suc d) wanted wanted rest e (λ n. refl); begin = rw f }

module _ (es : List Edge) where
  abbrev lwalk : List ℕ → ℕ → List ℕ → Verdict
  lwalk ns at us = list_walk es ns us at

  -- one list, and the rest
  list_cons : (n : ℕ) (ns : List ℕ) (at : ℕ) (xs us : List ℕ) → length xs ≡ length (words_at es n) → good_list (length (words_at es n)) (words_at es n) (xs ++ us) ≡ length (words_at es n) →
      lwalk ns (at + length (words_at es n)) us ≡ Ok tt → lwalk (n ∷ ns) at (xs ++ us) ≡ Ok tt
  unfolding list_walk
  list_cons n ns at xs us e g s =
      let d = length (words_at es n) in
      rw (g, le-ltb d d (omega arith), drop_at xs us d e) s

  pub lists_fill : (ns : List ℕ) (at : ℕ) (ws : List ℕ) → Filled (lwalk ns at) (ends es ns) 0 ws
  unfolding list_walk ends
  lists_fill [] at ws = record { words = []; long = refl; sound = refl; begin = refl }
  lists_fill (n ∷ ns) at ws =
      let wanted = words_at es n in
      let d = length wanted in
      let r = lists_fill ns (at + d) ws in
      record {
        words = wanted ++ r.words;
        long = omega (arith, r.long, length-append wanted r.words);
        sound = list_cons n ns at wanted r.words refl (alike_good d wanted wanted r.words refl (λ m. refl)) r.sound;
        begin = refl;
      }

  pub lists_fit : (ns ws : List ℕ) (at m j : ℕ) → list_walk es ns ws at ≡ Err (Incidence m) → at + j ≡ m → length ws ≡ ends es ns → Filled (lwalk ns at) (ends es ns) j ws
  unfolding list_walk ends
  lists_fit [] [] at m j h q e = absurd (sound_incidence h)
  lists_fit [] (w ∷ ws) at m j h q e = absurd (omega arith)
  lists_fit (n ∷ ns) ws at m j h q e =
      let wanted = words_at es n in
      let d = length wanted in
      let g = good_list d wanted ws in
      elim (list_bad d at g m (list_walk es ns (drop d ws) (at + d)) h) [
        | inl x ↦
            let f = list_fit d wanted ws refl in
            let r = lists_fill ns (at + d) ws in
            let i : j ≡ g = omega (arith, q, x.1) in
            record {
              words = f.words ++ r.words;
              long = omega (arith, f.long, r.long, length-append f.words r.words);
              sound = list_cons n ns at f.words r.words f.long (f.good r.words) r.sound;
              begin = rw i (take-append-le g f.words r.words (omega (arith, f.long, x.0)) ∙ f.begin);
            }
        | inr x ↦
            let lo = list_from es ns (drop d ws) (at + d) m x.1 in
            let r = lists_fit ns (drop d ws) (at + d) m (j - d) x.1 (omega (arith, q, lo)) (omega (arith, e, length-drop d ws)) in
            let t : length (take d ws) ≡ d = length-take-le d ws (omega (arith, e)) in
            let i : j ≡ d + (j - d) = omega (arith, q, lo) in
            record {
              words = take d ws ++ r.words;
              long = omega (arith, t, r.long, length-append (take d ws) r.words);
              sound = list_cons n ns at (take d ws) r.words t (alike_good d wanted (take d ws) r.words refl (good_alike d wanted ws refl x.0)) r.sound;
              begin = after d j (j - d) ws r.words t i r.begin;
            }
      ]
