-- The parts as the header's offsets cut them.
use Rattle.std.specs.Prelude.{◌==◌}
use Prim.Native.Nat.{ℕ, zero, suc, ◌+◌, ◌*◌, ◌-◌, ◌≤◌}
use mathlib.Core.Path.{◌≡◌, refl, sym, ap, subst, ◌∙◌}
use mathlib.Core.Bool.{Bool, true, false, not, ◌&&◌}
use mathlib.Core.List.{List, [], ◌∷◌, ◌++◌}
use native.Mathlib.Omega.{arith}
use lib.ListN.{length, get_or, take, drop, length-drop, take-append-drop}
use lib.Seq.{take_all, drop-drop, length-take-le}
use borrow.Author.Tests.{ne_eqb}
use Rattle.lists.specs.Choice.{◌⇒◌else◌, within}
use Rattle.lists.proofs.Bools.{tf, within_range}
use Rattle.image.specs.Image.{edge_size, vertex_offset, edge_offset, incidence_offset, record_size, sound_header, vertex_count, edge_count, vertex_part, edge_part, incidence_part, part}
use Rattle.image.specs.Parts.{has_part, part_bound, part_start, part_end}
use Rattle.image.proofs.Headers.{HeaderWords, header_words, sound_length}

module _ (ws : List ℕ) (h : sound_header ws ≡ true) where
  -- each part by its number
  pub part_1 : part 1 ws ≡ vertex_part (record_size ws) ws
  unfolding part
  part_1 = rw h

  pub part_2 : part 2 ws ≡ edge_part (record_size ws) ws
  unfolding part
  part_2 = rw h

  pub part_3 : part 3 ws ≡ incidence_part (record_size ws) ws
  unfolding part
  part_3 = rw h

  -- each part between two words of the header
  w : HeaderWords (record_size ws) ws
  w = header_words ws h

  cut_1 : take (get_or ws 3 0 - get_or ws 2 0) (drop (get_or ws 2 0) ws) ≡ vertex_part (record_size ws) ws
  cut_1 =
      let f : edge_offset (record_size ws) (vertex_count ws) - 6 ≡ record_size ws * vertex_count ws = omega arith in
      rw (w.first, w.second, f)

  cut_2 : take (get_or ws 4 0 - get_or ws 3 0) (drop (get_or ws 3 0) ws) ≡ edge_part (record_size ws) ws
  cut_2 =
      let f : incidence_offset (record_size ws) (vertex_count ws) (edge_count ws) - edge_offset (record_size ws) (vertex_count ws) ≡ edge_size * edge_count ws = omega arith in
      rw (w.second, w.third, f)

  cut_3 : take (get_or ws 5 0 - get_or ws 4 0) (drop (get_or ws 4 0) ws) ≡ incidence_part (record_size ws) ws
  cut_3 =
      take_all (get_or ws 5 0 - get_or ws 4 0) (drop (get_or ws 4 0) ws) (omega (arith, length-drop (get_or ws 4 0) ws, w.total, w.long)) ∙ rw w.third

  ends_in : (k : ℕ) → 1 ≤ k → k ≤ 3 → (get_or ws (k + 1) 0 ≤ get_or ws (k + 2) 0) × (get_or ws (k + 2) 0 ≤ length ws)
  ends_in zero l m = absurd (omega arith)
  ends_in (suc zero) l m = (omega (arith, w.first, w.second), omega (arith, w.second, w.long))
  ends_in (suc (suc zero)) l m = (omega (arith, w.second, w.third), omega (arith, w.third, w.long))
  ends_in (suc (suc (suc zero))) l m = (omega (arith, w.third, w.total), omega (arith, w.total, w.long))
  ends_in (suc (suc (suc (suc k)))) l m = absurd (omega arith)

-- a part's ends are in order and within the words
pub part_within : (k : ℕ) (ws : List ℕ) → (part_start k ws ≤ part_end k ws) × (part_end k ws ≤ length ws)
unfolding part_bound
part_within k ws = go (sound_header ws) (within 1 3 k) refl refl
  where
    go : (s t : Bool) → sound_header ws ≡ s → within 1 3 k ≡ t →
        ((s && t ⇒ get_or ws (k + 1) 0 else 0) ≤ (s && t ⇒ get_or ws (k + 2) 0 else 0)) × ((s && t ⇒ get_or ws (k + 2) 0 else 0) ≤ length ws)
    go true true e f = let r = within_range 1 3 k f in ends_in ws e k r.0 r.1
    go true false e f = (omega arith, omega arith)
    go false t e f = (omega arith, omega arith)

-- between its ends stands the part
pub part_cut : (k : ℕ) (ws : List ℕ) → take (part_end k ws - part_start k ws) (drop (part_start k ws) ws) ≡ part k ws
unfolding part_bound part
part_cut k ws = go (sound_header ws) (within 1 3 k) refl refl
  where
    numbered : (e : sound_header ws ≡ true) → (n : ℕ) → 1 ≤ n → n ≤ 3 →
        take (get_or ws (n + 2) 0 - get_or ws (n + 1) 0) (drop (get_or ws (n + 1) 0) ws)
        ≡ ((n == 1) ⇒ vertex_part (record_size ws) ws else (n == 2) ⇒ edge_part (record_size ws) ws else (n == 3) ⇒ incidence_part (record_size ws) ws else [])
    numbered e zero l m = absurd (omega arith)
    numbered e (suc zero) l m = cut_1 ws e
    numbered e (suc (suc zero)) l m = cut_2 ws e
    numbered e (suc (suc (suc zero))) l m = cut_3 ws e
    numbered e (suc (suc (suc (suc n)))) l m = absurd (omega arith)

    go : (s t : Bool) → sound_header ws ≡ s → within 1 3 k ≡ t →
        take ((s && t ⇒ get_or ws (k + 2) 0 else 0) - (s && t ⇒ get_or ws (k + 1) 0 else 0)) (drop (s && t ⇒ get_or ws (k + 1) 0 else 0) ws)
        ≡ (not s ⇒ [] else (k == 1) ⇒ vertex_part (record_size ws) ws else (k == 2) ⇒ edge_part (record_size ws) ws else (k == 3) ⇒ incidence_part (record_size ws) ws else [])
    go true true e f = let r = within_range 1 3 k f in numbered e k r.0 r.1
    go true false e f =
        let other : (n : ℕ) → within 1 3 n ≡ true → k ≡ n → ⊥ = λ n y q. tf (sym y ∙ ap (within 1 3) (sym q) ∙ f) in
        rw (ne_eqb k 1 (other 1 refl), ne_eqb k 2 (other 2 refl), ne_eqb k 3 (other 3 refl))
    go false t e f = refl

-- as many words from its start on as the part has
pub part_at : (k : ℕ) (ws : List ℕ) → take (length (part k ws)) (drop (part_start k ws) ws) ≡ part k ws
part_at k ws = subst (λ (p : List ℕ). take (length p) (drop (part_start k ws) ws) ≡ p) (part_cut k ws) (take_again (part_end k ws - part_start k ws) (drop (part_start k ws) ws))
  where
    take_again : (n : ℕ) (xs : List ℕ) → take (length (take n xs)) xs ≡ take n xs
    take_again zero xs = refl
    take_again (suc n) [] = refl
    take_again (suc n) (x ∷ xs) = ap (λ (l : List ℕ). x ∷ l) (take_again n xs)

-- an empty part of words with a sound header starts where the header says, so not at 0
pub starts_behind_header : (k : ℕ) (ws : List ℕ) → has_part k ws ≡ true → 6 ≤ part_start k ws
unfolding part_bound has_part
starts_behind_header k ws e = go (sound_header ws) (within 1 3 k) refl refl e
  where
    behind : (h : sound_header ws ≡ true) (n : ℕ) → 1 ≤ n → n ≤ 3 → 6 ≤ get_or ws (n + 1) 0
    behind h zero l m = absurd (omega arith)
    behind h (suc zero) l m = omega (arith, (header_words ws h).first)
    behind h (suc (suc zero)) l m = omega (arith, (header_words ws h).second)
    behind h (suc (suc (suc zero))) l m = omega (arith, (header_words ws h).third)
    behind h (suc (suc (suc (suc n)))) l m = absurd (omega arith)

    go : (s t : Bool) → sound_header ws ≡ s → within 1 3 k ≡ t → (s && t) ≡ true → 6 ≤ (s && t ⇒ get_or ws (k + 1) 0 else 0)
    go true true p q r = let l = within_range 1 3 k q in behind p k l.0 l.1
    go true false p q r = absurd (tf (sym r))
    go false t p q r = absurd (tf (sym r))

-- header and parts are the words
pub split_words : (size : ℕ) (ws : List ℕ) → take 6 ws ++ (vertex_part size ws ++ (edge_part size ws ++ incidence_part size ws)) ≡ ws
split_words size ws =
    let v = vertex_count ws in
    let e = edge_count ws in
    let o = edge_offset size v in
    let p : drop (size * v) (drop 6 ws) ≡ drop o ws = drop-drop (size * v) 6 ws in
    let q : drop (edge_size * e) (drop o ws) ≡ drop (incidence_offset size v e) ws = drop-drop (edge_size * e) o ws in
    let r : edge_part size ws ++ incidence_part size ws ≡ drop o ws = ap (λ (l : List ℕ). edge_part size ws ++ l) (sym q) ∙ take-append-drop (edge_size * e) (drop o ws) in
    ap (λ (l : List ℕ). take 6 ws ++ (vertex_part size ws ++ l)) (r ∙ sym p)
    ∙ ap (λ (l : List ℕ). take 6 ws ++ l) (take-append-drop (size * v) (drop 6 ws))
    ∙ take-append-drop 6 ws

-- the lengths of the parts of words with a sound header
module _ (ws : List ℕ) (h : sound_header ws ≡ true) where
  pub long_vertices : length (vertex_part (record_size ws) ws) ≡ record_size ws * vertex_count ws
  long_vertices = length-take-le (record_size ws * vertex_count ws) (drop vertex_offset ws) (omega (arith, length-drop vertex_offset ws, sound_length ws h))

  pub long_edges : length (edge_part (record_size ws) ws) ≡ edge_size * edge_count ws
  long_edges =
      let o = edge_offset (record_size ws) (vertex_count ws) in
      length-take-le (edge_size * edge_count ws) (drop o ws) (omega (arith, length-drop o ws, sound_length ws h))
