-- Calls of six words: the k-th, some of them in a row, and the words that their answers write over a slice.
use Prim.Native.Nat.{ℕ, zero, suc, ◌+◌, ◌-◌, ◌*◌, ◌/◌, ◌≤◌, ◌<◌}
use mathlib.Core.Path.{◌≡◌, refl, sym, ap, ◌∙◌}
use mathlib.Core.List.{List, [], ◌∷◌, ◌++◌}
use native.Mathlib.Omega.{arith}
use lib.ListN.{length, get_or, take, drop, length-append, length-drop, length-map, take-append-drop, get_or-map}
use lib.Seq.{drop-drop, take-add, take-take, take_at, drop_at, take_all, length_front, length-take-le, get_or-take}
use Rattle.lists.specs.Lists.{overwritten}
use Rattle.commands.specs.Calls.{call_at}
use Rattle.commands.specs.declared.Answer.{Answer}
use Rattle.machine.specs.Calls.{Parameters}
use Rattle.machine.specs.Run.{answer_words}
use Rattle.machine.specs.Stores.{Stores, StoreCall, store_calls_of, answer_in, step_in, answers_in, last_in}
use Rattle.engine.specs.Calls.{Reads}
use Rattle.engine.proofs.CallLaws.{words_append}
use Rattle.store_calls.specs.Guard.{calls_in}

-- call k is the one of the six words at 6k
abbrev pub six : ℕ → ℕ → List ℕ → StoreCall
six a b ws = record { store = get_or ws a 0; call = call_at (take 5 (drop b ws)) }

pub six_at : (k : ℕ) (ws : List ℕ) (z : StoreCall) → 6 * k + 6 ≤ length ws → get_or (store_calls_of ws) k z ≡ six (6 * k) (suc (6 * k)) ws
six_at zero (s ∷ k ∷ a ∷ b ∷ c ∷ d ∷ ws) z h = refl
six_at (suc n) (s ∷ k ∷ a ∷ b ∷ c ∷ d ∷ ws) z h =
    let e : 6 * suc n ≡ suc (suc (suc (suc (suc (suc (6 * n)))))) = omega arith in
    six_at n ws z (omega arith) ∙ ap (λ (j : ℕ). six j (suc j) (s ∷ k ∷ a ∷ b ∷ c ∷ d ∷ ws)) (sym e)
six_at n [] z h = absurd (omega arith)
six_at n (s ∷ []) z h = absurd (omega arith)
six_at n (s ∷ k ∷ []) z h = absurd (omega arith)
six_at n (s ∷ k ∷ a ∷ []) z h = absurd (omega arith)
six_at n (s ∷ k ∷ a ∷ b ∷ []) z h = absurd (omega arith)
six_at n (s ∷ k ∷ a ∷ b ∷ c ∷ []) z h = absurd (omega arith)

pub calls_in_length : (n : ℕ) (ws : List ℕ) → 6 * n ≤ length ws → length ws < 6 * n + 6 → length (store_calls_of ws) ≡ n
calls_in_length zero (s ∷ k ∷ a ∷ b ∷ c ∷ d ∷ ws) h i = absurd (omega arith)
calls_in_length (suc n) (s ∷ k ∷ a ∷ b ∷ c ∷ d ∷ ws) h i = ap suc (calls_in_length n ws (omega arith) (omega arith))
calls_in_length n [] h i = omega arith
calls_in_length n (s ∷ []) h i = omega arith
calls_in_length n (s ∷ k ∷ []) h i = omega arith
calls_in_length n (s ∷ k ∷ a ∷ []) h i = omega arith
calls_in_length n (s ∷ k ∷ a ∷ b ∷ []) h i = omega arith
calls_in_length n (s ∷ k ∷ a ∷ b ∷ c ∷ []) h i = omega arith

-- ---- some calls in a row

pub calls_drop : (k : ℕ) (ws : List ℕ) → 6 * k ≤ length ws → store_calls_of (drop (6 * k) ws) ≡ drop k (store_calls_of ws)
calls_drop zero ws h = refl
calls_drop (suc n) (s ∷ k ∷ a ∷ b ∷ c ∷ d ∷ ws) h =
    let e : 6 * suc n ≡ suc (suc (suc (suc (suc (suc (6 * n)))))) = omega arith in
    ap (λ (j : ℕ). store_calls_of (drop j (s ∷ k ∷ a ∷ b ∷ c ∷ d ∷ ws))) e ∙ calls_drop n ws (omega arith)
calls_drop (suc n) [] h = absurd (omega arith)
calls_drop (suc n) (s ∷ []) h = absurd (omega arith)
calls_drop (suc n) (s ∷ k ∷ []) h = absurd (omega arith)
calls_drop (suc n) (s ∷ k ∷ a ∷ []) h = absurd (omega arith)
calls_drop (suc n) (s ∷ k ∷ a ∷ b ∷ []) h = absurd (omega arith)
calls_drop (suc n) (s ∷ k ∷ a ∷ b ∷ c ∷ []) h = absurd (omega arith)

pub calls_take : (k : ℕ) (ws : List ℕ) → 6 * k ≤ length ws → store_calls_of (take (6 * k) ws) ≡ take k (store_calls_of ws)
calls_take zero ws h = refl
calls_take (suc n) (s ∷ k ∷ a ∷ b ∷ c ∷ d ∷ ws) h =
    let e : 6 * suc n ≡ suc (suc (suc (suc (suc (suc (6 * n)))))) = omega arith in
    ap (λ (j : ℕ). store_calls_of (take j (s ∷ k ∷ a ∷ b ∷ c ∷ d ∷ ws))) e
    ∙ ap (λ (xs : List StoreCall). six 0 1 (s ∷ k ∷ a ∷ b ∷ c ∷ d ∷ ws) ∷ xs) (calls_take n ws (omega arith))
calls_take (suc n) [] h = absurd (omega arith)
calls_take (suc n) (s ∷ []) h = absurd (omega arith)
calls_take (suc n) (s ∷ k ∷ []) h = absurd (omega arith)
calls_take (suc n) (s ∷ k ∷ a ∷ []) h = absurd (omega arith)
calls_take (suc n) (s ∷ k ∷ a ∷ b ∷ []) h = absurd (omega arith)
calls_take (suc n) (s ∷ k ∷ a ∷ b ∷ c ∷ []) h = absurd (omega arith)

-- call j of the first c
pub first_at : (c j : ℕ) (ws : List ℕ) (z : StoreCall) → j < c → 6 * c ≤ length ws → get_or (take c (store_calls_of ws)) j z ≡ six (6 * j) (suc (6 * j)) ws
first_at c j ws z h l = get_or-take c (store_calls_of ws) j z h ∙ six_at j ws z (omega (arith, h, l))

pub first_length : (c : ℕ) (ws : List ℕ) → 6 * c ≤ length ws → length (take c (store_calls_of ws)) ≡ c
first_length c ws l = length-take-le c (store_calls_of ws) (omega (arith, calls_in_length (length ws / 6) ws (omega arith) (omega arith), l))

-- words of a list that is cut behind them
cut_behind : (a b n : ℕ) (l : List ℕ) → b + a ≤ n → take a (drop b (take n l)) ≡ take a (drop b l)
cut_behind a zero n l h = take-take a n l (omega (arith, h))
cut_behind a (suc b) zero l h = absurd (omega (arith, h))
cut_behind a (suc b) (suc n) [] h = refl
cut_behind a (suc b) (suc n) (x ∷ l) h = cut_behind a b n l (omega (arith, h))

-- their five words, as the slice `[1..6 * c]` has them
pub reads_six : (c : ℕ) (ws : List ℕ) → 1 ≤ c → 6 * c ≤ length ws → Reads 6 c (take (6 * c - 1) (drop 1 ws)) (calls_in (take c (store_calls_of ws)))
reads_six c ws some l =
    let long : length (take (6 * c - 1) (drop 1 ws)) ≡ 6 * c - 1 = length-take-le (6 * c - 1) (drop 1 ws) (rw (length-drop 1 ws) (omega (arith, l, some))) in
    record {
      many = length-map (take c (store_calls_of ws)) (λ (x : StoreCall). x.call) ∙ first_length c ws l;
      there = λ k h. omega (arith, h, long);
      each = λ k h.
          let z = six 0 0 [] in
          let e : 1 + k * 6 ≡ suc (6 * k) = omega arith in
          get_or-map (λ (x : StoreCall). x.call) (take c (store_calls_of ws)) k z
          ∙ ap (λ (x : StoreCall). x.call) (first_at c k ws z h l)
          ∙ ap (λ (n : ℕ). call_at (take 5 (drop n ws))) (sym e)
          ∙ ap (λ (v : List ℕ). call_at (take 5 v)) (sym (drop-drop (k * 6) 1 ws))
          ∙ ap call_at (sym (cut_behind 5 (k * 6) (6 * c - 1) (drop 1 ws) (omega (arith, h))));
    }

-- ---- their answers

-- what is behind words that are written over a part
behind : (a n : ℕ) (l : List ℕ) → a ≤ n → drop a (take n l) ++ drop n l ≡ drop a l
behind zero n l h = take-append-drop n l
behind (suc a) zero l h = absurd (omega (arith, h))
behind (suc a) (suc n) [] h = refl
behind (suc a) (suc n) (x ∷ l) h = behind a n l (omega (arith, h))

pub part_kept : (a n : ℕ) (ws l : List ℕ) → length ws ≡ length (take n (drop a l)) → length (take a l ++ (ws ++ drop n (drop a l))) ≡ length l
part_kept a n ws l e =
    length-append (take a l) (ws ++ drop n (drop a l)) ∙ ap (λ (k : ℕ). length (take a l) + k) (length_front (drop a l) ws n e)
    ∙ sym (length-append (take a l) (drop a l)) ∙ ap length (take-append-drop a l)

-- a second list of words behind the first, written over the part of the slice from there to an end
over_part : (A B slice : List ℕ) (k n : ℕ) → length A ≡ k → k + length B ≤ n → n ≤ length slice →
    take k (overwritten A slice) ++ (overwritten B (take (n - k) (drop k (overwritten A slice))) ++ drop (n - k) (drop k (overwritten A slice))) ≡ overwritten (A ++ B) slice
over_part A B slice k n e h l =
    let D = drop (length A) slice in
    let front : take k (A ++ D) ≡ A = take_at A D k e in
    let rest : drop k (A ++ D) ≡ D = drop_at A D k e in
    let app : (x y z : List ℕ) → (x ++ y) ++ z ≡ x ++ (y ++ z) = assoc in
    (λ i. front i ++ (overwritten B (take (n - k) (rest i)) ++ drop (n - k) (rest i)))
    ∙ ap (λ (v : List ℕ). A ++ v) (app B (drop (length B) (take (n - k) D)) (drop (n - k) D) ∙ ap (λ (v : List ℕ). B ++ v) (behind (length B) (n - k) D (omega (arith, h))))
    ∙ sym (app A B (drop (length B) D))
    ∙ ap (λ (v : List ℕ). (A ++ B) ++ v) (drop-drop (length B) (length A) slice ∙ ap (λ (j : ℕ). drop j slice) (sym (length-append A B)))
  where
    assoc : (x y z : List ℕ) → (x ++ y) ++ z ≡ x ++ (y ++ z)
    assoc [] y z = refl
    assoc (a ∷ x) y z = ap (λ (v : List ℕ). a ∷ v) (assoc x y z)

module _ (w : Parameters) where
  last_append : (r : Stores) (xs ys : List StoreCall) → last_in w r (xs ++ ys) ≡ last_in w (last_in w r xs) ys
  unfolding last_in
  last_append r [] ys = refl
  last_append r (x ∷ xs) ys = last_append (step_in w r x) xs ys

  answers_append : (r : Stores) (xs ys : List StoreCall) → answers_in w r (xs ++ ys) ≡ answers_in w r xs ++ answers_in w (last_in w r xs) ys
  unfolding answers_in last_in
  answers_append r [] ys = refl
  answers_append r (x ∷ xs) ys = ap (λ (l : List Answer). answer_in w r x ∷ l) (answers_append (step_in w r x) xs ys)

  words_length : (r : Stores) (xs : List StoreCall) → length (answer_words (answers_in w r xs)) ≡ 2 * length xs
  unfolding answers_in
  words_length r [] = refl
  words_length r (x ∷ xs) = omega (arith, words_length (step_in w r x) xs)

  -- c calls more than the first k of a list of n
  module _ (s : Stores) (calls : List ℕ) (k c n : ℕ) (fits : 6 * n ≤ length calls) (inside : k + c ≤ n) where
    abbrev cs : List StoreCall
    cs = store_calls_of calls

    -- the words of the calls from k to n, as the slice `[6 * k..6 * n]` has them
    abbrev rest : List ℕ
    rest = take (6 * n - 6 * k) (drop (6 * k) calls)

    abbrev now : List StoreCall
    now = take c (store_calls_of rest)

    many : n ≤ length cs
    many = omega (arith, calls_in_length (length calls / 6) calls (omega arith) (omega arith), fits)

    rest_is : now ≡ take c (drop k cs)
    rest_is =
        let e : 6 * n - 6 * k ≡ 6 * (n - k) = omega (arith, inside) in
        ap (λ (j : ℕ). take c (store_calls_of (take j (drop (6 * k) calls)))) e
        ∙ ap (take c) (calls_take (n - k) (drop (6 * k) calls) (rw (length-drop (6 * k) calls) (omega (arith, fits, inside))))
        ∙ take-take c (n - k) (store_calls_of (drop (6 * k) calls)) (omega (arith, inside))
        ∙ ap (take c) (calls_drop k calls (omega (arith, fits, inside)))

    all_more : take (k + c) cs ≡ take k cs ++ now
    all_more = take-add k c cs ∙ ap (λ (xs : List StoreCall). take k cs ++ xs) (sym rest_is)

    pub stores_more : last_in w s (take (k + c) cs) ≡ last_in w (last_in w s (take k cs)) now
    stores_more = ap (last_in w s) all_more ∙ last_append s (take k cs) now

    pub written_more : (slice slice' : List ℕ) → slice' ≡ overwritten (answer_words (answers_in w s (take k cs))) slice → 2 * n ≤ length slice → (ws : List ℕ) →
        ws ≡ overwritten (answer_words (answers_in w (last_in w s (take k cs)) now)) (take (2 * n - 2 * k) (drop (2 * k) slice')) →
        take (2 * k) slice' ++ (ws ++ drop (2 * n - 2 * k) (drop (2 * k) slice')) ≡ overwritten (answer_words (answers_in w s (take (k + c) cs))) slice
    written_more slice slice' e long ws f =
        let A = answer_words (answers_in w s (take k cs)) in
        let B = answer_words (answers_in w (last_in w s (take k cs)) now) in
        let a : length A ≡ 2 * k = words_length s (take k cs) ∙ ap (λ (j : ℕ). 2 * j) (length-take-le k cs (omega (arith, many, inside))) in
        let size : length now ≡ c = ap length rest_is ∙ length-take-le c (drop k cs) (rw (length-drop k cs) (omega (arith, many, inside))) in
        let b : length B ≡ 2 * c = words_length (last_in w s (take k cs)) now ∙ ap (λ (j : ℕ). 2 * j) size in
        ap (λ (v : List ℕ). take (2 * k) slice' ++ (v ++ drop (2 * n - 2 * k) (drop (2 * k) slice'))) f
        ∙ ap (λ (v : List ℕ). take (2 * k) v ++ (overwritten B (take (2 * n - 2 * k) (drop (2 * k) v)) ++ drop (2 * n - 2 * k) (drop (2 * k) v))) e
        ∙ over_part A B slice (2 * k) (2 * n) a (omega (arith, b, inside)) long
        ∙ ap (λ (v : List ℕ). overwritten v slice) (sym (words_append (answers_in w s (take k cs)) (answers_in w (last_in w s (take k cs)) now))
        ∙ ap answer_words (sym (answers_append s (take k cs) now)))
        ∙ ap (λ (xs : List StoreCall). overwritten (answer_words (answers_in w s xs)) slice) (sym all_more)

pub all_done : (calls : List ℕ) (k : ℕ) → length calls / 6 ≤ k → take k (store_calls_of calls) ≡ store_calls_of calls
all_done calls k h = take_all k (store_calls_of calls) (omega (arith, calls_in_length (length calls / 6) calls (omega arith) (omega arith), h))
