-- A list that is tried: call by call, its beginning, and what the search and the writing make of the numbers kept.
use Rattle.std.specs.Prelude.{◌==◌, ◌≢◌, Option, Some, None}
use Prim.Native.Nat.{ℕ, zero, suc, ◌+◌, ◌-◌, ◌*◌, ◌/◌, ◌^◌, ◌≤◌, ◌<◌}
use mathlib.Core.Path.{◌≡◌, refl, sym, ap, subst, ◌∙◌}
use mathlib.Core.Bool.{Bool, true, false}
use mathlib.Core.List.{List, [], ◌∷◌, ◌++◌, map-append, append_assoc}
use native.Mathlib.Omega.{arith}
use native.Mathlib.Numerals.{add-one}
use borrow.Author.Tests.{ltb-true, ltb-false, eqb-true, eqb-false, eq-eqb}
use lib.Dec.{ltb, eqb}
use Rattle.std.specs.Option.{option_eq}
use lib.ListN.{length, get_or, take, drop, length-append, length-drop, length-map}
use lib.Seq.{take-suc, take_at, take-append_seam, drop_at, drop-drop, length-take-le, get_or-take}
use Rattle.lists.specs.Lists.{overwritten, concat_map, without}
use borrow.Rule.Slice.PartMut.{put_mid}
use Rattle.graph.specs.WellFormed.{Bounds, Within}
use Rattle.history.specs.Machine.{Machine, fresh}
use Rattle.image.specs.Image.{load}
use Rattle.image_tables.specs.Filling.{CanLoad}
use Rattle.graph_tables.specs.Capacities.{Sized}
use Rattle.commands.specs.Calls.{Call, call_at}
use Rattle.commands.specs.Commands.{command_of}
use Rattle.commands.specs.declared.Answer.{Answer}
use Rattle.machine.specs.Calls.{Parameters}
use Rattle.machine.specs.Machine.{answer, answers, last}
use Rattle.machine.proofs.Whole.{answered}
use Rattle.history_calls.specs.declared.Store.{Store}
use Rattle.history_calls.specs.declared.Called.{Called}
use Rattle.history_calls.specs.Memory.{Memory, memory, tables_of}
use Rattle.history_calls.specs.Represents.{Represents}
use Rattle.engine.specs.Running.{Running, Answered}
use Rattle.engine.proofs.CallLaws.{call_at_lem, last_more}
use Rattle.engine.proofs.RunLaws.{can_load, running}
use Rattle.marks.specs.Marked.{mark_words}
use Rattle.reduction.specs.declared.Trying.{Trying}
use Rattle.reduction.specs.Reduction.{Reduced, reduced, reduced_from}
use Rattle.reduction.specs.Trials.{last_of, call_numbered, calls_at, left_out, Numbered, Ready}
use Rattle.reduction.specs.Outcomes.{words_of, Searched}
use Rattle.reduction.proofs.ReductionLaws.{searching, search_begins, search_ends, search_drops, search_keeps}
use Rattle.lists.proofs.Without.{without_length, without_before, without_behind, without_most, take_without, take_before, map_without}

-- ---- one number more

-- behind the one that is left out
without_last : {A : Type 0} (s : ℕ) (xs : List A) (x : A) → s ≢ length xs → without s (xs ++ (x ∷ [])) ≡ without s xs ++ (x ∷ [])
without_last zero [] x h = absurd (h refl)
without_last (suc s) [] x h = refl
without_last zero (y ∷ xs) x h = refl
without_last {A} (suc s) (y ∷ xs) x h = ap (λ (l : List A). y ∷ l) (without_last s xs x (λ e. h (ap suc e)))

left_more : (skip : Option ℕ) (kept : List ℕ) (i : ℕ) → i < length kept → skip ≢ Some i
    → left_out skip (take (suc i) kept) ≡ left_out skip (take i kept) ++ (get_or kept i 0 ∷ [])
left_more None kept i h d = take-suc kept i 0 h
left_more (Some s) kept i h d =
    ap (without s) (take-suc kept i 0 h)
    ∙ without_last s (take i kept) (get_or kept i 0) (λ e. d (ap Some (e ∙ length-take-le i kept (omega arith))))

-- the one at `skip` adds nothing
pub left_same : (calls kept : List ℕ) (skip : Option ℕ) (i : ℕ) → i < length kept → skip ≡ Some i
    → calls_at calls (left_out skip (take (i + 1) kept)) ≡ calls_at calls (left_out skip (take i kept))
left_same calls kept skip i h e =
    rw e (
    ap (λ (j : ℕ). calls_at calls (without i (take j kept))) (add-one i)
    ∙ ap (calls_at calls) (sym (take_without i i kept (omega arith)) ∙ take_before i kept
    ∙ sym (without_most i (take i kept) (omega (arith, length-take-le i kept (omega arith)))))
    )

tried_more : (calls kept : List ℕ) (skip : Option ℕ) (i : ℕ) → i < length kept → skip ≢ Some i
    → calls_at calls (left_out skip (take (i + 1) kept)) ≡ calls_at calls (left_out skip (take i kept)) ++ (call_numbered calls (get_or kept i 0) ∷ [])
tried_more calls kept skip i h d =
    ap (λ (j : ℕ). calls_at calls (left_out skip (take j kept))) (add-one i)
    ∙ ap (calls_at calls) (left_more skip kept i h d)
    ∙ map-append (call_numbered calls) (left_out skip (take i kept)) (get_or kept i 0 ∷ [])

-- ---- one call more

last_of_more : (c : ℕ) (xs : List Answer) (x : Answer) → last_of c (xs ++ (x ∷ [])) ≡ x.code
last_of_more c [] x = refl
last_of_more c (y ∷ xs) x = last_of_more y.code xs x

-- what holds after some calls: the machine's state stands, and the code is that of the last one
pub record Tried (w : Parameters) (m : Machine) (xs : List Call) (y : Store) (mem : Memory) (closed : List ℕ) (types code : ℕ) : Type 0 where
  pub after : Running w y mem closed types (last w m xs)
  pub coded : code ≡ last_of 0 (answers w m xs)

tried_none : (w : Parameters) (m : Machine) (y : Store) (mem : Memory) (closed : List ℕ) (types : ℕ) → Running w y mem closed types m → Tried w m [] y mem closed types 0
unfolding last answers
tried_none w m y mem closed types h = record { after = h; coded = refl }

pub tried_begins : (calls : List ℕ) (skip : Option ℕ) (w : Parameters) (m : Machine) (y : Store) (mem : Memory) (closed : List ℕ) (types : ℕ)
    → Running w y mem closed types m → Tried w m (calls_at calls (left_out skip [])) y mem closed types 0
tried_begins calls None w m y mem closed types h = tried_none w m y mem closed types h
tried_begins calls (Some s) w m y mem closed types h = tried_none w m y mem closed types h

-- what a comparison with the one at `skip` says
pub is_skipped : (skip : Option ℕ) (i : ℕ) → true ≡ option_eq eqb skip (Some i) → skip ≡ Some i
is_skipped None i e = cc
is_skipped (Some s) i e = ap Some (eqb-true s i (sym e))

pub not_skipped : (skip : Option ℕ) (i : ℕ) → false ≡ option_eq eqb skip (Some i) → skip ≢ Some i
not_skipped skip i e f =
    let g : false ≡ eqb i i = rw f at e in
    let h = eq-eqb i i refl in
    cc

module _ (w : Parameters) (m : Machine) (calls kept : List ℕ) (skip : Option ℕ) (i : ℕ) (y : Store) (mem : Memory) (closed : List ℕ) (types code : ℕ)
    (h : Tried w m (calls_at calls (left_out skip (take i kept))) y mem closed types code) where
  pub tried_one : i < length kept → skip ≢ Some i → get_or kept i 0 < length calls / 5 → (ws : List ℕ)
      → ws ≡ take 5 (drop (5 * get_or kept i 0) calls) → (d : Called) (mem' : Memory)
      → ((v : Parameters) → (n : Machine) → Running v y mem closed types n → Answered v v.changes n (command_of (call_at ws)) d mem' closed types)
      → Tried w m (calls_at calls (left_out skip (take (i + 1) kept))) d.store mem' closed types d.answer.code
  unfolding answers
  tried_one l o u ws f d mem' g =
      let k = get_or kept i 0 in
      let xs = calls_at calls (left_out skip (take i kept)) in
      let now = last w m xs in
      let a = g w now h.after in
      let x : call_at ws ≡ call_numbered calls k =
      ap call_at f ∙ sym (call_at_lem k calls (call_at []) (omega arith)) in
      let all : xs ++ (call_at ws ∷ []) ≡ calls_at calls (left_out skip (take (i + 1) kept)) =
      ap (λ (z : Call). xs ++ (z ∷ [])) x ∙ sym (tried_more calls kept skip i l o) in
      let r : Tried w m (xs ++ (call_at ws ∷ [])) d.store mem' closed types d.answer.code = record {
        after = subst (λ (n : Machine). Running w d.store mem' closed types n) (sym (last_more w m xs (call_at ws))) a.after;
        coded = ap (λ (z : Answer). z.code) a.answered ∙ sym (ap (last_of 0) (answered w m xs [] (call_at ws)) ∙ last_of_more 0 (answers w m xs) (answer w now (call_at ws)));
      } in
      subst (λ (zs : List Call). Tried w m zs d.store mem' closed types d.answer.code) all r

  pub tried_skips : i < length kept → skip ≡ Some i → Tried w m (calls_at calls (left_out skip (take (i + 1) kept))) y mem closed types code
  tried_skips l e = subst (λ (zs : List Call). Tried w m zs y mem closed types code) (sym (left_same calls kept skip i l e)) h

-- ---- a beginning

-- what `begin` ensures
abbrev Begins : List ℕ → Store → List ℕ → List ℕ → Type 0
Begins start x vertices edges =
    (b : Bounds) → (journal marks : List ℕ) → Sized b (tables_of x (memory vertices edges journal marks)) → Within b (load start)
    → length journal < 2 ^ 32 → length marks ≡ mark_words → Represents b x (memory vertices edges journal marks) (fresh (load start))

module _ (w : Parameters) (start vertices edges journal closed : List ℕ) (types : ℕ) (h : Ready w start vertices edges journal closed types) where
  pub ready_loads : CanLoad start vertices edges
  ready_loads = can_load w start vertices edges h.setting.limits h.setting.vertices h.setting.edges h.start_loads

  -- tables of the same lengths will do
  pub ready_again : (vertices' edges' journal' : List ℕ) → length vertices' ≡ length vertices → length edges' ≡ length edges → length journal' ≡ length journal
      → Ready w start vertices' edges' journal' closed types
  ready_again vertices' edges' journal' v e j = record {
    setting = record {
      limits = h.setting.limits;
      vertices = h.setting.vertices ∙ ap (λ (n : ℕ). n / 8) (sym v);
      edges = h.setting.edges ∙ ap (λ (n : ℕ). n / 12) (sym e);
      changes = h.setting.changes ∙ ap (λ (n : ℕ). n / 12) (sym j);
      rows = h.setting.rows;
      closed_rows = h.setting.closed_rows;
      types_in = h.setting.types_in;
    };
    start_loads = h.start_loads;
  }

  pub ready_runs : (x : Store) (vertices' edges' marks : List ℕ) → length vertices' ≡ length vertices → length edges' ≡ length edges → length marks ≡ mark_words
      → Begins start x vertices' edges' → Running w x (memory vertices' edges' journal marks) closed types (fresh (load start))
  ready_runs x vertices' edges' marks v e =
      let r = (ready_again vertices' edges' journal v e refl).setting in
      running w start x (memory vertices' edges' journal marks) closed types
      (record {
        limits = r.limits;
        vertices = r.vertices;
        edges = r.edges;
        changes = r.changes;
        rows = r.rows;
        closed_rows = r.closed_rows;
        types_in = r.types_in;
      })
      h.start_loads

-- ---- the calls written

five_is : (ws : List ℕ) → length ws ≡ 5 → words_of (call_at ws) ≡ ws
five_is (k ∷ a ∷ b ∷ c ∷ d ∷ []) h = refl
five_is (k ∷ a ∷ b ∷ c ∷ d ∷ e ∷ ws) h = absurd (omega arith)
five_is [] h = absurd (omega arith)
five_is (k ∷ []) h = absurd (omega arith)
five_is (k ∷ a ∷ []) h = absurd (omega arith)
five_is (k ∷ a ∷ b ∷ []) h = absurd (omega arith)
five_is (k ∷ a ∷ b ∷ c ∷ []) h = absurd (omega arith)

five_at : (calls : List ℕ) (k : ℕ) → k < length calls / 5 → words_of (call_numbered calls k) ≡ take 5 (drop (5 * k) calls)
five_at calls k h =
    ap words_of (call_at_lem k calls (call_at []) (omega arith))
    ∙ five_is (take 5 (drop (5 * k) calls)) (length-take-le 5 (drop (5 * k) calls) (rw length-drop (omega arith)))

concat_more : (xs : List Call) (x : Call) → concat_map words_of (xs ++ (x ∷ [])) ≡ concat_map words_of xs ++ words_of x
concat_more [] x = refl
concat_more (y ∷ xs) x = ap (λ (l : List ℕ). words_of y ++ l) (concat_more xs x)

pub concat_length : (xs : List Call) → length (concat_map words_of xs) ≡ 5 * length xs
concat_length [] = refl
concat_length (x ∷ xs) = omega (arith, concat_length xs)

-- the calls of the first n numbers, at the front of a list
abbrev pub written : List ℕ → List ℕ → ℕ → List ℕ → List ℕ
written calls kept n list = overwritten (concat_map words_of (calls_at calls (take n kept))) list

-- words behind those at the front
over_put : (A ws list : List ℕ) (at k : ℕ) → at ≡ length A → k ≡ length ws → put_mid at k (overwritten A list) ws ≡ overwritten (A ++ ws) list
over_put A ws list at k e f =
    rw (e, f)
    (ap (λ (l : List ℕ). l ++ (ws ++ drop (length ws) (drop (length A) (A ++ drop (length A) list)))) (take-append_seam A (drop (length A) list))
    ∙ ap (λ (l : List ℕ). A ++ (ws ++ drop (length ws) l)) (drop_at A (drop (length A) list) (length A) refl)
    ∙ ap (λ (l : List ℕ). A ++ (ws ++ l)) (drop-drop (length ws) (length A) list ∙ ap (λ (j : ℕ). drop j list) (sym (length-append A ws)))
    ∙ sym (append_assoc A ws (drop (length (A ++ ws)) list)))

pub written_more : (calls kept list ws : List ℕ) (i n : ℕ) → i < length kept → get_or kept i 0 < length calls / 5
    → ws ≡ take 5 (drop (5 * get_or kept i 0) calls) → n ≡ 5 → put_mid (5 * i) n (written calls kept i list) ws ≡ written calls kept (i + 1) list
written_more calls kept list ws i n h u e f =
    let xs = calls_at calls (take i kept) in
    let A = concat_map words_of xs in
    let x = call_numbered calls (get_or kept i 0) in
    let m : length xs ≡ i = length-map (take i kept) (call_numbered calls) ∙ length-take-le i kept (omega arith) in
    let a : length A ≡ 5 * i = concat_length xs ∙ ap (λ (j : ℕ). 5 * j) m in
    let w : ws ≡ words_of x = e ∙ sym (five_at calls (get_or kept i 0) u) in
    let all : xs ++ (x ∷ []) ≡ calls_at calls (take (i + 1) kept) =
    sym (map-append (call_numbered calls) (take i kept) (get_or kept i 0 ∷ []))
    ∙ ap (calls_at calls) (sym (take-suc kept i 0 h)) ∙ ap (λ (j : ℕ). calls_at calls (take j kept)) (sym (add-one i)) in
    ap (put_mid (5 * i) n (written calls kept i list)) w
    ∙ over_put A (words_of x) list (5 * i) n (sym a) f
    ∙ ap (λ (l : List ℕ). overwritten l list) (sym (concat_more xs x))
    ∙ ap (λ (zs : List Call). overwritten (concat_map words_of zs) list) all

-- ---- the words of a call, as a part of the list

pub five_words : (calls : List ℕ) (k at : ℕ) → at ≡ 5 * k → k < length calls / 5 → length (take (at + 5 - at) (drop at calls)) ≡ 5
five_words calls k at e h =
    let n : at + 5 - at ≡ 5 = omega arith in
    rw n (length-take-le 5 (drop at calls) (rw length-drop (omega (arith, e))))

pub five_part : (calls : List ℕ) (k at : ℕ) → at ≡ 5 * k → take (at + 5 - at) (drop at calls) ≡ take 5 (drop (5 * k) calls)
five_part calls k at e =
    let n : at + 5 - at ≡ 5 = omega arith in
    ap (λ (j : ℕ). take j (drop at calls)) n ∙ ap (λ (j : ℕ). take 5 (drop j calls)) e

-- ---- the numbers at the front

pub front_numbered : (calls kept : List ℕ) (n : ℕ) → Numbered calls kept n → Numbered calls (take n kept) (length (take n kept))
front_numbered calls kept n h =
    let m = length-take-le n kept h.fits in
    record {
      fits = omega arith;
      few = omega (arith, h.few);
      numbers = λ i l. rw (get_or-take n kept i 0 (omega arith)) (h.numbers i (omega arith));
    }

-- ---- after a trial

-- one dropped: the numbers kept are those without it
module _ (calls kept kept' : List ℕ) (at count : ℕ) (s : at < count) (e : kept' ≡ without at (take count kept) ++ drop (count - 1) kept) (h : Numbered calls kept count) where
  dropped_length : length (without at (take count kept)) ≡ count - 1
  dropped_length =
      let t = length-take-le count kept h.fits in
      omega (arith, without_length at (take count kept) (omega arith))

  pub dropped_front : take (count - 1) kept' ≡ without at (take count kept)
  dropped_front = ap (take (count - 1)) e ∙ take_at (without at (take count kept)) (drop (count - 1) kept) (count - 1) dropped_length

  pub dropped_calls : calls_at calls (take (count - 1) kept') ≡ without at (calls_at calls (take count kept))
  dropped_calls = ap (calls_at calls) dropped_front ∙ map_without (call_numbered calls) at (take count kept)

  pub dropped_numbered : length kept' ≡ length kept → Numbered calls kept' (count - 1)
  dropped_numbered l = record {
    fits = omega (arith, h.fits);
    few = omega (arith, h.few);
    numbers = λ i k. rw (at_front i k) (pick i (ltb i at) refl k);
  }
    where
      at_front : (i : ℕ) → i < count - 1 → get_or kept' i 0 ≡ get_or (without at (take count kept)) i 0
      at_front i k = sym (get_or-take (count - 1) kept' i 0 k) ∙ ap (λ (l : List ℕ). get_or l i 0) dropped_front

      pick : (i : ℕ) (t : Bool) → ltb i at ≡ t → i < count - 1 → get_or (without at (take count kept)) i 0 < length calls / 5
      pick i true f k = rw (without_before at i (take count kept) 0 (ltb-true i at f), get_or-take count kept i 0 (omega arith)) (h.numbers i (omega arith))
      pick i false f k = rw (without_behind at i (take count kept) 0 (ltb-false i at f), get_or-take count kept (suc i) 0 (omega arith)) (h.numbers (suc i) (omega arith))

-- ---- the search, trial by trial

pub calls_many : (calls kept : List ℕ) (n : ℕ) → Numbered calls kept n → length (calls_at calls (take n kept)) ≡ n
calls_many calls kept n h = length-map (take n kept) (call_numbered calls) ∙ length-take-le n kept h.fits

-- what a trial leaves of the state: the search goes on inside the list, and something less is left to try
pub record Stepped (calls kept' : List ℕ) (s r : Trying) : Type 0 where
  pub inside : r.at ≤ r.count - 1
  pub fewer : r.count ≤ s.count
  pub numbered : Numbered calls kept' r.count
  pub less : 20001 * r.count - r.at + 1 ≤ 20001 * s.count - s.at

module _ (calls kept kept' : List ℕ) (s r : Trying) (wanted got : ℕ) (h : Numbered calls kept s.count) (l : s.at + 1 < s.count) (k : length kept' ≡ length kept)
    (yes : (got == wanted) ≡ true → (r.count ≡ s.count - 1) × (r.at ≡ 0) × (kept' ≡ without s.at (take s.count kept) ++ drop (s.count - 1) kept))
    (no : (got == wanted) ≡ false → (r.count ≡ s.count) × (r.at ≡ s.at + 1) × (kept' ≡ kept)) where
  pub search_state : Stepped calls kept' s r
  search_state = go (got == wanted) refl
    where
      go : (t : Bool) → (got == wanted) ≡ t → Stepped calls kept' s r
      go true e =
          let y = yes e in
          let q = h.few in
          record {
            inside = omega (arith, y.0, y.1);
            fewer = omega (arith, y.0);
            numbered = subst (Numbered calls kept') (sym y.0) (dropped_numbered calls kept kept' s.at s.count (omega arith) y.2 h k);
            less = omega (arith, y.0, y.1);
          }
      go false e =
          let y = no e in
          record {
            inside = omega (arith, y.0, y.1);
            fewer = omega (arith, y.0);
            numbered = subst (λ (n : ℕ). Numbered calls kept' n) (sym y.0) (subst (λ (ks : List ℕ). Numbered calls ks s.count) (sym y.2) h);
            less = omega (arith, y.0, y.1);
          }

  pub search_step : (code : List Call → ℕ) (runs : ℕ) → got ≡ code (calls_at calls (left_out (Some s.at) (take s.count kept)))
      → searching code wanted s.at (calls_at calls (take s.count kept)) runs ≡ searching code wanted r.at (calls_at calls (take r.count kept')) (runs + 1)
  search_step code runs e = go (got == wanted) refl
    where
      xs : List Call
      xs = calls_at calls (take s.count kept)

      many : length (calls_at calls (take s.count kept)) ≡ s.count
      many = calls_many calls kept s.count h

      codes : got ≡ code (without s.at (calls_at calls (take s.count kept)))
      codes = e ∙ ap code (map_without (call_numbered calls) s.at (take s.count kept))

      go : (t : Bool) → (got == wanted) ≡ t
          → searching code wanted s.at (calls_at calls (take s.count kept)) runs ≡ searching code wanted r.at (calls_at calls (take r.count kept')) (runs + 1)
      go true f =
          let y = yes f in
          let d : without s.at (calls_at calls (take s.count kept)) ≡ calls_at calls (take r.count kept') =
          sym (ap (λ (n : ℕ). calls_at calls (take n kept')) y.0 ∙ dropped_calls calls kept kept' s.at s.count (omega arith) y.2 h) in
          let m = many in
          search_drops code wanted s.at (calls_at calls (take s.count kept)) runs (omega arith) (sym codes ∙ eqb-true got wanted f)
          ∙ (λ i. searching code wanted (sym y.1 i) (d i) (runs + 1))
      go false f =
          let y = no f in
          let m = many in
          search_keeps code wanted s.at (calls_at calls (take s.count kept)) runs (omega arith) (λ z. eqb-false got wanted f (codes ∙ z))
          ∙ (λ i. searching code wanted (sym y.1 i) (calls_at calls (take (sym y.0 i) (sym y.2 i))) (runs + 1))

-- it begins with the list as sent
pub search_starts : (code : List Call → ℕ) (wanted : ℕ) (xs : List Call) → wanted ≡ code xs → searching code wanted 0 xs 1 ≡ reduced code xs
unfolding reduced
search_starts code wanted xs e = search_begins code wanted (length xs) xs 1 refl ∙ ap (λ (c : ℕ). reduced_from code c (length xs) xs 1) e

-- and ends with what is left
pub search_left : (code : List Call → ℕ) (wanted : ℕ) (calls kept : List ℕ) (s : Trying) (n runs : ℕ) (whole : Reduced Call)
    → Numbered calls kept s.count → s.count ≤ n → s.at ≤ s.count - 1 → s.count ≤ s.at + 1
    → searching code wanted s.at (calls_at calls (take s.count kept)) runs ≡ whole
    → Searched calls kept n (record { code = 0; kept = s.count; runs = runs }) whole
search_left code wanted calls kept s n runs whole h l i j e =
    let m = calls_many calls kept s.count h in
    let q = sym (search_ends code wanted s.at (calls_at calls (take s.count kept)) runs (omega arith) (omega arith)) ∙ e in
    record {
      code = refl;
      runs = ap (λ (z : Reduced Call). z.runs) q;
      few = l;
      numbered = h;
      left = ap (λ (z : Reduced Call). z.kept) q;
    }
