-- One store with L its capacity of changes (REFERENCE 21.9): the run of K = 1 is the run of one store where no word
-- stands behind the start image, and what else it can be where one does.
use Rattle.std.specs.Prelude.{◌==◌}
use Prim.Native.Nat.{ℕ, suc, ◌+◌, ◌-◌, ◌*◌, ◌/◌, ◌%◌, ◌≤◌, ◌<◌}
use mathlib.Core.Path.{◌≡◌, refl, sym, ap, ◌∙◌, subst}
use mathlib.Core.Logic.{◌⊎◌, inl, inr, ⊎_elim}
use mathlib.Core.Bool.{Bool, true, false, not, ◌&&◌}
use mathlib.Core.List.{List, [], ◌∷◌, ◌++◌, map}
use native.Mathlib.Omega.{arith}
use lib.ListN.{length, take, drop, drop_of_length-le}
use lib.Seq.{take_all}
use lib.Dec.{ltb}
use borrow.Author.Tests.{eqb-true, ne_eqb}
use Rattle.lists.specs.Choice.{◌⇒◌else◌, within}
use Rattle.lists.specs.Lists.{sum_of, overwritten}
use Rattle.type_rows.specs.Rows.{good_rows}
use Rattle.graph.specs.WellFormed.{Bounds}
use Rattle.graph.specs.Limits.{most_vertices, most_edges, most_changes}
use Rattle.image.specs.Image.{image_length, save, load, loadable}
use Rattle.image_check.specs.Checks.{verdict, code_of, offset_of, load_code, load_offset}
use Rattle.image.proofs.Loads.{loaded}
use Rattle.graph.specs.Graph.{Graph}
use Rattle.history.specs.Machine.{Machine, fresh, present}
use Rattle.history.proofs.Timelines.{costs_take}
use Rattle.commands.specs.Calls.{Call, calls_of}
use Rattle.commands.specs.declared.Answer.{Answer}
use Rattle.machine.specs.Calls.{Parameters, bounds_in}
use Rattle.machine.specs.Machine.{answer, answers, step, last}
use Rattle.machine.specs.Run.{Lent, parameters_of, number_beside, answer_words, list_refusal, list_number, accepted, refused, run}
use Rattle.machine.specs.Posed.{roomed}
use Rattle.machine.specs.Stores.{Stores, StoreCall, store_calls_of, spent_by, joint_room, is_store, answer_in, step_in, answers_in, last_in}
use Rattle.machine.specs.StoreRun.{parameters_in, stated_length, start_of, starts_code, starts_offset, stores_refusal, stores_number, opened, after_in, images_of, images, over_parts, accepted_in}
use Rattle.machine.specs.StoreRun.{run_in, NoneBehind, to_store1, as_one}
use Rattle.machine.proofs.CostsFit.{CostsFit, costs_fit_fresh, costs_fit_step}
use Rattle.machine.proofs.ListRows.{passed}
use Rattle.machine.proofs.OneStart.{stated, behind, no_number, cut, whole, start_one, offset_one, left, left_code, left_offset}
use Rattle.machine.proofs.Demands.{refused_is}
use Rattle.machine.proofs.Rooms.{roomed_is}
use Rattle.machine.proofs.StoreWhole.{refused_in}
use Rattle.machine.proofs.StoreLaws.{limits_stay, own_step, own_answer, limits_last}
use Rattle.std.specs.Prelude.{Ok, Err}
use Rattle.image_check.specs.declared.BadImage.TheVariants.{Header, Record, Incidence}
use Rattle.image_check.specs.Checks.{Verdict}

one_part : (n : ℕ) → n / 1 ≡ n
one_part n = omega arith

-- ---- the calls

abbrev to1 : Call → StoreCall
to1 x = record { store = 1; call = x }

calls_one : (ws : List ℕ) → store_calls_of (to_store1 ws) ≡ map to1 (calls_of ws)
calls_one (k ∷ a ∷ b ∷ c ∷ d ∷ ws) = ap (λ (xs : List StoreCall). record { store = 1; call = record { kind = k; a = a; b = b; c = c; d = d } } ∷ xs) (calls_one ws)
calls_one [] = refl
calls_one (k ∷ []) = refl
calls_one (k ∷ a ∷ []) = refl
calls_one (k ∷ a ∷ b ∷ []) = refl
calls_one (k ∷ a ∷ b ∷ c ∷ []) = refl

record Sizes (five six : ℕ) : Type 0 where
  calls : ℕ
  rest : ℕ
  few : rest ≤ 4
  fives : five ≡ 5 * calls + rest
  sixes : six ≡ 6 * calls + rest

sizes : (ws : List ℕ) → Sizes (length ws) (length (to_store1 ws))
sizes (k ∷ a ∷ b ∷ c ∷ d ∷ ws) =
    let s = sizes ws in
    record { calls = suc s.calls; rest = s.rest; few = s.few; fives = omega (arith, s.fives); sixes = omega (arith, s.sixes) }
sizes [] = record { calls = 0; rest = 0; few = omega arith; fives = refl; sixes = refl }
sizes (k ∷ []) = record { calls = 0; rest = 1; few = omega arith; fives = refl; sixes = refl }
sizes (k ∷ a ∷ []) = record { calls = 0; rest = 2; few = omega arith; fives = refl; sixes = refl }
sizes (k ∷ a ∷ b ∷ []) = record { calls = 0; rest = 3; few = omega arith; fives = refl; sixes = refl }
sizes (k ∷ a ∷ b ∷ c ∷ []) = record { calls = 0; rest = 4; few = omega arith; fives = refl; sixes = refl }

count_one : (ws : List ℕ) → length (to_store1 ws) / 6 ≡ length ws / 5
count_one ws = let s = sizes ws in omega (arith, s.few, s.fives, s.sixes)

rest_one : (ws : List ℕ) → length (to_store1 ws) % 6 ≡ length ws % 5
rest_one ws = let s = sizes ws in omega (arith, s.few, s.fives, s.sixes)

length_one : (xs : List Call) → length (map to1 xs) ≡ length xs
length_one [] = refl
length_one (x ∷ xs) = ap suc (length_one xs)

-- ---- the machine

module _ (w : Parameters) where
  record One (s : Stores) : Type 0 where
    one : s.count ≡ 1
    all : s.limit ≡ w.changes
    fit : CostsFit w (s.machine 1)

  module _ (s : Stores) (o : One s) (x : Call) where
    is_store_lem : is_store s 1 ≡ true
    is_store_lem = ap (λ (k : ℕ). within 1 k 1) o.one

    room_one : roomed w (s.machine 1) (joint_room s) ≡ w
    unfolding joint_room CostsFit
    room_one =
        let j = ap (λ (k : ℕ). spent_by k s.machine) o.one in
        roomed_is w (s.machine 1) (s.limit - spent_by s.count s.machine)
        (omega (arith, j, o.all, o.fit, costs_take (s.machine 1).line.place (s.machine 1).line.steps))

    step_one : (step_in w s (to1 x)).machine 1 ≡ step w (s.machine 1) x
    step_one = own_step w s (to1 x) 1 is_store_lem refl ∙ ap (λ (v : Parameters). step v (s.machine 1) x) room_one

    answer_one : answer_in w s (to1 x) ≡ answer w (s.machine 1) x
    answer_one = own_answer w s (to1 x) 1 is_store_lem refl ∙ ap (λ (v : Parameters). answer v (s.machine 1) x) room_one

    one_stays : One (step_in w s (to1 x))
    one_stays = record {
      one = (limits_stay w s (to1 x)).0 ∙ o.one;
      all = (limits_stay w s (to1 x)).1 ∙ o.all;
      fit = subst (CostsFit w) (sym step_one) (costs_fit_step w (s.machine 1) x o.fit);
    }

  answers_one : (s : Stores) → One s → (xs : List Call) → answers_in w s (map to1 xs) ≡ answers w (s.machine 1) xs
  unfolding answers_in answers
  answers_one s o [] = refl
  answers_one s o (x ∷ xs) =
      let rest = answers_one (step_in w s (to1 x)) (one_stays s o x) xs ∙ ap (λ (m : Machine). answers w m xs) (step_one s o x) in
      λ i. answer_one s o x i ∷ rest i

  last_one : (s : Stores) → One s → (xs : List Call) → (last_in w s (map to1 xs)).machine 1 ≡ last w (s.machine 1) xs
  unfolding last_in last
  last_one s o [] = refl
  last_one s o (x ∷ xs) = last_one (step_in w s (to1 x)) (one_stays s o x) xs ∙ ap (λ (m : Machine). last w m xs) (step_one s o x)

over_one : (image ws : List ℕ) (n : ℕ) → n ≡ length ws → overwritten image (take n ws) ++ drop n ws ≡ overwritten image ws
over_one image ws n e =
    let t : take n ws ≡ ws = take_all n ws (omega arith) in
    let d : drop n ws ≡ [] = drop_of_length-le ws {i = n} (omega arith) in
    rw (t, d) (append_nil (overwritten image ws))
  where
    append_nil : (xs : List ℕ) → xs ++ [] ≡ xs
    append_nil [] = refl
    append_nil (x ∷ xs) = ap (λ (ys : List ℕ). x ∷ ys) (append_nil xs)

none_beside : (c o : ℕ) → c ≤ 104 → number_beside c o ≡ 0
none_beside c o h = rw (ne_eqb c 108 (omega arith), ne_eqb c 109 (omega arith))

-- ---- the list

params_one : (l : Lent) → parameters_in (as_one l) ≡ parameters_of l
params_one l =
    let v = ap (λ (n : ℕ). n / 8) (one_part l.vertex_table) in
    let e = ap (λ (n : ℕ). n / 12) (one_part l.edge_table) in
    let t = ap (λ (n : ℕ). n / 12) (one_part l.change_table) in
    λ i. record { rows = l.rows; vertices = v i; edges = e i; changes = t i }

abbrev turn : Bool → Bool → Bool → Bool → ℕ → ℕ
turn t u v x r = t ⇒ 101 else u ⇒ 102 else v ⇒ 103 else x ⇒ 104 else r

-- one of them gives its code, or none does
turn_either : (t u v x : Bool) → ((k : ℕ) × (k ≤ 104) × ((r : ℕ) → turn t u v x r ≡ k)) ⊎ ((r : ℕ) → turn t u v x r ≡ r)
turn_either true u v x = inl (101, omega arith, λ r. refl)
turn_either false true v x = inl (102, omega arith, λ r. refl)
turn_either false false true x = inl (103, omega arith, λ r. refl)
turn_either false false false true = inl (104, omega arith, λ r. refl)
turn_either false false false false = inr (λ r. refl)

module _ (l : Lent) where
  abbrev b : Bounds
  b = bounds_in (parameters_of l)

  -- ---- a list that is not refused

  module _ (loads : loadable b l.start ≡ true) where
    first_image : cut l.start ≡ l.start
    first_image = let e = stated b l.start (loaded b l.start loads).header in (whole l.start (omega (arith, e))).0

    graph_one : start_of (as_one l) 1 ≡ load l.start
    graph_one = ap load first_image

    begun_one : One (parameters_of l) (opened (as_one l))
    begun_one = record { one = refl; all = refl; fit = costs_fit_fresh (parameters_of l) (start_of (as_one l) 1) }

    answered_one : answers_in (parameters_in (as_one l)) (opened (as_one l)) (store_calls_of (to_store1 l.calls))
        ≡ answers (parameters_of l) (fresh (load l.start)) (calls_of l.calls)
    answered_one =
        (λ i. answers_in (params_one l i) (opened (as_one l)) (calls_one l.calls i))
        ∙ answers_one (parameters_of l) (opened (as_one l)) begun_one (calls_of l.calls)
        ∙ ap (λ (g : Graph). answers (parameters_of l) (fresh g) (calls_of l.calls)) graph_one

    ended_one : (after_in (as_one l) (store_calls_of (to_store1 l.calls))).machine 1
        ≡ last (parameters_of l) (fresh (load l.start)) (calls_of l.calls)
    ended_one =
        (λ i. (last_in (params_one l i) (opened (as_one l)) (calls_one l.calls i)).machine 1)
        ∙ last_one (parameters_of l) (opened (as_one l)) begun_one (calls_of l.calls)
        ∙ ap (λ (g : Graph). last (parameters_of l) (fresh g) (calls_of l.calls)) graph_one

    abbrev image : List ℕ
    image = save (present (last (parameters_of l) (fresh (load l.start)) (calls_of l.calls)))

    images_one : images (after_in (as_one l) (store_calls_of (to_store1 l.calls))) ≡ image ∷ []
    images_one =
        ap (λ (k : ℕ). images_of k (after_in (as_one l) (store_calls_of (to_store1 l.calls))).machine)
        (limits_last (parameters_in (as_one l)) (opened (as_one l)) (store_calls_of (to_store1 l.calls))).0
        ∙ ap (λ (m : Machine). save (present m) ∷ []) ended_one

    accepted_one : accepted_in (as_one l) ≡ accepted l
    unfolding accepted_in accepted
    accepted_one =
        let d = ap (λ (xs : List StoreCall). length xs) (calls_one l.calls) ∙ length_one (calls_of l.calls) in
        let e = ap (λ (is : List (List ℕ)). over_parts (length l.end / 1) is l.end) images_one ∙ over_one image l.end (length l.end / 1) (one_part (length l.end)) in
        let n = ap (λ (is : List (List ℕ)). sum_of length is) images_one in
        let z : length image + 0 ≡ length image = omega arith in
        let k = n ∙ z in
        let a = ap (λ (rs : List Answer). overwritten (answer_words rs) l.answers) answered_one in
        λ i. record { code = 0; done = d i; words = k i; answers = a i; end = e i }

  -- ---- the code and the number beside it

  -- the table of either run: the rows before the start's, those of its code, and the one behind them
  before : ℕ → ℕ
  before r =
      turn (not (length l.calls % 5 == 0)) (ltb (length l.answers) (2 * (length l.calls / 5)))
      (not (within 1 most_vertices (l.vertex_table / 8) && within 1 most_edges (l.edge_table / 12) && within 1 most_changes (l.change_table / 12)))
      (not (good_rows l.rows)) r

  from : ℕ → ℕ
  from s =
      (s == 105) ⇒ 105 else (s == 108) ⇒ 108 else (s == 109) ⇒ 109 else
      ltb (length l.end) (image_length (l.vertex_table / 8) (l.edge_table / 12)) ⇒ 106 else 0

  five_table : list_refusal l ≡ before (from (load_code b l.start))
  unfolding list_refusal before from good_rows
  five_table = refl

  six_table : stores_refusal (as_one l) ≡ before (from (starts_code b 1 l.start))
  unfolding stores_refusal before from good_rows
  six_table =
      rw (rest_one l.calls, count_one l.calls, one_part l.vertex_table, one_part l.edge_table, one_part l.change_table, one_part (length l.end))

  six_number : stores_number (as_one l) ≡ number_beside (stores_refusal (as_one l)) (starts_offset b 0 1 l.start)
  unfolding stores_number
  six_number = ap (λ (w : Parameters). number_beside (stores_refusal (as_one l)) (starts_offset (bounds_in w) 0 1 l.start)) (params_one l)

  refused_one : (c c' n n' : ℕ) → c ≡ c' → n ≡ n' → refused c n (as_one l).lent ≡ refused c' n' l
  unfolding refused
  refused_one c c' n n' e f = λ i. record { code = e i; done = f i; words = 0; answers = l.answers; end = l.end }

  -- ---- equal codes and numbers make equal runs

  module _ (e : stores_refusal (as_one l) ≡ list_refusal l) (f : stores_number (as_one l) ≡ list_number l) where
    same_run : run_in (as_one l) ≡ run l
    unfolding run_in run
    same_run =
        ap (λ (c : ℕ). (c == 0) ⇒ accepted_in (as_one l) else refused (stores_refusal (as_one l)) (stores_number (as_one l)) (as_one l).lent) e
        ∙ go (list_refusal l == 0) refl
      where
        go : (t : Bool) → (list_refusal l == 0) ≡ t →
            (t ⇒ accepted_in (as_one l) else refused (stores_refusal (as_one l)) (stores_number (as_one l)) (as_one l).lent)
            ≡ (t ⇒ accepted l else refused (list_refusal l) (list_number l) l)
        go true h = accepted_one (passed l (eqb-true _ 0 h)).start_loads
        go false h = refused_one (stores_refusal (as_one l)) (list_refusal l) (stores_number (as_one l)) (list_number l) e f

  same_starts : starts_code b 1 l.start ≡ load_code b l.start → starts_offset b 0 1 l.start ≡ load_offset b l.start → run_in (as_one l) ≡ run l
  unfolding list_number
  same_starts e f =
      let r : stores_refusal (as_one l) ≡ list_refusal l = six_table ∙ ap (λ (s : ℕ). before (from s)) e ∙ sym five_table in
      same_run r (six_number ∙ (λ i. number_beside (r i) (f i)))

  -- with no word behind the start image, the run of K = 1 with L the capacity of changes is the run of one store
  pub one_store : NoneBehind l.start → run_in (as_one l) ≡ run l
  one_store h = same_starts (start_one b l.start h) (offset_one b l.start h)

  -- ---- with words behind the start image

  before_either : ((k : ℕ) × (k ≤ 104) × ((r : ℕ) → before r ≡ k)) ⊎ ((r : ℕ) → before r ≡ r)
  unfolding before
  before_either =
      turn_either (not (length l.calls % 5 == 0)) (ltb (length l.answers) (2 * (length l.calls / 5)))
      (not (within 1 most_vertices (l.vertex_table / 8) && within 1 most_edges (l.edge_table / 12) && within 1 most_changes (l.change_table / 12)))
      (not (good_rows l.rows))

  -- the run of one store is refused for the words behind, that of K = 1 for a bad word of the image before them
  pub record Differs : Type 0 where
    pub one : run l ≡ refused 105 0 l
    pub several : run_in (as_one l) ≡ refused (load_code b (cut l.start)) (load_offset b (cut l.start)) l
    pub code : (load_code b (cut l.start) ≡ 108) ⊎ (load_code b (cut l.start) ≡ 109)

  module _ (h : stated_length l.start < length l.start) where
    early : (k : ℕ) → k ≤ 104 → ((r : ℕ) → before r ≡ k) → run_in (as_one l) ≡ run l
    unfolding list_number
    early k small is =
        let p = five_table ∙ is _ in
        let q = six_table ∙ is _ in
        let r = q ∙ sym p in
        same_run r (six_number ∙ ap (λ (c : ℕ). number_beside c (starts_offset b 0 1 l.start)) q ∙ none_beside k _ small
        ∙ sym (ap (λ (c : ℕ). number_beside c (load_offset b l.start)) p ∙ none_beside k _ small))

    equal : left (verdict b (cut l.start)) ≡ 105 → offset_of (verdict b (cut l.start)) ≡ 0 → run_in (as_one l) ≡ run l
    equal e f =
        let c = behind b l.start h in
        same_starts (left_code b l.start h ∙ e ∙ sym c) (left_offset b l.start h ∙ f ∙ sym (no_number b l.start c))

    bad : (c : ℕ) → left (verdict b (cut l.start)) ≡ suc c → code_of (verdict b (cut l.start)) ≡ suc c → from (suc c) ≡ suc c
        → (suc c ≡ 108) ⊎ (suc c ≡ 109) → number_beside (suc c) (starts_offset b 0 1 l.start) ≡ starts_offset b 0 1 l.start
        → ((r : ℕ) → before r ≡ r) → Differs
    unfolding list_number from
    bad c e v f n o is =
        let p : list_refusal l ≡ 105 = five_table ∙ is _ ∙ ap from (behind b l.start h) in
        let q : stores_refusal (as_one l) ≡ suc c = six_table ∙ is _ ∙ ap from (left_code b l.start h ∙ e) ∙ f in
        let x : stores_number (as_one l) ≡ offset_of (verdict b (cut l.start)) =
        six_number ∙ ap (λ (k : ℕ). number_beside k (starts_offset b 0 1 l.start)) q ∙ o ∙ left_offset b l.start h in
        record {
          one = refused_is l 104 p ∙ ap (λ (k : ℕ). refused 105 (number_beside k (load_offset b l.start)) l) p;
          several = refused_in (as_one l) c q ∙ refused_one (suc c) _ _ _ (sym v) x;
          code = rw v n;
        }

    -- with a word behind it, equal runs but for that
    pub one_store_behind : (run_in (as_one l) ≡ run l) ⊎ Differs
    unfolding left from
    one_store_behind = ⊎_elim (λ k. inl (early k.0 k.1 k.2)) (λ is. go is (verdict b (cut l.start)) refl) before_either
      where
        go : ((r : ℕ) → before r ≡ r) → (v : Verdict) → verdict b (cut l.start) ≡ v → (run_in (as_one l) ≡ run l) ⊎ Differs
        go is (Ok tt) e = inl (equal (ap left e) (ap offset_of e))
        go is (Err Header) e = inl (equal (ap left e) (ap offset_of e))
        go is (Err (Record at)) e = inr (bad 107 (ap left e) (ap code_of e) refl (inl refl) refl is)
        go is (Err (Incidence at)) e = inr (bad 108 (ap left e) (ap code_of e) refl (inr refl) refl is)
