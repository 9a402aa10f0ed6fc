-- Several start images: they load exactly where as many graphs within the capacities save as them, one after another, and
-- then they are those graphs.
use Rattle.std.specs.Prelude.{◌==◌}
use Prim.Native.Nat.{ℕ, zero, suc, ◌-◌, ◌≤◌, ◌<◌}
use mathlib.Core.Path.{◌≡◌, refl, sym, ap, ◌∙◌}
use mathlib.Core.Bool.{Bool, true, false}
use mathlib.Core.List.{List, [], ◌∷◌, ◌++◌, map, map-append}
use native.Mathlib.Omega.{arith}
use lib.ListN.{length, take, drop, take-append-drop, length-append, length-map, get_or-append}
use lib.Seq.{take_at, drop_at}
use borrow.Author.Tests.{eqb-true, eq-eqb, eqb-false}
use Rattle.lists.specs.Choice.{◌⇒◌else◌}
use Rattle.lists.specs.Lists.{range}
use Rattle.graph.specs.Graph.{Graph}
use Rattle.graph.specs.WellFormed.{Bounds, well_formed}
use Rattle.image.specs.Image.{SavesAs, load, loadable}
use Rattle.image_check.specs.Checks.{verdict, code_of, load_code}
use Rattle.image.proofs.Headers.{sound_length}
use Rattle.image_check.proofs.LoadCodes.{code_loads}
use Rattle.image.proofs.Loads.{loads_back, saves_loads, loaded}
use Rattle.machine.specs.StoreRun.{LentStores, stated_length, image_at, start_of, starts_code}
use Rattle.machine.specs.StoreDemands.{SaveInTurn, start_graphs}
use Rattle.machine.proofs.OneStart.{stated}
use Rattle.std.specs.Prelude.{Ok, Err}
use Rattle.image_check.specs.declared.BadImage.TheVariants.{Header, Record, Incidence}
use Rattle.image_check.specs.Checks.{Verdict}

-- ---- the code

-- it is 0, 105, 108 or 109
pub starts_verdict : (b : Bounds) (k : ℕ) (ws : List ℕ) → (v : Verdict) × (starts_code b k ws ≡ code_of v)
unfolding starts_code
starts_verdict b zero ws = go (length ws == 0)
  where
    go : (t : Bool) → (v : Verdict) × (◌≡◌ {A = ℕ} (t ⇒ 0 else 105) (code_of v))
    go true = (Ok tt, refl)
    go false = (Err Header, refl)
starts_verdict b (suc k) ws = go (load_code b (take (stated_length ws) ws) == 0) (starts_verdict b k (drop (stated_length ws) ws))
  where
    go : (t : Bool) → (v : Verdict) × (starts_code b k (drop (stated_length ws) ws) ≡ code_of v) →
        (v : Verdict) × ((t ⇒ starts_code b k (drop (stated_length ws) ws) else load_code b (take (stated_length ws) ws)) ≡ code_of v)
    go true h = h
    go false h = (verdict b (take (stated_length ws) ws), refl)

-- none of the three is none
pub none_of_three : (b : Bounds) (k : ℕ) (ws : List ℕ) → (starts_code b k ws == 105) ≡ false → (starts_code b k ws == 108) ≡ false → (starts_code b k ws == 109) ≡ false → starts_code b k ws ≡ 0
none_of_three b k ws e f g = let v = starts_verdict b k ws in go v.0 v.1
  where
    go : (v : Verdict) → starts_code b k ws ≡ code_of v → starts_code b k ws ≡ 0
    go (Ok tt) i = i
    go (Err Header) i = absurd (eqb-false _ 105 e i)
    go (Err (Record at)) i = absurd (eqb-false _ 108 f i)
    go (Err (Incidence at)) i = absurd (eqb-false _ 109 g i)

-- ---- the graphs of k images

abbrev graphs_in : ℕ → List ℕ → List Graph
graphs_in k ws = map (λ (i : ℕ). load (image_at i ws)) (range k)

-- from the first on
pub map_first : {A : Type 0} (f : ℕ → A) (k : ℕ) → map f (range (suc k)) ≡ f 0 ∷ map (λ (i : ℕ). f (suc i)) (range k)
map_first f zero = refl
map_first {A} f (suc k) =
    map-append f (range (suc k)) (suc k ∷ [])
    ∙ ap (λ (l : List A). l ++ (f (suc k) ∷ [])) (map_first f k)
    ∙ ap (λ (l : List A). f 0 ∷ l) (sym (map-append (λ (i : ℕ). f (suc i)) (range k) (k ∷ [])))

graphs_first : (k : ℕ) (ws : List ℕ) → graphs_in (suc k) ws ≡ load (take (stated_length ws) ws) ∷ graphs_in k (drop (stated_length ws) ws)
graphs_first k ws = map_first (λ (i : ℕ). load (image_at i ws)) k

nothing_left : (ws : List ℕ) → length ws ≡ 0 → ws ≡ []
nothing_left [] e = refl
nothing_left (x ∷ ws) e = absurd (omega arith)

-- ---- images that load are saved graphs

module _ (b : Bounds) where
  first_loads : (k : ℕ) (ws : List ℕ) → starts_code b (suc k) ws ≡ 0 →
      (loadable b (take (stated_length ws) ws) ≡ true) × (starts_code b k (drop (stated_length ws) ws) ≡ 0)
  unfolding starts_code
  first_loads k ws e = go (load_code b (take (stated_length ws) ws) == 0) refl e
    where
      go : (t : Bool) → (load_code b (take (stated_length ws) ws) == 0) ≡ t →
          (t ⇒ starts_code b k (drop (stated_length ws) ws) else load_code b (take (stated_length ws) ws)) ≡ 0 →
          (loadable b (take (stated_length ws) ws) ≡ true) × (starts_code b k (drop (stated_length ws) ws) ≡ 0)
      go true f i = ((code_loads b (take (stated_length ws) ws)).0 (eqb-true _ 0 f), i)
      go false f i = absurd (eqb-false (load_code b (take (stated_length ws) ws)) 0 f i)

  pub each_loads : (k : ℕ) (ws : List ℕ) → starts_code b k ws ≡ 0 → (i : ℕ) → i < k → loadable b (image_at i ws) ≡ true
  each_loads zero ws e i l = absurd (omega arith)
  each_loads (suc k) ws e zero l = (first_loads k ws e).0
  each_loads (suc k) ws e (suc i) l = each_loads k (drop (stated_length ws) ws) (first_loads k ws e).1 i (omega (arith, l))

  loaded_saved : (k : ℕ) (ws : List ℕ) → starts_code b k ws ≡ 0 → SaveInTurn b (graphs_in k ws) ws
  unfolding starts_code
  loaded_saved zero ws e = go (length ws == 0) refl e
    where
      go : (t : Bool) → (length ws == 0) ≡ t → ◌≡◌ {A = ℕ} (t ⇒ 0 else 105) 0 → ws ≡ []
      go true f i = nothing_left ws (eqb-true (length ws) 0 f)
      go false f i = absurd (omega arith)
  loaded_saved (suc k) ws e =
      let h = first_loads k ws e in
      let d = loaded b (take (stated_length ws) ws) h.0 in
      rw (graphs_first k ws)
      (take (stated_length ws) ws, drop (stated_length ws) ws, take-append-drop (stated_length ws) ws, d.formed, d.saves, loaded_saved k (drop (stated_length ws) ws) h.1)

  -- ---- and saved graphs load

  -- an image stands before the rest where its sixth word says
  module _ (us vs : List ℕ) (h : loadable b us ≡ true) where
    says : stated_length (us ++ vs) ≡ length us
    says =
        let f = (loaded b us h).header in
        get_or-append us vs 0 5 (omega (arith, sound_length us f)) ∙ stated b us f

    first_image : take (stated_length (us ++ vs)) (us ++ vs) ≡ us
    first_image = take_at us vs (stated_length (us ++ vs)) (sym says)

    others : drop (stated_length (us ++ vs)) (us ++ vs) ≡ vs
    others = drop_at us vs (stated_length (us ++ vs)) (sym says)

  record Again (gs : List Graph) (ws : List ℕ) : Type 0 where
    loads : starts_code b (length gs) ws ≡ 0
    same : graphs_in (length gs) ws ≡ gs

  joined : (g : Graph) (gs : List Graph) (us vs : List ℕ) → well_formed b g ≡ true → SavesAs g us → Again gs vs → Again (g ∷ gs) (us ++ vs)
  unfolding starts_code
  joined g gs us vs f s a =
      let h = saves_loads b g f us s in
      let c : (load_code b us == 0) ≡ true = eq-eqb _ 0 ((code_loads b us).1 h) in
      record {
        loads = rw (first_image us vs h, others us vs h, c) a.loads;
        same = graphs_first (length gs) (us ++ vs) ∙ rw (first_image us vs h, others us vs h) (λ i. loads_back b g f us s i ∷ a.same i);
      }

  saved_again : (gs : List Graph) (ws : List ℕ) → SaveInTurn b gs ws → Again gs ws
  unfolding starts_code
  saved_again [] ws e = record { loads = rw e; same = refl }
  saved_again (g ∷ gs) ws s = rw (← s.2) (joined g gs s.0 s.1 s.3 s.4 (saved_again gs s.1 s.5))

-- ---- those of a list

start_graphs_lem : (l : LentStores) (k : ℕ) → map (λ (i : ℕ). start_of l (suc i)) (range k) ≡ graphs_in k l.lent.start
start_graphs_lem l zero = refl
start_graphs_lem l (suc k) =
    map-append (λ (i : ℕ). start_of l (suc i)) (range k) (k ∷ [])
    ∙ (let e : suc k - 1 ≡ k = omega arith in λ i. start_graphs_lem l k i ++ (load (image_at (e i) l.lent.start) ∷ []))
    ∙ sym (map-append (λ (i : ℕ). load (image_at i l.lent.start)) (range k) (k ∷ []))

pub many_graphs : (l : LentStores) → length (start_graphs l) ≡ l.count
many_graphs l = length-map (range l.count) (λ (i : ℕ). start_of l (suc i)) ∙ long l.count
  where
    long : (k : ℕ) → length (range k) ≡ k
    long zero = refl
    long (suc k) = omega (arith, length-append (range k) (k ∷ []), long k)

module _ (l : LentStores) (b : Bounds) where
  pub start_formed_in : starts_code b l.count l.lent.start ≡ 0 → (n : ℕ) → 1 ≤ n → n ≤ l.count → well_formed b (start_of l n) ≡ true
  start_formed_in e n h i = (loaded b (image_at (n - 1) l.lent.start) (each_loads b l.count l.lent.start e (n - 1) (omega arith))).formed

  pub starts_saved : starts_code b l.count l.lent.start ≡ 0 → SaveInTurn b (start_graphs l) l.lent.start
  starts_saved e = rw (start_graphs_lem l l.count) (loaded_saved b l.count l.lent.start e)

  module _ (gs : List Graph) (n : length gs ≡ l.count) (s : SaveInTurn b gs l.lent.start) where
    pub saved_starts : starts_code b l.count l.lent.start ≡ 0
    saved_starts = ap (λ (k : ℕ). starts_code b k l.lent.start) (sym n) ∙ (saved_again b gs l.lent.start s).loads

    pub saved_graphs : start_graphs l ≡ gs
    saved_graphs = start_graphs_lem l l.count ∙ ap (λ (k : ℕ). graphs_in k l.lent.start) (sym n) ∙ (saved_again b gs l.lent.start s).same
