-- What each of several stores is by itself: its machine, its answers, and what two runs have in common; the limit.
use Rattle.std.specs.Prelude.{◌==◌}
use Prim.Native.Nat.{ℕ, zero, suc, ◌+◌, ◌-◌, ◌≤◌, ◌<◌}
use mathlib.Core.Path.{◌≡◌, refl, sym, ap, ◌∙◌}
use mathlib.Core.Bool.{Bool, true, false}
use mathlib.Core.List.{List, [], ◌∷◌, ◌++◌, map}
use native.Mathlib.Omega.{arith}
use lib.ListN.{take}
use borrow.Author.Tests.{eqb-true, eqb-false, eq-eqb, ne_eqb, ltb-false}
use Rattle.lists.specs.Choice.{◌⇒◌else◌, within}
use Rattle.lists.specs.Lists.{filter, range}
use Rattle.lists.proofs.Bools.{ft, within_range}
use Rattle.lists.proofs.Picks.{same, differ, same?}
use Rattle.lists.proofs.Sums.{sum_append}
use Rattle.graph.specs.Graph.{Graph}
use Rattle.graph.specs.Changes.{cost}
use Rattle.history.specs.Machine.{Step, step_of, Machine, place_or, costs, spent, onward, name, holder_of, fresh, present}
use Rattle.commands.specs.Calls.{Call}
use Rattle.commands.specs.Commands.{command_of}
use Rattle.commands.specs.declared.HistoryCall.TheVariants.{SetMark, DropMark, Undo, Redo, GoTo, Commit, Between, Standing, Free, NameMark, GoToName, SetBench, MadeBy}
use Rattle.commands.specs.declared.Command.{Command}
use Rattle.commands.specs.declared.Command.TheVariants.{Alter, History, Ask, Quote, Unknown}
use Rattle.commands.specs.declared.Answer.{Answer}
use Rattle.machine.specs.Calls.{Parameters}
use Rattle.machine.specs.HistoryCodes.{place_of}
use Rattle.machine.specs.Rules.{Effect, steps, marks, unmarks, goes, names, benches, clears, nothing, effected}
use Rattle.machine.specs.Codes.{free, refusal}
use Rattle.machine.specs.Machine.{deed_of, step_to}
use Rattle.machine.specs.Posed.{Posed, roomed, answer_at, step_at, answers_at, last_at}
use Rattle.machine.specs.Stores.{Stores, StoreCall, spent_by, joint_room, with, is_store, found, answer_in, step_in, answers_in, last_in, calls_to, answers_to}
use Rattle.machine.proofs.Accepts.{accepted_step, refused_step}
use Rattle.machine.proofs.CostsFit.{no_left}
use Rattle.machine.proofs.Families.{change_effect, change_passed}
use Rattle.history.proofs.Timelines.{onward_back}
use Rattle.machine.proofs.Rooms.{free_roomed}

-- ---- each store by itself

module _ (w : Parameters) (s : Stores) (x : StoreCall) where
  -- K and L stay
  pub limits_stay : ((step_in w s x).count ≡ s.count) × ((step_in w s x).limit ≡ s.limit)
  unfolding step_in
  limits_stay = go (is_store s x.store)
    where
      go : (t : Bool) → ((t ⇒ with x.store (step_at w (s.machine x.store) (found s x)) s else s).count ≡ s.count)
          × ((t ⇒ with x.store (step_at w (s.machine x.store) (found s x)) s else s).limit ≡ s.limit)
      go true = (refl, refl)
      go false = (refl, refl)

  pub others_stay : (n : ℕ) → (x.store == n) ≡ false → (step_in w s x).machine n ≡ s.machine n
  unfolding step_in
  others_stay n e = go (is_store s x.store)
    where
      other : (n == x.store) ≡ false
      other = ne_eqb n x.store (λ f. eqb-false x.store n e (sym f))

      go : (t : Bool) → (t ⇒ with x.store (step_at w (s.machine x.store) (found s x)) s else s).machine n ≡ s.machine n
      go true = rw other
      go false = refl

  -- a call of store n is its machine's own, at the joint room before it
  module _ (n : ℕ) (i : is_store s n ≡ true) (e : (x.store == n) ≡ true) where
    here : x.store ≡ n
    here = eqb-true x.store n e

    pub own_step : (step_in w s x).machine n ≡ step_at w (s.machine n) (found s x)
    unfolding step_in
    own_step = rw (here, i, eq-eqb n n refl)

    pub own_answer : answer_in w s x ≡ answer_at w (s.machine n) (found s x)
    unfolding answer_in
    own_answer = rw (here, i)

pub stays_store : (w : Parameters) (s : Stores) (x : StoreCall) (n : ℕ) → is_store s n ≡ true → is_store (step_in w s x) n ≡ true
stays_store w s x n i = ap (λ (k : ℕ). within 1 k n) (limits_stay w s x).0 ∙ i

-- the machine of store n after a list is the plain machine after the calls of that store
pub store_runs : (w : Parameters) (n : ℕ) (s : Stores) (xs : List StoreCall) → is_store s n ≡ true →
    (last_in w s xs).machine n ≡ last_at w (s.machine n) (calls_to w n s xs)
unfolding last_in last_at calls_to
store_runs w n s [] i = refl
store_runs w n s (x ∷ xs) i = go (store_runs w n (step_in w s x) xs (stays_store w s x n i)) (x.store == n) refl
  where
    go : (last_in w (step_in w s x) xs).machine n ≡ last_at w ((step_in w s x).machine n) (calls_to w n (step_in w s x) xs) → (t : Bool) → (x.store == n) ≡ t →
        (last_in w (step_in w s x) xs).machine n ≡ last_at w (s.machine n) (t ⇒ (found s x ∷ calls_to w n (step_in w s x) xs) else calls_to w n (step_in w s x) xs)
    go rest true e = rest ∙ ap (λ (m : Machine). last_at w m (calls_to w n (step_in w s x) xs)) (own_step w s x n i e)
    go rest false e = rest ∙ ap (λ (m : Machine). last_at w m (calls_to w n (step_in w s x) xs)) (others_stay w s x n e)

-- of the calls, they are those that name store n
pub calls_to_lem : (w : Parameters) (n : ℕ) (s : Stores) (xs : List StoreCall) →
    map (λ (y : Posed). y.call) (calls_to w n s xs) ≡ map (λ (x : StoreCall). x.call) (filter (λ (x : StoreCall). x.store == n) xs)
unfolding calls_to
calls_to_lem w n s [] = refl
calls_to_lem w n s (x ∷ xs) = go (calls_to_lem w n (step_in w s x) xs) (x.store == n)
  where
    go : map (λ (y : Posed). y.call) (calls_to w n (step_in w s x) xs) ≡ map (λ (x : StoreCall). x.call) (filter (λ (x : StoreCall). x.store == n) xs) → (t : Bool) →
        map (λ (y : Posed). y.call) (t ⇒ (found s x ∷ calls_to w n (step_in w s x) xs) else calls_to w n (step_in w s x) xs)
        ≡ map (λ (x : StoreCall). x.call) (t ⇒ (x ∷ filter (λ (x : StoreCall). x.store == n) xs) else filter (λ (x : StoreCall). x.store == n) xs)
    go rest true = ap (λ (ys : List Call). x.call ∷ ys) rest
    go rest false = rest

-- and so are the answers
pub store_answers : (w : Parameters) (n : ℕ) (s : Stores) (xs : List StoreCall) → is_store s n ≡ true →
    answers_to w n s xs ≡ answers_at w (s.machine n) (calls_to w n s xs)
unfolding answers_in answers_at calls_to
store_answers w n s [] i = refl
store_answers w n s (x ∷ xs) i = go (store_answers w n (step_in w s x) xs (stays_store w s x n i)) (x.store == n) refl
  where
    go : answers_to w n (step_in w s x) xs ≡ answers_at w ((step_in w s x).machine n) (calls_to w n (step_in w s x) xs) → (t : Bool) → (x.store == n) ≡ t →
        (t ⇒ (answer_in w s x ∷ answers_to w n (step_in w s x) xs) else answers_to w n (step_in w s x) xs)
        ≡ answers_at w (s.machine n) (t ⇒ (found s x ∷ calls_to w n (step_in w s x) xs) else calls_to w n (step_in w s x) xs)
    go rest true e = λ j.
        own_answer w s x n i e j ∷ (rest ∙ ap (λ (m : Machine). answers_at w m (calls_to w n (step_in w s x) xs)) (own_step w s x n i e)) j
    go rest false e = rest ∙ ap (λ (m : Machine). answers_at w m (calls_to w n (step_in w s x) xs)) (others_stay w s x n e)

-- two runs with equal parameters, and stores that begin alike and get the same calls at the same joint rooms, give these
-- stores the same answers
pub isolated : (w : Parameters) (n n' : ℕ) (s s' : Stores) (xs xs' : List StoreCall) → is_store s n ≡ true → is_store s' n' ≡ true →
    s.machine n ≡ s'.machine n' → calls_to w n s xs ≡ calls_to w n' s' xs' → answers_to w n s xs ≡ answers_to w n' s' xs'
isolated w n n' s s' xs xs' i i' e f =
    store_answers w n s xs i ∙ (λ j. answers_at w (e j) (f j)) ∙ sym (store_answers w n' s' xs' i')

pub answered_in : (w : Parameters) (s : Stores) (xs ys : List StoreCall) (x : StoreCall) →
    answers_in w s (xs ++ (x ∷ ys)) ≡ answers_in w s xs ++ (answer_in w (last_in w s xs) x ∷ answers_in w (step_in w (last_in w s xs) x) ys)
unfolding answers_in last_in
answered_in w s [] ys x = refl
answered_in w s (y ∷ xs) ys x = ap (λ (r : List Answer). answer_in w s y ∷ r) (answered_in w (step_in w s y) xs ys x)

-- ---- a call spends no more than the room that it finds

spent_cut : (p : ℕ) (ss : List Step) (s : Step) → costs (take (suc p) (take p ss ++ (s ∷ []))) ≤ costs (take p ss) + s.cost
spent_cut zero ss s = omega arith
spent_cut (suc p) [] s = omega arith
spent_cut (suc p) (x ∷ ss) s = omega (arith, spent_cut p ss s)

-- what an effect takes is at most r
Takes : ℕ → Machine → Effect → Type 0
Takes r m (steps s) = s.cost ≤ r
Takes r m (goes q) = onward q m.line ≤ r
Takes r m (marks n) = Unit {0}
Takes r m (unmarks n) = Unit {0}
Takes r m (names k n) = Unit {0}
Takes r m (benches b) = Unit {0}
Takes r m clears = Unit {0}
Takes r m nothing = Unit {0}

passed_room : (u : Bool) (r : ℕ) → ((u ⇒ 10 else r) == 0) ≡ true → u ≡ false
passed_room true r e = ft e
passed_room false r e = refl

module _ (w : Parameters) (m : Machine) where
  -- an accepted command takes no more than is free
  takes_free : (c : Command) → (refusal w m c == 0) ≡ true → Takes (free w m) m (deed_of w c m).effect
  unfolding Takes refusal free step_of
  takes_free (Alter c) e =
      change_effect (Takes (free w m) m) c m (λ a. ltb-false (free w m) (cost c (present m)) (no_left _ _ (change_passed w m c e).1 a)) tt
  takes_free (History (SetMark k)) e = tt
  takes_free (History (DropMark k)) e = tt
  takes_free (History Undo) e = omega (arith, onward_back (m.line.place - 1) m.line (omega arith))
  takes_free (History Redo) e = ltb-false (free w m) (onward (suc m.line.place) m.line) (passed_room _ _ e)
  takes_free (History (GoTo k)) e = ltb-false (free w m) (onward (place_or m.line.place (m.marks k)) m.line) (passed_room _ _ e)
  takes_free (History Commit) e = tt
  takes_free (History (Between j k)) e = tt
  takes_free (History Standing) e = tt
  takes_free (History Free) e = tt
  takes_free (History (NameMark k b c)) e = tt
  takes_free (History (GoToName b c)) e = ltb-false (free w m) (onward (place_of m (holder_of (name b c) m)) m.line) (passed_room _ _ e)
  takes_free (History (SetBench b)) e = tt
  takes_free (History (MadeBy j k b)) e = tt
  takes_free (Ask q) e = tt
  takes_free (Quote p) e = tt
  takes_free Unknown e = tt

next_spent : (r : ℕ) (m : Machine) (e : Effect) → Takes r m e → spent (effected e m).line ≤ spent m.line + r
unfolding Takes
next_spent r m (steps s) h = omega (arith, h, spent_cut m.line.place m.line.steps s)
next_spent r m (goes q) h = omega (arith, h)
next_spent r m (marks n) h = omega arith
next_spent r m (unmarks n) h = omega arith
next_spent r m (names k n) h = omega arith
next_spent r m (benches b) h = omega arith
next_spent r m clears h = omega arith
next_spent r m nothing h = omega arith

pub step_spent : (w : Parameters) (m : Machine) (y : Posed) → spent (step_at w m y).line ≤ spent m.line + y.room
step_spent w m y = go (refusal v m c == 0) refl
  where
    v : Parameters
    v = roomed w m y.room

    c : Command
    c = command_of y.call

    go : (t : Bool) → (refusal v m c == 0) ≡ t → spent (step_to v m c).line ≤ spent m.line + y.room
    go true e =
        rw (accepted_step v m c e)
        (omega (arith, next_spent (free v m) m (deed_of v c m).effect (takes_free v m c e), free_roomed w m y.room))
    go false e = rw (refused_step v m c e) (omega arith)

-- ---- what all stores have spent stays within L

total_more : (k : ℕ) (f : ℕ → Machine) → spent_by (suc k) f ≡ spent_by k f + spent (f (suc k)).line
total_more k f = omega (arith, sum_append (λ (i : ℕ). spent (f (suc i)).line) (range k) (k ∷ []))

abbrev put : ℕ → Machine → (ℕ → Machine) → ℕ → Machine
put n m f k = (k == n) ⇒ m else f k

-- above the last store nothing of the sum changes
total_above : (k n : ℕ) (m : Machine) (f : ℕ → Machine) → k < n → spent_by k (put n m f) ≡ spent_by k f
total_above zero n m f h = refl
total_above (suc k) n m f h =
    let e : put n m f (suc k) ≡ f (suc k) = rw (ne_eqb (suc k) n (omega arith)) in
    let s : spent (put n m f (suc k)).line ≡ spent (f (suc k)).line = ap (λ (m : Machine). spent m.line) e in
    omega (arith, total_more k (put n m f), total_more k f, total_above k n m f (omega arith), s)

-- the sum with one store replaced
pub total_with : (k n : ℕ) (m : Machine) (f : ℕ → Machine) → 1 ≤ n → n ≤ k → spent_by k (put n m f) + spent (f n).line ≡ spent_by k f + spent m.line
total_with zero n m f h i = absurd (omega arith)
total_with (suc k) n m f h i = elim (same? (suc k) n) [
  | same u v ↦
      let e : put n m f (suc k) ≡ m = rw (eq-eqb (suc k) n (sym v)) in
      let s : spent (put n m f (suc k)).line ≡ spent m.line = ap (λ (m : Machine). spent m.line) e in
      let t : spent (f (suc k)).line ≡ spent (f n).line = ap (λ (j : ℕ). spent (f j).line) (sym v) in
      omega (arith, total_more k (put n m f), total_more k f, total_above k n m f (omega arith), s, t)
  | differ u v ↦
      let e : put n m f (suc k) ≡ f (suc k) = rw (ne_eqb (suc k) n u) in
      let s : spent (put n m f (suc k)).line ≡ spent (f (suc k)).line = ap (λ (m : Machine). spent m.line) e in
      omega (arith, total_more k (put n m f), total_more k f, total_with k n m f h (omega arith), s)
]

abbrev pub Fits : Stores → Type 0
Fits s = spent_by s.count s.machine ≤ s.limit

pub step_fits : (w : Parameters) (s : Stores) (x : StoreCall) → Fits s → Fits (step_in w s x)
unfolding step_in joint_room
step_fits w s x h = go (is_store s x.store) refl
  where
    m : Machine
    m = step_at w (s.machine x.store) (found s x)

    go : (t : Bool) → is_store s x.store ≡ t → Fits (t ⇒ with x.store m s else s)
    go true e =
        let i = within_range 1 s.count x.store e in
        omega (arith, h, total_with s.count x.store m s.machine i.0 i.1, step_spent w (s.machine x.store) (found s x))
    go false e = h

pub last_fits : (w : Parameters) (s : Stores) (xs : List StoreCall) → Fits s → Fits (last_in w s xs)
unfolding last_in
last_fits w s [] h = h
last_fits w s (x ∷ xs) h = last_fits w (step_in w s x) xs (step_fits w s x h)

pub limits_last : (w : Parameters) (s : Stores) (xs : List StoreCall) → ((last_in w s xs).count ≡ s.count) × ((last_in w s xs).limit ≡ s.limit)
unfolding last_in
limits_last w s [] = (refl, refl)
limits_last w s (x ∷ xs) =
    let r = limits_last w (step_in w s x) xs in
    let q = limits_stay w s x in
    (r.0 ∙ q.0, r.1 ∙ q.1)

-- no store has spent anything as the list begins
pub fresh_spent : (k : ℕ) (f : ℕ → Graph) → spent_by k (λ n. fresh (f n)) ≡ 0
fresh_spent zero f = refl
fresh_spent (suc k) f = omega (arith, total_more k (λ n. fresh (f n)), fresh_spent k f)
