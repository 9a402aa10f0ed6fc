-- Calls of one store in a row, at one capacity of changes: what its store has spent and the joint room have one sum over
-- them.
use Rattle.std.specs.Prelude.{◌==◌}
use Prim.Native.Nat.{ℕ, suc, ◌+◌, ◌-◌, ◌<◌, min}
use mathlib.Core.Path.{◌≡◌, refl, sym, ap, ◌∙◌}
use mathlib.Core.Bool.{Bool, true, false}
use mathlib.Core.Logic.{◌≢◌}
use mathlib.Core.List.{List, [], ◌∷◌, map}
use native.Mathlib.Omega.{arith}
use lib.ListN.{length, get_or}
use borrow.Author.Tests.{eq-eqb, ne_eqb, le-leb}
use Rattle.lists.specs.Choice.{◌⇒◌else◌, within}
use Rattle.lists.proofs.Bools.{within_range}
use Rattle.commands.specs.Answers.{refuses}
use Rattle.commands.specs.declared.Answer.{Answer}
use Rattle.history.specs.Machine.{Machine, spent}
use Rattle.machine.specs.Calls.{Parameters}
use Rattle.machine.specs.Machine.{answer, step, answers, last}
use Rattle.machine.specs.Posed.{roomed, step_at}
use Rattle.machine.specs.Stores.{Stores, StoreCall, spent_by, joint_room, found, answer_in, step_in, answers_in, last_in}
use Rattle.machine.proofs.StoreLaws.{Fits, limits_stay, others_stay, own_step, own_answer, total_with, step_fits}
use Rattle.engine.specs.Running.{allowing}
use Rattle.store_calls.specs.Guard.{calls_in}
use Rattle.store_calls.specs.Serving.{slot_of}

-- all of them are of this store
abbrev pub OfStore : ℕ → List StoreCall → Type 0
OfStore n [] = Unit {0}
OfStore n (x ∷ xs) = (x.store ≡ n) × OfStore n xs

pub of_store : (n : ℕ) (xs : List StoreCall) (z : StoreCall) → ((k : ℕ) → k < length xs → (get_or xs k z).store ≡ n) → OfStore n xs
of_store n [] z h = tt
of_store n (x ∷ xs) z h = (h 0 (omega arith), of_store n xs z (λ k l. h (suc k) (omega (arith, l))))

-- ---- one call

module _ (w : Parameters) (s : Stores) (i : ℕ) (inside : i < s.count) (number : ℕ) (slot : i ≡ slot_of number s.count) (this : StoreCall) (of : this.store ≡ number)
    (n : ℕ) (ne : n ≡ min w.changes (spent (s.machine (suc i)).line + joint_room s)) where
  abbrev m : Machine
  m = s.machine (suc i)

  abbrev v : Parameters
  v = allowing n w

  abbrev next : Stores
  next = step_in w s this

  at_store : within 1 s.count number ≡ true → this.store ≡ suc i
  at_store f =
      let r = within_range 1 s.count number f in
      let e : i ≡ number - 1 = slot ∙ ap (λ (t : Bool). t ⇒ number - 1 else 0) f in
      omega (arith, e, r.0, of)

  is_store : within 1 s.count (suc i) ≡ true
  is_store = rw (le-leb 1 (suc i) (omega arith), le-leb (suc i) s.count (omega (arith, inside)))

  of_within : within 1 s.count this.store ≡ within 1 s.count number
  of_within = ap (within 1 s.count) of

  v_is : v ≡ roomed w m (joint_room s)
  v_is = λ k. record { rows = w.rows; vertices = w.vertices; edges = w.edges; changes = ne k }

  -- the stores where there is no such store
  none_there : within 1 s.count number ≡ false → next ≡ s
  unfolding step_in
  none_there f = let g : within 1 s.count this.store ≡ false = of_within ∙ f in rw g

  module _ (there : Bool) (e : there ≡ within 1 s.count number) where
    machine_after : next.machine (suc i) ≡ (there ⇒ step v m this.call else m)
    machine_after = go there e
      where
        go : (t : Bool) → t ≡ within 1 s.count number → next.machine (suc i) ≡ (t ⇒ step v m this.call else m)
        go true f = own_step w s this (suc i) is_store (eq-eqb this.store (suc i) (at_store (sym f))) ∙ (λ k. step (sym v_is k) m this.call)
        go false f = ap (λ (y : Stores). y.machine (suc i)) (none_there (sym f))

    told : answer_in w s this ≡ (there ⇒ answer v m this.call else refuses 21)
    unfolding answer_in
    told = go there e
      where
        go : (t : Bool) → t ≡ within 1 s.count number → answer_in w s this ≡ (t ⇒ answer v m this.call else refuses 21)
        go true f = own_answer w s this (suc i) is_store (eq-eqb this.store (suc i) (at_store (sym f))) ∙ (λ k. answer (sym v_is k) m this.call)
        go false f = let g : within 1 s.count this.store ≡ false = of_within ∙ sym f in rw g

    others : (j : ℕ) → j ≢ i → next.machine (suc j) ≡ s.machine (suc j)
    others j d = go there e
      where
        go : (t : Bool) → t ≡ within 1 s.count number → next.machine (suc j) ≡ s.machine (suc j)
        go true f = others_stay w s this (suc j) (ne_eqb this.store (suc j) (λ q. d (omega (arith, q, at_store (sym f)))))
        go false f = ap (λ (y : Stores). y.machine (suc j)) (none_there (sym f))

    sum_after : spent_by s.count next.machine + spent m.line ≡ spent_by s.count s.machine + spent (next.machine (suc i)).line
    unfolding step_in
    sum_after = go there e
      where
        go : (t : Bool) → t ≡ within 1 s.count number → spent_by s.count next.machine + spent m.line ≡ spent_by s.count s.machine + spent (next.machine (suc i)).line
        go true f =
            let g : within 1 s.count this.store ≡ true = of_within ∙ sym f in
            let r = within_range 1 s.count this.store g in
            let q = at_store (sym f) in
            let M = step_at w (s.machine this.store) (found s this) in
            let t = total_with s.count this.store M s.machine r.0 r.1 in
            let o = own_step w s this (suc i) is_store (eq-eqb this.store (suc i) q) in
            let p : next.machine ≡ (λ (k : ℕ). (k == this.store) ⇒ M else s.machine k) = rw g in
            let u : spent (s.machine this.store).line ≡ spent m.line = ap (λ (k : ℕ). spent (s.machine k).line) q in
            let y : spent M.line ≡ spent (next.machine (suc i)).line = ap (λ (k : ℕ). spent (step_at w (s.machine k) (found s this)).line) q ∙ sym (ap (λ (k : Machine). spent k.line) o) in
            let l : spent_by s.count next.machine ≡ spent_by s.count (λ (k : ℕ). (k == this.store) ⇒ M else s.machine k) = ap (λ (f : ℕ → Machine). spent_by s.count f) p in
            omega (arith, t, u, y, l)
        go false f =
            let q = none_there (sym f) in
            let l : spent_by s.count next.machine ≡ spent_by s.count s.machine = ap (λ (y : Stores). spent_by s.count y.machine) q in
            let y : spent (next.machine (suc i)).line ≡ spent m.line = ap (λ (y : Stores). spent (y.machine (suc i)).line) q in
            omega (arith, l, y)

    -- the capacity is the same for the next call
    same_capacity : Fits s → n ≡ min w.changes (spent (next.machine (suc i)).line + joint_room next)
    unfolding joint_room
    same_capacity fits =
        let q = limits_stay w s this in
        let l : spent_by next.count next.machine ≡ spent_by s.count next.machine = ap (λ (k : ℕ). spent_by k next.machine) q.0 in
        let r : spent m.line + joint_room s ≡ spent (next.machine (suc i)).line + joint_room next = omega (arith, sum_after, fits, step_fits w s this fits, l, q.1) in
        ne ∙ ap (min w.changes) r

-- ---- some of them

pub record Stretched (w : Parameters) (s : Stores) (i : ℕ) (there : Bool) (xs : List StoreCall) (v : Parameters) : Type 0 where
  pub machine : (last_in w s xs).machine (suc i) ≡ (there ⇒ last v (s.machine (suc i)) (calls_in xs) else s.machine (suc i))
  pub others : (j : ℕ) → j ≢ i → (last_in w s xs).machine (suc j) ≡ s.machine (suc j)
  pub told : answers_in w s xs ≡ (there ⇒ answers v (s.machine (suc i)) (calls_in xs) else map (λ (y : StoreCall). refuses 21) xs)
  pub sum : spent_by s.count (last_in w s xs).machine + spent (s.machine (suc i)).line ≡ spent_by s.count s.machine + spent ((last_in w s xs).machine (suc i)).line

pub stretched : (w : Parameters) (s : Stores) (i : ℕ) → i < s.count → (number : ℕ) → i ≡ slot_of number s.count → (there : Bool) → there ≡ within 1 s.count number
    → (n : ℕ) → n ≡ min w.changes (spent (s.machine (suc i)).line + joint_room s) → Fits s → (xs : List StoreCall) → OfStore number xs → Stretched w s i there xs (allowing n w)
unfolding last_in answers_in last answers
stretched w s i inside number slot there e n ne fits [] of = record {
  machine = go there;
  others = λ j d. refl;
  told = none there;
  sum = refl;
}
  where
    go : (t : Bool) → s.machine (suc i) ≡ (t ⇒ s.machine (suc i) else s.machine (suc i))
    go true = refl
    go false = refl

    none : (t : Bool) → ◌≡◌ {A = List Answer} [] (t ⇒ [] else [])
    none true = refl
    none false = refl
stretched w s i inside number slot there e n ne fits (x ∷ xs) of =
    let next = step_in w s x in
    let v = allowing n w in
    let m = s.machine (suc i) in
    let q = limits_stay w s x in
    let after = machine_after w s i inside number slot x of.0 n ne there e in
    let more = sum_after w s i inside number slot x of.0 n ne there e in
    let rest = stretched w next i (omega (arith, inside, q.0)) number (slot ∙ ap (slot_of number) (sym q.0)) there (e ∙ ap (λ (k : ℕ). within 1 k number) (sym q.0)) n
    (same_capacity w s i inside number slot x of.0 n ne there e fits) (step_fits w s x fits) xs of.1 in
    let count : (f : ℕ → Machine) → spent_by next.count f ≡ spent_by s.count f = λ f. ap (λ (k : ℕ). spent_by k f) q.0 in
    record {
      machine = rest.machine ∙ go there after;
      others = λ j d. rest.others j d ∙ others w s i inside number slot x of.0 n ne there e j d;
      told = (λ k. told w s i inside number slot x of.0 n ne there e k ∷ rest.told k) ∙ said there after;
      sum = let a = rest.sum in omega (arith, a, more, count (last_in w next xs).machine, count next.machine);
    }
  where
    go : (t : Bool) → (step_in w s x).machine (suc i) ≡ (t ⇒ step (allowing n w) (s.machine (suc i)) x.call else s.machine (suc i))
        → (t ⇒ last (allowing n w) ((step_in w s x).machine (suc i)) (calls_in xs) else (step_in w s x).machine (suc i))
        ≡ (t ⇒ last (allowing n w) (step (allowing n w) (s.machine (suc i)) x.call) (calls_in xs) else s.machine (suc i))
    go true f = ap (λ (k : Machine). last (allowing n w) k (calls_in xs)) f
    go false f = f

    said : (t : Bool) → (step_in w s x).machine (suc i) ≡ (t ⇒ step (allowing n w) (s.machine (suc i)) x.call else s.machine (suc i))
        → (t ⇒ answer (allowing n w) (s.machine (suc i)) x.call else refuses 21)
        ∷ (t ⇒ answers (allowing n w) ((step_in w s x).machine (suc i)) (calls_in xs) else map (λ (y : StoreCall). refuses 21) xs)
        ≡ (t ⇒ (answer (allowing n w) (s.machine (suc i)) x.call ∷ answers (allowing n w) (step (allowing n w) (s.machine (suc i)) x.call) (calls_in xs))
        else (refuses 21 ∷ map (λ (y : StoreCall). refuses 21) xs))
    said true f = ap (λ (k : Machine). answer (allowing n w) (s.machine (suc i)) x.call ∷ answers (allowing n w) k (calls_in xs)) f
    said false f = refl
