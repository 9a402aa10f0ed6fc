-- Another place: the journal at it, from the tables that a copy filled; and the copies of the places after each sort of call.
use Prim.Native.Nat.{ℕ, zero, suc, ◌+◌, ◌≤◌, ◌<◌}
use mathlib.Core.Path.{◌≡◌, refl, sym, ap, subst, ◌∙◌}
use mathlib.Core.List.{List, [], ◌∷◌, ◌++◌}
use native.Mathlib.Omega.{arith}
use lib.ListN.{length, get_or, take, set, length-set, length-append, get_or-append}
use lib.Seq.{get_or-set_same, get_or-set_other, get_or-append_seam}
use Rattle.lists.proofs.Picks.{same, differ, same?}
use Rattle.graph.specs.Graph.{Graph}
use Rattle.graph.specs.WellFormed.{Bounds}
use Rattle.history.specs.Machine.{Step, Timeline, Machine, graph_at, placed, present, after_change, after_commit}
use Rattle.history.proofs.Timelines.{graph_kept, change_present, length_cut}
use Rattle.graph_tables.specs.Tables.{State}
use Rattle.graph_tables.specs.Holds.{Holds}
use Rattle.graph_tables.specs.Capacities.{Sized}
use Rattle.timeline.specs.declared.Position.{Position}
use Rattle.timeline.specs.JournalRows.{graph_after}
use Rattle.timeline.specs.Steps.{rows_to, Behind, Journal}
use Rattle.timeline.proofs.Steps.{makes_current, journal_placed, behind_within}
use Rattle.copies.specs.Recording.{copy_of, Numbered}

-- tables that hold the graph of a place stand for the same timeline there
pub journal_at : (b : Bounds) (j j' : Position) (s s' : State) (t : List ℕ) (l : Timeline) → Journal b j s t l → j'.place ≤ length l.steps → j'.steps ≡ j.steps
    → j'.used ≡ rows_to 0 j'.place l.steps → Sized b s' → Holds s' (graph_at j'.place l.start l.steps) → Journal b j' s' t (placed j'.place l)
journal_at b j j' s s' t l k h y u z held =
    let r = k.rows in
    let behind : Behind t l.start l.steps j'.place j'.used = record { steps_at = k.steps_at; within = r.within; short = r.short; inside = h; used = u } in
    journal_placed b j j' s s' t l k behind y (record {
      sized = z;
      sound = r.sound;
      bounded = r.bounded;
      applies = r.applies;
      inside = r.inside;
      within = r.within;
      short = r.short;
      upto = behind_within t l.start l.steps j'.place j'.used behind;
      holds = subst (Holds s') (makes_current t l.start 0 j'.place l.steps k.steps_at h ∙ ap (graph_after t l.start) (sym u)) held;
    })

-- ---- the copies of the places

pub numbers_same : (g : Graph) (gs : List Graph) (numbers used : List ℕ) (l l' : Timeline) → l'.start ≡ l.start → l'.steps ≡ l.steps → Numbered g gs numbers used l → Numbered g gs numbers used l'
numbers_same g gs numbers used l l' e f h = record {
  in_copies = λ i k. h.in_copies i (subst (λ (ss : List Step). i ≤ length ss) f k);
  graphs = λ i k. h.graphs i (subst (λ (ss : List Step). i ≤ length ss) f k) ∙ (λ j. graph_at i (sym e j) (sym f j));
  rows = λ i k. h.rows i (subst (λ (ss : List Step). i ≤ length ss) f k) ∙ ap (rows_to 0 i) (sym f);
  numbers_size = h.numbers_size;
  used_size = h.used_size;
}

-- a commit
pub numbers_commit : (g : Graph) (gs : List Graph) (numbers used : List ℕ) (m : Machine) (p : ℕ) → p ≡ m.line.place → m.line.place ≤ length m.line.steps
    → Numbered g gs numbers used m.line → Numbered g gs (set numbers 0 (get_or numbers p 0)) used (after_commit m).line
numbers_commit g gs numbers used m p e inside h =
    let at : get_or (set numbers 0 (get_or numbers p 0)) 0 0 ≡ get_or numbers m.line.place 0 =
    get_or-set_same numbers 0 (get_or numbers p 0) 0 (omega (arith, h.numbers_size)) ∙ ap (λ (j : ℕ). get_or numbers j 0) e in
    record {
      in_copies = λ i k. let z : i ≡ 0 = omega arith in subst (λ (j : ℕ). get_or (set numbers 0 (get_or numbers p 0)) j 0 ≤ length gs) (sym z) (rw at (h.in_copies m.line.place inside));
      graphs = λ i k. let z : i ≡ 0 = omega arith in subst (λ (j : ℕ). copy_of g gs (get_or (set numbers 0 (get_or numbers p 0)) j 0) ≡ graph_at j (present m) []) (sym z)
          (ap (copy_of g gs) at ∙ h.graphs m.line.place inside);
      rows = λ i k. let z : i ≡ 0 = omega arith in subst (λ (j : ℕ). get_or used j 0 ≡ rows_to 0 j []) (sym z) (h.rows 0 (omega arith));
      numbers_size = length-set numbers 0 (get_or numbers p 0) ∙ h.numbers_size;
      used_size = h.used_size;
    }

-- a step
rows_kept : (i q p : ℕ) (ss : List Step) (s : Step) → q ≤ p → p ≤ length ss → rows_to i q (take p ss ++ (s ∷ [])) ≡ rows_to i q ss
rows_kept i zero p ss s a b = refl
rows_kept i (suc q) zero ss s a b = absurd (omega arith)
rows_kept i (suc q) (suc p) [] s a b = absurd (omega arith)
rows_kept i (suc q) (suc p) (x ∷ ss) s a b = rows_kept (i + x.cost) q p ss s (omega arith) (omega arith)

copy_kept : (g h : Graph) (gs : List Graph) (k : ℕ) → k ≤ length gs → copy_of g (gs ++ (h ∷ [])) k ≡ copy_of g gs k
copy_kept g h gs zero l = refl
copy_kept g h gs (suc k) l = get_or-append gs (h ∷ []) g k (omega arith)

pub numbers_step : (g : Graph) (gs : List Graph) (numbers used : List ℕ) (m : Machine) (s : Step) (n q u : ℕ) → n ≡ length gs → m.line.place ≤ length m.line.steps
    → q ≡ suc m.line.place → q < 20001 → u ≡ rows_to 0 q (after_change s m).line.steps → Numbered g gs numbers used m.line
    → Numbered g (gs ++ (s.graph ∷ [])) (set numbers q (n + 1)) (set used q u) (after_change s m).line
numbers_step g gs numbers used m s n q u e inside f r v h =
    let p = m.line.place in
    let ss = m.line.steps in
    let long : length (take p ss ++ (s ∷ [])) ≡ suc p = length_cut p ss s inside in
    let more : length (gs ++ (s.graph ∷ [])) ≡ length gs + 1 = length-append gs (s.graph ∷ []) in
    let new : get_or (set numbers q (n + 1)) q 0 ≡ n + 1 = get_or-set_same numbers q (n + 1) 0 (omega (arith, h.numbers_size)) in
    let rows_new : get_or (set used q u) q 0 ≡ u = get_or-set_same used q u 0 (omega (arith, h.used_size)) in
    record {
      in_copies = λ i k. elim (same? i q) [
        | same a b ↦ subst (λ (j : ℕ). get_or (set numbers q (n + 1)) j 0 ≤ length (gs ++ (s.graph ∷ []))) b (omega (arith, new, more))
        | differ a b ↦ rw (get_or-set_other numbers q i (n + 1) 0 a) (omega (arith, more, h.in_copies i (omega (arith, long))))
      ];
      graphs = λ i k. elim (same? i q) [
        | same a b ↦
            subst (λ (j : ℕ). copy_of g (gs ++ (s.graph ∷ [])) (get_or (set numbers q (n + 1)) j 0) ≡ graph_at j m.line.start (take p ss ++ (s ∷ []))) b
            (ap (copy_of g (gs ++ (s.graph ∷ []))) (new ∙ (let z : n + 1 ≡ suc (length gs) = omega arith in z))
            ∙ get_or-append_seam gs s.graph [] g
            ∙ sym (change_present s m inside)
            ∙ ap (λ (j : ℕ). graph_at j m.line.start (take p ss ++ (s ∷ []))) (sym f))
        | differ a b ↦
            let low : i ≤ p = omega (arith, long) in
            let l = h.in_copies i (omega arith) in
            ap (copy_of g (gs ++ (s.graph ∷ []))) (get_or-set_other numbers q i (n + 1) 0 a) ∙ copy_kept g s.graph gs (get_or numbers i 0) l
            ∙ h.graphs i (omega arith) ∙ sym (graph_kept m.line.start ss s p i low inside)
      ];
      rows = λ i k. elim (same? i q) [
        | same a b ↦ subst (λ (j : ℕ). get_or (set used q u) j 0 ≡ rows_to 0 j (take p ss ++ (s ∷ []))) b (rows_new ∙ v)
        | differ a b ↦
            let low : i ≤ p = omega (arith, long) in
            get_or-set_other used q i u 0 a ∙ h.rows i (omega arith) ∙ sym (rows_kept 0 i p ss s low inside)
      ];
      numbers_size = length-set numbers q (n + 1) ∙ h.numbers_size;
      used_size = length-set used q u ∙ h.used_size;
    }
