-- A call of one of several stores that goes to a standing mark: accepted wherever 10 does not refuse it, back always.
use Rattle.std.specs.Prelude.{◌==◌}
use Prim.Native.Nat.{ℕ, ◌≤◌, ◌<◌}
use mathlib.Core.Path.{◌≡◌, refl, sym, ap, ◌∙◌}
use mathlib.Core.Bool.{Bool, true, false}
use mathlib.Core.List.{List}
use native.Mathlib.Omega.{arith}
use lib.Dec.{ltb}
use borrow.Author.Tests.{ltb-true, ltb-false, eq-eqb}
use Rattle.lists.specs.Choice.{within}
use Rattle.graph.specs.Graph.{Graph}
use Rattle.history.specs.Machine.{Machine, onward, distance, present}
use Rattle.history.proofs.Timelines.{onward_back}
use Rattle.commands.specs.declared.Answer.{Answer}
use Rattle.machine.specs.Calls.{Parameters}
use Rattle.machine.specs.Marks.{Event}
use Rattle.machine.specs.Posed.{Posed, posed, answer_at, step_at}
use Rattle.machine.specs.Sentences.{store_after, store_events, Goes}
use Rattle.machine.specs.Stores.{Stores, StoreCall, joint_room, is_store, found, answer_in, step_in}
use Rattle.machine.specs.StoreRun.{LentStores, parameters_in, start_of, opened, after_in, to_store}
use Rattle.machine.specs.Going.{ToMark, by_number, by_name, GoesIn}
use Rattle.machine.proofs.MarkLaws.{mark_sentence_at}
use Rattle.machine.proofs.NameLaws.{name_sentence_at}
use Rattle.machine.proofs.StoreLaws.{own_step, own_answer, store_runs, limits_last}

-- ---- by the sentences of its store

module _ (w : Parameters) (g : Graph) (ys : List Posed) (r n : ℕ) where
  leads_on : {x : StoreCall} {q : ℕ} {h : Graph} → ToMark n (store_events w g ys) x q h → onward q (store_after w g ys).line ≤ r →
      Goes w (store_after w g ys) r x.call q h
  leads_on (by_number {k} {q} {h} b c d s) f = (mark_sentence_at w g ys).going r k q h b c d s f
  leads_on (by_name {k} {q} {h} {t} c d s) f = (name_sentence_at w g ys).going r k q h t c d s f

  leads_far : {x : StoreCall} {q : ℕ} {h : Graph} → ToMark n (store_events w g ys) x q h → r < onward q (store_after w g ys).line →
      (answer_at w (store_after w g ys) (posed r x.call)).code ≡ 10
  leads_far (by_number {k} {q} {h} b c d s) f = (mark_sentence_at w g ys).too_far r k q h b c d s f
  leads_far (by_name {k} {q} {h} {t} c d s) f = (name_sentence_at w g ys).too_far r k q h t c d s f

named : {n : ℕ} {es : List Event} {x : StoreCall} {q : ℕ} {h : Graph} → ToMark n es x q h → x.store ≡ n
named (by_number b c d s) = refl
named (by_name c d s) = refl

-- ---- by the run's own answers

module _ (l : LentStores) (xs : List StoreCall) (n : ℕ) (i : is_store (opened l) n ≡ true) where
  abbrev w : Parameters
  w = parameters_in l

  abbrev s : Stores
  s = after_in l xs

  abbrev ys : List Posed
  ys = to_store l n xs

  abbrev m : Machine
  m = store_after w (start_of l n) ys

  is_store_lem : is_store s n ≡ true
  is_store_lem = ap (λ (k : ℕ). within 1 k n) (limits_last w (opened l) xs).0 ∙ i

  machine_is : s.machine n ≡ m
  machine_is = store_runs w n (opened l) xs i

  module _ (x : StoreCall) (q : ℕ) (h : Graph) (a : ToMark n (store_events w (start_of l n) ys) x q h) where
    own : (x.store == n) ≡ true
    own = eq-eqb x.store n (named a)

    answer_is : answer_in w s x ≡ answer_at w m (found s x)
    answer_is = own_answer w s x n is_store_lem own ∙ ap (λ (k : Machine). answer_at w k (found s x)) machine_is

    goes_in : Goes w m (joint_room s) x.call q h → GoesIn w s x q h
    goes_in o = record {
      accepted = ap (λ (b : Answer). b.code) answer_is ∙ o.accepted;
      graph =
          ap (λ (k : ℕ). present ((step_in w s x).machine k)) (named a)
          ∙ ap present (own_step w s x n is_store_lem own ∙ ap (λ (k : Machine). step_at w k (found s x)) machine_is)
          ∙ o.graph;
      moved =
          ap (λ (b : Answer). b.number) answer_is
          ∙ o.moved
          ∙ ap (λ (k : Machine). distance k.line.place q) (sym (ap s.machine (named a) ∙ machine_is));
    }

    pub going_in : ((answer_in w s x).code ≡ 10 → ⊥) → GoesIn w s x q h
    going_in f = go (ltb (joint_room s) (onward q m.line)) refl
      where
        go : (t : Bool) → ltb (joint_room s) (onward q m.line) ≡ t → GoesIn w s x q h
        go true e = absurd (f (ap (λ (b : Answer). b.code) answer_is ∙ leads_far w (start_of l n) ys (joint_room s) n a (ltb-true _ _ e)))
        go false e = goes_in (leads_on w (start_of l n) ys (joint_room s) n a (ltb-false _ _ e))

    pub back_in : q ≤ (s.machine n).line.place → GoesIn w s x q h
    back_in b =
        let p = ap (λ (k : Machine). k.line.place) machine_is in
        goes_in (leads_on w (start_of l n) ys (joint_room s) n a (omega (arith, onward_back q m.line (omega (arith, b, p)))))
