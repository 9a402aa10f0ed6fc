-- The copies after a call.
use Prim.Native.Nat.{ℕ, ◌+◌, ◌*◌, ◌≤◌, ◌<◌}
use mathlib.Core.Path.{◌≡◌, refl, sym, ap, subst, ◌∙◌}
use mathlib.Core.Logic.{◌≢◌}
use mathlib.Core.Bool.{true}
use mathlib.Core.List.{List, ◌++◌}
use native.Mathlib.Omega.{arith}
use borrow.Author.Tests.{eq-eqb, ne_eqb}
use lib.ListN.{length}
use lib.Seq.{sets}
use Rattle.graph.specs.declared.Change.{Change}
use Rattle.graph.specs.Graph.{Graph}
use Rattle.graph.specs.WellFormed.{well_formed}
use Rattle.graph.proofs.Facts.{from_facts}
use Rattle.history.specs.Machine.{Machine, present, after_change}
use Rattle.history.proofs.Timelines.{change_present}
use Rattle.image.specs.Image.{load, save}
use Rattle.commands.specs.declared.HistoryCall.TheVariants.{SetMark, DropMark, Undo, Redo, GoTo, Commit as CommitCall, Between, Standing, Free, NameMark, GoToName, SetBench, MadeBy}
use Rattle.commands.specs.declared.Command.{Command}
use Rattle.commands.specs.declared.Command.TheVariants.{Alter, History, Ask, Quote, Unknown}
use Rattle.commands.specs.declared.Answer.{Answer}
use Rattle.machine.specs.Calls.{Parameters, bounds_in}
use Rattle.machine.specs.Machine.{deed_of, step_to}
use Rattle.history_calls.specs.declared.Store.{Store}
use Rattle.history_calls.specs.declared.Called.{Called}
use Rattle.history_calls.specs.Memory.{Memory}
use Rattle.history_calls.proofs.Present.{holds_present, within_present}
use Rattle.timeline.specs.Steps.{rows_to}
use Rattle.timeline.proofs.Steps.{steps_short}
use Rattle.engine.specs.Running.{Running, Answered}
use Rattle.copies.specs.Copies.{graph_made, stretch}
use Rattle.copies.specs.Recording.{Covers, role_of, takes, count_after, copies_after, used_after, numbers_after}
use Rattle.copies.proofs.CopyLaws.{copied_more}
use Rattle.copies.proofs.MadeLaws.{idle, stepped, change_is, Still, still, commit_is, append_none}
use Rattle.copies.proofs.PlaceLaws.{numbers_same, numbers_commit, numbers_step}

pub answered_as : (w : Parameters) (m : Machine) (c c' : Command) (d : Called) (mem : Memory) (closed : List ℕ) (types : ℕ) → c ≡ c' → Answered w w.changes m c' d mem closed types
    → Answered w w.changes m c d mem closed types
answered_as w m c c' d mem closed types e a = subst (λ (x : Command). Answered w w.changes m x d mem closed types) (sym e) a

-- ---- the copies

module _ (w : Parameters) (start lent : List ℕ) where
  pub covers_as : {copies copies' numbers numbers' used used' : List ℕ} {gs gs' : List Graph} {n n' : ℕ} {m m' : Machine}
      → copies' ≡ copies → numbers' ≡ numbers → used' ≡ used → gs' ≡ gs → n' ≡ n → m' ≡ m → Covers w start lent copies numbers used gs n m → Covers w start lent copies' numbers' used' gs' n' m'
  covers_as {copies} {copies'} {numbers} {numbers'} {used} {used'} {gs} {gs'} {n} {n'} {m} {m'} a b c d e g f =
      let f1 = subst (λ (x : List ℕ). Covers w start lent x numbers used gs n m) (sym a) f in
      let f2 = subst (λ (x : List ℕ). Covers w start lent copies' x used gs n m) (sym b) f1 in
      let f3 = subst (λ (x : List ℕ). Covers w start lent copies' numbers' x gs n m) (sym c) f2 in
      let f4 = subst (λ (x : List Graph). Covers w start lent copies' numbers' used' x n m) (sym d) f3 in
      let f5 = subst (λ (x : ℕ). Covers w start lent copies' numbers' used' gs' x m) (sym e) f4 in
      subst (λ (x : Machine). Covers w start lent copies' numbers' used' gs' n' x) (sym g) f5

  module _ (copies numbers used : List ℕ) (gs : List Graph) (n : ℕ) (m : Machine) (x : Store) (mem : Memory) (closed : List ℕ) (types : ℕ)
      (r : Running w x mem closed types m) (f : Covers w start lent copies numbers used gs n m) where
    covers_still : (c : Command) → Still (deed_of w c m).effect → Covers w start lent copies numbers used (gs ++ graph_made w m c) n (step_to w m c)
    covers_still c h =
        let s = still w m c h in
        covers_as refl refl refl (ap (λ (l : List Graph). gs ++ l) s.2 ∙ append_none gs) refl refl (record {
          start_loads = f.start_loads;
          copied = f.copied;
          places = numbers_same (load start) gs numbers used m.line (step_to w m c).line s.0 s.1 f.places;
        })

    module _ (d : Called) (mem' : Memory) where
      covers_change : (c : Change) → Answered w w.changes m (Alter c) d mem' closed types
          → (takes (role_of (Alter c)) d.answer.number ≡ true → stretch w * n + stretch w ≤ length copies)
          → Covers w start lent (copies_after (role_of (Alter c)) d.answer.number (stretch w) n (present (step_to w m (Alter c))) copies)
          (numbers_after (role_of (Alter c)) d.answer.number x.current.position.place d.store.current.position.place n numbers)
          (used_after (role_of (Alter c)) d.answer.number d.store.current.position.place d.store.current.position.used used)
          (gs ++ graph_made w m (Alter c)) (count_after (role_of (Alter c)) d.answer.number n) (step_to w m (Alter c))
      covers_change c a room = elim (change_is w m c) [
        | idle k e g ↦
            let z : d.answer.number ≡ 0 = ap (λ (y : Answer). y.number) a.answered ∙ k in
            rw (eq-eqb d.answer.number 0 z) (covers_as refl refl refl (ap (λ (l : List Graph). gs ++ l) g ∙ append_none gs) refl e f)
        | stepped s k e g ↦
            let z : d.answer.number ≢ 0 = λ q. k (sym (ap (λ (y : Answer). y.number) a.answered) ∙ q) in
            let j = r.represents.journal in
            let after = subst (λ (y : Machine). Running w d.store mem' closed types y) e a.after in
            let i = after.represents.journal in
            let new : present (step_to w m (Alter c)) ≡ s.graph = ap present e ∙ change_present s m j.inside in
            let formed : well_formed (bounds_in w) s.graph ≡ true =
            subst (λ (y : Graph). well_formed (bounds_in w) y ≡ true) (change_present s m j.inside)
            (from_facts (bounds_in w) (present (after_change s m)) (holds_present (bounds_in w) d.store mem' (after_change s m) after.represents).sound
            (within_present (bounds_in w) d.store mem' (after_change s m) after.represents)) in
            let few : 12 * d.store.current.position.steps ≤ length mem'.journal = steps_short (bounds_in w) d.store.current.position _ mem'.journal (after_change s m).line i in
            let most = after.setting.limits.few_changes in
            let have = after.setting.changes in
            let t : takes (role_of (Alter c)) d.answer.number ≡ true = rw (ne_eqb d.answer.number 0 z) in
            let q : d.store.current.position.place < 20001 = omega (arith, i.steps, i.inside, i.place) in
            rw (ne_eqb d.answer.number 0 z) (covers_as (ap (λ (y : Graph). sets copies (stretch w * n) (save y)) new) refl refl (ap (λ (l : List Graph). gs ++ l) g) refl e (record {
              start_loads = f.start_loads;
              copied = copied_more w lent copies gs n f.copied s.graph formed (room t);
              places = numbers_step (load start) gs numbers used m s n d.store.current.position.place d.store.current.position.used f.copied.count j.inside i.place q
                  (i.used ∙ ap (λ (k : ℕ). rows_to 0 k (after_change s m).line.steps) (sym i.place)) f.places;
            }))
      ]

      -- any command
      pub covers_next : (c : Command) → Answered w w.changes m c d mem' closed types
          → (takes (role_of c) d.answer.number ≡ true → stretch w * n + stretch w ≤ length copies)
          → Covers w start lent (copies_after (role_of c) d.answer.number (stretch w) n (present (step_to w m c)) copies)
          (numbers_after (role_of c) d.answer.number x.current.position.place d.store.current.position.place n numbers)
          (used_after (role_of c) d.answer.number d.store.current.position.place d.store.current.position.used used)
          (gs ++ graph_made w m c) (count_after (role_of c) d.answer.number n) (step_to w m c)
      covers_next (Alter c) a room = covers_change c a room
      covers_next (History (SetMark k)) a room = covers_still (History (SetMark k)) tt
      covers_next (History (DropMark k)) a room = covers_still (History (DropMark k)) tt
      covers_next (History Undo) a room = covers_still (History Undo) tt
      covers_next (History Redo) a room = covers_still (History Redo) tt
      covers_next (History (GoTo k)) a room = covers_still (History (GoTo k)) tt
      covers_next (History CommitCall) a room =
          let e = commit_is w m in
          let j = r.represents.journal in
          covers_as refl refl refl (ap (λ (l : List Graph). gs ++ l) e.1 ∙ append_none gs) refl e.0 (record {
            start_loads = f.start_loads;
            copied = f.copied;
            places = numbers_commit (load start) gs numbers used m x.current.position.place j.place j.inside f.places;
          })
      covers_next (History (Between k l)) a room = covers_still (History (Between k l)) tt
      covers_next (History Standing) a room = covers_still (History Standing) tt
      covers_next (History Free) a room = covers_still (History Free) tt
      covers_next (History (NameMark k b c)) a room = covers_still (History (NameMark k b c)) tt
      covers_next (History (GoToName b c)) a room = covers_still (History (GoToName b c)) tt
      covers_next (History (SetBench b)) a room = covers_still (History (SetBench b)) tt
      covers_next (History (MadeBy k l b)) a room = covers_still (History (MadeBy k l b)) tt
      covers_next (Ask q) a room = covers_still (Ask q) tt
      covers_next (Quote p) a room = covers_still (Quote p) tt
      covers_next Unknown a room = covers_still Unknown tt
