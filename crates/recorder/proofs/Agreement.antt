-- For readers: both engines agree, each copy is the words of its graph, and all other words of the copies stay.
use Rattle.std.specs.Prelude.{◌==◌}
use Prim.Native.Nat.{ℕ, suc, ◌+◌, ◌*◌, ◌/◌, ◌≤◌, ◌<◌}
use mathlib.Core.Path.{◌≡◌, refl, sym, ap, subst, ◌∙◌}
use mathlib.Core.Logic.{◌≢◌}
use mathlib.Core.Bool.{Bool, true, false}
use mathlib.Core.List.{List, [], ◌∷◌}
use native.Mathlib.Omega.{arith}
use native.Mathlib.Nat.{mul-le-mul_left}
use borrow.Author.Tests.{eqb-true, eqb-false, ltb-false}
use lib.Dec.{ltb}
use lib.ListN.{length, get_or, take, drop}
use lib.Seq.{sets}
use Rattle.lists.specs.Lists.{All}
use Rattle.lists.proofs.Stores.{sets_other}
use Rattle.graph.specs.Graph.{Graph}
use Rattle.history.specs.Machine.{fresh}
use Rattle.image.specs.Image.{load, save}
use Rattle.image.proofs.WordSize.{Word}
use Rattle.commands.specs.Calls.{calls_of}
use Rattle.machine.specs.Run.{Lent, AfterRun, parameters_of, list_refusal, run}
use Rattle.machine.proofs.AnswerBounds.{calls_fit}
use Rattle.machine.proofs.Graphs.{fresh_formed}
use Rattle.machine.proofs.ListRows.{start_formed}
use Rattle.copies.specs.Copies.{stretch, recorded_from, recorded, changes_in}
use Rattle.copies.proofs.CopyLaws.{stretch_read, all_small}
use Rattle.copies.proofs.MadeLaws.{made_few, made_formed}
use Rattle.recorder.specs.Outcomes.{made_in, recording_refusal, AfterRecording, recording}
use Rattle.recorder.proofs.OutcomeLaws.{div_room}

-- ---- both engines

module _ (l : Lent) (copies : List ℕ) where
  abbrev too_few : Bool
  too_few = ltb (length copies / stretch (parameters_of l)) (changes_in (calls_of l.calls))

  -- what meets the contract of the run and what meets that of the recorded run are the same but for the copies
  pub engines_agree : (r : AfterRun) (q : AfterRecording) → r ≡ run l → q ≡ recording l copies → recording_refusal l (length copies) ≢ 113 → q.run ≡ r
  unfolding run recording recording_refusal
  engines_agree r q e f n = ap (λ (x : AfterRecording). x.run) f ∙ go (list_refusal l == 0) refl too_few refl n ∙ sym e
    where
      go : (s : Bool) → (list_refusal l == 0) ≡ s → (t : Bool) → too_few ≡ t → recording_refusal l (length copies) ≢ 113 → (recording l copies).run ≡ run l
      go true a true b n = absurd (n (rw (a, b)))
      go true a false b n = rw (a, b)
      go false a t b n = rw (a, a)

-- ---- the copies of a list that is not refused

module _ (l : Lent) (copies : List ℕ) (e : recording_refusal l (length copies) ≡ 0) where
  record Passed : Type 0 where
    listed : list_refusal l ≡ 0
    enough : changes_in (calls_of l.calls) ≤ length copies / stretch (parameters_of l)
    copied : (recording l copies).copies ≡ recorded (stretch (parameters_of l)) (made_in l) copies

  passed : Passed
  unfolding recording recording_refusal
  passed = go (list_refusal l == 0) refl (too_few l copies) refl e
    where
      go : (s : Bool) → (list_refusal l == 0) ≡ s → (t : Bool) → too_few l copies ≡ t → recording_refusal l (length copies) ≡ 0 → Passed
      go true a true b e = absurd (let z : ◌≡◌ {A = ℕ} 113 0 = rw (a, b) at e in omega arith)
      go true a false b e = record { listed = eqb-true (list_refusal l) 0 a; enough = ltb-false _ _ b; copied = rw (a, b) }
      go false a t b e = absurd (eqb-false (list_refusal l) 0 a (rw a at e))

  steps_fit : stretch (parameters_of l) * length (made_in l) ≤ length copies
  steps_fit =
      let s = stretch (parameters_of l) in
      let k = made_few (parameters_of l) (fresh (load l.start)) (calls_of l.calls) in
      omega (arith, div_room (length copies) s (changes_in (calls_of l.calls)) passed.enough, mul-le-mul_left {m = length (made_in l)} {n = changes_in (calls_of l.calls)} s k)

  -- stretch k + 1 begins with the words of the graph after step k + 1; the words of the calls have 32 bits
  pub recorded_at : All Word l.calls → (k : ℕ) (z : Graph) → k < length (made_in l)
      → take (length (save (get_or (made_in l) k z))) (drop (stretch (parameters_of l) * k) (recording l copies).copies) ≡ save (get_or (made_in l) k z)
  recorded_at fits k z h =
      let w = parameters_of l in
      let G = get_or (made_in l) k z in
      let a = made_formed w (fresh (load l.start)) (calls_of l.calls) (calls_fit fits) (fresh_formed w (load l.start) (start_formed l passed.listed)) in
      let f : 0 + k ≡ k = omega arith in
      let g : 0 + length (made_in l) ≡ length (made_in l) = omega arith in
      ap (λ (cs : List ℕ). take (length (save G)) (drop (stretch w * k) cs)) passed.copied
      ∙ ap (λ (j : ℕ). take (length (save G)) (drop (stretch w * j) (recorded (stretch w) (made_in l) copies))) (sym f)
      ∙ stretch_read (stretch w) 0 (made_in l) copies k z (all_small w a) h (subst (λ (j : ℕ). stretch w * j ≤ length copies) (sym g) steps_fit)

-- ---- all other words

others : (size k : ℕ) (gs : List Graph) (cs : List ℕ) (j : ℕ) (z : Graph)
    → ((i : ℕ) → i < length gs → size * (k + i) ≤ j → j < size * (k + i) + length (save (get_or gs i z)) → ⊥) → get_or (recorded_from size k gs cs) j 0 ≡ get_or cs j 0
unfolding recorded_from
others size k [] cs j z h = refl
others size k (g ∷ gs) cs j z h =
    let e : k + 0 ≡ k = omega arith in
    others size (suc k) gs (sets cs (size * k) (save g)) j z (λ i a b c. let f : suc k + i ≡ k + suc i = omega arith in h (suc i) (omega arith) (rw (← f) b) (rw (← f) c))
    ∙ sets_other cs (size * k) (save g) j (λ a b. h 0 (omega arith) (rw e a) (rw e b))

-- a word that lies in no copy is as it was
pub recorded_else : (l : Lent) (copies : List ℕ) → recording_refusal l (length copies) ≡ 0 → (j : ℕ) (z : Graph)
    → ((k : ℕ) → k < length (made_in l) → stretch (parameters_of l) * k ≤ j → j < stretch (parameters_of l) * k + length (save (get_or (made_in l) k z)) → ⊥)
    → get_or (recording l copies).copies j 0 ≡ get_or copies j 0
recorded_else l copies e j z h =
    ap (λ (cs : List ℕ). get_or cs j 0) (passed l copies e).copied
    ∙ others (stretch (parameters_of l)) 0 (made_in l) copies j z (λ i a b c. let f : 0 + i ≡ i = omega arith in h i a (rw f at b) (rw f at c))
