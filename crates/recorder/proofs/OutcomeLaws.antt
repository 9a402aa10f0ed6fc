-- What a recorded run answers; and the copies before the first call.
use Prim.Native.Nat.{ℕ, ◌*◌, ◌/◌, ◌≤◌}
use mathlib.Core.Path.{◌≡◌, refl, sym, ap, subst, ◌∙◌}
use mathlib.Core.Logic.{◌≢◌}
use mathlib.Core.Bool.{Bool, true, false}
use mathlib.Core.List.{List, []}
use native.Mathlib.Omega.{arith}
use native.Mathlib.Nat.{mul-zero, mul_comm, mul-le-mul_left, div-add-mod'}
use borrow.Author.Tests.{eq-eqb, ne_eqb}
use lib.Dec.{ltb}
use lib.ListN.{length, get_or, replicate, length-replicate, get_or-replicate}
use Rattle.lists.specs.Lists.{done}
use Rattle.history.specs.Machine.{fresh, graph_at}
use Rattle.image.specs.Image.{load, loadable}
use Rattle.commands.specs.Calls.{calls_of}
use Rattle.machine.specs.Calls.{Parameters, bounds_in}
use Rattle.machine.specs.Run.{Lent, AfterRun, parameters_of, list_refusal, list_number, accepted, refused}
use Rattle.timeline.specs.Steps.{rows_to}
use Rattle.copies.specs.Copies.{stretch, recorded_from, recorded, changes_in}
use Rattle.copies.specs.Recording.{copy_of, Covers}
use Rattle.recorder.specs.Outcomes.{made_in, recording_refusal, after_recording, recording}

-- ---- refusals

module _ (l : Lent) (copies : List ℕ) where
  abbrev too_few_copies : Bool
  too_few_copies = ltb (length copies / stretch (parameters_of l)) (changes_in (calls_of l.calls))

  pub no_refusal : list_refusal l ≡ 0 → too_few_copies ≡ false → recording_refusal l (length copies) ≡ 0
  unfolding recording_refusal
  no_refusal e t = rw (eq-eqb (list_refusal l) 0 e, t)

  pub by_run : (c n : ℕ) → c ≡ list_refusal l → n ≡ list_number l → c ≢ 0
      → after_recording (record { code = c; done = n; words = 0; answers = l.answers; end = l.end }) copies ≡ recording l copies
  unfolding recording recording_refusal refused
  by_run c n e f z =
      let no = ne_eqb (list_refusal l) 0 (λ q. z (e ∙ q)) in
      (λ i. after_recording (record { code = e i; done = f i; words = 0; answers = l.answers; end = l.end }) copies) ∙ rw (no, no)

  none_beside : list_refusal l ≡ 0 → list_number l ≡ 0
  unfolding list_number
  none_beside e = rw e

  pub too_few : list_refusal l ≡ 0 → too_few_copies ≡ true → after_recording (record { code = 113; done = 0; words = 0; answers = l.answers; end = l.end }) copies ≡ recording l copies
  unfolding recording recording_refusal refused
  too_few e t =
      (λ i. after_recording (record { code = 113; done = sym (none_beside e) i; words = 0; answers = l.answers; end = l.end }) copies) ∙ rw (eq-eqb (list_refusal l) 0 e, t)

  pub as_recorded : list_refusal l ≡ 0 → too_few_copies ≡ false → (r : AfterRun) (copies' : List ℕ) → r ≡ accepted l → copies' ≡ recorded (stretch (parameters_of l)) (made_in l) copies
      → after_recording r copies' ≡ recording l copies
  unfolding recording recording_refusal
  as_recorded e t r copies' f g = (λ i. after_recording (f i) (g i)) ∙ rw (eq-eqb (list_refusal l) 0 e, t)

pub div_room : (n m k : ℕ) → k ≤ n / m → m * k ≤ n
div_room n m k h = omega (arith, mul-le-mul_left {m = k} {n = n / m} m h, mul_comm m (n / m), div-add-mod' n m)

-- ---- before the first call

zeros_at : (zs : List ℕ) → zs ≡ replicate 20001 0 → get_or zs 0 0 ≡ 0
zeros_at zs e = ap (λ (l : List ℕ). get_or l 0 0) e ∙ get_or-replicate 20001 0 0 0 (omega arith)

pub covers_starts : (w : Parameters) (start copies numbers used : List ℕ) → loadable (bounds_in w) start ≡ true → numbers ≡ replicate 20001 0 → used ≡ replicate 20001 0
    → Covers w start copies copies numbers used [] 0 (fresh (load start))
unfolding recorded_from
covers_starts w start copies numbers used s e f = record {
  start_loads = s;
  copied = record { count = refl; formed = done; room = rw mul-zero (omega arith); kept = refl };
  places = record {
    in_copies = λ i k. let z : i ≡ 0 = omega arith in subst (λ (j : ℕ). get_or numbers j 0 ≤ 0) (sym z) (omega (arith, zeros_at numbers e));
    graphs = λ i k. let z : i ≡ 0 =
        omega arith in subst (λ (j : ℕ). copy_of (load start) [] (get_or numbers j 0) ≡ graph_at j (load start) []) (sym z) (ap (copy_of (load start) []) (zeros_at numbers e));
    rows = λ i k. let z : i ≡ 0 = omega arith in subst (λ (j : ℕ). get_or used j 0 ≡ rows_to 0 j []) (sym z) (zeros_at used f);
    numbers_size = ap length e ∙ length-replicate {A = ℕ} 20001 0;
    used_size = ap length f ∙ length-replicate {A = ℕ} 20001 0;
  };
}
