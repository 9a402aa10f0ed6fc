-- The reduction of a list: its refusals, its result, and the lent list after it.
use Rattle.std.specs.Prelude.{ℕ, ◌*◌, ◌/◌, ◌≤◌, ◌≡◌, ◌≢◌, Bool, ◌||◌, List, [], ◌∷◌, ltb, length, take, ◌==◌}
use Rattle.lists.specs.Choice.{◌⇒◌else◌}
use Rattle.lists.specs.Lists.{overwritten, concat_map}
use Rattle.lists.specs.Slices.{Slice}
use Rattle.image.specs.Image.{load}
use Rattle.commands.specs.Calls.{Call, calls_of}
use Rattle.machine.specs.Run.{Lent, parameters_of, list_refusal, list_number}
use Rattle.engine.specs.Outcomes.{Same}
use Rattle.reduction.specs.declared.Reduction.{Reduction}
use Rattle.reduction.specs.Reduction.{Reduced, reduced, Least}
use Rattle.reduction.specs.Trials.{last_code, calls_at, Numbered}

abbrev pub most_calls : ℕ
most_calls = 20000

-- the five words of a call
abbrev pub words_of : Call → List ℕ
words_of x = x.kind ∷ x.a ∷ x.b ∷ x.c ∷ x.d ∷ []

-- the code of the last of these calls, on a fresh store with the start graph
abbrev pub code_of : Lent → List Call → ℕ
code_of l xs = last_code (parameters_of l) (load l.start) xs

-- what is left, and the runs made
abbrev pub least : Lent → Reduced Call
least l = reduced (code_of l) (calls_of l.calls)

-- 114: the list sent is too long, or longer than the lent one
abbrev pub too_long : Lent → ℕ → Bool
too_long l room = ltb most_calls (length l.calls / 5) || ltb room (length l.calls)

-- the refusals of a run, then 114, then 115: no call, or the last one accepted
unfoldable pub reduction_refusal : Lent → ℕ → ℕ
unfolding list_refusal last_code
reduction_refusal l room =
    (list_refusal l == 0) ⇒ (too_long l room ⇒ 114 else (code_of l (calls_of l.calls) == 0) ⇒ 115 else 0)
    else list_refusal l

-- the result, and the lent list
pub record AfterReduction : Type 0 where
  pub code : ℕ
  pub kept : ℕ
  pub runs : ℕ
  pub list : List ℕ

abbrev pub after_reduction : Reduction → List ℕ → AfterReduction
after_reduction r list = record { code = r.code; kept = r.kept; runs = r.runs; list = list }

unfoldable pub reduction : Lent → List ℕ → AfterReduction
unfolding reduction_refusal list_number reduced
reduction l list =
    let r = reduction_refusal l (length list) in
    (r == 0) ⇒ record {
      code = 0;
      kept = length (least l).kept;
      runs = (least l).runs;
      list = overwritten (concat_map words_of (least l).kept) list;
    }
    else record { code = r; kept = list_number l; runs = 0; list = list }

-- ---- for contracts

-- refused by the run's codes or by 114, it writes nowhere
abbrev pub Untouched : Reduction → Slice → Slice → Slice → Slice → Type 0
Untouched r vertices edges journal answers =
    r.code ≢ 0 → r.code ≢ 115 → Same vertices × Same edges × Same journal × Same answers

-- so many calls at the front of a list
abbrev pub calls_in : ℕ → List ℕ → List Call
calls_in n list = calls_of (take (5 * n) list)

-- with code 0: the calls told, at the front of the lent list, have the code of the list as sent, and another code or
-- none without any one of the earlier ones
abbrev pub IsLeast : Lent → Reduction → List ℕ → Type 0
IsLeast l r list = r.code ≡ 0 → Least (code_of l) (code_of l (calls_of l.calls)) (calls_in r.kept list)

-- what a search leaves: the numbers of the calls kept, in front
pub record Searched (calls kept : List ℕ) (n : ℕ) (r : Reduction) (s : Reduced Call) : Type 0 where
  pub code : r.code ≡ 0
  pub runs : r.runs ≡ s.runs
  pub few : r.kept ≤ n
  pub numbered : Numbered calls kept r.kept
  pub left : calls_at calls (take r.kept kept) ≡ s.kept
