-- What a reduction answers: the lists that it refuses, and what it leaves of any other.
use Rattle.std.specs.Prelude.{◌==◌}
use Prim.Native.Nat.{ℕ, ◌*◌, ◌/◌, ◌≤◌, ◌<◌}
use mathlib.Core.Path.{◌≡◌, refl, sym, ap, ◌∙◌, subst}
use mathlib.Core.Logic.{◌≢◌, ◌⊎◌, inl, inr}
use mathlib.Core.Bool.{Bool, true, false, ◌||◌}
use mathlib.Core.List.{List, [], ◌∷◌}
use native.Mathlib.Omega.{arith}
use borrow.Author.Tests.{eq-eqb, ne_eqb, eqb-false, ltb-false, lt-ltb, le-ltb}
use lib.Dec.{ltb}
use lib.ListN.{length, take, drop}
use lib.Seq.{take_all, take_at, length-take-le}
use Rattle.lists.specs.Choice.{◌⇒◌else◌}
use Rattle.lists.specs.Lists.{range, overwritten, concat_map}
use Rattle.type_rows.specs.Closure.{closure_of}
use Rattle.type_rows.proofs.Closing.{closure_good}
use Rattle.commands.specs.Calls.{Call, call_at, calls_of}
use Rattle.machine.specs.Run.{Lent, parameters_of, list_refusal, list_number}
use Rattle.machine.proofs.ListRows.{Passed, passed}
use Rattle.machine.proofs.Whole.{calls_length}
use Rattle.engine.specs.Outcomes.{lent}
use Rattle.reduction.specs.declared.Reduction.{Reduction}
use Rattle.reduction.specs.Reduction.{Subsequence, final_of, Least, reduced}
use Rattle.machine.specs.Calls.{Parameters}
use Rattle.image.specs.Image.{load}
use Rattle.reduction.specs.Trials.{last_code, calls_at, Numbered, Ready}
use Rattle.reduction.specs.Outcomes.{AfterReduction, words_of, code_of, least, too_long, reduction_refusal, after_reduction, reduction, calls_in, IsLeast, Searched}
use Rattle.lists.proofs.Ranges.{range_length, range_at, picks_all}
use Rattle.reduction.proofs.ReductionLaws.{least as still_least, left_among}
use Rattle.reduction.proofs.TrialLaws.{calls_many, ready_again}

or_false : (a b : Bool) → (a || b) ≡ false → (a ≡ false) × (b ≡ false)
or_false true b e = absurd (let z : ◌≡◌ {A = ℕ} 0 1 = cc in omega arith)
or_false false b e = (refl, e)

-- too many calls, or more than there is room for
pub too_many : (most n room long : ℕ) → (most < n) ⊎ ((n ≤ most) × (room < long)) → (ltb most n || ltb room long) ≡ true
too_many most n room long (inl h) = rw (lt-ltb most n h)
too_many most n room long (inr h) = rw (le-ltb most n h.0, lt-ltb room long h.1)

-- ---- lists that are refused

module _ (l : Lent) (list : List ℕ) where
  pub by_run : (c n : ℕ) → c ≡ list_refusal l → n ≡ list_number l → c ≢ 0 → record { code = c; kept = n; runs = 0; list = list } ≡ reduction l list
  unfolding reduction reduction_refusal
  by_run c n e f z =
      let no = ne_eqb (list_refusal l) 0 (λ q. z (e ∙ q)) in
      (λ i. record { code = e i; kept = f i; runs = 0; list = list }) ∙ rw (no, no)

  none_beside : list_refusal l ≡ 0 → list_number l ≡ 0
  unfolding list_number
  none_beside e = rw e

  module _ (e : list_refusal l ≡ 0) where
    pub too_long_lem : too_long l (length list) ≡ true → record { code = 114; kept = 0; runs = 0; list = list } ≡ reduction l list
    unfolding reduction reduction_refusal
    too_long_lem t = (λ i. record { code = 114; kept = sym (none_beside e) i; runs = 0; list = list }) ∙ rw (eq-eqb (list_refusal l) 0 e, t)

    module _ (t : too_long l (length list) ≡ false) where
      pub no_failure : code_of l (calls_of l.calls) ≡ 0 → record { code = 115; kept = 0; runs = 0; list = list } ≡ reduction l list
      unfolding reduction reduction_refusal
      no_failure z = (λ i. record { code = 115; kept = sym (none_beside e) i; runs = 0; list = list }) ∙ rw (eq-eqb (list_refusal l) 0 e, t, eq-eqb (code_of l (calls_of l.calls)) 0 z)

      pub left_least : (r : Reduction) (calls kept list' : List ℕ) (n : ℕ) → code_of l (calls_of l.calls) ≢ 0 → Searched calls kept n r (least l)
          → list' ≡ overwritten (concat_map words_of (calls_at calls (take r.kept kept))) list → after_reduction r list' ≡ reduction l list
      unfolding reduction reduction_refusal
      left_least r calls kept list' n z s f =
          let k : r.kept ≡ length (least l).kept = sym (calls_many calls kept r.kept s.numbered) ∙ ap length s.left in
          let g : list' ≡ overwritten (concat_map words_of (least l).kept) list = f ∙ ap (λ (xs : List Call). overwritten (concat_map words_of xs) list) s.left in
          (λ i. record { code = s.code i; kept = k i; runs = s.runs i; list = g i }) ∙ rw (eq-eqb (list_refusal l) 0 e, t, ne_eqb (code_of l (calls_of l.calls)) 0 z)

      pub code_free : ((reduction l list).code ≡ 0) ⊎ ((reduction l list).code ≡ 115)
      unfolding reduction reduction_refusal
      code_free = go (code_of l (calls_of l.calls) == 0) refl
        where
          go : (b : Bool) → (code_of l (calls_of l.calls) == 0) ≡ b → ((reduction l list).code ≡ 0) ⊎ ((reduction l list).code ≡ 115)
          go true f = inr (rw (eq-eqb (list_refusal l) 0 e, t, f))
          go false f = inl (rw (eq-eqb (list_refusal l) 0 e, t, f))

-- ---- the calls that are told

words_calls : (xs : List Call) → calls_of (concat_map words_of xs) ≡ xs
words_calls [] = refl
words_calls (x ∷ xs) = ap (λ (ys : List Call). x ∷ ys) (words_calls xs)

words_length : (xs : List Call) → length (concat_map words_of xs) ≡ 5 * length xs
words_length [] = refl
words_length (x ∷ xs) = omega (arith, words_length xs)

-- at the front of the lent list stand the calls kept
pub kept_read : (l : Lent) (r : Reduction) (list list' : List ℕ) → after_reduction r list' ≡ reduction l list → r.code ≡ 0 → calls_in r.kept list' ≡ (least l).kept
unfolding reduction
kept_read l r list list' e z = go (reduction_refusal l (length list) == 0) refl e
  where
    go : (t : Bool) → (reduction_refusal l (length list) == 0) ≡ t → after_reduction r list' ≡ (t ⇒ record {
      code = 0;
      kept = length (least l).kept;
      runs = (least l).runs;
      list = overwritten (concat_map words_of (least l).kept) list;
    } else record { code = reduction_refusal l (length list); kept = list_number l; runs = 0; list = list }) → calls_in r.kept list' ≡ (least l).kept
    go true t f =
        let ws = concat_map words_of (least l).kept in
        (λ i. calls_in (f i).kept (f i).list)
        ∙ ap calls_of (take_at ws (drop (length ws) list) (5 * length (least l).kept) (words_length (least l).kept))
        ∙ words_calls (least l).kept
    go false t f = absurd (eqb-false (reduction_refusal l (length list)) 0 t (sym (ap (λ (a : AfterReduction). a.code) f) ∙ z))

pub is_least : (l : Lent) (r : Reduction) (list list' : List ℕ) → after_reduction r list' ≡ reduction l list → IsLeast l r list'
is_least l r list list' e z = subst (Least (code_of l) (code_of l (calls_of l.calls))) (sym (kept_read l r list list' e z)) (still_least (code_of l) (calls_of l.calls))

-- the calls kept are some of those sent, in their order, with the same last one
pub least_among : (l : Lent) (z : Call) → Subsequence (least l).kept (calls_of l.calls) × (final_of z (least l).kept ≡ final_of z (calls_of l.calls))
least_among l z = left_among (code_of l) (calls_of l.calls) z

-- ---- a list that is reduced

-- what is lent, where no run refuses it and the list is not too long
pub record Reducible : Type 0 where
  pub start : List ℕ
  pub rows : List ℕ
  pub calls : List ℕ
  pub vertices : List ℕ
  pub edges : List ℕ
  pub journal : List ℕ
  pub answers : List ℕ
  pub image : List ℕ
  pub list : List ℕ
  pub accepted : list_refusal (lent start rows calls vertices edges journal answers image) ≡ 0
  pub short : too_long (lent start rows calls vertices edges journal answers image) (length list) ≡ false

module _ (r : Reducible) where
  abbrev pub given : Lent
  given = lent r.start r.rows r.calls r.vertices r.edges r.journal r.answers r.image

  -- how many calls are sent
  abbrev pub sent : ℕ
  sent = length r.calls / 5

  pub past : Passed given
  past = passed given r.accepted

  pub few_calls : sent ≤ 20000
  few_calls = ltb-false 20000 sent (or_false (ltb 20000 sent) (ltb (length r.list) (length r.calls)) r.short).0

  pub list_room : length r.calls ≤ length r.list
  list_room = ltb-false (length r.list) (length r.calls) (or_false (ltb 20000 sent) (ltb (length r.list) (length r.calls)) r.short).1

  pub ready : (closed : List ℕ) → closed ≡ closure_of r.rows → Ready (parameters_of given) r.start r.vertices r.edges r.journal closed (length r.rows)
  ready closed c = record {
    setting = record {
      limits = past.limits;
      vertices = refl;
      edges = refl;
      changes = refl;
      rows = past.rows_good;
      closed_rows = c ∙ closure_good r.rows past.rows_good;
      types_in = refl;
    };
    start_loads = past.start_loads;
  }

  pub answers_many : sent ≤ length r.answers
  answers_many = omega (arith, past.answers_room)

  module _ (kept : List ℕ) (k : kept ≡ range (length (take sent r.answers))) where
    numbers : kept ≡ range sent
    numbers = k ∙ ap range (length-take-le sent r.answers answers_many)

    pub all_many : length kept ≡ sent
    all_many = ap length numbers ∙ range_length sent

    pub all_numbered : Numbered r.calls kept (length kept)
    all_numbered =
        let m = all_many in record {
          fits = omega arith;
          few = omega (arith, few_calls);
          numbers = λ i h. let l : i < sent = omega (arith, h) in rw (numbers, range_at sent i l) l;
        }

    pub all_calls : calls_at r.calls kept ≡ calls_of r.calls
    all_calls =
        let m : length (calls_of r.calls) ≡ sent = calls_length sent r.calls (omega arith) (omega arith) in
        ap (calls_at r.calls) numbers ∙ picks_all (calls_of r.calls) (call_at []) sent (omega arith) ∙ take_all sent (calls_of r.calls) (omega arith)

    -- the code of the first trial is that of the list as sent
    module _ (closed : List ℕ) (c : closed ≡ closure_of r.rows) (got : ℕ)
        (t : (w : Parameters) → Ready w r.start r.vertices r.edges r.journal closed (length r.rows) → got ≡ last_code w (load r.start) (calls_at r.calls kept)) where
      pub code_sent : got ≡ code_of given (calls_of r.calls)
      code_sent = t _ (ready closed c) ∙ ap (code_of given) all_calls

      -- and the search, over the tables that it leaves, finds the least
      pub searched_is : (vertices edges journal : List ℕ) → length vertices ≡ length r.vertices → length edges ≡ length r.edges → length journal ≡ length r.journal
          → (kept' : List ℕ) (n : ℕ) (result : Reduction)
          → ((w : Parameters) → Ready w r.start vertices edges journal closed (length r.rows) → got ≡ last_code w (load r.start) (calls_at r.calls kept)
          → Searched r.calls kept' n result (reduced (last_code w (load r.start)) (calls_at r.calls kept)))
          → Searched r.calls kept' n result (least given)
      searched_is vertices edges journal v e j kept' n result s =
          subst (λ (xs : List Call). Searched r.calls kept' n result (reduced (code_of given) xs)) all_calls
          (s _ (ready_again _ _ _ _ _ _ _ (ready closed c) vertices edges journal v e j) (t _ (ready closed c)))
