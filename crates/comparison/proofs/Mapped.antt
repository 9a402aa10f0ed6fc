-- A verdict whose refusal another is told for, as `map_err`, `or` and a `?` do.
use mathlib.Core.Path.{◌≡◌, refl, sym, ap, subst, ◌∙◌}
use mathlib.Core.Bool.{true≢false}
use Rattle.std.specs.Prelude.{⊤, Result, Ok, Err, is_ok}
use Rattle.std.specs.Result.{MatchResult, IsErrAnd, result_or}
use Rattle.image_check.specs.Checks.{Verdict}
use Rattle.image_check.specs.declared.BadImage.{BadImage}

pub mapped_err : {D : Type 0} (P : BadImage → D → Type 0) (r : Verdict) (q : Result ⊤ D) →
    MatchResult r (λ x. q ≡ Ok x) (λ e. IsErrAnd q (P e)) → (d : D) → q ≡ Err d → (bad : BadImage) × (r ≡ Err bad) × P bad d
mapped_err P (Ok x) q m d e = absurd (true≢false (sym (ap is_ok m) ∙ ap is_ok e))
mapped_err P (Err bad) q m d e = (bad, refl, subst (λ s. IsErrAnd s (P bad)) e m)

pub mapped_ok : {D : Type 0} (P : BadImage → D → Type 0) (r : Verdict) (q : Result ⊤ D) →
    MatchResult r (λ x. q ≡ Ok x) (λ e. IsErrAnd q (P e)) → q ≡ Ok tt → r ≡ Ok tt
mapped_ok P (Ok x) q m e = refl
mapped_ok P (Err bad) q m e = absurd (subst (λ s. IsErrAnd s (P bad)) e m)

abbrev error_or : {D : Type 0} → D → Result ⊤ D → D
error_or d (Ok x) = d
error_or d (Err x) = x

pub other_err : {D : Type 0} (r : Verdict) (q : Result ⊤ D) (other d : D) → q ≡ result_or r (Err other) → q ≡ Err d →
    (d ≡ other) × ((bad : BadImage) × (r ≡ Err bad))
other_err (Ok x) q other d m e = absurd (true≢false (sym (ap is_ok m) ∙ ap is_ok e))
other_err (Err bad) q other d m e = (ap (error_or d) (sym e ∙ m), (bad, refl))

pub other_ok : {D : Type 0} (r : Verdict) (q : Result ⊤ D) (other : D) → q ≡ result_or r (Err other) → q ≡ Ok tt → r ≡ Ok tt
other_ok (Ok x) q other m e = refl
other_ok (Err bad) q other m e = absurd (true≢false (sym (ap is_ok e) ∙ ap is_ok m))
