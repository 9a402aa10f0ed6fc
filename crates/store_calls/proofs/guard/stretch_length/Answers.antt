use Rattle.std.proofs.Common.{◌≡◌, List, ℕ, ◌*◌, ◌≤◌, ◌<◌, length, Bool, true, rules, arith}
use Rattle.std.specs.Prelude.{⊤, Option, None, Some}
use Rattle.std.specs.Option.{MatchOption, unwrap_or}
use Rattle.std.proofs.lemmas.Iterator.{first_from_Range}
use borrow.Author.Tests.{tests}
use Rattle.store_calls.specs.Guard.{goes_on, Together}
use Rattle.store_calls.proofs.guard.stretch_length.Goals as goal

-- as many as there are before the first that does not go on
before : (ample : Bool) (words : List ℕ) (n : ℕ) (r : Option ℕ) → 1 ≤ n → 6 * n ≤ length words
    → MatchOption r ((k : ℕ) → 1 ≤ k → k < n → goes_on ample k words ≡ true)
    (λ i. (1 ≤ i) × (i < n) × ⊤ × ((k : ℕ) → 1 ≤ k → k < i → goes_on ample k words ≡ true))
    → Together ample (unwrap_or r n) words
before ample words n None s t h = record { some = s; there = t; going = h }
before ample words n (Some i) s t h = record { some = h.0; there = omega (arith, h.1, t); going = h.3 }

pub returns : goal.returns
returns c =
    let a = c.args in
    rw c.unwrap_or.ensures
    (before a.ample a.calls.now _ _ (omega arith) (omega arith)
    (first_from_Range _ _ _ _ (λ k. ⊤) (λ k. goes_on a.ample k a.calls.now ≡ true) c.find.ensures.ran (λ x q k. tt)
    (λ x q k. (search rules, search (rules, tests)))))
