use Rattle.std.proofs.Common.{◌≡◌, ℕ, Bool, true, false, not, ◌&&◌, ◌==◌, rules}
use Rattle.std.proofs.lemmas.Iterator.{first_from_Range}
use borrow.Author.Tests.{tests}
use Rattle.marks.specs.Named.{name_of, bears_in, holder_in}
use Rattle.marks.proofs.NameLaws.{found_first}
use Rattle.marks.proofs.MarkSet.holder.Goals as goal

pub returns : goal.returns
unfolding holder_in
returns c =
    let a = c.args in
    let bears : ℕ → Bool = λ k. not (k == a.but) && bears_in a.self.bits a.words.now (name_of a.name) k in
    found_first _ bears (first_from_Range _ _ _ _ (λ k. bears k ≡ true) (λ k. bears k ≡ false) c.find.ensures.ran (λ x q k. search (rules, tests)) (λ x q k. (search rules, search (rules, tests))))
