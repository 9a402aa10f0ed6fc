use Rattle.std.proofs.Common.{rules}
use mathlib.Core.Path.{refl, sym, ◌∙◌}
use mathlib.Core.Path.{◌≡◌}
use mathlib.Core.Bool.{true}
use Rattle.marks.specs.Marked.{in_set}
use Rattle.marks.proofs.MarkLaws.{in_range, without_is, in_set_lem, mark_gone}
use Rattle.marks.proofs.MarkSet.without.Goals as goal

pub returns : goal.returns
returns c =
    let a = c.args in
    let yes : in_set a.self.bits a.a ≡ true = search rules in
    let w = in_range a.self.bits a.a yes in record {
      value = without_is a.self.bits a.a _ yes refl;
      by_index =
          λ places ms y h. mark_gone ms a.self.bits places h a.a w.0 w.1 _ (sym (in_set_lem ms a.self.bits places h a.a w.0 w.1) ∙ yes) refl;
    }
