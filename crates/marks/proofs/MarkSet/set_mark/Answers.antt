use Rattle.std.proofs.Common.{rules}
use mathlib.Core.Path.{◌≡◌, refl, sym, ap, subst, ◌∙◌}
use mathlib.Core.Bool.{Bool, true}
use Rattle.lists.specs.Choice.{◌⇒◌else◌, within}
use Rattle.lists.proofs.Bools.{within_range}
use Rattle.marks.proofs.MarkLaws.{with_is, in_set_lem, mark_put_lem}
use Rattle.history.specs.Machine.{at, marked, no_name}
use Rattle.marks.specs.Marked.{Marked}
use Rattle.marks.specs.Named.{mark_put}
use Rattle.marks.proofs.NameLaws.{named_marked}
use Rattle.marks.proofs.MarkSet.set_mark.Goals as goal

pub returns : goal.returns
returns c =
    let a = c.args in
    let yes : within 1 64 a.a ≡ true = search rules in
    let w = within_range 1 64 a.a yes in
    let e = c.name_mark.ensures in record {
      value = with_is a.self.bits a.a _ yes refl;
      words_after = e ∙ sym (ap (λ (t : Bool). t ⇒ mark_put a.a a.p a.words.now else a.words.now) yes);
      by_index = λ ms y n h.
          subst (Marked (marked a.a (at a.p) ms) _) (sym e)
          (named_marked _ _ _ a.a no_name w.0
          (mark_put_lem ms a.self.bits a.words.now h a.a w.0 w.1 a.p _ (sym (in_set_lem ms a.self.bits a.words.now h a.a w.0 w.1) ∙ n) refl));
    }
