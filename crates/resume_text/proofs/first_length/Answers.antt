use mathlib.Core.Path.{◌≡◌, sym, ◌∙◌}
use Rattle.std.proofs.Common.{rules, tests}
use Rattle.std.proofs.lemmas.Iterator.{YieldsList-from_slice}
use Rattle.std.proofs.lemmas.Iterator.Search.{position_from_yields_List}
use Rattle.resume_text.proofs.Inputs.{newline, found, found_first, found_none}
use Rattle.resume_text.proofs.first_length.Goals.{After-position}
use Rattle.resume_text.proofs.first_length.Goals as goal

position_found : (c : After-position) → c.position.result ≡ found c.args.bytes.now
position_found c = position_from_yields_List newline _ _ c.position.result c.position.ensures.ran (YieldsList-from_slice c.args.bytes.now cc) (λ x b q k. search (rules, tests))

pub returns-in-Some-clause-value : goal.returns-in-Some-clause-value
returns-in-Some-clause-value c = found_first _ _ (sym (position_found (goal.at.returns-in-Some-clause-value c).After-position) ∙ c.in-Some.is)

pub returns-in-None-clause-value : goal.returns-in-None-clause-value
returns-in-None-clause-value c = found_none _ (sym (position_found (goal.at.returns-in-None-clause-value c).After-position) ∙ c.in-None.is)
