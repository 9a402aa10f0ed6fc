-- An arm of the match on an edit, for callers.
use Rattle.std.proofs.Common.{◌≡◌, subst}
use Rattle.graph.specs.declared.Edit.{Edit}
use Rattle.graph_tables.specs.Tables.{State}
use Rattle.graph_tables.specs.Edits.{Can}

pub can_by : (s : State) {e e' : Edit} → e ≡ e' → Can e s → Can e' s
can_by s q h = subst (λ (x : Edit). Can x s) q h
