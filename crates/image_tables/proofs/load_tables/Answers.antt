use mathlib.Core.Path.{sym, subst}
use mathlib.Core.List.{[]}
use Rattle.graph_tables.specs.Tables.{State}
use Rattle.graph_tables.specs.Holds.{Core}
use Rattle.graph_tables.proofs.Empty.{holds_cleared}
use Rattle.image_tables.proofs.Parts.{given}
use Rattle.image_tables.proofs.load_tables.Goals as goal

pub vertices-head-requires-clause-core : goal.vertices-head-requires-clause-core
vertices-head-requires-clause-core c =
    subst (λ (x : State). Core x [] []) (sym c.clear-head.ensures.cleared) (holds_cleared c.args.tables.now.vertices.now c.args.tables.now.edges.now).core

pub returns-clause-loaded : goal.returns-clause-loaded
returns-clause-loaded c = record { core = c.lists.ensures.core; sound = (given c.args.words.now c.args.tables.now.vertices.now c.args.tables.now.edges.now c.requires).formed }
