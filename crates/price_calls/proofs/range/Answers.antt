use mathlib.Core.Path.{◌∙◌}
use Rattle.graph.proofs.Numbers.{vertex_once}
use Rattle.graph_tables.specs.Tables.{view_state}
use Rattle.walks.proofs.Walkable.{can_walk}
use Rattle.graph_tables.proofs.LookedUp.{vertex_there, vertex_lacking}
use Rattle.price_calls.proofs.BothWays.{price_is}
use Rattle.price_calls.proofs.range.Goals as goal

pub returns-in_default : goal.returns-in_default
returns-in_default c =
    λ head g o. rw (vertex_lacking _ g _ (_, (head, o)) c.find_vertex.result c.find_vertex.ensures c.in_default.is)

pub returns-in_default-find_vertex : goal.returns-in_default-find_vertex
returns-in_default-find_vertex c =
    λ head g o. rw (
      vertex_there _ g _ (_, (head, o)) c.find_vertex.result _ c.find_vertex.ensures c.in-Found.is,
      vertex_lacking _ g _ (_, (head, o)) c.find_vertex-2.result c.find_vertex-2.ensures c.in_default-find_vertex.is,
    )

pub price_of-requires-clause-there : goal.price_of-requires-clause-there
price_of-requires-clause-there c =
    let p = c.requires in
    can_walk p.0 (view_state p.1 c.args.tables.now) p.3 p.2 p.4 _
    (vertex_once p.2 _ p.4.sound (vertex_there _ p.2 _ (_, (p.1, p.4)) c.find_vertex.result _ c.find_vertex.ensures c.in-Found.is))

pub price_of-requires-clause-back : goal.price_of-requires-clause-back
price_of-requires-clause-back c =
    let p = c.requires in
    can_walk p.0 (view_state p.1 c.args.tables.now) p.3 p.2 p.4 _
    (vertex_once p.2 _ p.4.sound (vertex_there _ p.2 _ (_, (p.1, p.4)) c.find_vertex-2.result _ c.find_vertex-2.ensures c.in-Found-find_vertex.is))

pub returns : goal.returns
returns c =
    λ head g o.
    let s = vertex_there _ g _ (_, (head, o)) c.find_vertex.result _ c.find_vertex.ensures c.in-Found.is in
    let t = vertex_there _ g _ (_, (head, o)) c.find_vertex-2.result _ c.find_vertex-2.ensures c.in-Found-find_vertex.is in
    rw (s, t)
    (c.price_of.ensures
    ∙ price_is (view_state head c.args.tables.now) g o _ _ (vertex_once g _ o.sound s) (vertex_once g _ o.sound t))
