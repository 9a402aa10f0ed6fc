-- The state of the plain machine, and what each sort of history call makes of it.
use Rattle.std.specs.Prelude.{ℕ, zero, suc, ◌+◌, ◌-◌, Bool, true, false, not, ◌&&◌, List, [], ◌∷◌, ◌++◌, length, take, drop, ltb, ◌==◌}
use Rattle.lists.specs.Choice.{◌⇒◌else◌, within, to_bit}
use Rattle.lists.specs.Lists.{filter, sum_of, range}
use Rattle.graph.specs.declared.Change.{Change}
use Rattle.graph.specs.Graph.{Graph}
use Rattle.graph.specs.Limits.{most_marks}
use Rattle.graph.specs.Changes.{changed, cost}

-- a graph after the first, what it cost to make, and the bench that made it
pub record Step : Type 0 where
  pub cost : ℕ
  pub graph : Graph
  pub bench : ℕ

-- G0, then the steps G1 to Gm, and the place among them
pub record Timeline : Type 0 where
  pub start : Graph
  pub steps : List Step
  pub place : ℕ

-- a mark stands at a place, or does not stand
pub data MarkPlace : Type 0 where
  gone : MarkPlace
  at : ℕ → MarkPlace

-- two words; both 0 is no name
pub record Name : Type 0 where
  pub first : ℕ
  pub second : ℕ

-- REFERENCE 4.1
pub record Machine : Type 0 where
  pub line : Timeline
  pub marks : ℕ → MarkPlace
  pub names : ℕ → Name
  pub bench : ℕ

-- ---- the timeline

-- the step that a change makes, by this bench
unfoldable pub step_of : ℕ → Change → Graph → Step
unfolding changed
step_of b c g = record { cost = cost c g; graph = changed c g; bench = b }

abbrev pub begun : Graph → Timeline
begun g = record { start = g; steps = []; place = 0 }

-- Gi, from G0 and the steps
abbrev pub graph_at : ℕ → Graph → List Step → Graph
graph_at zero g ss = g
graph_at (suc i) g [] = g
graph_at (suc i) g (s ∷ ss) = graph_at i s.graph ss

-- Gp
abbrev pub present_in : Timeline → Graph
present_in t = graph_at t.place t.start t.steps

-- the same history at place p
abbrev pub placed : ℕ → Timeline → Timeline
placed p t = record { start = t.start; steps = t.steps; place = p }

-- REFERENCE 4.3, its graphs
abbrev pub extended : Step → Timeline → Timeline
extended s t = record { start = t.start; steps = take t.place t.steps ++ (s ∷ []); place = suc t.place }

abbrev pub costs : List Step → ℕ
costs ss = sum_of (λ (s : Step). s.cost) ss

-- REFERENCE 4.4
abbrev pub free_of : ℕ → Timeline → ℕ
free_of capacity t = capacity - costs (take t.place t.steps)

-- the costs of steps 1 to p
abbrev pub spent : Timeline → ℕ
spent t = costs (take t.place t.steps)

-- what going to place q takes again: the costs of the steps from p on, up to it; 0 where it is not ahead
abbrev pub onward : ℕ → Timeline → ℕ
onward q t = costs (take q t.steps) - costs (take t.place t.steps)

-- how many steps lie between two places
abbrev pub distance : ℕ → ℕ → ℕ
distance p q = (p - q) + (q - p)

-- the steps between two places, in either order
abbrev pub steps_between : ℕ → ℕ → List Step → List Step
steps_between p q ss = take (q - p) (drop p ss) ++ take (p - q) (drop q ss)

-- how many of them a bench made
abbrev pub made_by : ℕ → List Step → ℕ
made_by b ss = sum_of (λ (s : Step). to_bit (s.bench == b)) ss

-- ---- marks

abbrev pub no_marks : ℕ → MarkPlace
no_marks k = gone

abbrev pub stands : MarkPlace → Bool
stands gone = false
stands (at q) = true

-- the place of a standing mark; where it does not stand, the other
abbrev pub place_or : ℕ → MarkPlace → ℕ
place_or other gone = other
place_or other (at q) = q

abbrev pub marked : ℕ → MarkPlace → (ℕ → MarkPlace) → ℕ → MarkPlace
marked n s ms k = (k == n) ⇒ s else ms k

-- REFERENCE 4.3, its marks: a mark at p itself stays
abbrev pub cut : ℕ → MarkPlace → MarkPlace
cut p gone = gone
cut p (at q) = ltb p q ⇒ gone else at q

abbrev pub cut_marks : ℕ → (ℕ → MarkPlace) → ℕ → MarkPlace
cut_marks p ms k = cut p (ms k)

-- marks are numbered from 1
abbrev pub is_mark : ℕ → Bool
is_mark a = within 1 most_marks a

-- how many marks stand
unfoldable pub count_standing : (ℕ → MarkPlace) → ℕ
count_standing ms = length (filter (λ n. stands (ms (suc n))) (range most_marks))

-- ---- names

abbrev pub name : ℕ → ℕ → Name
name b c = record { first = b; second = c }

abbrev pub no_name : Name
no_name = name 0 0

abbrev pub no_names : ℕ → Name
no_names k = no_name

abbrev pub is_name : Name → Bool
is_name n = not ((n.first == 0) && (n.second == 0))

abbrev pub same_name : Name → Name → Bool
same_name n o = (n.first == o.first) && (n.second == o.second)

abbrev pub named : ℕ → Name → (ℕ → Name) → ℕ → Name
named j n ns k = (k == j) ⇒ n else ns k

-- a name goes when its mark goes: of these marks, those that stand keep theirs
abbrev pub kept_names : (ℕ → MarkPlace) → (ℕ → Name) → ℕ → Name
kept_names ms ns k = stands (ms k) ⇒ ns k else no_name

-- the first of the n numbers from k on that passes; 0 where none does
unfoldable pub seek : ℕ → ℕ → (ℕ → Bool) → ℕ
seek zero k p = 0
seek (suc n) k p = p k ⇒ k else seek n (suc k) p

-- ---- the machine

-- one graph, no step and no mark, at this bench
abbrev pub fresh_at : ℕ → Graph → Machine
fresh_at b g = record { line = begun g; marks = no_marks; names = no_names; bench = b }

-- REFERENCE 4.2
abbrev pub fresh : Graph → Machine
fresh g = fresh_at 0 g

abbrev pub present : Machine → Graph
present m = present_in m.line

-- an accepted change that makes s
abbrev pub after_change : Step → Machine → Machine
after_change s m = record {
  line = extended s m.line;
  marks = cut_marks m.line.place m.marks;
  names = kept_names (cut_marks m.line.place m.marks) m.names;
  bench = m.bench;
}

abbrev pub moved_to : ℕ → Machine → Machine
moved_to p m = record { line = placed p m.line; marks = m.marks; names = m.names; bench = m.bench }

-- mark n stands at the present place, and has no name
abbrev pub with_mark_set : ℕ → Machine → Machine
with_mark_set n m = record {
  line = m.line;
  marks = marked n (at m.line.place) m.marks;
  names = named n no_name m.names;
  bench = m.bench;
}

abbrev pub with_mark_dropped : ℕ → Machine → Machine
with_mark_dropped n m = record {
  line = m.line;
  marks = marked n gone m.marks;
  names = named n no_name m.names;
  bench = m.bench;
}

-- mark k has the name n, and no other
abbrev pub with_name : ℕ → Name → Machine → Machine
with_name k n m = record { line = m.line; marks = m.marks; names = named k n m.names; bench = m.bench }

-- later steps are made by bench b
abbrev pub with_bench : ℕ → Machine → Machine
with_bench b m = record { line = m.line; marks = m.marks; names = m.names; bench = b }

-- REFERENCE 4.9; the bench stays
abbrev pub after_commit : Machine → Machine
after_commit m = fresh_at m.bench (present m)

-- mark k stands and has the name n
abbrev pub bears : Machine → Name → ℕ → Bool
bears m n k = stands (m.marks k) && (is_name n && same_name (m.names k) n)

-- the standing mark, other than a, that has the name; 0 where none has
unfoldable pub holder_but : ℕ → Name → Machine → ℕ
holder_but a n m = seek most_marks 1 (λ k. not (k == a) && bears m n k)

-- the standing mark that has the name; 0 where none has
abbrev pub holder_of : Name → Machine → ℕ
holder_of n m = holder_but 0 n m
