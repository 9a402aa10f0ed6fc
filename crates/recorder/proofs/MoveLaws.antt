-- A move: where it leads, the copy that is loaded, and what stands afterwards.
use Prim.Native.Nat.{ℕ, ◌/◌, ◌≤◌, ◌<◌}
use mathlib.Core.Path.{◌≡◌, refl, sym, ap, subst, ◌∙◌}
use mathlib.Core.Bool.{Bool, true, false}
use mathlib.Core.List.{List}
use native.Mathlib.Omega.{arith}
use lib.ListN.{length, get_or}
use Rattle.graph.specs.Graph.{Graph}
use Rattle.graph.specs.WellFormed.{Bounds}
use Rattle.history.specs.Machine.{Machine, graph_at, placed, distance}
use Rattle.image.specs.Image.{load}
use Rattle.std.specs.Prelude.{Ok, Err}
use Rattle.commands.specs.declared.HistoryCall.{HistoryCall}
use Rattle.commands.specs.declared.refusal.Refusal.{Refusal}
use Rattle.commands.specs.Refusals.{refusal_code}
use Rattle.machine.specs.Calls.{Parameters, bounds_in}
use Rattle.machine.specs.Rules.{history_rule}
use Rattle.graph_tables.specs.declared.Head.{Head}
use Rattle.graph_tables.specs.Tables.{state, no_head}
use Rattle.graph_tables.specs.Holds.{Holds}
use Rattle.graph_tables.specs.Capacities.{Sized}
use Rattle.timeline.specs.declared.Current.{Current}
use Rattle.timeline.specs.Current.{at_place}
use Rattle.timeline.specs.JournalRows.{shifted, Reach}
use Rattle.timeline.specs.Steps.{Journal}
use Rattle.timeline.proofs.Steps.{steps_short}
use Rattle.history_calls.specs.declared.Store.{Store}
use Rattle.history_calls.specs.Memory.{Memory, memory, tables_of}
use Rattle.history_calls.specs.Represents.{Represents, Follows}
use Rattle.history_calls.specs.Outcomes.{done, Leads, Way, way_of}
use Rattle.history_calls.proofs.Following.{refusal_not_0}
use Rattle.history_calls.proofs.Ways.{way_refused, way_reach, way_done}
use Rattle.marks.specs.Marked.{mark_words}
use Rattle.copies.specs.Copies.{stretch}
use Rattle.copies.specs.Recording.{Covers, Led, copy_words, CanReload}
use Rattle.copies.proofs.CopyLaws.{can_reload, reloaded}
use Rattle.copies.proofs.PlaceLaws.{journal_at}

reach_lands : (back : Bool) (n u m : ℕ) → Reach back n u m → u ≤ m → shifted back n u ≤ m
reach_lands true n u m h l = omega arith
reach_lands false n u m h l = h

reach_steps : (back : Bool) (n u m : ℕ) → Reach back n u m → distance u (shifted back n u) ≡ n
reach_steps true n u m h = omega arith
reach_steps false n u m h = omega arith

-- ---- what `leads_to` asks

pub move_asks : (b : Bounds) (x : Store) (mem : Memory) (m : Machine) → Represents b x mem m → (length mem.marks ≡ mark_words) × (x.current.position.place ≤ x.current.position.steps)
move_asks b x mem m h = (h.marks.room, omega (arith, h.journal.place, h.journal.steps, h.journal.inside))

-- ---- a move that is refused

pub move_refused : (b : Bounds) (x : Store) (mem : Memory) (m : Machine) → Represents b x mem m → (capacity : ℕ) (call : HistoryCall) → Leads call
    → (refusal : Refusal) → Led x mem.marks call (Err refusal) → Follows (history_rule capacity call) m b (done x (refusal_code refusal) 0) mem
move_refused b x mem m h capacity call leads refusal to =
    subst (λ (k : ℕ). Follows (history_rule capacity call) m b (done x k 0) mem) to
    (way_refused b x mem m h capacity call leads (way_of x mem.marks call) refl (λ z. refusal_not_0 refusal (sym to ∙ z)))

-- ---- a move

module _ (w : Parameters) (x : Store) (vertices edges journal marks : List ℕ) (m : Machine) (start lent copies numbers used : List ℕ) (gs : List Graph) (n size : ℕ)
    (h : Represents (bounds_in w) x (memory vertices edges journal marks) m) (f : Covers w start lent copies numbers used gs n m) (z : size ≡ stretch w)
    (short : length journal < 240012) (call : HistoryCall) (leads : Leads call) (p : ℕ) (to : Led x marks call (Ok p)) where
  abbrev way : Way
  way = way_of x marks call

  abbrev from : ℕ
  from = x.current.position.place

  fine : way.code ≡ 0
  fine = to.0

  few : x.current.position.steps ≤ 20000
  few = omega (arith, steps_short (bounds_in w) x.current.position _ journal m.line h.journal)

  led : Reach way.back way.steps from x.current.position.steps
  led = way_reach (bounds_in w) x (memory vertices edges journal marks) m h 0 call leads way refl fine

  at : p ≡ shifted way.back way.steps from
  at = to.1

  steps_are : distance from p ≡ way.steps
  steps_are = ap (distance from) at ∙ reach_steps way.back way.steps from x.current.position.steps led

  lands : p ≤ length m.line.steps
  lands =
      let l = reach_lands way.back way.steps from x.current.position.steps led (omega (arith, h.journal.place, h.journal.steps, h.journal.inside)) in
      omega (arith, h.journal.steps, at)

  pub move_in : p < 20001
  move_in = omega (arith, lands, h.journal.steps, few)

  sized_now : Sized (bounds_in w) (state no_head vertices edges)
  sized_now =
      let s = h.journal.rows.sized in
      record { vertices = s.vertices; edges = s.edges; few_vertices = s.few_vertices; few_edges = s.few_edges }

  pub move_loads : CanReload start copies size (get_or numbers p 0) vertices edges
  move_loads =
      subst (λ (j : ℕ). CanReload start copies j (get_or numbers p 0) vertices edges) (sym z)
      (can_reload w lent copies gs n f.copied start vertices edges f.start_loads sized_now (get_or numbers p 0) (f.places.in_copies p lands))

  pub move_done : (head : Head) (vertices' edges' : List ℕ) → length vertices' ≡ length vertices → length edges' ≡ length edges
      → Holds (state head vertices' edges') (load (copy_words start copies size (get_or numbers p 0))) → (current : Current) → current ≡ at_place x.current.position head p (get_or used p 0)
      → (steps : ℕ) → steps ≡ distance from p
      → (capacity : ℕ) → Follows (history_rule capacity call) m (bounds_in w) (done (record { current = current; set = x.set; bench = x.bench }) 0 steps) (memory vertices' edges' journal marks)
  move_done head vertices' edges' v e held current is_at steps told capacity =
      let s = h.journal.rows.sized in
      let q : load (copy_words start copies size (get_or numbers p 0)) ≡ graph_at p m.line.start m.line.steps =
      ap (λ (j : ℕ). load (copy_words start copies j (get_or numbers p 0))) z
      ∙ reloaded w lent copies gs n f.copied start vertices edges f.start_loads sized_now (get_or numbers p 0) (f.places.in_copies p lands)
      ∙ f.places.graphs p lands in
      let there : Journal (bounds_in w) (at_place x.current.position head p (get_or used p 0)).position (state head vertices' edges') journal (placed p m.line) =
      journal_at (bounds_in w) x.current.position (at_place x.current.position head p (get_or used p 0)).position (tables_of x (memory vertices edges journal marks))
      (state head vertices' edges') journal m.line h.journal lands refl
      (f.places.rows p lands)
      (record { vertices = s.vertices ∙ ap (λ (k : ℕ). k / 8) (sym v); edges = s.edges ∙ ap (λ (k : ℕ). k / 12) (sym e); few_vertices = s.few_vertices; few_edges = s.few_edges })
      (subst (Holds (state head vertices' edges')) q held) in
      let place : p ≡ shifted way.back way.steps m.line.place = at ∙ ap (shifted way.back way.steps) h.journal.place in
      let j = subst (λ (k : ℕ). Journal (bounds_in w) (at_place x.current.position head p (get_or used p 0)).position (state head vertices' edges') journal (placed k m.line)) place there in
      let y : Journal (bounds_in w) current.position (state current.head vertices' edges') journal (placed (shifted way.back way.steps m.line.place) m.line) =
      subst (λ (c : Current). Journal (bounds_in w) c.position (state c.head vertices' edges') journal (placed (shifted way.back way.steps m.line.place) m.line)) (sym is_at) j in
      subst (λ (k : ℕ). Follows (history_rule capacity call) m (bounds_in w) (done (record { current = current; set = x.set; bench = x.bench }) 0 k) (memory vertices' edges' journal marks))
      (sym (told ∙ steps_are))
      (way_done (bounds_in w) x (memory vertices edges journal marks) m h capacity call leads way refl fine (record { current = current; set = x.set; bench = x.bench }) vertices' edges' refl refl y)
