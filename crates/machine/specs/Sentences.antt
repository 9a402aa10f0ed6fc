-- The sentences on marks, names and benches (Marks, Names, Benches) of one of several stores (REFERENCE 21.7), at the
-- point after its own calls ys, whatever the joint room r is there.
use Rattle.std.specs.Prelude.{ℕ, ◌≤◌, ◌<◌, ◌≡◌, ◌↔◌, true, List, [], map}
use Rattle.lists.specs.Lists.{sum_of, range, count}
use Rattle.graph.specs.Graph.{Graph}
use Rattle.graph.specs.Limits.{most_benches}
use Rattle.history.specs.Machine.{
  Step,
  Machine,
  gone,
  at,
  onward,
  distance,
  Name,
  no_name,
  is_name,
  bears,
  fresh,
  present,
}
use Rattle.commands.specs.Calls.{Call, five}
use Rattle.machine.specs.Calls.{Parameters}
use Rattle.machine.specs.Marks.{Event, Kept, go_to}
use Rattle.machine.specs.Names.{name_it, go_by, HasName}
use Rattle.machine.specs.Benches.{bench_after, benches_after, benches_between}
use Rattle.machine.specs.Posed.{Posed, posed, answer_at, step_at, last_at, events_at}

-- the store after its calls, and what happened to it until then
abbrev pub store_after : Parameters → Graph → List Posed → Machine
store_after w g ys = last_at w (fresh g) ys

abbrev pub store_events : Parameters → Graph → List Posed → List Event
store_events w g ys = events_at w (fresh g) ys

-- the call is accepted, gives the graph h, and moves as many steps as lie between the present place and q
pub record Goes (w : Parameters) (m : Machine) (r : ℕ) (x : Call) (q : ℕ) (h : Graph) : Type 0 where
  pub accepted : (answer_at w m (posed r x)).code ≡ 0
  pub graph : present (step_at w m (posed r x)) ≡ h
  pub moved : (answer_at w m (posed r x)).number ≡ distance m.line.place q

pub record MarkSentenceAt (w : Parameters) (g : Graph) (ys : List Posed) : Type 0 where
  pub stands_iff : (k q : ℕ)
      → ((store_after w g ys).marks k ≡ at q) ↔ ((h : Graph) × Kept k q h (store_events w g ys))
  -- a standing mark can be gone to wherever the room allows
  pub going : (r k q : ℕ) (h : Graph) (b c d : ℕ) → Kept k q h (store_events w g ys)
      → onward q (store_after w g ys).line ≤ r → Goes w (store_after w g ys) r (go_to k b c d) q h
  -- else, and only then, it is refused, with 10
  pub too_far : (r k q : ℕ) (h : Graph) (b c d : ℕ) → Kept k q h (store_events w g ys)
      → r < onward q (store_after w g ys).line
      → (answer_at w (store_after w g ys) (posed r (go_to k b c d))).code ≡ 10
  -- back always
  pub going_back : (r k q : ℕ) (h : Graph) (b c d : ℕ) → Kept k q h (store_events w g ys)
      → q ≤ (store_after w g ys).line.place → Goes w (store_after w g ys) r (go_to k b c d) q h

pub record NameSentenceAt (w : Parameters) (g : Graph) (ys : List Posed) : Type 0 where
  pub named_iff : (k : ℕ) (n : Name) → (bears (store_after w g ys) n k ≡ true)
      ↔ ((q : ℕ) × (h : Graph) × HasName k q h n (store_events w g ys))
  pub unnamed : (k : ℕ) → (store_after w g ys).marks k ≡ gone → (store_after w g ys).names k ≡ no_name
  -- no two marks of one store have one name
  pub one_holder : (j k p q : ℕ) (f h : Graph) (n : Name) → HasName j p f n (store_events w g ys)
      → HasName k q h n (store_events w g ys) → j ≡ k
  -- a name that no other mark of the store has is given, at any room; other stores have no part in it
  pub naming : (r k q : ℕ) (h : Graph) (n : Name) (d : ℕ) → is_name n ≡ true → Kept k q h (store_events w g ys)
      → ((j p : ℕ) (f : Graph) → HasName j p f n (store_events w g ys) → j ≡ k)
      → (answer_at w (store_after w g ys) (posed r (name_it k n d))).code ≡ 0
  pub going : (r k q : ℕ) (h : Graph) (n : Name) (c d : ℕ) → HasName k q h n (store_events w g ys)
      → onward q (store_after w g ys).line ≤ r → Goes w (store_after w g ys) r (go_by n c d) q h
  pub too_far : (r k q : ℕ) (h : Graph) (n : Name) (c d : ℕ) → HasName k q h n (store_events w g ys)
      → r < onward q (store_after w g ys).line
      → (answer_at w (store_after w g ys) (posed r (go_by n c d))).code ≡ 10
  pub going_back : (r k q : ℕ) (h : Graph) (n : Name) (c d : ℕ) → HasName k q h n (store_events w g ys)
      → q ≤ (store_after w g ys).line.place → Goes w (store_after w g ys) r (go_by n c d) q h
  pub missing : (r : ℕ) (n : Name) (c d : ℕ) → ((k q : ℕ) (h : Graph) → HasName k q h n (store_events w g ys) → ⊥)
      → (answer_at w (store_after w g ys) (posed r (go_by n c d))).code ≡ 19

abbrev pub store_benches : Parameters → Graph → List Posed → List ℕ
store_benches w g ys = benches_after 0 [] (store_events w g ys)

pub record BenchSentenceAt (w : Parameters) (g : Graph) (ys : List Posed) : Type 0 where
  pub bench_is : (store_after w g ys).bench ≡ bench_after 0 (store_events w g ys)
  pub sets : (r a b c d : ℕ) → a < most_benches
      → (answer_at w (store_after w g ys) (posed r (five 58 a b c d))).code ≡ 0
  pub signed_by : map (λ (s : Step). s.bench) (store_after w g ys).line.steps ≡ store_benches w g ys
  pub counts : (r a b p q c d : ℕ) (h i : Graph) → Kept a p h (store_events w g ys) → Kept b q i (store_events w g ys)
      → c < most_benches
      → ((answer_at w (store_after w g ys) (posed r (five 59 a b c d))).code ≡ 0)
      × ((answer_at w (store_after w g ys) (posed r (five 59 a b c d))).number
      ≡ count c (benches_between p q (store_benches w g ys)))
  pub adds : (r a b d e f : ℕ) →
      sum_of (λ c. (answer_at w (store_after w g ys) (posed r (five 59 a b c d))).number) (range most_benches)
      ≡ (answer_at w (store_after w g ys) (posed r (five 49 a b e f))).number
