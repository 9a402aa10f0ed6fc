-- When a mark has a name and what going by a name gives, told by the calls and answers so far.
use Rattle.std.specs.Prelude.{ℕ, ◌≡◌, ◌↔◌, Bool, true, false, ◌&&◌, ◌||◌, List, ◌∷◌, ◌==◌}
use Rattle.lists.specs.Lists.{any}
use Rattle.graph.specs.Graph.{Graph}
use Rattle.history.specs.Machine.{Name, name, no_name, is_name, same_name, gone, bears, distance, present}
use Rattle.commands.specs.Calls.{Call, five}
use Rattle.machine.specs.Calls.{Parameters}
use Rattle.machine.specs.Machine.{answer, step}
use Rattle.machine.specs.Marks.{Event, ends_mark, Kept, machine_after, events_of}

-- kind 56 of mark k, and with the name n
abbrev pub call_names : ℕ → Call → Bool
call_names k x = (x.kind == 56) && (k == x.a)

abbrev pub call_gives : ℕ → Name → Call → Bool
call_gives k n x = call_names k x && same_name (name x.b x.c) n

-- the call was accepted, and gave mark k a name; the name n
abbrev pub names_mark : ℕ → Event → Bool
names_mark k e = (e.answer.code == 0) && call_names k e.call

abbrev pub gives_name : ℕ → Name → Event → Bool
gives_name k n e = (e.answer.code == 0) && call_gives k n e.call

-- the call ended mark k, which stands at q, or gave it a name
abbrev pub ends_name : ℕ → ℕ → Event → Bool
ends_name k q e = ends_mark k q e || names_mark k e

-- an accepted call gave mark k the name n, and since then no call of these events gave it one or ended the mark, which
-- stands at q
pub data NameKept (k q : ℕ) (n : Name) : List Event → Type 0 where
  named_here : {e : Event} {es : List Event} →
      gives_name k n e ≡ true → any (ends_name k q) es ≡ false → NameKept k q n (e ∷ es)
  named_later : {e : Event} {es : List Event} → NameKept k q n es → NameKept k q n (e ∷ es)

-- the call that gives mark k the name n, and the one that goes to the mark with it; their other words are ignored
abbrev pub name_it : ℕ → Name → ℕ → Call
name_it k n d = five 56 k n.first n.second d

abbrev pub go_by : Name → ℕ → ℕ → Call
go_by n c d = five 57 n.first n.second c d

-- mark k stands, set at q where the graph was h, and has the name n
pub record HasName (k q : ℕ) (h : Graph) (n : Name) (es : List Event) : Type 0 where
  pub standing : Kept k q h es
  pub given : NameKept k q n es

-- at the point after the calls xs
pub record NameSentence (w : Parameters) (g : Graph) (xs : List Call) : Type 0 where
  -- a mark stands and has a name exactly when calls set it and gave it, and both were kept since
  pub named_iff : (k : ℕ) (n : Name) → (bears (machine_after w g xs) n k ≡ true)
      ↔ ((q : ℕ) × (h : Graph) × HasName k q h n (events_of w g xs))
  -- a mark that does not stand has none
  pub unnamed : (k : ℕ) → (machine_after w g xs).marks k ≡ gone → (machine_after w g xs).names k ≡ no_name
  -- no two marks have one name
  pub one_holder : (j k p q : ℕ) (f h : Graph) (n : Name) → HasName j p f n (events_of w g xs)
      → HasName k q h n (events_of w g xs) → j ≡ k
  -- a standing mark is given a name that no other mark has
  pub naming : (k q : ℕ) (h : Graph) (n : Name) (d : ℕ) → is_name n ≡ true → Kept k q h (events_of w g xs)
      → ((j p : ℕ) (f : Graph) → HasName j p f n (events_of w g xs) → j ≡ k)
      → (answer w (machine_after w g xs) (name_it k n d)).code ≡ 0
  -- going by the name of a mark is accepted, gives the graph held when the mark was last set, and moves as many steps
  -- as lie between the places
  pub going : (k q : ℕ) (h : Graph) (n : Name) (c d : ℕ) → HasName k q h n (events_of w g xs)
      → ((answer w (machine_after w g xs) (go_by n c d)).code ≡ 0)
      × (present (step w (machine_after w g xs) (go_by n c d)) ≡ h)
      × ((answer w (machine_after w g xs) (go_by n c d)).number ≡ distance (machine_after w g xs).line.place q)
  -- by a name that no mark has it is refused; two zeros are no name, so no mark has them
  pub missing : (n : Name) (c d : ℕ) → ((k q : ℕ) (h : Graph) → HasName k q h n (events_of w g xs) → ⊥)
      → (answer w (machine_after w g xs) (go_by n c d)).code ≡ 19
