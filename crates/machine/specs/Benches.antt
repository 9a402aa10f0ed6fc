-- Which bench makes steps, and how many steps between two marks each made, told by the calls and answers so far.
use Rattle.std.specs.Prelude.{ℕ, ◌-◌, ◌<◌, ◌≡◌, Bool, not, ◌&&◌, List, [], ◌∷◌, ◌++◌, map, take, drop, ◌==◌}
use Rattle.lists.specs.Choice.{◌⇒◌else◌}
use Rattle.lists.specs.Lists.{sum_of, range, count}
use Rattle.graph.specs.Graph.{Graph}
use Rattle.graph.specs.Limits.{most_benches}
use Rattle.history.specs.Machine.{Step}
use Rattle.commands.specs.Calls.{Call, five}
use Rattle.machine.specs.Calls.{Parameters}
use Rattle.commands.specs.Kinds.{is_change}
use Rattle.machine.specs.Machine.{answer}
use Rattle.machine.specs.Marks.{Event, Kept, machine_after, events_of}

-- the call was accepted, and set the bench
abbrev pub sets_bench : Event → Bool
sets_bench e = (e.answer.code == 0) && (e.call.kind == 58)

-- the bench that the last of the accepted calls set, from b on
abbrev pub bench_after : ℕ → List Event → ℕ
bench_after b [] = b
bench_after b (e ∷ es) = bench_after (sets_bench e ⇒ e.call.a else b) es

-- the benches of the steps, in their order, after an accepted call at place p with the number n, where bench b stood: a
-- commit forgets them; a change cuts those behind p and adds b, but not one with the number 0, which is no step
abbrev pub call_signs : ℕ → ℕ → ℕ → Call → List ℕ → List ℕ
call_signs b p n x bs =
    (x.kind == 22) ⇒ [] else
    (is_change x.kind && not (n == 0)) ⇒ take p bs ++ (b ∷ []) else
    bs

abbrev pub signs : ℕ → Event → List ℕ → List ℕ
signs b e bs = (e.answer.code == 0) ⇒ call_signs b e.place e.answer.number e.call bs else bs

-- the same after all events, from the bench b and the benches bs on
abbrev pub benches_after : ℕ → List ℕ → List Event → List ℕ
benches_after b bs [] = bs
benches_after b bs (e ∷ es) = benches_after (sets_bench e ⇒ e.call.a else b) (signs b e bs) es

abbrev pub benches_of : Parameters → Graph → List Call → List ℕ
benches_of w g xs = benches_after 0 [] (events_of w g xs)

-- those of the steps between two places, in either order
abbrev pub benches_between : ℕ → ℕ → List ℕ → List ℕ
benches_between p q bs = take (q - p) (drop p bs) ++ take (p - q) (drop q bs)

-- at the point after the calls xs
pub record BenchSentence (w : Parameters) (g : Graph) (xs : List Call) : Type 0 where
  -- the bench is the one set last, 0 before the first; a commit leaves it
  pub bench_is : (machine_after w g xs).bench ≡ bench_after 0 (events_of w g xs)
  -- a bench is set
  pub sets : (a b c d : ℕ) → a < most_benches → (answer w (machine_after w g xs) (five 58 a b c d)).code ≡ 0
  -- each step has the bench that stood when it was made, whatever came later
  pub signed_by : map (λ (s : Step). s.bench) (machine_after w g xs).line.steps ≡ benches_of w g xs
  -- of two standing marks, the steps between them that a bench made are counted
  pub counts : (a b p q c d : ℕ) (h i : Graph) → Kept a p h (events_of w g xs) → Kept b q i (events_of w g xs)
      → c < most_benches
      → ((answer w (machine_after w g xs) (five 59 a b c d)).code ≡ 0)
      × ((answer w (machine_after w g xs) (five 59 a b c d)).number ≡ count c (benches_between p q (benches_of w g xs)))
  -- what the benches made between two marks adds up to the steps between them; where a mark does not stand, both are 0
  pub adds : (a b d e f : ℕ) →
      sum_of (λ c. (answer w (machine_after w g xs) (five 59 a b c d)).number) (range most_benches)
      ≡ (answer w (machine_after w g xs) (five 49 a b e f)).number
