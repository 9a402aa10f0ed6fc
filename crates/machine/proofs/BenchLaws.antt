-- The benches of the steps, and their counts.
use Rattle.std.specs.Prelude.{◌==◌}
use Prim.Native.Nat.{ℕ, zero, suc, ◌+◌, ◌-◌, ◌≤◌, ◌<◌}
use mathlib.Core.Path.{◌≡◌, refl, sym, ap, ◌∙◌}
use mathlib.Core.Bool.{Bool, true, false}
use mathlib.Core.List.{List, [], ◌∷◌, ◌++◌, map, map-append}
use native.Mathlib.Omega.{arith}
use lib.ListN.{length, take, drop}
use borrow.Author.Tests.{leb-false, lt-leb}
use Rattle.lists.specs.Choice.{◌⇒◌else◌, to_bit, within}
use Rattle.lists.specs.Lists.{sum_of, range, count, All, done}
use Rattle.lists.proofs.Bools.{ft}
use Rattle.graph.specs.Graph.{Graph}
use Rattle.history.specs.Machine.{Step, Machine, MarkPlace, gone, at, place_or, distance, steps_between, made_by, fresh, step_of}
use Rattle.history.proofs.Benches.{sum_same, sum_zero, made_adds, all_between, all_cut, between_length}
use Rattle.commands.specs.declared.HistoryCall.TheVariants.{SetMark, DropMark, Undo, Redo, GoTo, Commit, Between, Standing as StandingMarks, Free, NameMark, GoToName, SetBench, MadeBy}
use Rattle.commands.specs.declared.Command.{Command}
use Rattle.commands.specs.declared.Command.TheVariants.{Alter, History, Ask, Quote, Unknown}
use Rattle.commands.specs.Calls.{Call, five}
use Rattle.commands.specs.Commands.{command_of}
use Rattle.machine.specs.Calls.{Parameters}
use Rattle.machine.specs.Codes.{refusal}
use Rattle.machine.specs.HistoryCodes.{no_bench}
use Rattle.machine.specs.Rules.{Effect, steps, marks, unmarks, goes, names, benches, clears, nothing, effected}
use Rattle.machine.specs.Machine.{deed_of, answer_to, answer, step, last}
use Rattle.machine.specs.Marks.{Event, event_of, events, Kept}
use Rattle.machine.specs.Posed.{Posed, roomed, last_at, events_at}
use Rattle.machine.specs.Sentences.{BenchSentenceAt}
use Rattle.machine.proofs.Reached.{Reached, here, by, reached, reached_at}
use Rattle.machine.specs.Benches.{sets_bench, bench_after, signs, benches_after, benches_between, BenchSentence}
use Rattle.machine.proofs.Accepts.{code_is, accepted_step, refused_step}
use Rattle.machine.proofs.Families.{Makes, change_effect, history_makes}
use Rattle.machine.proofs.MarkCalls.{bench_by, benches_is, signs_by, signs_is}
use Rattle.machine.proofs.MarkLaws.{PlacesInRange, fresh_places, places_step, kept_range}
use Rattle.machine.proofs.Stands.{kept_from}

-- ---- the bench is the one set last

bench_next : (e : Effect) (m : Machine) → (effected e m).bench ≡ bench_by e m.bench
bench_next (steps s) m = refl
bench_next (marks n) m = refl
bench_next (unmarks n) m = refl
bench_next (goes p) m = refl
bench_next (names k n) m = refl
bench_next (benches b) m = refl
bench_next clears m = refl
bench_next nothing m = refl

bench_step : (w : Parameters) (m : Machine) (x : Call) → (step w m x).bench ≡ (sets_bench (event_of w m x) ⇒ x.a else m.bench)
bench_step w m x = go (refusal w m (command_of x) == 0) refl ∙ sym (benches_is w m 0 0 x m.bench)
  where
    go : (t : Bool) → (refusal w m (command_of x) == 0) ≡ t → (step w m x).bench ≡ (((answer w m x).code == 0) ⇒ bench_by (deed_of w (command_of x) m).effect m.bench else m.bench)
    go true f = rw (accepted_step w m (command_of x) f, code_is w m (command_of x) true f) (bench_next (deed_of w (command_of x) m).effect m)
    go false f = rw (refused_step w m (command_of x) f, code_is w m (command_of x) false f)

bench_last : {m n : Machine} {es : List Event} → Reached m es n → n.bench ≡ bench_after m.bench es
bench_last here = refl
bench_last (by {m} {n} {es} w x r) = bench_last r ∙ ap (λ (b : ℕ). bench_after b es) (bench_step w m x)

-- ---- each step has the bench that stood when it was made

abbrev benches_in : List Step → List ℕ
benches_in ss = map (λ (s : Step). s.bench) ss

benches_taken : (n : ℕ) (ss : List Step) → benches_in (take n ss) ≡ take n (benches_in ss)
benches_taken zero ss = refl
benches_taken (suc n) [] = refl
benches_taken (suc n) (s ∷ ss) = ap (λ (l : List ℕ). s.bench ∷ l) (benches_taken n ss)

benches_dropped : (n : ℕ) (ss : List Step) → benches_in (drop n ss) ≡ drop n (benches_in ss)
benches_dropped zero ss = refl
benches_dropped (suc n) [] = refl
benches_dropped (suc n) (s ∷ ss) = benches_dropped n ss

signs_next : (e : Effect) (m : Machine) → Makes (λ s. s.bench ≡ m.bench) e → benches_in (effected e m).line.steps ≡ signs_by e m.bench m.line.place (benches_in m.line.steps)
signs_next (steps s) m k =
    map-append (λ (s : Step). s.bench) (take m.line.place m.line.steps) (s ∷ [])
    ∙ (λ i. benches_taken m.line.place m.line.steps i ++ (k i ∷ []))
signs_next (marks n) m k = refl
signs_next (unmarks n) m k = refl
signs_next (goes p) m k = refl
signs_next (names j n) m k = refl
signs_next (benches b) m k = refl
signs_next clears m k = refl
signs_next nothing m k = refl

makes_signed : (w : Parameters) (m : Machine) (c : Command) → Makes (λ s. s.bench ≡ m.bench) (deed_of w c m).effect
unfolding step_of
makes_signed w m (Alter c) = change_effect (Makes (λ s. s.bench ≡ m.bench)) c m (λ _. refl) tt
makes_signed w m (History c) = history_makes (λ s. s.bench ≡ m.bench) w.changes c m
makes_signed w m (Ask q) = tt
makes_signed w m (Quote p) = tt
makes_signed w m Unknown = tt

signs_step : (w : Parameters) (m : Machine) (x : Call) → benches_in (step w m x).line.steps ≡ signs m.bench (event_of w m x) (benches_in m.line.steps)
signs_step w m x = go (refusal w m (command_of x) == 0) refl ∙ sym (signs_is w m 0 0 x m.bench (benches_in m.line.steps))
  where
    go : (t : Bool) → (refusal w m (command_of x) == 0) ≡ t → benches_in (step w m x).line.steps
        ≡ (((answer w m x).code == 0) ⇒ signs_by (deed_of w (command_of x) m).effect m.bench m.line.place (benches_in m.line.steps) else benches_in m.line.steps)
    go true f = rw (accepted_step w m (command_of x) f, code_is w m (command_of x) true f) (signs_next (deed_of w (command_of x) m).effect m (makes_signed w m (command_of x)))
    go false f = rw (refused_step w m (command_of x) f, code_is w m (command_of x) false f)

signs_last : {m n : Machine} {es : List Event} → Reached m es n → benches_in n.line.steps ≡ benches_after m.bench (benches_in m.line.steps) es
signs_last here = refl
signs_last (by {m} {n} {es} w x r) = signs_last r ∙ (λ i. benches_after (bench_step w m x i) (signs_step w m x i) es)

-- ---- every bench is below 100

record Benched (m : Machine) : Type 0 where
  present : m.bench < 100
  earlier : All (λ (s : Step). s.bench < 100) m.line.steps
  places : PlacesInRange m

-- a bench that is set is one
Proper : Effect → Type 0
Proper (benches b) = b < 100
Proper (steps s) = Unit {0}
Proper (marks n) = Unit {0}
Proper (unmarks n) = Unit {0}
Proper (goes p) = Unit {0}
Proper (names k n) = Unit {0}
Proper clears = Unit {0}
Proper nothing = Unit {0}

set_passed : (w : Parameters) (m : Machine) (b : ℕ) → (refusal w m (History (SetBench b)) == 0) ≡ true → b < 100
unfolding refusal
set_passed w m b f = go (no_bench b) refl f
  where
    go : (t : Bool) → no_bench b ≡ t → ((t ⇒ 20 else 0) == 0) ≡ true → b < 100
    go true e i = ft i
    go false e i = let h = leb-false 100 b e in omega arith

proper : (w : Parameters) (m : Machine) (c : Command) → (refusal w m c == 0) ≡ true → Proper (deed_of w c m).effect
unfolding Proper
proper w m (Alter c) f = change_effect Proper c m (λ _. tt) tt
proper w m (History (SetMark k)) f = tt
proper w m (History (DropMark k)) f = tt
proper w m (History Undo) f = tt
proper w m (History Redo) f = tt
proper w m (History (GoTo k)) f = tt
proper w m (History Commit) f = tt
proper w m (History (Between j k)) f = tt
proper w m (History StandingMarks) f = tt
proper w m (History Free) f = tt
proper w m (History (NameMark k b c)) f = tt
proper w m (History (GoToName b c)) f = tt
proper w m (History (SetBench b)) f = set_passed w m b f
proper w m (History (MadeBy j k b)) f = tt
proper w m (Ask q) f = tt
proper w m (Quote p) f = tt
proper w m Unknown f = tt

makes_benched : (w : Parameters) (m : Machine) (c : Command) → m.bench < 100 → Makes (λ s. s.bench < 100) (deed_of w c m).effect
unfolding step_of
makes_benched w m (Alter c) h = change_effect (Makes (λ s. s.bench < 100)) c m (λ _. h) tt
makes_benched w m (History c) h = history_makes (λ s. s.bench < 100) w.changes c m
makes_benched w m (Ask q) h = tt
makes_benched w m (Quote p) h = tt
makes_benched w m Unknown h = tt

abbrev Below : Machine → Type 0
Below m = (m.bench < 100) × All (λ (s : Step). s.bench < 100) m.line.steps

benched_next : (e : Effect) (m : Machine) → Proper e → Makes (λ s. s.bench < 100) e → Below m → Below (effected e m)
unfolding Proper
benched_next (steps s) m p k h = (h.0, all_cut m.line.place s h.1 k)
benched_next (marks n) m p k h = h
benched_next (unmarks n) m p k h = h
benched_next (goes q) m p k h = h
benched_next (names j n) m p k h = h
benched_next (benches b) m p k h = (p, h.1)
benched_next clears m p k h = (h.0, done)
benched_next nothing m p k h = h

benched_step : (w : Parameters) (m : Machine) (x : Call) → Benched m → Benched (step w m x)
benched_step w m x h = let b = go (refusal w m (command_of x) == 0) refl in record { present = b.0; earlier = b.1; places = places_step w m x h.places }
  where
    go : (t : Bool) → (refusal w m (command_of x) == 0) ≡ t → Below (step w m x)
    go true f = rw (accepted_step w m (command_of x) f) (benched_next (deed_of w (command_of x) m).effect m (proper w m (command_of x) f) (makes_benched w m (command_of x) h.present)
        (h.present, h.earlier))
    go false f = rw (refused_step w m (command_of x) f) (h.present, h.earlier)

benched_last : {m n : Machine} {es : List Event} → Reached m es n → Benched m → Benched n
benched_last here h = h
benched_last (by {m} {n} {es} w x r) h = benched_last r (benched_step w m x h)

-- ---- the counts add up

by_command : (a b c d : ℕ) → command_of (five 59 a b c d) ≡ History (MadeBy a b c)
unfolding command_of
by_command a b c d = refl

module _ (w : Parameters) (m : Machine) (h : Benched m) (a b : ℕ) where
  abbrev steps_there : List Step
  steps_there = steps_between (place_or 0 (m.marks a)) (place_or 0 (m.marks b)) m.line.steps

  mark_in : (k : ℕ) → place_or 0 (m.marks k) ≤ length m.line.steps
  mark_in k = go (m.marks k) refl
    where
      go : (s : MarkPlace) → m.marks k ≡ s → place_or 0 s ≤ length m.line.steps
      go gone e = omega arith
      go (at q) e = h.places.marks_in k q e

  by_code : (c : ℕ) → c < 100 → refusal w m (History (MadeBy a b c)) ≡ refusal w m (History (Between a b))
  unfolding refusal
  by_code c l = rw (lt-leb 100 c (omega arith))

  between_command : (e f : ℕ) → command_of (five 49 a b e f) ≡ History (Between a b)
  unfolding command_of
  between_command e f = refl

  by_number : (c d : ℕ) → c < 100 → (answer w m (five 59 a b c d)).number ≡ ((refusal w m (History (Between a b)) == 0) ⇒ made_by c steps_there else 0)
  unfolding answer_to
  by_number c d l = rw (by_command a b c d) (ap (λ (k : ℕ). (k == 0) ⇒ made_by c steps_there else 0) (by_code c l))

  between_number : (e f : ℕ) → (answer w m (five 49 a b e f)).number ≡ ((refusal w m (History (Between a b)) == 0) ⇒ distance (place_or 0 (m.marks a)) (place_or 0 (m.marks b)) else 0)
  unfolding answer_to
  between_number e f = rw (between_command e f)

  counts_add : (d e f : ℕ) → sum_of (λ c. (answer w m (five 59 a b c d)).number) (range 100) ≡ (answer w m (five 49 a b e f)).number
  counts_add d e f =
      sum_same 100 (λ c. (answer w m (five 59 a b c d)).number) (λ c. (refusal w m (History (Between a b)) == 0) ⇒ made_by c steps_there else 0) (λ c l. by_number c d l)
      ∙ go (refusal w m (History (Between a b)) == 0)
      ∙ sym (between_number e f)
    where
      go : (t : Bool) → sum_of (λ c. t ⇒ made_by c steps_there else 0) (range 100) ≡ (t ⇒ distance (place_or 0 (m.marks a)) (place_or 0 (m.marks b)) else 0)
      go true = made_adds 100 (all_between (place_or 0 (m.marks a)) (place_or 0 (m.marks b)) h.earlier) ∙ between_length _ _ m.line.steps (mark_in a) (mark_in b)
      go false = sum_zero 100

-- ---- what 58 and 59 answer

set_command : (a b c d : ℕ) → command_of (five 58 a b c d) ≡ History (SetBench a)
unfolding command_of
set_command a b c d = refl

set_code : (w : Parameters) (m : Machine) (a b c d : ℕ) → a < 100 → (answer w m (five 58 a b c d)).code ≡ 0
unfolding answer_to refusal
set_code w m a b c d l = rw (set_command a b c d) (rw (lt-leb 100 a (omega arith)))

made_counts : (c : ℕ) (ss : List Step) → made_by c ss ≡ count c (benches_in ss)
made_counts c [] = refl
made_counts c (s ∷ ss) = ap (λ (n : ℕ). to_bit (s.bench == c) + n) (made_counts c ss)

between_benches : (p q : ℕ) (ss : List Step) → benches_in (steps_between p q ss) ≡ benches_between p q (benches_in ss)
between_benches p q ss =
    map-append (λ (s : Step). s.bench) (take (q - p) (drop p ss)) (take (p - q) (drop q ss))
    ∙ (λ i. part q p i ++ part p q i)
  where
    part : (x y : ℕ) → benches_in (take (x - y) (drop y ss)) ≡ take (x - y) (drop y (benches_in ss))
    part x y = benches_taken (x - y) (drop y ss) ∙ ap (take (x - y)) (benches_dropped y ss)

module _ (w : Parameters) (m : Machine) (a b p q c d : ℕ) (ra : within 1 64 a ≡ true) (rb : within 1 64 b ≡ true)
    (ea : m.marks a ≡ at p) (eb : m.marks b ≡ at q) (l : c < 100) where
  by_accepted : refusal w m (History (MadeBy a b c)) ≡ 0
  unfolding refusal
  by_accepted = rw (ra, rb, ea, eb, lt-leb 100 c (omega arith))

  by_marks : ((answer w m (five 59 a b c d)).code ≡ 0) × ((answer w m (five 59 a b c d)).number ≡ count c (benches_between p q (benches_in m.line.steps)))
  unfolding answer_to
  by_marks = (
    rw (by_command a b c d) by_accepted,
    rw (by_command a b c d, by_accepted, ea, eb) (made_counts c (steps_between p q m.line.steps) ∙ ap (count c) (between_benches p q m.line.steps)),
  )

-- ---- the sentence, of every machine that calls have led to

module _ (g : Graph) (m : Machine) (es : List Event) (z : Reached (fresh g) es m) where
  benched : Benched m
  benched = benched_last z (record { present = omega arith; earlier = done; places = fresh_places g })

  -- at any parameters
  counted : (w : Parameters) (a b p q c d : ℕ) (h i : Graph) → Kept a p h es → Kept b q i es → c < 100 →
      ((answer w m (five 59 a b c d)).code ≡ 0) × ((answer w m (five 59 a b c d)).number ≡ count c (benches_between p q (benches_after 0 [] es)))
  counted w a b p q c d h i k r l =
      let n = by_marks w m a b p q c d (kept_range z a p h k) (kept_range z b q i r) (kept_from z a p h k) (kept_from z b q i r) l in
      (n.0, n.1 ∙ ap (λ (bs : List ℕ). count c (benches_between p q bs)) (signs_last z))

-- one store alone
pub bench_sentence : (w : Parameters) (g : Graph) (xs : List Call) → BenchSentence w g xs
bench_sentence w g xs =
    let m = last w (fresh g) xs in
    let es = events w (fresh g) xs in
    let z = reached w (fresh g) xs in
    record {
      bench_is = bench_last z;
      sets = λ a b c d l. set_code w m a b c d l;
      signed_by = signs_last z;
      counts = counted g m es z w;
      adds = counts_add w m (benched g m es z);
    }

-- one of several, at the joint room that each call finds
pub bench_sentence_at : (w : Parameters) (g : Graph) (ys : List Posed) → BenchSentenceAt w g ys
bench_sentence_at w g ys =
    let m = last_at w (fresh g) ys in
    let es = events_at w (fresh g) ys in
    let z = reached_at w (fresh g) ys in
    record {
      bench_is = bench_last z;
      sets = λ r a b c d l. set_code (roomed w m r) m a b c d l;
      signed_by = signs_last z;
      counts = λ r. counted g m es z (roomed w m r);
      adds = λ r. counts_add (roomed w m r) m (benched g m es z);
    }
