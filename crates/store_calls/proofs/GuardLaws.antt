-- Where a call leads is the machine's; one that leads too far is refused with 10.
use Rattle.std.specs.Prelude.{◌==◌}
use Prim.Native.Nat.{ℕ, zero, suc, ◌+◌, ◌-◌, ◌*◌, ◌/◌, ◌≤◌, ◌<◌}
use mathlib.Core.Path.{◌≡◌, refl, sym, ap, subst, ◌∙◌}
use mathlib.Core.Bool.{Bool, true, false, not, ◌&&◌, ◌||◌}
use mathlib.Core.List.{List, [], ◌∷◌, map}
use native.Mathlib.Omega.{arith}
use lib.Dec.{leb, ltb}
use lib.ListN.{length, get_or, take, drop, length-map, get_or-map}
use lib.Seq.{get_or-take, get_or-drop}
use borrow.Author.Tests.{eqb-true, eqb-false, le-ltb, leb-true}
use Rattle.lists.specs.Choice.{◌⇒◌else◌}
use Rattle.lists.specs.Lists.{overwritten}
use Rattle.lists.proofs.Bools.{tf, ft, within_range}
use Rattle.graph.specs.WellFormed.{Bounds}
use Rattle.history.specs.Machine.{Machine, MarkPlace, gone, at, stands, place_or, free_of, onward, name, holder_of, is_mark}
use Rattle.history.proofs.Timelines.{onward_back, onward_end}
use Rattle.marks.specs.Marked.{in_set, place_in}
use Rattle.marks.specs.Named.{holder_in}
use Rattle.marks.proofs.MarkLaws.{in_set_lem, place_is}
use Rattle.marks.proofs.NameLaws.{holder_same}
use Rattle.commands.specs.Answers.{refuses}
use Rattle.commands.specs.Calls.{Call, call_at}
use Rattle.commands.specs.Commands.{command_of, call_of}
use Rattle.commands.specs.declared.HistoryCall.TheVariants.{Redo, GoTo, GoToName}
use Rattle.machine.specs.Calls.{Parameters}
use Rattle.machine.specs.HistoryCodes.{too_far, place_of, out_of_reach}
use Rattle.machine.specs.Codes.{refusal}
use Rattle.machine.specs.Machine.{answers, step, last}
use Rattle.machine.specs.Run.{answer_words}
use Rattle.machine.specs.Stores.{StoreCall, store_calls_of}
use Rattle.machine.proofs.Families.{history_beyond}
use Rattle.commands.proofs.ByKind.{of_kind, call_is, unknown, next_kind, by_kind}
use Rattle.history_calls.specs.declared.Store.{Store}
use Rattle.history_calls.specs.Memory.{Memory}
use Rattle.history_calls.specs.Represents.{Represents}
use Rattle.engine.specs.Running.{Running, allowing}
use Rattle.engine.specs.Calls.{AllNear, AfterCalls}
use Rattle.engine.proofs.StepLaws.{refused_answers}
use Rattle.engine.proofs.CallLaws.{own_calls}
use Rattle.store_calls.specs.Guard.{
  mark_place,
  next_place,
  place_ahead,
  may_redo,
  Alike,
  Together,
  calls_in,
  Taken,
}
use Rattle.store_calls.proofs.CallsIn.{six, six_at, first_at, first_length, calls_in_length}

-- ---- the place that a call leads to

module _ (b : Bounds) (x : Store) (mem : Memory) (m : Machine) (h : Represents b x mem m) (capacity : ℕ) where
  pub here : x.current.position.place ≡ m.line.place
  here = h.journal.place

  pub inside : x.current.position.place ≤ x.current.position.steps
  inside = omega (arith, h.journal.place, h.journal.steps, h.journal.inside)

  back_near : (q : ℕ) → q ≤ m.line.place → too_far capacity m q ≡ false
  back_near q l = le-ltb (free_of capacity m.line) (onward q m.line) (omega (arith, onward_back q m.line l))

  none_set : (a : ℕ) → m.marks a ≡ gone → in_set x.set.bits a ≡ false
  none_set a e = go (is_mark a) refl
    where
      go : (t : Bool) → is_mark a ≡ t → in_set x.set.bits a ≡ false
      go true f = let r = within_range 1 64 a f in in_set_lem m.marks x.set.bits mem.marks h.marks a r.0 r.1 ∙ ap stands e
      go false f = rw f

  mark_place_lem : (a : ℕ) → mark_place x mem.marks a ≡ place_of m a
  mark_place_lem a = go (m.marks a) refl
    where
      go : (s : MarkPlace) → m.marks a ≡ s → mark_place x mem.marks a ≡ place_of m a
      go gone e = ap (λ (t : Bool). t ⇒ place_in mem.marks a else x.current.position.place) (none_set a e) ∙ here ∙ sym (ap (place_or m.line.place) e)
      go (at q) e =
          let r = h.marks.known a q e in
          let s = in_set_lem m.marks x.set.bits mem.marks h.marks a r.0 r.1 ∙ ap stands e in
          ap (λ (t : Bool). t ⇒ place_in mem.marks a else x.current.position.place) s
          ∙ place_is m.marks x.set.bits mem.marks h.marks a r.0 r.1 m.line.place (ap stands e)

  place_in_steps : (a : ℕ) → place_of m a ≤ x.current.position.steps
  place_in_steps a = go (m.marks a) refl
    where
      go : (s : MarkPlace) → m.marks a ≡ s → place_or m.line.place s ≤ x.current.position.steps
      go gone e = omega (arith, here, inside)
      go (at q) e = omega (arith, h.inside a q e, h.journal.steps)

  holder : (c : Call) → mark_place x mem.marks (holder_in x.set.bits mem.marks 0 (name c.a c.b)) ≡ place_of m (holder_of (name c.a c.b) m)
  holder c = ap (mark_place x mem.marks) (holder_same m x.set.bits mem.marks 0 (name c.a c.b) h.marks h.names) ∙ mark_place_lem (holder_of (name c.a c.b) m)

  next_far : too_far capacity m (next_place x.current.position.place x.current.position.steps) ≡ too_far capacity m (suc m.line.place)
  next_far = go (x.current.position.place == x.current.position.steps) refl
    where
      go : (t : Bool) → (x.current.position.place == x.current.position.steps) ≡ t
          → too_far capacity m (t ⇒ x.current.position.place else (x.current.position.place + 1)) ≡ too_far capacity m (suc m.line.place)
      go true f =
          let e = eqb-true x.current.position.place x.current.position.steps f in
          back_near x.current.position.place (omega (arith, here))
          ∙ sym (le-ltb (free_of capacity m.line) (onward (suc m.line.place) m.line) (omega (arith, onward_end (suc m.line.place) m.line (omega (arith, e, here, h.journal.steps)))))
      go false f = let e : x.current.position.place + 1 ≡ suc m.line.place = omega (arith, here) in ap (too_far capacity m) e

  next_in : next_place x.current.position.place x.current.position.steps ≤ x.current.position.steps
  next_in = go (x.current.position.place == x.current.position.steps) refl
    where
      go : (t : Bool) → (x.current.position.place == x.current.position.steps) ≡ t → (t ⇒ x.current.position.place else (x.current.position.place + 1)) ≤ x.current.position.steps
      go true f = inside
      go false f = let n = eqb-false x.current.position.place x.current.position.steps f in omega (arith, inside, n)

  pub ahead_far : (c : Call) → too_far capacity m (place_ahead x mem.marks c) ≡ out_of_reach capacity m c
  ahead_far c = go (c.kind == 20) (c.kind == 21) (c.kind == 57)
    where
      go : (s t u : Bool) →
          too_far capacity m (s ⇒ next_place x.current.position.place x.current.position.steps else t ⇒ mark_place x mem.marks c.a else
          u ⇒ mark_place x mem.marks (holder_in x.set.bits mem.marks 0 (name c.a c.b)) else x.current.position.place)
          ≡ (s ⇒ too_far capacity m (suc m.line.place) else t ⇒ too_far capacity m (place_of m c.a) else u ⇒ too_far capacity m (place_of m (holder_of (name c.a c.b) m)) else false)
      go true t u = next_far
      go false true u = ap (too_far capacity m) (mark_place_lem c.a)
      go false false true = ap (too_far capacity m) (holder c)
      go false false false = back_near x.current.position.place (omega (arith, here))

  pub ahead_in : (c : Call) → place_ahead x mem.marks c ≤ x.current.position.steps
  ahead_in c = go (c.kind == 20) (c.kind == 21) (c.kind == 57)
    where
      go : (s t u : Bool) →
          (s ⇒ next_place x.current.position.place x.current.position.steps else t ⇒ mark_place x mem.marks c.a else
          u ⇒ mark_place x mem.marks (holder_in x.set.bits mem.marks 0 (name c.a c.b)) else x.current.position.place) ≤ x.current.position.steps
      go true t u = next_in
      go false true u = omega (arith, mark_place_lem c.a, place_in_steps c.a)
      go false false true = omega (arith, holder c, place_in_steps (holder_of (name c.a c.b) m))
      go false false false = inside

  module _ (c : Call) (q : ℕ) (e : q ≡ place_ahead x mem.marks c) where
    pub no_farther : q ≤ x.current.position.place → false ≡ out_of_reach capacity m c
    no_farther l = sym (back_near q (omega (arith, l, here))) ∙ ap (too_far capacity m) e ∙ ahead_far c

    pub reach_ahead : x.current.position.place < q → x.current.position.place + (q - x.current.position.place) ≤ x.current.position.steps
    reach_ahead l = omega (arith, l, e, ahead_in c)

    pub counted_ahead : x.current.position.place < q → (free : ℕ) → free ≡ free_of capacity m.line → (r : Bool)
        → r ≡ ltb free (onward (m.line.place + (q - x.current.position.place)) m.line) → r ≡ out_of_reach capacity m c
    counted_ahead l free f r t =
        let g : m.line.place + (q - x.current.position.place) ≡ q = omega (arith, l, here) in
        t ∙ (λ i. ltb (f i) (onward (g i) m.line)) ∙ ap (too_far capacity m) e ∙ ahead_far c

-- ---- the command of a call's words

module _ (n : ℕ) (m : Machine) where
  abbrev AsNear : Call → Type 0
  AsNear x = out_of_reach n m x ≡ false → out_of_reach n m (call_of (command_of x)) ≡ false

  module _ (x : Call) where
    next : (k : ℕ) → AsNear (of_kind k x) → (suc k ≤ x.kind → AsNear x) → k ≤ x.kind → AsNear x
    next k h later l = next_kind x AsNear k h later l

    no : {A : Type 0} → A → false ≡ false
    no a = refl

    early : 1 ≤ x.kind → x.kind ≤ 22 → AsNear x
    unfolding command_of
    early low top = (next 1 no (next 2 no (next 3 no (next 4 no (next 5 no (next 6 no (next 7 no (next 8 no (next 9 no (next 10 no (next 11 no (next 12 no
        (next 13 no (next 14 no (next 15 no (next 16 no (next 17 no (next 18 no (next 19 no (next 20 (λ e. e) (next 21 (λ e. e)
        (next 22 no (λ h. absurd (omega arith)))))))))))))))))))))))) low

    late : 30 ≤ x.kind → x.kind ≤ 54 → AsNear x
    unfolding command_of
    late low top = (next 30 no (next 31 no (next 32 no (next 33 no (next 34 no (next 35 no (next 36 no (next 37 no (next 38 no (next 39 no (next 40 no
        (next 41 no (next 42 no (next 43 no (next 44 no (next 45 no (next 46 no (next 47 no (next 48 no (next 49 no (next 50 no (next 51 no
        (next 52 no (next 53 no (next 54 no (λ h. absurd (omega arith))))))))))))))))))))))))))) low

    latest : 56 ≤ x.kind → x.kind ≤ 59 → AsNear x
    unfolding command_of
    latest low top = (next 56 no (next 57 (λ e. e) (next 58 no (next 59 no (λ h. absurd (omega arith)))))) low

    -- a call within reach is so as a command
    pub command_near : AsNear x
    command_near = by_kind x (AsNear x) early late latest (λ e f. ap (λ c. out_of_reach n m (call_of c)) (unknown x e))

-- out of reach it is refused with 10
far_code : (v : Parameters) (m : Machine) (x : Call) → out_of_reach v.changes m x ≡ true → refusal v m (command_of x) ≡ 10
unfolding command_of
far_code v m x e = go (x.kind == 20) refl (x.kind == 21) refl (x.kind == 57) refl e
  where
    go : (s : Bool) → (x.kind == 20) ≡ s → (t : Bool) → (x.kind == 21) ≡ t → (u : Bool) → (x.kind == 57) ≡ u
        → (s ⇒ too_far v.changes m (suc m.line.place) else t ⇒ too_far v.changes m (place_of m x.a) else u ⇒ too_far v.changes m (place_of m (holder_of (name x.a x.b) m))
        else false) ≡ true
        → refusal v m (command_of x) ≡ 10
    go true a t b u c f = ap (λ (y : Call). refusal v m (command_of y)) (call_is x 20 (eqb-true x.kind 20 a)) ∙ history_beyond v m Redo f
    go false a true b u c f = ap (λ (y : Call). refusal v m (command_of y)) (call_is x 21 (eqb-true x.kind 21 b)) ∙ history_beyond v m (GoTo x.a) f
    go false a false b true c f = ap (λ (y : Call). refusal v m (command_of y)) (call_is x 57 (eqb-true x.kind 57 c)) ∙ history_beyond v m (GoToName x.a x.b) f
    go false a false b false c f = ft f

-- ---- the calls that one loop answers

-- a kind that redoes nothing is within reach
quiet_near : (n : ℕ) (m : Machine) (x : Call) → may_redo x.kind ≡ false → out_of_reach n m x ≡ false
quiet_near n m x e = go (x.kind == 20) (x.kind == 21) (x.kind == 57) e
  where
    go : (s t u : Bool) → (s || t || u) ≡ false
        → (s ⇒ too_far n m (suc m.line.place) else t ⇒ too_far n m (place_of m x.a) else u ⇒ too_far n m (place_of m (holder_of (name x.a x.b) m)) else false) ≡ false
    go true t u f = tf f
    go false true u f = tf f
    go false false true f = tf f
    go false false false f = refl

quiet_all : (v : Parameters) (m : Machine) (xs : List Call) → ((k : ℕ) → k < length xs → may_redo (get_or xs k (call_at [])).kind ≡ false) → AllNear v m xs
quiet_all v m [] h = tt
quiet_all v m (x ∷ xs) h =
    (command_near v.changes m x (quiet_near v.changes m x (h 0 (omega arith))), quiet_all v (step v m x) xs (λ k l. h (suc k) (omega (arith, l))))

first_near : (v : Parameters) (m : Machine) (xs : List Call) → 1 ≤ length xs → out_of_reach v.changes m (get_or xs 0 (call_at [])) ≡ false
    → ((k : ℕ) → 1 ≤ k → k < length xs → may_redo (get_or xs k (call_at [])).kind ≡ false) → AllNear v m xs
first_near v m [] l e h = absurd (omega (arith, l))
first_near v m (x ∷ xs) l e h = (command_near v.changes m x e, quiet_all v (step v m x) xs (λ k i. h (suc k) (omega arith) (omega (arith, i))))

both : (s t : Bool) → (s && t) ≡ true → (s ≡ true) × (t ≡ true)
both true true e = (refl, refl)
both true false e = ft e
both false t e = ft e

quiet : (s t : Bool) → s ≡ false → (s || not t) ≡ true → t ≡ false
quiet true t e f = tf e
quiet false true e f = ft f
quiet false false e f = refl

pub alike : (ample : Bool) (c : ℕ) (words : List ℕ) → Together ample c words → Alike c words
alike ample c words h = record { some = h.some; there = h.there; alike = λ k l. go k l }
  where
    go : (k : ℕ) → k < c → get_or words (6 * k) 0 ≡ get_or words 0 0
    go zero l = refl
    go (suc k) l = eqb-true _ _ (both _ _ (h.going (suc k) (omega arith) l)).0

pub one_alike : (words : List ℕ) → 6 ≤ length words → Alike 1 words
one_alike words l = record { some = omega arith; there = omega (arith, l); alike = λ k i. let e : k ≡ 0 = omega (arith, i) in ap (λ (j : ℕ). get_or words (6 * j) 0) e }

-- the kind of call k
kind_at : (c k : ℕ) (words : List ℕ) → k < c → 6 * c ≤ length words → (get_or (calls_in (take c (store_calls_of words))) k (call_at [])).kind ≡ get_or words (6 * k + 1) 0
kind_at c k words i l =
    let z = six 0 0 [] in
    let e : suc (6 * k) + 0 ≡ 6 * k + 1 = omega arith in
    ap (λ (x : Call). x.kind) (get_or-map (λ (x : StoreCall). x.call) (take c (store_calls_of words)) k z ∙ ap (λ (x : StoreCall). x.call) (first_at c k words z i l))
    ∙ get_or-take 5 (drop (suc (6 * k)) words) 0 0 (omega arith)
    ∙ get_or-drop (suc (6 * k)) words 0 0
    ∙ ap (λ (j : ℕ). get_or words j 0) e

module _ (w : Parameters) (m : Machine) (x : Store) (mem : Memory) (closed : List ℕ) (types : ℕ) (n : ℕ) (run : Running w x mem closed types m) where
  -- the calls of a stretch whose first is within reach are
  pub stretch_near : (ample : Bool) (c : ℕ) (words : List ℕ) → Together ample c words → 12 * n ≤ length mem.journal → ample ≡ leb (length mem.journal / 12) n
      → (call : List ℕ) → call ≡ take 5 (drop 1 words) → out_of_reach n m (call_at call) ≡ false → AllNear (allowing n w) m (calls_in (take c (store_calls_of words)))
  stretch_near ample c words h g e call q f = go ample refl
    where
      xs : List Call
      xs = calls_in (take c (store_calls_of words))

      long : length xs ≡ c
      long = length-map (take c (store_calls_of words)) (λ (y : StoreCall). y.call) ∙ first_length c words h.there

      go : (t : Bool) → ample ≡ t → AllNear (allowing n w) m xs
      go true a =
          let l = leb-true (length mem.journal / 12) n (sym e ∙ a) in
          let k : length mem.journal / 12 ≡ n = omega (arith, l, g) in
          subst (λ (i : ℕ). AllNear (allowing i w) m xs) k (own_calls w m x mem closed types run (length mem.journal) refl xs)
      go false a =
          first_near (allowing n w) m xs (omega (arith, long, h.some))
          (ap (out_of_reach n m) (get_or-map (λ (y : StoreCall). y.call) (take c (store_calls_of words)) 0 (six 0 0 [])
          ∙ ap (λ (y : StoreCall). y.call) (first_at c 0 words (six 0 0 []) (omega (arith, h.some)) h.there) ∙ ap call_at (sym q)) ∙ f)
          (λ k i l. ap may_redo (kind_at c k words (omega (arith, l, long)) h.there) ∙ quiet ample (may_redo (get_or words (6 * k + 1) 0)) a
          (both (get_or words (6 * k) 0 == get_or words 0 0) (ample || not (may_redo (get_or words (6 * k + 1) 0))) (h.going k i (omega (arith, l, long)))).1)

  module _ (there : Bool) (words slice slice' : List ℕ) where
    abbrev first : List StoreCall
    first = take 1 (store_calls_of words)

    first_is : 6 ≤ length words → first ≡ six 0 1 words ∷ []
    first_is l = go (store_calls_of words) (six_at 0 words (six 0 0 []) (omega (arith, l))) (calls_in_length (length words / 6) words (omega arith) (omega arith))
      where
        go : (xs : List StoreCall) → get_or xs 0 (six 0 0 []) ≡ six 0 1 words → length xs ≡ length words / 6 → take 1 xs ≡ six 0 1 words ∷ []
        go [] e f = absurd (omega (arith, f, l))
        go (y ∷ xs) e f = ap (λ (x : StoreCall). x ∷ []) e

    -- ---- the three ways out

    pub absent_taken : 6 ≤ length words → there ≡ false → slice' ≡ overwritten (21 ∷ 0 ∷ []) slice → Taken w n m there first x mem closed types slice slice'
    absent_taken l e f = record {
      after = subst (λ (t : Bool). Running w x mem closed types (t ⇒ last (allowing n w) m (calls_in first) else m)) (sym e) run;
      answered =
          f
          ∙ ap (λ (xs : List StoreCall). overwritten (answer_words (map (λ (y : StoreCall). refuses 21) xs)) slice) (sym (first_is l))
          ∙ ap (λ (t : Bool). overwritten (answer_words (t ⇒ answers (allowing n w) m (calls_in first) else map (λ (y : StoreCall). refuses 21) first)) slice) (sym e);
    }

    -- what the calls leave where the store is there
    pub there_taken : (c : ℕ) → there ≡ true → {x' : Store} {mem' : Memory} → AfterCalls w n m (calls_in (take c (store_calls_of words))) x' mem' closed types slice slice'
        → Taken w n m there (take c (store_calls_of words)) x' mem' closed types slice slice'
    there_taken c e {x'} {mem'} a =
        let xs = take c (store_calls_of words) in
        record {
          after = subst (λ (t : Bool). Running w x' mem' closed types (t ⇒ last (allowing n w) m (calls_in xs) else m)) (sym e) a.after;
          answered = a.answered ∙ ap (λ (t : Bool). overwritten (answer_words (t ⇒ answers (allowing n w) m (calls_in xs) else map (λ (y : StoreCall). refuses 21) xs)) slice) (sym e);
        }

    pub far_taken : 6 ≤ length words → there ≡ true → (call : List ℕ) → call ≡ take 5 (drop 1 words) → out_of_reach n m (call_at call) ≡ true → slice' ≡ overwritten (10 ∷ 0 ∷ []) slice
        → Taken w n m there first x mem closed types slice slice'
    unfolding last answers
    far_taken l e call q f g =
        let c = (six 0 1 words).call in
        let far : out_of_reach n m c ≡ true = ap (λ (v : List ℕ). out_of_reach n m (call_at v)) (sym q) ∙ f in
        let a = refused_answers w m x mem closed types run n (command_of c) 10 (sym (far_code (allowing n w) m c far)) (λ z. omega (arith, z)) in
        there_taken 1 e (subst (λ (xs : List StoreCall). AfterCalls w n m (calls_in xs) x mem closed types slice slice') (sym (first_is l)) (record {
          after = a.after;
          answered = g ∙ (λ i. overwritten ((a.answered i).code ∷ (a.answered i).number ∷ []) slice);
        }))
