-- Calls, one after another: the words that they write over the slice of answers, and what stands after each.
use Rattle.std.specs.Prelude.{◌==◌}
use Prim.Native.Nat.{ℕ, zero, suc, ◌+◌, ◌-◌, ◌*◌, ◌/◌, ◌≤◌, ◌<◌}
use mathlib.Core.Path.{◌≡◌, refl, sym, ap, ◌∙◌, subst}
use mathlib.Core.List.{List, [], ◌∷◌, ◌++◌}
use native.Mathlib.Omega.{arith}
use native.Mathlib.Numerals.{add-one}
use lib.ListN.{length, get_or, set, take, drop, length-append, length-drop}
use lib.Seq.{drop-drop, take-suc, take_all, length-take-le}
use Rattle.lists.specs.Lists.{overwritten}
use mathlib.Core.Bool.{Bool, true, false}
use Rattle.lists.specs.Choice.{◌⇒◌else◌}
use Rattle.history.specs.Machine.{Step, Machine, costs, spent, onward, name, holder_of}
use borrow.Author.Tests.{ltb-false}
use Rattle.machine.specs.Posed.{posed, roomed}
use Rattle.machine.proofs.Rooms.{roomed_is, own_reach}
use Rattle.machine.proofs.CostsFit.{CostsFit, costs_fit_step}
use Rattle.machine.proofs.StoreLaws.{step_spent}
use Rattle.timeline.proofs.Steps.{journal_free, journal_room}
use Rattle.machine.specs.HistoryCodes.{too_far, place_of, out_of_reach}
use Rattle.history_calls.specs.declared.Store.{Store}
use Rattle.history_calls.specs.declared.Called.{Called}
use Rattle.history_calls.specs.Memory.{Memory, tables_of}
use Rattle.commands.specs.Calls.{Call, calls_of}
use Rattle.machine.specs.Calls.{Parameters, bounds_in}
use Rattle.commands.specs.declared.Answer.{Answer}
use Rattle.machine.specs.Machine.{answer, answers, step, last}
use Rattle.machine.specs.Run.{answer_words}
use Rattle.machine.proofs.Whole.{answered, calls_length, answers_length}
use Rattle.commands.specs.declared.Command.{Command}
use Rattle.commands.specs.Calls.{call_at}
use Rattle.commands.specs.Commands.{call_of, command_of}
use Rattle.machine.specs.Machine.{answer_to, step_to}
use Rattle.engine.specs.Running.{Running, allowing, Answered}
use Rattle.engine.specs.Calls.{Reads, AllNear, AfterCalls}

-- ---- the room of a store alone: all rows of its journal that are not used

module _ (w : Parameters) (m : Machine) (x : Store) (mem : Memory) (closed : List ℕ) (types : ℕ) (h : Running w x mem closed types m) (n : ℕ) (e : n ≡ length mem.journal) where
  pub used_fits : x.current.position.used ≤ n / 12
  used_fits = let k = h.represents.journal.rows in omega (arith, k.within, k.upto, e)

  pub capacity_is : n / 12 ≡ w.changes
  capacity_is = ap (λ (i : ℕ). i / 12) e ∙ sym h.setting.changes

  -- the steps remembered are in the journal's rows
  pub costs_kept : costs m.line.steps ≤ n / 12
  costs_kept =
      let u = x.current.position.used in
      let j = journal_free (bounds_in w) x.current.position (tables_of x mem) mem.journal m.line (u + spent m.line) h.represents.journal in
      let f = ltb-false (n / 12 - u) (onward (length m.line.steps) m.line)
      (sym (journal_room (bounds_in w) x.current.position (tables_of x mem) mem.journal m.line h.represents.journal (n / 12 - u) (length m.line.steps)
      (omega (arith, e, used_fits)))) in
      omega (arith, j, f, used_fits, whole_costs m.line.steps)
    where
      whole_costs : (ss : List Step) → costs (take (length ss) ss) ≡ costs ss
      whole_costs [] = refl
      whole_costs (s ∷ ss) = omega (arith, whole_costs ss)

-- ---- calls within reach

-- what a store has used is what its machine has spent
pub used_is : (w : Parameters) (m : Machine) (x : Store) (mem : Memory) (closed : List ℕ) (types : ℕ) → Running w x mem closed types m → x.current.position.used ≡ spent m.line
used_is w m x mem closed types h =
    let j = journal_free (bounds_in w) x.current.position (tables_of x mem) mem.journal m.line (x.current.position.used + spent m.line) h.represents.journal in
    omega (arith, j)

-- with room for all its steps no call leads a machine too far
own_near : (w : Parameters) (m : Machine) → costs m.line.steps ≤ w.changes → (c : Call) → out_of_reach w.changes m c ≡ false
own_near w m h c = go (c.kind == 20) (c.kind == 21) (c.kind == 57)
  where
    go : (s t u : Bool)
        → (s ⇒ too_far w.changes m (suc m.line.place) else t ⇒ too_far w.changes m (place_of m c.a) else u ⇒ too_far w.changes m (place_of m (holder_of (name c.a c.b) m))
        else false) ≡ false
    go true t u = own_reach w m h (suc m.line.place)
    go false true u = own_reach w m h (place_of m c.a)
    go false false true = own_reach w m h (place_of m (holder_of (name c.a c.b) m))
    go false false false = refl

pub all_near : (w : Parameters) (m : Machine) (xs : List Call) → CostsFit w m → AllNear w m xs
unfolding CostsFit
all_near w m [] h = tt
all_near w m (x ∷ xs) h = (own_near w m h (call_of (command_of x)), all_near w (step w m x) xs (costs_fit_step w m x h))

-- no call spends more than the capacity
step_within : (w : Parameters) (m : Machine) (x : Call) → spent m.line ≤ w.changes → spent (step w m x).line ≤ w.changes
step_within w m x h =
    let r = w.changes - spent m.line in
    let e : roomed w m r ≡ w = roomed_is w m r (omega (arith, h)) in
    let s = step_spent w m (posed r x) in
    omega (arith, h, s, ap (λ (v : Parameters). spent (step v m x).line) e)

pub last_within : (w : Parameters) (m : Machine) (xs : List Call) → spent m.line ≤ w.changes → spent (last w m xs).line ≤ w.changes
unfolding last
last_within w m [] h = h
last_within w m (x ∷ xs) h = last_within w (step w m x) xs (step_within w m x h)

-- call k of them
near_at : (w : Parameters) (m : Machine) (xs : List Call) (k : ℕ) (z : Call) → AllNear w m xs → k < length xs
    → out_of_reach w.changes (last w m (take k xs)) (call_of (command_of (get_or xs k z))) ≡ false
unfolding last
near_at w m [] k z h i = absurd (omega arith)
near_at w m (x ∷ xs) zero z h i = h.0
near_at w m (x ∷ xs) (suc k) z h i = near_at w (step w m x) xs k z h.1 (omega arith)

pub at_capacity : {w : Parameters} {m : Machine} {c : Command} {d : Called} {mem : Memory} {closed : List ℕ} {types : ℕ} (n k : ℕ) → n ≡ k →
    Answered w n m c d mem closed types → Answered w k m c d mem closed types
at_capacity {w} {m} {c} {d} {mem} {closed} {types} n k e a = subst (λ (i : ℕ). Answered w i m c d mem closed types) e a

-- ---- the words of the calls

-- call k is the one of the five words at 5k
pub call_at_lem : (k : ℕ) (ws : List ℕ) (z : Call) → 5 * k + 5 ≤ length ws → get_or (calls_of ws) k z ≡ call_at (take 5 (drop (5 * k) ws))
call_at_lem zero (k ∷ a ∷ b ∷ c ∷ d ∷ ws) z h = refl
call_at_lem (suc n) (k ∷ a ∷ b ∷ c ∷ d ∷ ws) z h =
    let e : 5 * suc n ≡ suc (suc (suc (suc (suc (5 * n))))) = omega arith in
    call_at_lem n ws z (omega arith) ∙ ap (λ (j : ℕ). call_at (take 5 (drop j (k ∷ a ∷ b ∷ c ∷ d ∷ ws)))) (sym e)
call_at_lem n [] z h = absurd (omega arith)
call_at_lem n (k ∷ []) z h = absurd (omega arith)
call_at_lem n (k ∷ a ∷ []) z h = absurd (omega arith)
call_at_lem n (k ∷ a ∷ b ∷ []) z h = absurd (omega arith)
call_at_lem n (k ∷ a ∷ b ∷ c ∷ []) z h = absurd (omega arith)

-- call k of a list, by the words that it is read from
pub command_is : {width count : ℕ} {words : List ℕ} {xs : List Call} (h : Reads width count words xs) (k at : ℕ) (c : Command) → k < count → at ≡ k * width
    → c ≡ command_of (call_at (take (at + 5 - at) (drop at words))) → c ≡ command_of (get_or xs k (call_at []))
command_is {words = words} h k at c i f e =
    let five : at + 5 - at ≡ 5 = omega arith in
    e ∙ (λ j. command_of (call_at (take (five j) (drop (f j) words)))) ∙ ap command_of (sym (h.each k i))

-- its command is within reach
pub command_near : {width count : ℕ} {words : List ℕ} {xs : List Call} (w : Parameters) (m : Machine) (h : Reads width count words xs) (k at : ℕ) (c : Command) → AllNear w m xs → k < count
    → at ≡ k * width
    → c ≡ command_of (call_at (take (at + 5 - at) (drop at words))) → out_of_reach w.changes (last w m (take k xs)) (call_of c) ≡ false
command_near {xs = xs} w m h k at c near i f e =
    ap (λ (b : Command). out_of_reach w.changes (last w m (take k xs)) (call_of b)) (command_is h k at c i f e) ∙ near_at w m xs k (call_at []) near (omega (arith, i, h.many))

pub next_at : (k width at : ℕ) → at ≡ k * width → at + width ≡ (k + 1) * width
next_at k width at e = omega (arith, e)

-- the calls of five words each
pub reads_five : (words : List ℕ) → Reads 5 (length words / 5) words (calls_of words)
reads_five words = record {
  many = calls_length (length words / 5) words (omega arith) (omega arith);
  there = λ k i. omega (arith, i);
  each = λ k i. let e : 5 * k ≡ k * 5 = omega arith in call_at_lem k words (call_at []) (omega (arith, i)) ∙ ap (λ (j : ℕ). call_at (take 5 (drop j words))) e;
}

-- ---- the words of the answers

pub words_append : (xs ys : List Answer) → answer_words (xs ++ ys) ≡ answer_words xs ++ answer_words ys
words_append [] ys = refl
words_append (x ∷ xs) ys = ap (λ (l : List ℕ). x.code ∷ x.number ∷ l) (words_append xs ys)

-- two stores where the first list ends
two_more : (A D : List ℕ) (x y : ℕ) → 2 ≤ length D → set (set (A ++ D) (length A) x) (suc (length A)) y ≡ (A ++ (x ∷ y ∷ [])) ++ drop 2 D
two_more [] [] x y h = absurd (omega arith)
two_more [] (d ∷ []) x y h = absurd (omega arith)
two_more [] (d ∷ e ∷ D) x y h = refl
two_more (a ∷ A) D x y h = ap (λ (l : List ℕ). a ∷ l) (two_more A D x y h)

over_more : (A slice : List ℕ) (n x y : ℕ) → length A ≡ 2 * n → 2 * n + 1 < length slice →
    set (set (overwritten A slice) (2 * n) x) (2 * n + 1) y ≡ overwritten (A ++ (x ∷ y ∷ [])) slice
over_more A slice n x y e h =
    let D = drop (length A) slice in
    let t : set (set (A ++ D) (length A) x) (suc (length A)) y ≡ (A ++ (x ∷ y ∷ [])) ++ drop 2 D =
    two_more A D x y (rw length-drop (omega arith)) in
    let one : suc (length A) ≡ 2 * n + 1 = omega arith in
    let long : length (A ++ (x ∷ y ∷ [])) ≡ length A + 2 = length-append A (x ∷ y ∷ []) in
    (λ i. set (set (A ++ D) (sym e i) x) (sym one i) y)
    ∙ t
    ∙ ap (λ (l : List ℕ). (A ++ (x ∷ y ∷ [])) ++ l) (drop-drop 2 (length A) slice ∙ ap (λ (j : ℕ). drop j slice) (sym long))

-- ---- one call more

pub last_more : (w : Parameters) (m : Machine) (xs : List Call) (x : Call) → last w m (xs ++ (x ∷ [])) ≡ step w (last w m xs) x
unfolding last
last_more w m [] x = refl
last_more w m (y ∷ xs) x = last_more w (step w m y) xs x

answers_more : (w : Parameters) (m : Machine) (xs : List Call) (x : Call) →
    answer_words (answers w m (xs ++ (x ∷ []))) ≡ answer_words (answers w m xs) ++ ((answer w (last w m xs) x).code ∷ (answer w (last w m xs) x).number ∷ [])
unfolding answers
answers_more w m xs x = ap answer_words (answered w m xs [] x) ∙ words_append (answers w m xs) (answer w (last w m xs) x ∷ [])

module _ (w : Parameters) (n : ℕ) (m : Machine) (x : Store) (mem : Memory) (closed : List ℕ) (types : ℕ) (slice slice' : List ℕ) where
  abbrev v : Parameters
  v = allowing n w

  pub after_calls_none : Running w x mem closed types m → AfterCalls w n m [] x mem closed types slice slice
  unfolding last answers
  after_calls_none h = record { after = h; answered = refl }

  after_calls_one : (xs : List Call) (call : Call) (c : Command) (d : Called) (mem' : Memory) →
      AfterCalls w n m xs x mem closed types slice slice' → c ≡ command_of call →
      Answered w n (last v m xs) c d mem' closed types →
      2 * length xs + 1 < length slice →
      AfterCalls w n m (xs ++ (call ∷ [])) d.store mem' closed types slice
      (set (set slice' (2 * length xs) d.answer.code) (2 * length xs + 1) d.answer.number)
  after_calls_one xs call c d mem' h e g long =
      let now = last v m xs in
      let a : answer_to v now c ≡ answer v now call = ap (answer_to v now) e in
      let s : step_to v now c ≡ last v m (xs ++ (call ∷ [])) =
      ap (step_to v now) e ∙ sym (last_more v m xs call) in
      let told : d.answer ≡ answer v now call = g.answered ∙ a in
      let A = answer_words (answers v m xs) in
      record {
        after = subst (λ (k : Machine). Running w d.store mem' closed types k) s g.after;
        answered =
            (λ i. set (set (h.answered i) (2 * length xs) d.answer.code) (2 * length xs + 1) d.answer.number)
            ∙ over_more A slice (length xs) d.answer.code d.answer.number (answers_length v m xs) long
            ∙ (λ i. overwritten (A ++ ((told i).code ∷ (told i).number ∷ [])) slice)
            ∙ ap (λ (l : List ℕ). overwritten l slice) (sym (answers_more v m xs call));
      }

  -- call k of the list
  pub after_calls_more : {width count : ℕ} {words : List ℕ} {xs : List Call} (reads : Reads width count words xs) (k at : ℕ) (c : Command) (d : Called) (mem' : Memory) →
      AfterCalls w n m (take k xs) x mem closed types slice slice' → k < count → at ≡ k * width →
      c ≡ command_of (call_at (take (at + 5 - at) (drop at words))) →
      Answered w n (last v m (take k xs)) c d mem' closed types → 2 * k + 1 < length slice →
      AfterCalls w n m (take (k + 1) xs) d.store mem' closed types slice
      (set (set slice' (2 * k) d.answer.code) (2 * k + 1) d.answer.number)
  after_calls_more {xs = xs} reads k at c d mem' h i b e f long =
      let z = call_at [] in
      let size : length (take k xs) ≡ k = length-take-le k xs (omega (arith, i, reads.many)) in
      let all : take (k + 1) xs ≡ take k xs ++ (get_or xs k z ∷ []) = ap (λ (j : ℕ). take j xs) (add-one k) ∙ take-suc xs k z (omega (arith, i, reads.many)) in
      let r = after_calls_one (take k xs) (get_or xs k z) c d mem' h (command_is reads k at c i b e) f (rw size long) in
      let r' = subst (λ (j : ℕ). AfterCalls w n m (take k xs ++ (get_or xs k z ∷ [])) d.store mem' closed types slice
      (set (set slice' (2 * j) d.answer.code) (2 * j + 1) d.answer.number)) size r in
      subst (λ (ys : List Call). AfterCalls w n m ys d.store mem' closed types slice
      (set (set slice' (2 * k) d.answer.code) (2 * k + 1) d.answer.number)) (sym all) r'

  -- all of them
  pub after_calls_all : (xs : List Call) (k : ℕ) → length xs ≤ k →
      AfterCalls w n m (take k xs) x mem closed types slice slice' →
      AfterCalls w n m xs x mem closed types slice slice'
  after_calls_all xs k i h = subst (λ (ys : List Call). AfterCalls w n m ys x mem closed types slice slice') (take_all k xs i) h

-- ---- one call

-- the call of five words
pub call_of_five : (ws : List ℕ) → length ws ≡ 5 → calls_of ws ≡ call_at ws ∷ []
call_of_five (k ∷ a ∷ b ∷ c ∷ d ∷ []) h = refl
call_of_five [] h = absurd (omega arith)
call_of_five (k ∷ []) h = absurd (omega arith)
call_of_five (k ∷ a ∷ []) h = absurd (omega arith)
call_of_five (k ∷ a ∷ b ∷ []) h = absurd (omega arith)
call_of_five (k ∷ a ∷ b ∷ c ∷ []) h = absurd (omega arith)
call_of_five (k ∷ a ∷ b ∷ c ∷ d ∷ e ∷ ws) h = absurd (omega arith)

module _ (w : Parameters) (n : ℕ) (m : Machine) (mem : Memory) (closed : List ℕ) (types : ℕ) where
  -- the two words of its answer, and what stands after it
  pub answered_one : (ws : List ℕ) (y : Store) (pair : List ℕ) → length ws ≡ 5
      → AfterCalls w n m (calls_of ws) y mem closed types (0 ∷ 0 ∷ []) pair
      → Answered w n m (command_of (call_at ws)) (record { store = y; answer = record { code = get_or pair 0 0; number = get_or pair 1 0 } }) mem closed types
  unfolding last answers
  answered_one ws y pair five h =
      let g = subst (λ (xs : List Call). AfterCalls w n m xs y mem closed types (0 ∷ 0 ∷ []) pair) (call_of_five ws five) h in
      record {
        answered = λ i. record { code = ap (λ (l : List ℕ). get_or l 0 0) g.answered i; number = ap (λ (l : List ℕ). get_or l 1 0) g.answered i };
        after = g.after;
      }

-- ---- a store alone

module _ (w : Parameters) (m : Machine) (x : Store) (mem : Memory) (closed : List ℕ) (types : ℕ) (h : Running w x mem closed types m) (n : ℕ) (e : n ≡ length mem.journal) where
  -- no call leads it too far
  pub never_far : (c : Call) → out_of_reach w.changes m c ≡ false
  never_far c = own_near w m (omega (arith, costs_kept w m x mem closed types h n e, capacity_is w m x mem closed types h n e)) c

  -- its capacity is that of its journal, and no call leads it too far
  pub own_calls : (xs : List Call) → AllNear (allowing (n / 12) w) m xs
  unfolding CostsFit
  own_calls xs = all_near (allowing (n / 12) w) m xs (costs_kept w m x mem closed types h n e)

pub after_at : {w : Parameters} {m : Machine} {xs : List Call} {y : Store} {mem : Memory} {closed : List ℕ} {types : ℕ} {slice slice' : List ℕ} (n k : ℕ) → n ≡ k →
    AfterCalls w n m xs y mem closed types slice slice' → AfterCalls w k m xs y mem closed types slice slice'
after_at {w} {m} {xs} {y} {mem} {closed} {types} {slice} {slice'} n k e a = subst (λ (i : ℕ). AfterCalls w i m xs y mem closed types slice slice') e a
