-- Calls of one store more: its parts are replaced, all others stay.
use Prim.Native.Nat.{ℕ, suc, ◌+◌, ◌-◌, ◌*◌, ◌/◌, ◌^◌, min, ◌≤◌, ◌<◌}
use mathlib.Core.Path.{◌≡◌, refl, sym, ap, subst, ◌∙◌}
use mathlib.Core.Bool.{Bool, true, false}
use mathlib.Core.List.{List, [], map}
use native.Mathlib.Omega.{arith}
use lib.ListN.{length, get_or, set, length-set}
use lib.Seq.{get_or-set_same, get_or-set_other}
use Rattle.lists.specs.Choice.{◌⇒◌else◌, within}
use Rattle.lists.proofs.Bools.{within_range}
use Rattle.lists.proofs.Picks.{same, differ, same?}
use Rattle.commands.specs.Answers.{refuses}
use Rattle.history.specs.Machine.{Machine, spent, fresh}
use Rattle.history_calls.specs.declared.Store.{Store}
use Rattle.history_calls.specs.Memory.{Memory, memory, tables_of}
use Rattle.timeline.proofs.Steps.{journal_free}
use Rattle.machine.specs.Calls.{Parameters, bounds_in}
use Rattle.machine.specs.Machine.{answers, last}
use Rattle.machine.specs.Stores.{Stores, StoreCall, spent_by, joint_room, answers_in, last_in}
use Rattle.machine.proofs.StoreLaws.{limits_last, last_fits, total_with}
use Rattle.engine.specs.Running.{Running, allowing}
use Rattle.store_calls.specs.Guard.{calls_in}
use Rattle.store_calls.specs.Parts.{part, with_part}
use Rattle.store_calls.specs.Serving.{slot_of, store_at, Whole, whole, Sizes, Serving}
use Rattle.store_calls.proofs.Parts.{before_part, part_length, length_with, part_same, part_other}
use Rattle.store_calls.proofs.StretchLaws.{OfStore, Stretched, stretched}

-- what a store has used is what its machine has spent
pub used_spent : (w : Parameters) (x : Store) (mem : Memory) (closed : List ℕ) (types : ℕ) (m : Machine) → Running w x mem closed types m → x.current.position.used ≡ spent m.line
used_spent w x mem closed types m h =
    let j = journal_free (bounds_in w) x.current.position (tables_of x mem) mem.journal m.line (x.current.position.used + spent m.line) h.represents.journal in
    omega (arith, j)

-- the same run by other names
record Place : Type 0 where
  store : Store
  words : Memory
  machine : Machine

moved : {w : Parameters} {closed : List ℕ} {types : ℕ} {x x' : Store} {v v' e e' t t' p p' : List ℕ} {m m' : Machine} → x ≡ x' → v ≡ v' → e ≡ e' → t ≡ t' → p ≡ p' → m ≡ m' →
    Running w x (memory v e t p) closed types m → Running w x' (memory v' e' t' p') closed types m'
moved {w} {closed} {types} a b c d f g r =
    let q : ◌≡◌ {A = Place} _ _ = λ k. record { store = a k; words = memory (b k) (c k) (d k) (f k); machine = g k } in
    subst (λ (y : Place). Running w y.store y.words closed types y.machine) q r

pub slot_in : (number k : ℕ) → 1 ≤ k → slot_of number k < k
slot_in number k h = go (within 1 k number) refl
  where
    go : (t : Bool) → within 1 k number ≡ t → (t ⇒ number - 1 else 0) < k
    go true e = let r = within_range 1 k number e in omega (arith, r.0, r.1)
    go false e = h

module _ (w : Parameters) (z : Sizes) (all : List Store) (mem : Whole) (closed : List ℕ) (types : ℕ) (s : Stores) (h : Serving w z all mem closed types s) where
  -- the words of the store at place i
  abbrev memory_at : ℕ → Memory
  memory_at i = memory (part z.vertices i mem.vertices) (part z.edges i mem.edges) (part z.journal i mem.journal) (get_or mem.marks i [])

  module _ (i : ℕ) (inside : i < s.count) where
    abbrev x : Store
    x = store_at all i

    abbrev m : Machine
    m = s.machine (suc i)

    runs : Running w x (memory_at i) closed types m
    runs = h.each i inside

    pub vertices_end : i * z.vertices + z.vertices ≤ length mem.vertices
    vertices_end = omega (arith, before_part z.vertices i s.count inside, h.vertices_fit)

    pub edges_end : i * z.edges + z.edges ≤ length mem.edges
    edges_end = omega (arith, before_part z.edges i s.count inside, h.edges_fit)

    pub journal_end : i * z.journal + z.journal ≤ length mem.journal
    journal_end = omega (arith, before_part z.journal i s.count inside, h.journal_fits)

    pub in_eight : i < 8
    in_eight = omega (arith, inside, h.few)

    journal_long : length (part z.journal i mem.journal) ≡ z.journal
    journal_long = part_length z.journal i mem.journal journal_end

    pub used_is : x.current.position.used ≡ spent m.line
    used_is = used_spent w x (memory_at i) closed types m runs

    pub used_fits : x.current.position.used ≤ z.journal / 12
    used_fits = let k = runs.represents.journal.rows in omega (arith, k.within, k.upto, journal_long)

    pub changes_are : z.journal / 12 ≡ w.changes
    changes_are = ap (λ (k : ℕ). k / 12) (sym journal_long) ∙ sym runs.setting.changes

    -- a store's part of the sum
    one_of_all : spent m.line ≤ spent_by s.count s.machine
    one_of_all = let t = total_with s.count (suc i) (fresh m.line.start) s.machine (omega arith) (omega (arith, inside)) in omega (arith, t)

    pub room_short : x.current.position.used + joint_room s < 2 ^ 32
    unfolding joint_room
    room_short = omega (arith, used_is, one_of_all, h.limited, h.short)

    -- ---- calls of this store, or of one that is not there

    module _ (number : ℕ) (slot : i ≡ slot_of number s.count) (xs : List StoreCall) (of : OfStore number xs) (there : Bool) (e : there ≡ within 1 s.count number)
        (n : ℕ) (ne : n ≡ min (z.journal / 12) (x.current.position.used + joint_room s)) where
      abbrev v : Parameters
      v = allowing n w

      abbrev next : Stores
      next = last_in w s xs

      done : Stretched w s i there xs v
      done = stretched w s i inside number slot there e n (ne ∙ (λ k. min (changes_are k) (used_is k + joint_room s))) h.limited xs of

      pub told : answers_in w s xs ≡ (there ⇒ answers v m (calls_in xs) else map (λ (y : StoreCall). refuses 21) xs)
      told = done.told

      limited_after : spent_by next.count next.machine ≤ next.limit
      limited_after = last_fits w s xs h.limited

      -- ---- what they left

      module _ (x' : Store) (v' e' t' p' : List ℕ) (vl : length v' ≡ z.vertices) (el : length e' ≡ z.edges) (tl : length t' ≡ z.journal)
          (a : Running w x' (memory v' e' t' p') closed types (there ⇒ last v m (calls_in xs) else m)) where
        abbrev mem' : Whole
        mem' = whole (with_part z.vertices i v' mem.vertices) (with_part z.edges i e' mem.edges) (with_part z.journal i t' mem.journal) (set mem.marks i p')

        used_after : x'.current.position.used ≡ spent (next.machine (suc i)).line
        used_after = used_spent w x' (memory v' e' t' p') closed types (there ⇒ last v m (calls_in xs) else m) a ∙ ap (λ (k : Machine). spent k.line) (sym done.machine)

        pub room_enough : x'.current.position.used ≤ joint_room s + x.current.position.used
        unfolding joint_room
        room_enough =
            let q = limits_last w s xs in
            let l : spent_by next.count next.machine ≡ spent_by s.count next.machine = ap (λ (k : ℕ). spent_by k next.machine) q.0 in
            omega (arith, used_after, used_is, done.sum, limited_after, q.1, l, h.limited)

        pub room_after : joint_room s + x.current.position.used - x'.current.position.used ≡ joint_room next
        unfolding joint_room
        room_after =
            let q = limits_last w s xs in
            let l : spent_by next.count next.machine ≡ spent_by s.count next.machine = ap (λ (k : ℕ). spent_by k next.machine) q.0 in
            omega (arith, used_after, used_is, done.sum, limited_after, q.1, l, h.limited)

        running_after : (j : ℕ) → j < s.count
            → Running w (store_at (set all i x') j)
            (memory (part z.vertices j mem'.vertices) (part z.edges j mem'.edges) (part z.journal j mem'.journal) (get_or mem'.marks j [])) closed types (next.machine (suc j))
        running_after j b = elim (same? j i) [
          | same f g ↦
              subst (λ (k : ℕ). Running w (store_at (set all i x') k)
              (memory (part z.vertices k mem'.vertices) (part z.edges k mem'.edges) (part z.journal k mem'.journal) (get_or mem'.marks k [])) closed types (next.machine (suc k))) g
              (moved (sym (get_or-set_same all i x' _ (omega (arith, in_eight, h.many))))
              (sym (part_same z.vertices i v' mem.vertices vl vertices_end)) (sym (part_same z.edges i e' mem.edges el edges_end))
              (sym (part_same z.journal i t' mem.journal tl journal_end))
              (sym (get_or-set_same mem.marks i p' [] (omega (arith, in_eight, h.marks_many)))) (sym done.machine) a)
          | differ f g ↦
              moved (sym (get_or-set_other all i j x' _ f))
              (sym (part_other z.vertices i v' mem.vertices vl vertices_end j f (omega (arith, before_part z.vertices j s.count b, h.vertices_fit))))
              (sym (part_other z.edges i e' mem.edges el edges_end j f (omega (arith, before_part z.edges j s.count b, h.edges_fit))))
              (sym (part_other z.journal i t' mem.journal tl journal_end j f (omega (arith, before_part z.journal j s.count b, h.journal_fits))))
              (sym (get_or-set_other mem.marks i j p' [] f)) (sym (done.others j f)) (h.each j b)
        ]

        pub serving_after : Serving w z (set all i x') mem' closed types next
        serving_after =
            let q = limits_last w s xs in
            record {
              many = length-set all i x' ∙ h.many;
              some = omega (arith, h.some, q.0);
              few = omega (arith, h.few, q.0);
              marks_many = length-set mem.marks i p' ∙ h.marks_many;
              vertices_fit = omega (arith, ap (λ (k : ℕ). k * z.vertices) q.0, h.vertices_fit, length_with z.vertices i v' mem.vertices vl vertices_end);
              edges_fit = omega (arith, ap (λ (k : ℕ). k * z.edges) q.0, h.edges_fit, length_with z.edges i e' mem.edges el edges_end);
              journal_fits = omega (arith, ap (λ (k : ℕ). k * z.journal) q.0, h.journal_fits, length_with z.journal i t' mem.journal tl journal_end);
              short = omega (arith, h.short, q.1);
              limited = limited_after;
              each = λ j b. running_after j (omega (arith, b, q.0));
            }

  -- the first store is there, so a part of the journal is short
  pub part_short : z.journal < 2 ^ 32
  part_short = let o : 0 < s.count = omega (arith, h.some) in omega (arith, (h.each 0 o).represents.journal.rows.short, part_length z.journal 0 mem.journal (journal_end 0 o))
