-- What each call makes of the relation with the machine.
use Rattle.std.specs.Prelude.{◌==◌}
use Prim.Native.Nat.{ℕ, ◌≤◌}
use mathlib.Core.Path.{◌≡◌, refl, sym, ap, subst, ◌∙◌}
use mathlib.Core.Logic.{◌≢◌}
use mathlib.Core.Bool.{Bool, true, false, not, ◌||◌}
use mathlib.Core.List.{List}
use native.Mathlib.Omega.{arith}
use borrow.Author.Tests.{eq-eqb, ne_eqb, eqb-true}
use lib.ListN.{length}
use Rattle.lists.specs.Choice.{◌⇒◌else◌}
use Rattle.lists.proofs.Bools.{ft}
use Rattle.lists.proofs.Picks.{same, differ, same?}
use Rattle.graph.specs.Graph.{Graph}
use Rattle.graph.specs.WellFormed.{Bounds}
use Rattle.history.specs.Machine.{MarkPlace, gone, at, Machine, begun, placed, free_of, distance, no_marks, stands, place_or, marked, present, moved_to, Name, name, no_name, named, fresh_at, Step}
use Rattle.history.specs.Machine.{steps_between, made_by}
use Rattle.machine.specs.HistoryCodes.{no_bench}
use Rattle.machine.specs.Rules.{effected, history_rule, first_code}
use Rattle.commands.specs.declared.HistoryCall.{HistoryCall}
use Rattle.commands.specs.declared.HistoryCall.TheVariants.{SetMark, DropMark, Commit, Between, Standing as StandingMarks, Free, NameMark, SetBench, MadeBy}
use Rattle.marks.specs.declared.MarkSet.{MarkSet}
use Rattle.marks.specs.Marked.{mark_words, place_in, with_mark, without_mark, Marked}
use Rattle.marks.specs.Named.{name_set, mark_put, Named}
use Rattle.marks.proofs.NameLaws.{named_marked, name_put, set_named, drop_named}
use Rattle.marks.proofs.MarkLaws.{marked_same, marked_other, in_marks, in_set_lem, place_is, with_is, without_is, mark_put_lem, mark_gone, none_marked, count_is}
use Rattle.graph_tables.specs.Tables.{state}
use Rattle.timeline.specs.Steps.{rows_to, Behind, Journal}
use Rattle.timeline.proofs.Steps.{journal_commit, behind_at}
use Rattle.history_calls.specs.declared.Store.{Store}
use Rattle.history_calls.specs.declared.Called.{Called}
use Rattle.history_calls.specs.Memory.{Memory, memory, tables_of}
use Rattle.history_calls.specs.Represents.{Represents, Follows}
use Rattle.marks.specs.Codes.{no_mark, standing_code, new_code, name_code}
use Rattle.history_calls.specs.Outcomes.{pair_code, done, mark_set, places_set, mark_dropped, committed, between_marks, marks_standing, changes_free, mark_named, names_set, bench_code}
use Rattle.history_calls.specs.Outcomes.{bench_set, made_code}
use Rattle.marks.proofs.CodeLaws.{Mark, standing_none, new_none, standing_is, new_is, both_is, both_none, name_codes, name_none}
use Rattle.history_calls.proofs.Following.{refused, accepted, follows_by}
use Rattle.history_calls.proofs.OutcomeLaws.{with_kept, without_kept}

-- ---- no step and no mark

none_at : (k q : ℕ) → no_marks k ≡ at q → ⊥
none_at k q e = let z : ◌≡◌ {A = ℕ} 0 1 = cc in omega arith

pub begun_represents : (b : Bounds) (x : Store) (mem : Memory) (g : Graph) → Journal b x.current.position (tables_of x mem) mem.journal (begun g) → x.set.bits ≡ 0 → length mem.marks ≡ mark_words
    → Represents b x mem (fresh_at x.bench g)
begun_represents b x mem g j e r = record { journal = j; marks = rw e (none_marked mem.marks r); inside = λ k q e. absurd (none_at k q e); names = λ k e. ft e; bench = refl }

first_zero : (r s : ℕ) → first_code r s ≡ 0 → r ≡ 0
first_zero r s e = go (r == 0) refl e
  where
    go : (t : Bool) → (r == 0) ≡ t → (t ⇒ s else r) ≡ 0 → r ≡ 0
    go true f i = eqb-true r 0 f
    go false f i = i

-- the rows behind a place that was read
pub behind_by_place : (t : List ℕ) (g : Graph) (ss : List Step) (p q u : ℕ) → p ≡ q → Behind t g ss q u → Behind t g ss p u
behind_by_place t g ss p q u e k = subst (λ (i : ℕ). Behind t g ss i u) (sym e) k

-- ---- a mark that is set or dropped

set_inside : (ms : ℕ → MarkPlace) (a p n : ℕ) → p ≤ n → ((k q : ℕ) → ms k ≡ at q → q ≤ n) → (k q : ℕ) → marked a (at p) ms k ≡ at q → q ≤ n
set_inside ms a p n h f k q e = elim (same? k a) [
  | same u v ↦
      let w : at p ≡ at q = sym (marked_same a (at p) ms) ∙ ap (λ (j : ℕ). marked a (at p) ms j) v ∙ e in
      let z : p ≡ q = cc in
      omega arith
  | differ u v ↦ f k q (sym (marked_other a k (at p) ms u) ∙ e)
]

drop_inside : (ms : ℕ → MarkPlace) (a n : ℕ) → ((k q : ℕ) → ms k ≡ at q → q ≤ n) → (k q : ℕ) → marked a gone ms k ≡ at q → q ≤ n
drop_inside ms a n f k q e = elim (same? k a) [
  | same u v ↦
      let w : gone ≡ at q = sym (marked_same a gone ms) ∙ ap (λ (j : ℕ). marked a gone ms j) v ∙ e in
      let z : ◌≡◌ {A = ℕ} 0 1 = cc in
      absurd (omega arith)
  | differ u v ↦ f k q (sym (marked_other a k gone ms u) ∙ e)
]

module _ (b : Bounds) (x : Store) (mem : Memory) (m : Machine) (h : Represents b x mem m) where
  pub mark_steps : (k q : ℕ) → m.marks k ≡ at q → q ≤ x.current.position.steps
  mark_steps k q y = omega (arith, h.inside k q y, h.journal.steps)

  -- ---- history calls

  abbrev ByRule : ℕ → HistoryCall → Called → Memory → Type 0
  ByRule capacity c d mem' = Follows (history_rule capacity c) m b d mem'

  kept : (capacity : ℕ) (c : HistoryCall) (code : ℕ) → code ≡ (history_rule capacity c).code m → code ≢ 0 → ByRule capacity c (done x code 0) mem
  kept capacity c code e n = refused (history_rule capacity c) m b x mem code e n h

  told : (capacity : ℕ) (c : HistoryCall) (number : ℕ) → (history_rule capacity c).code m ≡ 0 → number ≡ ((history_rule capacity c).deed m).number
      → effected ((history_rule capacity c).deed m).effect m ≡ m → ByRule capacity c (done x 0 number) mem
  told capacity c number e f i = accepted (history_rule capacity c) m b x mem number e f (rw i h)

  pub moved_to_lem : (x' : Store) (vertices' edges' : List ℕ) (p : ℕ) → x'.set ≡ x.set → x'.bench ≡ x.bench → Journal b x'.current.position (state x'.current.head vertices' edges')
      mem.journal (placed p m.line)
      → Represents b x' (memory vertices' edges' mem.journal mem.marks) (moved_to p m)
  moved_to_lem x' vertices' edges' p e f j = record {
    journal = j;
    marks = subst (λ (s : MarkSet). Marked m.marks s.bits mem.marks) (sym e) h.marks;
    inside = h.inside;
    names = h.names;
    bench = f ∙ h.bench;
  }

  -- 18 and 21: a mark that must stand

  module _ (a : ℕ) where
    pub code_is : standing_code x.set.bits a ≡ (no_mark a ⇒ 11 else not (stands (m.marks a)) ⇒ 13 else 0)
    code_is = standing_is m x.set.bits mem.marks h.marks a

    module _ (z : standing_code x.set.bits a ≡ 0) where
      mark : Mark x.set.bits a true
      mark = standing_none x.set.bits a _ refl z

      mark_stands : stands (m.marks a) ≡ true
      mark_stands = sym (in_set_lem m.marks x.set.bits mem.marks h.marks a mark.low mark.high) ∙ mark.stands

      pub mark_place : (other : ℕ) → place_in mem.marks a ≡ place_or other (m.marks a)
      mark_place other = place_is m.marks x.set.bits mem.marks h.marks a mark.low mark.high other mark_stands

      pub mark_inside : place_in mem.marks a ≤ x.current.position.steps
      mark_inside = go (m.marks a) refl mark_stands
        where
          go : (s : MarkPlace) → m.marks a ≡ s → stands s ≡ true → place_in mem.marks a ≤ x.current.position.steps
          go gone f t = absurd (let z : ◌≡◌ {A = ℕ} 0 1 = cc in omega arith)
          go (at q) f t = omega (arith, mark_place 0 ∙ ap (place_or 0) f, mark_steps a q f)

    pub drop_follows : (capacity : ℕ) → ByRule capacity (DropMark a) (mark_dropped x a) mem
    drop_follows capacity = elim (same? (standing_code x.set.bits a) 0) [
      | same z y ↦
          let k = mark z in
          let s = without_is x.set.bits a _ k.stands refl in
          follows_by _ m b mem (λ i. done (record { current = x.current; set = record { bits = without_mark a x.set.bits }; bench = x.bench }) (z i) 0)
          (accepted (history_rule capacity (DropMark a)) m b _ mem 0 (sym code_is ∙ z) refl (record {
            journal = h.journal;
            marks = subst (λ (n : ℕ). Marked (marked a gone m.marks) n mem.marks) s (mark_gone m.marks x.set.bits mem.marks h.marks a k.low k.high _ (mark_stands z) refl);
            inside = drop_inside m.marks a (length m.line.steps) h.inside;
            names = drop_named m.marks m.names mem.marks a h.names;
            bench = h.bench;
          }))
      | differ n y ↦
          follows_by _ m b mem (λ i. done (record { current = x.current; set = record { bits = without_kept x.set.bits a n i }; bench = x.bench }) (standing_code x.set.bits a) 0)
          (kept capacity (DropMark a) _ code_is n)
    ]

    -- 17: a mark that must not stand

    set_code : new_code x.set.bits a ≡ (no_mark a ⇒ 11 else stands (m.marks a) ⇒ 12 else 0)
    set_code = new_is m x.set.bits mem.marks h.marks a

    abbrev marks_after : Memory
    marks_after = memory mem.vertices mem.edges mem.journal (places_set x a mem.marks)

    pub set_follows : (capacity : ℕ) → ByRule capacity (SetMark a) (mark_set x a) marks_after
    set_follows capacity = elim (same? (new_code x.set.bits a) 0) [
      | same z y ↦
          let k = new_none x.set.bits a _ refl z in
          let w = in_marks a k.low k.high in
          let p = x.current.position.place in
          let s = with_is x.set.bits a _ w refl in
          let stood = sym (in_set_lem m.marks x.set.bits mem.marks h.marks a k.low k.high) ∙ k.stands in
          let put : mark_put a p mem.marks ≡ places_set x a mem.marks = rw (eq-eqb (new_code x.set.bits a) 0 z) in
          let d = subst (λ (n : ℕ). Marked (marked a (at p) m.marks) n (mark_put a p mem.marks)) s
          (named_marked _ _ _ a no_name k.low (mark_put_lem m.marks x.set.bits mem.marks h.marks a k.low k.high p _ stood refl)) in
          let e = subst (λ (l : List ℕ). Marked (marked a (at p) m.marks) (with_mark a x.set.bits) l) put d in
          follows_by _ m b marks_after (λ i. done (record { current = x.current; set = record { bits = with_mark a x.set.bits }; bench = x.bench }) (z i) 0)
          (accepted (history_rule capacity (SetMark a)) m b _ marks_after 0 (sym set_code ∙ z) refl (record {
            journal = h.journal;
            marks = subst (λ (i : ℕ). Marked (marked a (at i) m.marks) (with_mark a x.set.bits) (places_set x a mem.marks)) h.journal.place e;
            inside = set_inside m.marks a m.line.place (length m.line.steps) h.journal.inside h.inside;
            names = subst (λ (i : ℕ). Named (marked a (at i) m.marks) (named a no_name m.names) (places_set x a mem.marks)) h.journal.place
                (subst (λ (l : List ℕ). Named (marked a (at p) m.marks) (named a no_name m.names) l) put
                (set_named m.marks m.names x.set.bits mem.marks a p h.marks k.low k.high h.names));
            bench = h.bench;
          }))
      | differ n y ↦
          let stay : mem.marks ≡ places_set x a mem.marks = rw (ne_eqb (new_code x.set.bits a) 0 n) in
          follows_by _ m b marks_after (λ i. done (record { current = x.current; set = record { bits = with_kept x.set.bits a n i }; bench = x.bench }) (new_code x.set.bits a) 0)
          (subst (λ (l : List ℕ). ByRule capacity (SetMark a) (done x (new_code x.set.bits a) 0) (memory mem.vertices mem.edges mem.journal l)) stay (kept capacity (SetMark a) _ set_code n))
    ]

  -- 56: a mark that must stand, and a name that is free

  module _ (capacity a b' c : ℕ) where
    abbrev n : Name
    n = name b' c

    name_is : name_code x.set.bits mem.marks a n ≡ (history_rule capacity (NameMark a b' c)).code m
    name_is = name_codes m x.set.bits mem.marks h.marks h.names a n

    abbrev names_after : Memory
    names_after = memory mem.vertices mem.edges mem.journal (names_set x a n mem.marks)

    pub name_follows : ByRule capacity (NameMark a b' c) (mark_named x mem.marks a n) names_after
    name_follows = elim (same? (name_code x.set.bits mem.marks a n) 0) [
      | same z y ↦
          let k = name_none x.set.bits mem.marks a n z in
          let put : name_set a n mem.marks ≡ names_set x a n mem.marks = sym (ap (λ (t : Bool). t ⇒ name_set a n mem.marks else mem.marks) (eq-eqb (name_code x.set.bits mem.marks a n) 0 z)) in
          follows_by _ m b names_after (λ i. done x (z i) 0)
          (accepted (history_rule capacity (NameMark a b' c)) m b x names_after 0 (sym name_is ∙ z) refl (record {
            journal = h.journal;
            marks = subst (λ (l : List ℕ). Marked m.marks x.set.bits l) put (named_marked m.marks x.set.bits mem.marks a n k.low h.marks);
            inside = h.inside;
            names = subst (λ (l : List ℕ). Named m.marks (named a n m.names) l) put (name_put m.marks m.names x.set.bits mem.marks a n h.marks k.low k.high h.names);
            bench = h.bench;
          }))
      | differ z y ↦
          let stay : mem.marks ≡ names_set x a n mem.marks = sym (ap (λ (t : Bool). t ⇒ name_set a n mem.marks else mem.marks) (ne_eqb (name_code x.set.bits mem.marks a n) 0 z)) in
          subst (λ (l : List ℕ). ByRule capacity (NameMark a b' c) (done x (name_code x.set.bits mem.marks a n) 0) (memory mem.vertices mem.edges mem.journal l)) stay
          (kept capacity (NameMark a b' c) _ name_is z)
    ]

  -- 22

  pub commit_follows : (capacity : ℕ) → ByRule capacity Commit (committed x) mem
  commit_follows capacity = accepted (history_rule capacity Commit) m b _ mem _ refl h.journal.place
      (subst (λ (k : ℕ). Represents b (committed x).store mem (fresh_at k (present m))) h.bench
      (begun_represents b (committed x).store mem (present m) (journal_commit b x.current.position _ (tables_of x mem) mem.journal m.line h.journal refl refl refl) refl
      h.marks.room))

  -- 49 and 50

  pub between_follows : (capacity a c : ℕ) → ByRule capacity (Between a c) (between_marks x mem.marks a c) mem
  between_follows capacity a c = elim (same? (pair_code x a c) 0) [
    | same z y ↦
        let s = both_none x.set.bits a c z in
        follows_by _ m b mem
        (λ i. record {
          store = x;
          answer =
              record { code = z i; number = ap (λ (t : Bool). t ⇒ distance (place_in mem.marks a) (place_in mem.marks c) else 0) (eq-eqb (pair_code x a c) 0 z) i };
        })
        (told capacity (Between a c) _ (sym code ∙ z)
        (ap (λ (k : ℕ). distance k (place_in mem.marks c)) (mark_place a s.0 0) ∙ ap (distance (place_or 0 (m.marks a))) (mark_place c s.1 0)) refl)
    | differ n y ↦
        follows_by _ m b mem
        (λ i. record {
          store = x;
          answer =
              record { code = pair_code x a c; number = ap (λ (t : Bool). t ⇒ distance (place_in mem.marks a) (place_in mem.marks c) else 0) (ne_eqb (pair_code x a c) 0 n) i };
        })
        (kept capacity (Between a c) _ code n)
  ]
    where
      code : pair_code x a c ≡ (history_rule capacity (Between a c)).code m
      code = both_is m x.set.bits mem.marks h.marks a c

  pub count_follows : (capacity : ℕ) → ByRule capacity StandingMarks (marks_standing x) mem
  count_follows capacity = told capacity StandingMarks _ refl (count_is m.marks x.set.bits mem.marks h.marks) refl

  pub free_follows : (capacity free : ℕ) → free ≡ free_of capacity m.line → ByRule capacity Free (changes_free x free) mem
  free_follows capacity free e = told capacity Free _ refl e refl

  -- 58

  pub bench_follows : (capacity k : ℕ) → ByRule capacity (SetBench k) (bench_set x k) mem
  bench_follows capacity k = elim (same? (bench_code k) 0) [
    | same z y ↦
        let e : ((bench_code k == 0) ⇒ k else x.bench) ≡ k = ap (λ (t : Bool). t ⇒ k else x.bench) (eq-eqb (bench_code k) 0 z) in
        follows_by _ m b mem (λ i. done (record { current = x.current; set = x.set; bench = e i }) (z i) 0)
        (accepted (history_rule capacity (SetBench k)) m b _ mem 0 z refl (record {
          journal = h.journal;
          marks = h.marks;
          inside = h.inside;
          names = h.names;
          bench = refl;
        }))
    | differ n y ↦
        let e : ((bench_code k == 0) ⇒ k else x.bench) ≡ x.bench = ap (λ (t : Bool). t ⇒ k else x.bench) (ne_eqb (bench_code k) 0 n) in
        follows_by _ m b mem (λ i. done (record { current = x.current; set = x.set; bench = e i }) (bench_code k) 0)
        (kept capacity (SetBench k) _ refl n)
  ]

  -- 59

  module _ (capacity a c k : ℕ) where
    made_is : made_code x.set.bits a c k ≡ (history_rule capacity (MadeBy a c k)).code m
    made_is = ap (λ (r : ℕ). first_code r (bench_code k)) (both_is m x.set.bits mem.marks h.marks a c) ∙ go (no_mark a || no_mark c) (not (stands (m.marks a)) || not (stands (m.marks c)))
        (no_bench k)
      where
        go : (s t u : Bool) → ◌≡◌ {A = ℕ} (first_code (s ⇒ 11 else t ⇒ 13 else 0) (u ⇒ 20 else 0)) (s ⇒ 11 else t ⇒ 13 else u ⇒ 20 else 0)
        go true t u = refl
        go false true u = refl
        go false false u = refl

    pub made_kept : (code : ℕ) → code ≡ made_code x.set.bits a c k → code ≢ 0 → ByRule capacity (MadeBy a c k) (done x code 0) mem
    made_kept code e n = kept capacity (MadeBy a c k) code (e ∙ made_is) n

    -- of an accepted one, the places lie in the steps
    module _ (code : ℕ) (e : code ≡ made_code x.set.bits a c k) (z : code ≡ 0) where
      both : (standing_code x.set.bits a ≡ 0) × (standing_code x.set.bits c ≡ 0)
      both = both_none x.set.bits a c (first_zero _ _ (sym e ∙ z))

      place_behind : (d : ℕ) → standing_code x.set.bits d ≡ 0 → Behind mem.journal m.line.start m.line.steps (place_in mem.marks d) (rows_to 0 (place_in mem.marks d) m.line.steps)
      place_behind d y = behind_at b x.current.position (tables_of x mem) mem.journal m.line h.journal (place_in mem.marks d) (omega (arith, mark_inside d y, h.journal.steps))

      pub made_behind : Behind mem.journal m.line.start m.line.steps (place_in mem.marks a) (rows_to 0 (place_in mem.marks a) m.line.steps)
          × Behind mem.journal m.line.start m.line.steps (place_in mem.marks c) (rows_to 0 (place_in mem.marks c) m.line.steps)
      made_behind = (place_behind a both.0, place_behind c both.1)

      pub made_follows : (number : ℕ) → number ≡ made_by k (steps_between (place_in mem.marks a) (place_in mem.marks c) m.line.steps) → ByRule capacity (MadeBy a c k) (done x 0 number) mem
      made_follows number f =
          told capacity (MadeBy a c k) number (sym made_is ∙ sym e ∙ z)
          (f ∙ (λ i. made_by k (steps_between (mark_place a both.0 0 i) (mark_place c both.1 0 i) m.line.steps))) refl
