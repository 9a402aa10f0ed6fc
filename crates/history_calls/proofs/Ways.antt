-- The calls that lead to another place: the way read off the position and the marks is the machine's.
use Rattle.std.specs.Prelude.{◌==◌}
use Prim.Native.Nat.{ℕ, suc, ◌+◌, ◌≤◌}
use mathlib.Core.Path.{◌≡◌, refl, sym, ap, subst, ◌∙◌}
use mathlib.Core.Logic.{◌≢◌}
use mathlib.Core.Bool.{Bool, true, false}
use mathlib.Core.List.{List}
use native.Mathlib.Omega.{arith}
use borrow.Author.Tests.{eqb-false, ltb-true, ltb-false}
use lib.Dec.{ltb}
use Rattle.lists.specs.Choice.{◌⇒◌else◌}
use Rattle.graph.specs.WellFormed.{Bounds}
use Rattle.history.specs.Machine.{Machine, placed, place_or, distance, name}
use Rattle.commands.specs.declared.HistoryCall.{HistoryCall}
use Rattle.commands.specs.declared.HistoryCall.TheVariants.{SetMark, DropMark, Undo, Redo, GoTo, Commit, Between, Standing, Free, NameMark, GoToName, SetBench, MadeBy}
use Rattle.machine.specs.Rules.{goes, effected, Deed, deed, going_to, history_deed, history_rule}
use Rattle.marks.specs.Marked.{place_in}
use Rattle.marks.specs.Named.{holder_in}
use Rattle.marks.specs.Codes.{standing_code}
use Rattle.marks.proofs.NameLaws.{holder_same}
use Rattle.marks.proofs.CodeLaws.{holder_stands}
use Rattle.graph_tables.specs.Tables.{state}
use Rattle.timeline.specs.JournalRows.{shifted, Reach}
use Rattle.timeline.specs.Steps.{Journal}
use Rattle.history_calls.specs.declared.Store.{Store}
use Rattle.history_calls.specs.Outcomes.{Way}
use Rattle.history_calls.specs.Memory.{Memory, memory}
use Rattle.history_calls.specs.Represents.{Represents, Follows}
use Rattle.history_calls.specs.Outcomes.{done, Leads, way_of}
use Rattle.history_calls.proofs.Calls.{code_is, mark_place, mark_inside, moved_to_lem}
use Rattle.history_calls.proofs.Following.{refused, accepted}

-- ---- which calls they are

pub leads_by : (c : HistoryCall) → ((a : ℕ) → c ≡ SetMark a → ⊥) → ((a : ℕ) → c ≡ DropMark a → ⊥) → (c ≡ Commit → ⊥)
    → ((a d : ℕ) → c ≡ Between a d → ⊥) → (c ≡ Standing → ⊥) → (c ≡ Free → ⊥)
    → ((a d e : ℕ) → c ≡ NameMark a d e → ⊥) → ((a : ℕ) → c ≡ SetBench a → ⊥)
    → ((a d e : ℕ) → c ≡ MadeBy a d e → ⊥) → Leads c
leads_by (SetMark a) n1 n2 n3 n4 n5 n6 n7 n8 n9 = n1 a refl
leads_by (DropMark a) n1 n2 n3 n4 n5 n6 n7 n8 n9 = n2 a refl
leads_by Undo n1 n2 n3 n4 n5 n6 n7 n8 n9 = tt
leads_by Redo n1 n2 n3 n4 n5 n6 n7 n8 n9 = tt
leads_by (GoTo a) n1 n2 n3 n4 n5 n6 n7 n8 n9 = tt
leads_by Commit n1 n2 n3 n4 n5 n6 n7 n8 n9 = n3 refl
leads_by (Between a d) n1 n2 n3 n4 n5 n6 n7 n8 n9 = n4 a d refl
leads_by Standing n1 n2 n3 n4 n5 n6 n7 n8 n9 = n5 refl
leads_by Free n1 n2 n3 n4 n5 n6 n7 n8 n9 = n6 refl
leads_by (NameMark a d e) n1 n2 n3 n4 n5 n6 n7 n8 n9 = n7 a d e refl
leads_by (GoToName a d) n1 n2 n3 n4 n5 n6 n7 n8 n9 = tt
leads_by (SetBench a) n1 n2 n3 n4 n5 n6 n7 n8 n9 = n8 a refl
leads_by (MadeBy a d e) n1 n2 n3 n4 n5 n6 n7 n8 n9 = n9 a d e refl

-- ---- numbers

not_end : (p e : ℕ) → ◌≡◌ {A = ℕ} ((p == e) ⇒ 14 else 0) 0 → p ≢ e
not_end p e z = go (p == e) refl z
  where
    go : (t : Bool) → (p == e) ≡ t → ◌≡◌ {A = ℕ} (t ⇒ 14 else 0) 0 → p ≢ e
    go true f z = absurd (omega arith)
    go false f z = eqb-false p e f

found : (a : ℕ) → ◌≡◌ {A = ℕ} ((a == 0) ⇒ 19 else 0) 0 → a ≢ 0
found a z = go (a == 0) refl z
  where
    go : (t : Bool) → (a == 0) ≡ t → ◌≡◌ {A = ℕ} (t ⇒ 19 else 0) 0 → a ≢ 0
    go true f z = absurd (omega arith)
    go false f z = eqb-false a 0 f

-- q from p, as the direction and the distance
module _ (p q : ℕ) where
  distance_reach : (n : ℕ) → p ≤ n → q ≤ n → Reach (ltb q p) (distance p q) p n
  distance_reach n i j = go (ltb q p) refl
    where
      go : (t : Bool) → ltb q p ≡ t → Reach t (distance p q) p n
      go true f = omega (arith, ltb-true q p f)
      go false f = omega (arith, ltb-false q p f)

  distance_shifts : q ≡ shifted (ltb q p) (distance p q) p
  distance_shifts = go (ltb q p) refl
    where
      go : (t : Bool) → ltb q p ≡ t → q ≡ shifted t (distance p q) p
      go true f = omega (arith, ltb-true q p f)
      go false f = omega (arith, ltb-false q p f)

-- ---- the way

module _ (b : Bounds) (x : Store) (mem : Memory) (m : Machine) (h : Represents b x mem m) (capacity : ℕ) where
  record Led (c : HistoryCall) (w : Way) : Type 0 where
    coded : w.code ≡ (history_rule capacity c).code m
    reach : w.code ≡ 0 → Reach w.back w.steps x.current.position.place x.current.position.steps
    deeds : w.code ≡ 0 → history_deed capacity c m ≡ deed w.steps (goes (shifted w.back w.steps m.line.place))

  inside : x.current.position.place ≤ x.current.position.steps
  inside = omega (arith, h.journal.place, h.journal.steps, h.journal.inside)

  -- to a mark that stands
  module _ (a : ℕ) (z : standing_code x.set.bits a ≡ 0) where
    abbrev p : ℕ
    p = x.current.position.place

    abbrev q : ℕ
    q = place_in mem.marks a

    to_reach : Reach (ltb q p) (distance p q) p x.current.position.steps
    to_reach = distance_reach p q x.current.position.steps inside (mark_inside b x mem m h a z)

    to_deeds : going_to a m ≡ deed (distance p q) (goes (shifted (ltb q p) (distance p q) m.line.place))
    to_deeds =
        let e = h.journal.place in
        let f : place_or m.line.place (m.marks a) ≡ q = sym (mark_place b x mem m h a z m.line.place) in
        let g : q ≡ shifted (ltb q p) (distance p q) m.line.place = distance_shifts p q ∙ ap (shifted (ltb q p) (distance p q)) e in
        λ i. deed (distance (sym e i) (f i)) (goes ((f ∙ g) i))

  led : (c : HistoryCall) → Leads c → Led c (way_of x mem.marks c)
  led (SetMark a) l = absurd l
  led (DropMark a) l = absurd l
  led Undo l = record {
    coded = ap (λ (p : ℕ). (p == 0) ⇒ 14 else 0) h.journal.place;
    reach = λ z. let n = not_end x.current.position.place 0 z in omega (arith, n);
    deeds = λ z. refl;
  }
  led Redo l =
      let p = h.journal.place in
      let e = h.journal.steps in
      let s : suc m.line.place ≡ m.line.place + 1 = omega arith in
      record {
        coded = λ i. (p i == e i) ⇒ 14 else 0;
        reach = λ z. let n = not_end x.current.position.place x.current.position.steps z in omega (arith, n, inside);
        deeds = λ z. ap (λ (k : ℕ). deed 1 (goes k)) s;
      }
  led (GoTo a) l = record {
    coded = code_is b x mem m h a;
    reach = λ z. to_reach a z;
    deeds = λ z. to_deeds a z;
  }
  led Commit l = absurd l
  led (Between a d) l = absurd l
  led Standing l = absurd l
  led Free l = absurd l
  led (NameMark a d e) l = absurd l
  led (SetBench a) l = absurd l
  led (MadeBy a d e) l = absurd l
  led (GoToName a d) l =
      let k = holder_in x.set.bits mem.marks 0 (name a d) in
      let e = holder_same m x.set.bits mem.marks 0 (name a d) h.marks h.names in
      record {
        coded = ap (λ (j : ℕ). (j == 0) ⇒ 19 else 0) e;
        reach = λ z. to_reach k (holder_stands x.set.bits mem.marks (name a d) (found k z));
        deeds = λ z. ap (λ (j : ℕ). going_to j m) (sym e) ∙ to_deeds k (holder_stands x.set.bits mem.marks (name a d) (found k z));
      }

  module _ (c : HistoryCall) (l : Leads c) (w : Way) (e : w ≡ way_of x mem.marks c) where
    this : Led c w
    this = subst (Led c) (sym e) (led c l)

    pub way_refused : w.code ≢ 0 → Follows (history_rule capacity c) m b (done x w.code 0) mem
    way_refused n = refused (history_rule capacity c) m b x mem w.code this.coded n h

    pub way_reach : w.code ≡ 0 → Reach w.back w.steps x.current.position.place x.current.position.steps
    way_reach z = this.reach z

    pub way_done : w.code ≡ 0 → (x' : Store) (vertices' edges' : List ℕ) → x'.set ≡ x.set → x'.bench ≡ x.bench
        → Journal b x'.current.position (state x'.current.head vertices' edges') mem.journal (placed (shifted w.back w.steps m.line.place) m.line)
        → Follows (history_rule capacity c) m b (done x' 0 w.steps) (memory vertices' edges' mem.journal mem.marks)
    way_done z x' vertices' edges' s f j =
        let d = this.deeds z in
        accepted (history_rule capacity c) m b x' (memory vertices' edges' mem.journal mem.marks) w.steps (sym this.coded ∙ z) (sym (ap (λ (y : Deed). y.number) d))
        (subst (λ (y : Deed). Represents b x' (memory vertices' edges' mem.journal mem.marks) (effected y.effect m)) (sym d)
        (moved_to_lem b x mem m h x' vertices' edges' _ s f j))
