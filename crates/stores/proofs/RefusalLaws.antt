-- The code of a list of several stores and the number beside it, by which test stops it; and what a list that is not
-- refused has passed.
use Rattle.std.specs.Prelude.{◌==◌}
use Prim.Native.Nat.{ℕ, suc, ◌*◌, ◌/◌, ◌%◌, ◌≤◌}
use mathlib.Core.Path.{◌≡◌, refl, sym, ap, ◌∙◌}
use mathlib.Core.Bool.{Bool, true, false, not, ◌&&◌}
use mathlib.Core.List.{List}
use native.Mathlib.Omega.{arith}
use lib.Dec.{ltb}
use lib.ListN.{length}
use borrow.Author.Tests.{not-false, lt-ltb, le-ltb, ltb-false}
use Rattle.lists.specs.Choice.{◌⇒◌else◌, within}
use Rattle.lists.specs.Lists.{all}
use Rattle.lists.proofs.Bools.{and_true, within_range}
use Rattle.type_rows.specs.Rows.{row_fits, good_rows}
use Rattle.graph.specs.WellFormed.{Bounds}
use Rattle.image.specs.Image.{image_length}
use Rattle.image_check.specs.Checks.{bounds, code_of}
use Rattle.machine.specs.Calls.{Parameters, bounds_in}
use Rattle.machine.specs.Run.{Limits, number_beside}
use Rattle.machine.specs.StoreRun.{LentStores, parameters_in, starts_code, starts_offset, stores_refusal, stores_number}
use Rattle.machine.proofs.StoreStarts.{starts_verdict}
use Rattle.engine.proofs.RefusalLaws.{Beside, stopped, gone_on}
use Rattle.stores.specs.Refusals.{in_limits_in, lengths_in, LendsIn}
use Rattle.std.specs.Prelude.{Ok, Err}
use Rattle.image_check.specs.declared.BadImage.TheVariants.{Header, Record, Incidence}
use Rattle.image_check.specs.Checks.{Verdict}

-- ---- three tests first

record Few (stores v e t : ℕ) : Type 0 where
  pub some_stores : 1 ≤ stores
  pub few_stores : stores ≤ 8
  pub some_vertices : 1 ≤ v
  pub few_vertices : v ≤ 1000
  pub some_edges : 1 ≤ e
  pub few_edges : e ≤ 4000
  pub some_changes : 1 ≤ t
  pub few_changes : t ≤ 20000

few_in : (stores v e t : ℕ) → in_limits_in stores v e t ≡ true → Few stores v e t
few_in stores v e t z =
    let a = and_true (within 1 8 stores && within 1 1000 v && within 1 4000 e) (within 1 20000 t) z in
    let b = and_true (within 1 8 stores && within 1 1000 v) (within 1 4000 e) a.0 in
    let c = and_true (within 1 8 stores) (within 1 1000 v) b.0 in
    let s = within_range 1 8 stores c.0 in
    let p = within_range 1 1000 v c.1 in
    let q = within_range 1 4000 e b.1 in
    let r = within_range 1 20000 t a.1 in
    record {
      some_stores = s.0;
      few_stores = s.1;
      some_vertices = p.0;
      few_vertices = p.1;
      some_edges = q.0;
      few_edges = q.1;
      some_changes = r.0;
      few_changes = r.1;
    }

-- the stores and capacities of a list that 103 does not refuse
pub capacities : (calls answers vertices edges journal stores : ℕ) → lengths_in calls answers vertices edges journal stores ≡ 0 →
    (1 ≤ stores) × (vertices / stores / 8 ≤ 1000) × (edges / stores / 12 ≤ 4000)
capacities calls answers vertices edges journal stores e =
    let z = (gone_on (not (calls % 6 == 0)) (ltb answers (2 * (calls / 6))) (not (in_limits_in stores (vertices / stores / 8) (edges / stores / 12) (journal / stores / 12))) 0 e).0 in
    let f = few_in stores (vertices / stores / 8) (edges / stores / 12) (journal / stores / 12) (not-false _ z) in
    (f.some_stores, f.few_vertices, f.few_edges)

-- ---- the starts' rows

abbrev start_rows : ℕ → ℕ → ℕ
start_rows c r = (c == 105) ⇒ 105 else (c == 108) ⇒ 108 else (c == 109) ⇒ 109 else r

bad_rows : (v : Verdict) (r : ℕ) → (code_of v ≡ 0 → ⊥) → code_of v ≡ start_rows (code_of v) r
bad_rows (Ok tt) r n = absurd (n refl)
bad_rows (Err Header) r n = refl
bad_rows (Err (Record at)) r n = refl
bad_rows (Err (Incidence at)) r n = refl

bad_starts : (b : Bounds) (k : ℕ) (ws : List ℕ) (r : ℕ) → (starts_code b k ws ≡ 0 → ⊥) → starts_code b k ws ≡ start_rows (starts_code b k ws) r
bad_starts b k ws r n =
    let v = starts_verdict b k ws in
    v.1 ∙ bad_rows v.0 r (λ e. n (v.1 ∙ e)) ∙ ap (λ (c : ℕ). start_rows c r) (sym v.1)

-- ---- the table

module _ (l : LentStores) where
  abbrev w : Parameters
  w = parameters_in l

  abbrev starts : ℕ
  starts = starts_code (bounds_in w) l.count l.lent.start

  abbrev room : ℕ
  room = ltb (length l.lent.end / l.count) (image_length w.vertices w.edges) ⇒ 106 else 0

  table_is : stores_refusal l ≡
      (not (length l.lent.calls % 6 == 0) ⇒ 101 else
      ltb (length l.lent.answers) (2 * (length l.lent.calls / 6)) ⇒ 102 else
      not (in_limits_in l.count w.vertices w.edges w.changes) ⇒ 103 else
      not (good_rows l.lent.rows) ⇒ 104 else
      start_rows starts room)
  unfolding stores_refusal
  table_is = refl

  abbrev Refuses : ℕ → ℕ → Type 0
  Refuses c n = (c ≡ stores_refusal l) × (n ≡ stores_number l)

  -- a code that goes with no offset
  alone : (c : ℕ) → c ≡ stores_refusal l → Beside c 0 → Refuses c 0
  unfolding stores_number
  alone c e b =
      let o = starts_offset (bounds_in w) 0 l.count l.lent.start in
      (e, b o ∙ ap (λ (k : ℕ). number_beside k o) e)

  module _ (start rows : List ℕ) (calls vertices edges journal answers image stores : ℕ) (h : LendsIn l start rows calls vertices edges journal answers image stores) where
    abbrev bs : Bounds
    bs = bounds (vertices / stores / 8) (edges / stores / 12) (length rows)

    lengths_are : lengths_in calls answers vertices edges journal stores
        ≡ lengths_in (length l.lent.calls) (length l.lent.answers) l.lent.vertex_table l.lent.edge_table l.lent.change_table l.count
    lengths_are =
        let f = h.lends in
        λ i. lengths_in (sym f.calls_are i) (sym f.answers_are i) (sym f.vertices_are i) (sym f.edges_are i) (sym f.journal_is i) (sym h.count_is i)

    starts_are : starts_code bs stores start ≡ starts
    starts_are =
        let f = h.lends in
        λ i. starts_code (bounds (sym f.vertices_are i / sym h.count_is i / 8) (sym f.edges_are i / sym h.count_is i / 12) (length (sym f.rows_are i))) (sym h.count_is i)
        (sym f.start_is i)

    offsets_are : starts_offset bs 0 stores start ≡ starts_offset (bounds_in w) 0 l.count l.lent.start
    offsets_are =
        let f = h.lends in
        λ i. starts_offset (bounds (sym f.vertices_are i / sym h.count_is i / 8) (sym f.edges_are i / sym h.count_is i / 12) (length (sym f.rows_are i))) 0
        (sym h.count_is i) (sym f.start_is i)

    room_is : ◌≡◌ {A = ℕ} room (ltb (image / stores) (image_length (vertices / stores / 8) (edges / stores / 12)) ⇒ 106 else 0)
    room_is =
        let f = h.lends in
        λ i. ltb (f.image_is i / h.count_is i) (image_length (f.vertices_are i / h.count_is i / 8) (f.edges_are i / h.count_is i / 12)) ⇒ 106 else 0

    pub lengths_refused : (c : ℕ) → c ≡ lengths_in calls answers vertices edges journal stores → (c ≡ 0 → ⊥) → Refuses c 0
    lengths_refused c e n =
        let r = stopped (not (length l.lent.calls % 6 == 0)) (ltb (length l.lent.answers) (2 * (length l.lent.calls / 6)))
        (not (in_limits_in l.count w.vertices w.edges w.changes)) c (not (good_rows l.lent.rows) ⇒ 104 else start_rows starts room) (e ∙ lengths_are) n in
        alone c (r.0 ∙ sym table_is) r.1

    module _ (e : lengths_in calls answers vertices edges journal stores ≡ 0) where
      others : stores_refusal l ≡ (not (good_rows l.lent.rows) ⇒ 104 else start_rows starts room)
      others =
          table_is
          ∙ (gone_on (not (length l.lent.calls % 6 == 0)) (ltb (length l.lent.answers) (2 * (length l.lent.calls / 6))) (not (in_limits_in l.count w.vertices w.edges w.changes))
          (not (good_rows l.lent.rows) ⇒ 104 else start_rows starts room) (sym lengths_are ∙ e)).1

      pub rows_refused : good_rows rows ≡ false → Refuses 104 0
      rows_refused f = alone 104 (sym (others ∙ ap (λ (t : Bool). not t ⇒ 104 else start_rows starts room) (ap good_rows h.lends.rows_are ∙ f))) (λ o. refl)

      module _ (g : good_rows rows ≡ true) where
        rest : stores_refusal l ≡ start_rows starts room
        rest = others ∙ ap (λ (t : Bool). not t ⇒ 104 else start_rows starts room) (ap good_rows h.lends.rows_are ∙ g)

        pub start_refused : (c n : ℕ) → c ≡ starts_code bs stores start → n ≡ number_beside (starts_code bs stores start) (starts_offset bs 0 stores start) → (c ≡ 0 → ⊥) → Refuses c n
        unfolding stores_number
        start_refused c n p q z =
            let k : starts ≡ start_rows starts room = bad_starts (bounds_in w) l.count l.lent.start room (λ e. z (p ∙ starts_are ∙ e)) in
            let r : c ≡ stores_refusal l = p ∙ starts_are ∙ k ∙ sym rest in
            (r, q ∙ (λ i. number_beside ((sym p ∙ r) i) (offsets_are i)))

        module _ (z : starts_code bs stores start ≡ 0) where
          last : stores_refusal l ≡ (ltb (image / stores) (image_length (vertices / stores / 8) (edges / stores / 12)) ⇒ 106 else 0)
          last = rest ∙ ap (λ (c : ℕ). start_rows c room) (sym starts_are ∙ z) ∙ room_is

          pub image_refused : suc (image / stores) ≤ image_length (vertices / stores / 8) (edges / stores / 12) → Refuses 106 0
          image_refused f = alone 106 (sym (last ∙ ap (λ (t : Bool). t ⇒ 106 else 0) (lt-ltb (image / stores) (image_length (vertices / stores / 8) (edges / stores / 12)) f))) (λ o. refl)

          pub none_refused : image_length (vertices / stores / 8) (edges / stores / 12) ≤ image / stores → Refuses 0 0
          none_refused f = alone 0 (sym (last ∙ ap (λ (t : Bool). t ⇒ 106 else 0) (le-ltb (image / stores) (image_length (vertices / stores / 8) (edges / stores / 12)) f))) (λ o. refl)

-- ---- what a list that is not refused has passed

chain_zero : (t : Bool) (n r : ℕ) → ◌≡◌ {A = ℕ} (t ⇒ suc n else r) 0 → (t ≡ false) × (r ≡ 0)
chain_zero true n r h = absurd (omega (arith, h))
chain_zero false n r h = (refl, h)

rows_zero : (v : Verdict) (r : ℕ) → start_rows (code_of v) r ≡ 0 → (code_of v ≡ 0) × (r ≡ 0)
rows_zero (Ok tt) r h = (refl, h)
rows_zero (Err Header) r h = absurd (omega (arith, h))
rows_zero (Err (Record at)) r h = absurd (omega (arith, h))
rows_zero (Err (Incidence at)) r h = absurd (omega (arith, h))

pub record PassedIn (l : LentStores) : Type 0 where
  pub some : 1 ≤ l.count
  pub few : l.count ≤ 8
  pub answers_room : 2 * (length l.lent.calls / 6) ≤ length l.lent.answers
  pub limits : Limits (parameters_in l)
  pub rows_good : good_rows l.lent.rows ≡ true
  pub starts_load : starts_code (bounds_in (parameters_in l)) l.count l.lent.start ≡ 0
  pub end_room : image_length (parameters_in l).vertices (parameters_in l).edges ≤ length l.lent.end / l.count

pub passed_in : (l : LentStores) → stores_refusal l ≡ 0 → PassedIn l
unfolding good_rows
passed_in l e =
    let w = parameters_in l in
    let s = starts l in
    let r1 = chain_zero (not (length l.lent.calls % 6 == 0)) 100 _ (sym (table_is l) ∙ e) in
    let r2 = chain_zero (ltb (length l.lent.answers) (2 * (length l.lent.calls / 6))) 101 _ r1.1 in
    let r3 = chain_zero (not (in_limits_in l.count w.vertices w.edges w.changes)) 102 _ r2.1 in
    let r4 = chain_zero (not (good_rows l.lent.rows)) 103 (start_rows s (room l)) r3.1 in
    let v = starts_verdict (bounds_in w) l.count l.lent.start in
    let r5 = rows_zero v.0 (room l) (ap (λ (c : ℕ). start_rows c (room l)) (sym v.1) ∙ r4.1) in
    let r6 = chain_zero (ltb (length l.lent.end / l.count) (image_length w.vertices w.edges)) 105 0 r5.1 in
    let f = few_in l.count w.vertices w.edges w.changes (not-false _ r3.0) in
    let c = and_true (within 1 64 (length l.lent.rows)) (all (row_fits (length l.lent.rows)) l.lent.rows) (not-false _ r4.0) in
    let t = within_range 1 64 (length l.lent.rows) c.0 in
    record {
      some = f.some_stores;
      few = f.few_stores;
      answers_room = ltb-false _ _ r2.0;
      limits = record {
        some_vertices = f.some_vertices;
        few_vertices = f.few_vertices;
        some_edges = f.some_edges;
        few_edges = f.few_edges;
        some_changes = f.some_changes;
        few_changes = f.few_changes;
        some_types = t.0;
        few_types = t.1;
      };
      rows_good = not-false _ r4.0;
      starts_load = v.1 ∙ r5.0;
      end_room = ltb-false _ _ r6.0;
    }
