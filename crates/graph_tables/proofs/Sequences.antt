-- Vseq and Eseq alike: elements with a number, linked through a table. One put in, taken out, moved.
use Rattle.std.proofs.Common.{◌≡◌, ℕ, ◌+◌, ◌%◌, ◌<◌, ◌≤◌, ◌≢◌, List, map, length, sym, refl, ◌∙◌, arith}
use Rattle.linked_lists.specs.declared.LinkLayout.{LinkLayout}
use Rattle.linked_lists.specs.declared.Ends.{Ends}
use Rattle.linked_lists.specs.Links.{ValidLayout, Inside, Held, table_unlink, ends_unlink, table_insert, ends_insert, CanUnlink, CanInsert, table_move, ends_move, CanMove}
use Rattle.lists.specs.Choice.{indicator}
use Rattle.lists.proofs.Picks.{is_yes, is_no}
use Rattle.lists.specs.Keyed.{count_by_key, insert_after_by, remove_by, update_by, find_by}
use Rattle.lists.proofs.KeyedLaws.{count_ins, count_rem, count_upd, find_upd, find_upd_other, find_ins, find_ins_other, find_rem_other, find_none}
use Rattle.graph.specs.Graph.{itself}
use Rattle.graph.specs.Edits.{Insertable}
use Rattle.graph.proofs.Orders.{key_find}
use Rattle.graph_tables.specs.Tables.{vertex_links, edge_links}
use Rattle.linked_lists.proofs.Counted.{inside_is, can_rem, held_rem, can_ins, held_ins}
use Rattle.graph_tables.proofs.Keys.{keys_count, keys_rem, keys_ins}
use Rattle.graph_tables.proofs.Frames.{Keeps, unlink_v, unlink_e, unlink_len, insert_v, insert_e, insert_len, real}

-- ---- the links

module _ {A : Type 0} (key : A → ℕ) (layout : LinkLayout) (valid : ValidLayout layout) (t : List ℕ) (e : Ends) (l : List A) (h : Held layout t e (map key l)) where
  -- n is in it
  module _ (n : ℕ) (c : count_by_key key n l ≡ 1) where
    there : 1 ≤ count_by_key itself n (map key l)
    there = omega (arith, keys_count key n l)

    pub can_take : CanUnlink layout t e n
    can_take = can_rem layout t e (map key l) valid h n there

    pub held_taken : Held layout (table_unlink layout t e n) (ends_unlink layout t e n) (map key (remove_by key n l))
    held_taken = rw (keys_rem key n l) (held_rem layout t e (map key l) valid h n there)

    inside_taken : Inside layout (length (table_unlink layout t e n)) n
    inside_taken = rw (unlink_len t e n layout) (inside_is layout t e (map key l) valid h n there)

  -- x, whose number n is new, directly after p
  module _ (n p : ℕ) (x : A) (k : key x ≡ n) (f : Insertable key l n p) (i : Inside layout (length t) n) where
    fresh : count_by_key itself n (map key l) ≡ 0
    fresh = keys_count key n l ∙ f.fresh

    behind : 1 ≤ indicator 0 p + count_by_key itself p (map key l)
    behind = rw (keys_count key p l) f.after

    pub can_put : CanInsert layout t e p n
    can_put = can_ins layout t e (map key l) valid h p n f.real fresh i behind

    pub held_put : Held layout (table_insert layout t e p n) (ends_insert layout t e p n) (map key (insert_after_by key 0 p x l))
    held_put = rw (keys_ins key 0 p x l, k) (held_ins layout t e (map key l) valid h p n f.real fresh i behind)

-- n taken out and put in again after p
module _ {A : Type 0} (key : A → ℕ) (layout : LinkLayout) (valid : ValidLayout layout) (t : List ℕ) (e : Ends) (l : List A) (h : Held layout t e (map key l))
    (none : A) (n p : ℕ) (c : count_by_key key n l ≡ 1) (a : 1 ≤ indicator 0 p + count_by_key key p (remove_by key n l)) where
  abbrev x : A
  x = find_by key none n l

  abbrev number_is : key x ≡ n
  number_is = key_find key none n l (omega arith)

  again : Insertable key (remove_by key n l) n p
  again = record { real = real key layout t e l valid h n (omega arith); fresh = omega (arith, count_rem key n n l, is_yes n n refl); after = a }

  pub can_move : CanMove layout n p t e
  can_move = record {
    out = can_take key layout valid t e l h n c;
    back = can_put key layout valid (table_unlink layout t e n) (ends_unlink layout t e n) (remove_by key n l) (held_taken key layout valid t e l h n c) n p x number_is
        again (inside_taken key layout valid t e l h n c);
  }

  pub held_move : Held layout (table_move layout n p t e) (ends_move layout n p t e) (map key (insert_after_by key 0 p x (remove_by key n l)))
  unfolding table_move ends_move
  held_move =
      held_put key layout valid (table_unlink layout t e n) (ends_unlink layout t e n) (remove_by key n l) (held_taken key layout valid t e l h n c) n p x number_is
      again (inside_taken key layout valid t e l h n c)

module _ (n p : ℕ) (t : List ℕ) (e : Ends) where
  pub move_len : (layout : LinkLayout) → length (table_move layout n p t e) ≡ length t
  unfolding table_move
  move_len layout = insert_len (table_unlink layout t e n) (ends_unlink layout t e n) n layout p ∙ unlink_len t e n layout

  pub move_v : Keeps (λ i. i % 8 < 6) t (table_move vertex_links n p t e)
  unfolding table_move
  move_v i h = insert_v (table_unlink vertex_links t e n) (ends_unlink vertex_links t e n) n p i h ∙ unlink_v t e n i h

  pub move_e : Keeps (λ i. i % 12 < 10) t (table_move edge_links n p t e)
  unfolding table_move
  move_e i h = insert_e (table_unlink edge_links t e n) (ends_unlink edge_links t e n) n p i h ∙ unlink_e t e n i h

-- ---- the elements

-- of the elements, only the one with number n may be another: it is y, and is there as often as live says
pub record Anew {A : Type 0} (key : A → ℕ) (none : A) (n live : ℕ) (y : A) (l l' : List A) : Type 0 where
  pub times : count_by_key key n l' ≡ live
  pub found : find_by key none n l' ≡ y
  pub others : (u : ℕ) → n ≢ u → count_by_key key u l' ≡ count_by_key key u l
  pub stay : (u : ℕ) → n ≢ u → find_by key none u l' ≡ find_by key none u l

module _ {A : Type 0} (key : A → ℕ) (none : A) (n : ℕ) (l : List A) where
  pub anew_put : (p : ℕ) (x : A) → key x ≡ n → count_by_key key n l ≡ 0 → Anew key none n 1 x l (insert_after_by key 0 p x l)
  anew_put p x k c = record {
    times = omega (arith, count_ins key n 0 p x l, is_yes (key x) n k);
    found = rw k at (find_ins key none 0 p x l (rw (sym k) at c));
    others = λ u m. omega (arith, count_ins key u 0 p x l, is_no (key x) u (λ q. m (sym k ∙ q)));
    stay = λ u m. find_ins_other key none 0 p u x l (λ q. m (sym k ∙ q));
  }

  pub anew_taken : count_by_key key n l ≡ 1 → Anew key none n 0 none l (remove_by key n l)
  anew_taken c =
      let gone : count_by_key key n (remove_by key n l) ≡ 0 = omega (arith, count_rem key n n l, is_yes n n refl) in
      record {
        times = gone;
        found = find_none key none n (remove_by key n l) gone;
        others = λ u m. omega (arith, count_rem key u n l, is_no n u m);
        stay = λ u m. find_rem_other key none u n l m;
      }

  pub anew_set : (f : A → A) → ((y : A) → key (f y) ≡ key y) → count_by_key key n l ≡ 1 → Anew key none n 1 (f (find_by key none n l)) l (update_by key n f l)
  anew_set f kept c = record {
    times = count_upd key f kept n n l ∙ c;
    found = find_upd key f kept none n l (omega arith);
    others = λ u m. count_upd key f kept u n l;
    stay = λ u m. find_upd_other key f kept none n u l m;
  }
