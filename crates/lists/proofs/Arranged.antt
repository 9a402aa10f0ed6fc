-- Every order of a list whose keys stand once each is reached.
use mathlib.Core.Path.{◌≡◌, refl, sym, ap, ◌∙◌}
use mathlib.Core.Logic.{◌≢◌}
use mathlib.Core.List.{List, [], ◌∷◌, ◌++◌, map}
use Prim.Native.Nat.{ℕ, ◌+◌, ◌-◌, ◌≤◌}
use native.Mathlib.Omega.{arith}
use Rattle.lists.specs.Choice.{indicator}
use Rattle.lists.specs.Keyed.{count_by_key, insert_after_by, remove_by, last_by, find_by, put_after}
use Rattle.lists.specs.Arranged.{put_in_turn, arranged, in_order}
use Rattle.lists.proofs.Picks.{pick_yes, pick_no, same, differ, same?, is_yes, is_no, is_pos, is_zero}
use Rattle.lists.proofs.KeyedLaws.{count_ins, count_rem, find_ins_other, find_rem_other, find_none}
use Rattle.lists.proofs.Places.{ins_last}

-- how often a number stands among those wanted
abbrev pub times : ℕ → List ℕ → ℕ
times n ws = count_by_key (λ (w : ℕ). w) n ws

module _ {A : Type 0} (key : A → ℕ) (d : A) where
  pub find_key : (k : ℕ) (l : List A) → 1 ≤ count_by_key key k l → key (find_by key d k l) ≡ k
  find_key k [] h = absurd (omega arith)
  find_key k (y ∷ l) h = elim (same? (key y) k) [
    | same e f ↦ rw (pick_yes (key y) k) e
    | differ e f ↦ rw (pick_no (key y) k) (find_key k l (omega (arith, is_no (key y) k e)))
  ]

  -- an element put elsewhere: the same keys
  pub count_put : (j a b : ℕ) (l : List A) → 1 ≤ count_by_key key a l → count_by_key key j (put_after key d a b l) ≡ count_by_key key j l
  count_put j a b l h =
      let e = find_key a l h in
      elim (same? a j) [
        | same u v ↦ omega (
          arith,
          count_ins key j 0 b (find_by key d a l) (remove_by key a l),
          count_rem key j a l,
          is_yes a j u,
          ap (λ (z : ℕ). indicator z j) e,
          ap (λ (z : ℕ). count_by_key key z l) u,
          h,
        )
        | differ u v ↦ omega (arith, count_ins key j 0 b (find_by key d a l) (remove_by key a l), count_rem key j a l, is_no a j u, ap (λ (z : ℕ). indicator z j) e)
      ]

  -- what stands before the list does not matter where it is not p
  ins_from : (q r p : ℕ) (x : A) (l : List A) → q ≢ p → r ≢ p → insert_after_by key q p x l ≡ insert_after_by key r p x l
  ins_from q r p x [] a b = refl
  ins_from q r p x (y ∷ l) a b = rw (pick_no q p, pick_no r p)

  ins_front : (q p : ℕ) (x : A) (l : List A) → q ≡ p → insert_after_by key q p x l ≡ x ∷ l
  ins_front q p x [] e = refl
  ins_front q p x (y ∷ l) e = rw (pick_yes q p)

  -- taking another element out, before or after one is put in
  rem_past : (k q p : ℕ) (x : A) (l : List A) → key x ≢ k → k ≢ p → remove_by key k (insert_after_by key q p x l) ≡ insert_after_by key q p x (remove_by key k l)
  rem_past k q p x [] a b = rw (pick_no (key x) k)
  rem_past k q p x (y ∷ l) a b = elim (same? q p) [
    | same e f ↦ rw (pick_yes q p, pick_no (key x) k) (sym (ins_front q p x (remove_by key k (y ∷ l)) e))
    | differ e f ↦ rw (pick_no q p) (elim (same? (key y) k) [
      | same u v ↦ simp pick_yes (ins_from (key y) q p x l (λ z. b (v ∙ z)) e)
      | differ u v ↦ simp pick_no (ap (λ (t : List A). y ∷ t) (rem_past k (key y) p x l a b))
    ])
  ]

  rem_all : List ℕ → List A → List A
  rem_all [] l = l
  rem_all (a ∷ ws) l = rem_all ws (remove_by key a l)

  ins_all : ℕ → List A → List A → List A
  ins_all b [] l = l
  ins_all b (x ∷ xs) l = ins_all (key x) xs (insert_after_by key 0 b x l)

  rem_all_past : (ws : List ℕ) (p : ℕ) (x : A) (l : List A) → times (key x) ws ≡ 0 → times p ws ≡ 0 → rem_all ws (insert_after_by key 0 p x l) ≡ insert_after_by key 0 p x (rem_all ws l)
  unfolding rem_all
  rem_all_past [] p x l a b = refl
  rem_all_past (k ∷ ws) p x l a b =
      let u : key x ≢ k = λ e. is_zero k (key x) (omega arith) (sym e) in
      let v : k ≢ p = is_zero k p (omega arith) in
      ap (rem_all ws) (rem_past k 0 p x l u v) ∙ rem_all_past ws p x (remove_by key k l) (omega arith) (omega arith)

  find_moved : (ws : List ℕ) (a b : ℕ) (l : List A) → times a ws ≡ 0 → key (find_by key d a l) ≡ a → in_order key d ws (put_after key d a b l) ≡ in_order key d ws l
  find_moved [] a b l h e = refl
  find_moved (k ∷ ws) a b l h e =
      let o : a ≢ k = λ z. is_zero k a (omega arith) (sym z) in
      let f : find_by key d k (put_after key d a b l) ≡ find_by key d k l =
      find_ins_other key d 0 b k (find_by key d a l) (remove_by key a l) (λ z. o (sym e ∙ z)) ∙ find_rem_other key d k a l o in
      λ i. f i ∷ find_moved ws a b l (omega arith) e i

  -- putting in turn is taking all out and putting them in behind one another
  in_turn : (b : ℕ) (ws : List ℕ) (l : List A) → times b ws ≡ 0 → ((n : ℕ) → times n ws ≤ 1) → ((n : ℕ) → times n ws ≤ count_by_key key n l) → ((n : ℕ) → count_by_key key n l ≤ 1) →
      put_in_turn key d b ws l ≡ ins_all b (in_order key d ws l) (rem_all ws l)
  unfolding ins_all rem_all
  in_turn b [] l h o c u = refl
  in_turn b (a ∷ ws) l h o c u =
      let x = find_by key d a l in
      let one : times a ws ≡ 0 = omega (arith, o a, is_yes a a refl) in
      let here : 1 ≤ count_by_key key a l = omega (arith, c a, is_yes a a refl) in
      let k : key x ≡ a = find_key a l here in
      let n : (j : ℕ) → count_by_key key j (put_after key d a b l) ≡ count_by_key key j l =
      λ j. count_put j a b l here in
      in_turn a ws (put_after key d a b l) one (λ j. omega (arith, o j)) (λ j. omega (arith, c j, n j)) (λ j. omega (arith, u j, n j))
      ∙ (λ i. ins_all a (find_moved ws a b l one k i) (rem_all_past ws b x (remove_by key a l) (ap (λ (j : ℕ). times j ws) k ∙ one) (omega arith) i))
      ∙ ap (λ (j : ℕ). ins_all j (in_order key d ws l) (insert_after_by key 0 b x (rem_all ws (remove_by key a l)))) (sym k)

  -- a list of one key
  none_left : (l : List A) → ((n : ℕ) → count_by_key key n l ≡ 0) → l ≡ []
  none_left [] h = refl
  none_left (x ∷ l) h = absurd (omega (arith, h (key x), is_yes (key x) (key x) refl))

  one_left : (w : ℕ) (l : List A) → ((n : ℕ) → count_by_key key n l ≡ indicator w n) → l ≡ find_by key d w l ∷ []
  one_left w [] h = absurd (omega (arith, h w, is_yes w w refl))
  one_left w (x ∷ l) h =
      let e : w ≡ key x = is_pos w (key x) (omega (arith, h (key x), is_yes (key x) (key x) refl)) in
      let r : l ≡ [] = none_left l (λ n. omega (arith, h n, ap (λ (j : ℕ). indicator j n) e)) in
      let f : key x ≡ w = sym e in
      rw (pick_yes (key x) w, r)

  rem_all_count : (n : ℕ) (ws : List ℕ) (l : List A) → count_by_key key n (rem_all ws l) ≡ count_by_key key n l - times n ws
  unfolding rem_all
  rem_all_count n [] l = omega arith
  rem_all_count n (a ∷ ws) l = omega (arith, rem_all_count n ws (remove_by key a l), count_rem key n a l)

  rem_all_find : (k : ℕ) (ws : List ℕ) (l : List A) → times k ws ≡ 0 → find_by key d k (rem_all ws l) ≡ find_by key d k l
  unfolding rem_all
  rem_all_find k [] l h = refl
  rem_all_find k (a ∷ ws) l h = rem_all_find k ws (remove_by key a l) (omega arith) ∙ find_rem_other key d k a l (is_zero a k (omega arith))

  last_more : (q : ℕ) (l : List A) (x : A) → last_by key q (l ++ (x ∷ [])) ≡ key x
  last_more q [] x = refl
  last_more q (y ∷ l) x = last_more (key y) l x

  count_append : (n : ℕ) (l m : List A) → count_by_key key n (l ++ m) ≡ count_by_key key n l + count_by_key key n m
  count_append n [] m = omega arith
  count_append n (y ∷ l) m = omega (arith, count_append n l m)

  append_more : (l m : List A) (x : A) → (l ++ (x ∷ [])) ++ m ≡ l ++ (x ∷ m)
  append_more [] m x = refl
  append_more (y ∷ l) m x = ap (λ (t : List A). y ∷ t) (append_more l m x)

  -- behind the last, one after another
  ins_behind : (b : ℕ) (xs l : List A) → last_by key 0 l ≡ b → ((n : ℕ) → indicator 0 n + count_by_key key n (l ++ xs) ≤ 1) → ins_all b xs l ≡ l ++ xs
  unfolding ins_all
  ins_behind b [] l e u = sym (nil l)
    where
      nil : (l : List A) → l ++ [] ≡ l
      nil [] = refl
      nil (y ∷ l) = ap (λ (t : List A). y ∷ t) (nil l)
  ins_behind b (x ∷ xs) l e u =
      let p : insert_after_by key 0 b x l ≡ l ++ (x ∷ []) =
      ap (λ (j : ℕ). insert_after_by key 0 j x l) (sym e) ∙ ins_last key 0 x l (λ n. omega (arith, u n, count_append n l (x ∷ xs))) in
      ap (ins_all (key x) xs) p ∙ ins_behind (key x) xs (l ++ (x ∷ [])) (last_more 0 l x) (λ n. omega (arith, u n, ap (count_by_key key n) (append_more l xs x))) ∙ append_more l xs x

  -- where the wanted keys are those of the list, each once: then the elements stand as wanted
  pub arranged_is : (ws : List ℕ) (l : List A) → ((n : ℕ) → indicator 0 n + count_by_key key n l ≤ 1) → ((n : ℕ) → times n ws ≡ count_by_key key n l) →
      arranged key d ws l ≡ in_order key d ws l
  arranged_is [] l u c = none_left l (λ n. omega (arith, c n))
  arranged_is (w ∷ ws) l u c =
      let apart : times w ws ≡ 0 = omega (arith, c w, u w, is_yes w w refl) in
      let x = find_by key d w l in
      let k : key x ≡ w = find_key w l (omega (arith, c w, is_yes w w refl)) in
      let one : rem_all ws l ≡ x ∷ [] =
      one_left w (rem_all ws l) (λ n. omega (arith, rem_all_count n ws l, c n)) ∙ ap (λ (y : A). y ∷ []) (rem_all_find w ws l apart) in
      in_turn w ws l apart (λ n. omega (arith, c n, u n)) (λ n. omega (arith, c n)) (λ n. omega (arith, u n))
      ∙ ap (ins_all w (in_order key d ws l)) one
      ∙ ins_behind w (in_order key d ws l) (x ∷ []) k (λ n. omega (arith, u n, counts (w ∷ ws) l (λ j. omega (arith, c j)) n, c n))
    where
      counts : (vs : List ℕ) (l : List A) → ((n : ℕ) → times n vs ≤ count_by_key key n l) → (n : ℕ) → count_by_key key n (in_order key d vs l) ≡ times n vs
      counts [] l h n = refl
      counts (v ∷ vs) l h n =
          omega (arith, counts vs l (λ j. omega (arith, h j)) n, ap (λ (j : ℕ). indicator j n) (find_key v l (omega (arith, h v, is_yes v v refl))))

  -- the keys are then those wanted, in their order
  pub order_keys : (ws : List ℕ) (l : List A) → ((n : ℕ) → times n ws ≤ count_by_key key n l) → map key (in_order key d ws l) ≡ ws
  order_keys [] l h = refl
  order_keys (w ∷ ws) l h =
      let e = find_key w l (omega (arith, h w, is_yes w w refl)) in
      λ i. e i ∷ order_keys ws l (λ n. omega (arith, h n)) i

  -- and each key has the element that it had
  pub order_finds : (n : ℕ) (ws : List ℕ) (l : List A) → ((k : ℕ) → times k ws ≤ count_by_key key k l) → (times n ws ≡ 0 → count_by_key key n l ≡ 0) →
      find_by key d n (in_order key d ws l) ≡ find_by key d n l
  order_finds n [] l h z = sym (find_none key d n l (z refl))
  order_finds n (w ∷ ws) l h z =
      let k : key (find_by key d w l) ≡ w = find_key w l (omega (arith, h w, is_yes w w refl)) in
      elim (same? w n) [
        | same e f ↦ pick_yes (key (find_by key d w l)) n _ _ (k ∙ e) ∙ ap (λ (j : ℕ). find_by key d j l) e
        | differ e f ↦ pick_no (key (find_by key d w l)) n _ _ (λ q. e (sym k ∙ q)) ∙ order_finds n ws l (λ j. omega (arith, h j)) (λ q. z (omega (arith, q, is_no w n e)))
      ]
