-- Copies at their stretches: one more, and each read back.
use Rattle.std.specs.Prelude.{◌==◌}
use Prim.Native.Nat.{ℕ, zero, suc, ◌+◌, ◌-◌, ◌*◌, ◌≤◌, ◌<◌}
use mathlib.Core.Path.{◌≡◌, refl, sym, ap, subst, ◌∙◌}
use mathlib.Core.Logic.{◌≢◌}
use mathlib.Core.Bool.{Bool, true, false}
use mathlib.Core.List.{List, [], ◌∷◌, ◌++◌, append_assoc}
use native.Mathlib.Omega.{arith}
use native.Mathlib.Nat.{mul-suc, mul-le-mul_left}
use borrow.Author.Tests.{ne_eqb}
use borrow.Rule.Slice.PartMut.{put_mid, Post-is}
use lib.ListN.{length, get_or, take, drop, length-append}
use lib.Seq.{sets, length-sets, get_or-take, get_or-drop}
use Rattle.lists.specs.Choice.{◌⇒◌else◌}
use Rattle.lists.specs.Lists.{All, done, more, overwritten}
use Rattle.lists.proofs.Stores.{sets_front, take_drop, sets_read, part_sets}
use Rattle.graph.specs.Graph.{Graph}
use Rattle.graph.specs.WellFormed.{Bounds, well_formed}
use Rattle.graph.proofs.Facts.{from_facts}
use Rattle.graph_tables.specs.Tables.{State, state, no_head}
use Rattle.graph_tables.specs.Holds.{Holds}
use Rattle.graph_tables.specs.Capacities.{Sized}
use Rattle.graph_tables.proofs.GraphRead.{holds_one}
use Rattle.image.specs.Image.{save, load, loadable}
use Rattle.image.proofs.Loads.{image_length_lem, saved_same, saved_loads}
use Rattle.image.proofs.Room.{few_vertices_lem, few_edges_lem}
use Rattle.image_tables.specs.Words.{CanSave}
use Rattle.machine.specs.Calls.{Parameters, bounds_in}
use Rattle.copies.specs.Copies.{stretch, recorded_from, recorded}
use Rattle.copies.specs.Recording.{copy_of, Copied, copy_words, CanReload}

-- ---- words at a place

-- the part that was lent by a range
pub part_put : (cs : List ℕ) (at size : ℕ) (ws out : List ℕ) → at + size ≤ length cs → length ws ≤ size
    → out ≡ overwritten ws (take (at + size - at) (drop at cs)) → put_mid at (at + size - at) cs out ≡ sets cs at ws
part_put cs at size ws out h l e =
    let n : at + size - at ≡ size = omega arith in
    ap (λ (r : List ℕ). take at cs ++ (out ++ r)) (Post-is at (at + size) cs (omega arith))
    ∙ sym (append_assoc (take at cs) out (drop (at + size) cs))
    ∙ part_sets cs at size ws out h l (e ∙ ap (λ (j : ℕ). overwritten ws (take j (drop at cs))) n)

-- ---- copies

pub recorded_length : (size k : ℕ) (gs : List Graph) (cs : List ℕ) → length (recorded_from size k gs cs) ≡ length cs
unfolding recorded_from
recorded_length size k [] cs = refl
recorded_length size k (g ∷ gs) cs = recorded_length size (suc k) gs (sets cs (size * k) (save g)) ∙ length-sets cs (size * k) (save g)

pub recorded_more : (size k : ℕ) (gs : List Graph) (g : Graph) (cs : List ℕ)
    → recorded_from size k (gs ++ (g ∷ [])) cs ≡ sets (recorded_from size k gs cs) (size * (k + length gs)) (save g)
unfolding recorded_from
recorded_more size k [] g cs = ap (λ (j : ℕ). sets cs (size * j) (save g)) (let e : k ≡ k + 0 = omega arith in e)
recorded_more size k (h ∷ gs) g cs =
    let e : suc k + length gs ≡ k + suc (length gs) = omega arith in
    recorded_more size (suc k) gs g (sets cs (size * k) (save h))
    ∙ ap (λ (j : ℕ). sets (recorded_from size (suc k) gs (sets cs (size * k) (save h))) (size * j) (save g)) e

-- later copies go to later stretches
recorded_front : (size k : ℕ) (gs : List Graph) (cs : List ℕ) (j : ℕ) → j ≤ size * k → take j (recorded_from size k gs cs) ≡ take j cs
unfolding recorded_from
recorded_front size k [] cs j h = refl
recorded_front size k (g ∷ gs) cs j h =
    recorded_front size (suc k) gs (sets cs (size * k) (save g)) j (omega (arith, mul-suc size k)) ∙ sets_front j cs (size * k) (save g) h

pub stretch_read : (size k : ℕ) (gs : List Graph) (cs : List ℕ) (i : ℕ) (z : Graph) → All (λ (g : Graph). length (save g) ≤ size) gs → i < length gs → size * (k + length gs) ≤ length cs
    → take (length (save (get_or gs i z))) (drop (size * (k + i)) (recorded_from size k gs cs)) ≡ save (get_or gs i z)
unfolding recorded_from
stretch_read size k [] cs i z a h r = absurd (omega arith)
stretch_read size k (g ∷ gs) cs zero z (more s a) h r =
    let n = length (save g) in
    let at = size * k in
    let e : size * (k + 0) ≡ at = ap (λ (j : ℕ). size * j) (let q : k + 0 ≡ k = omega arith in q) in
    let room : at + n ≤ length cs = omega (arith, mul-suc size k, mul-le-mul_left {m = suc k} {n = k + suc (length gs)} size (omega arith)) in
    let one = sets cs at (save g) in
    let R = recorded_from size (suc k) gs one in
    ap (λ (j : ℕ). take n (drop j R)) e
    ∙ take_drop n at R ∙ ap (drop at) (recorded_front size (suc k) gs one (at + n) (omega (arith, mul-suc size k)))
    ∙ sym (take_drop n at one) ∙ sets_read cs at (save g) room
stretch_read size k (g ∷ gs) cs (suc i) z (more s a) h r =
    let e : size * (k + suc i) ≡ size * (suc k + i) = ap (λ (j : ℕ). size * j) (let q : k + suc i ≡ suc k + i = omega arith in q) in
    let f : size * (k + suc (length gs)) ≡ size * (suc k + length gs) = ap (λ (j : ℕ). size * j) (let q : k + suc (length gs) ≡ suc k + length gs = omega arith in q) in
    ap (λ (j : ℕ). take (length (save (get_or gs i z))) (drop j (recorded_from size (suc k) gs (sets cs (size * k) (save g))))) e
    ∙ stretch_read size (suc k) gs (sets cs (size * k) (save g)) i z a (omega arith) (rw length-sets (omega (arith, f)))

-- ---- saved graphs

pub small : (w : Parameters) (g : Graph) → well_formed (bounds_in w) g ≡ true → length (save g) ≤ stretch w
small w g h = omega (arith, image_length_lem (bounds_in w) g h, few_vertices_lem (bounds_in w) g h, few_edges_lem (bounds_in w) g h)

pub all_small : (w : Parameters) {gs : List Graph} → All (λ (g : Graph). well_formed (bounds_in w) g ≡ true) gs → All (λ (g : Graph). length (save g) ≤ stretch w) gs
all_small w done = done
all_small w (more {x = g} h a) = more (small w g h) (all_small w a)

all_get : (w : Parameters) (gs : List Graph) (i : ℕ) (z : Graph) → All (λ (g : Graph). well_formed (bounds_in w) g ≡ true) gs → i < length gs → well_formed (bounds_in w) (get_or gs i z) ≡ true
all_get w [] i z a h = absurd (omega arith)
all_get w (g ∷ gs) zero z (more s a) h = s
all_get w (g ∷ gs) (suc i) z (more s a) h = all_get w gs i z a (omega arith)

-- the sixth word is the length
total_word : (b : Bounds) (g : Graph) → well_formed b g ≡ true → get_or (save g) 5 0 ≡ length (save g)
unfolding save
total_word b g h = sym (image_length_lem b g h)

-- ---- a copy read back

module _ (w : Parameters) (lent copies : List ℕ) (gs : List Graph) (n : ℕ) (c : Copied w lent copies gs n) where
  -- one that was made
  made_copy : (j : ℕ) (z : Graph) → j < length gs → take (length (save (get_or gs j z))) (drop (stretch w * j) copies) ≡ save (get_or gs j z)
  made_copy j z h =
      let e : 0 + length gs ≡ length gs = omega arith in
      let f : 0 + j ≡ j = omega arith in
      ap (λ (l : List ℕ). take (length (save (get_or gs j z))) (drop (stretch w * j) l)) c.kept
      ∙ ap (λ (k : ℕ). take (length (save (get_or gs j z))) (drop (stretch w * k) (recorded (stretch w) gs lent))) (sym f)
      ∙ stretch_read (stretch w) 0 gs lent j z (all_small w c.formed) h (subst (λ (k : ℕ). stretch w * k ≤ length lent) (sym e) c.room)

  copy_total : (j : ℕ) (z : Graph) → j < length gs → get_or copies (stretch w * j + 5) 0 ≡ length (save (get_or gs j z))
  copy_total j z h =
      let G = get_or gs j z in
      let f = all_get w gs j z c.formed h in
      let six : 5 < length (save G) = omega (arith, image_length_lem (bounds_in w) G f) in
      sym (get_or-drop (stretch w * j) copies 5 0) ∙ sym (get_or-take (length (save G)) (drop (stretch w * j) copies) 5 0 six)
      ∙ ap (λ (l : List ℕ). get_or l 5 0) (made_copy j z h) ∙ total_word (bounds_in w) G f

  pub copies_length : length copies ≡ length lent
  copies_length = ap length c.kept ∙ recorded_length (stretch w) 0 gs lent

  module _ (start vertices edges : List ℕ) (s : loadable (bounds_in w) start ≡ true) (z : Sized (bounds_in w) (state no_head vertices edges)) where
    words_are : (k : ℕ) → k ≤ length gs → (loadable (bounds_in w) (copy_words start copies (stretch w) k) ≡ true) × (load (copy_words start copies (stretch w) k) ≡ copy_of (load start) gs k)
    words_are zero h = (s, refl)
    words_are (suc j) h =
        let G = get_or gs j (load start) in
        let f = all_get w gs j (load start) c.formed (omega arith) in
        let p : suc j - 1 ≡ j = omega arith in
        let q : (suc j == 0) ≡ false = ne_eqb (suc j) 0 (λ z. omega (arith, z)) in
        let e : copy_words start copies (stretch w) (suc j) ≡ save G =
        ap (λ (t : Bool). t ⇒ start else take (get_or copies (stretch w * (suc j - 1) + 5) 0) (drop (stretch w * (suc j - 1)) copies)) q
        ∙ ap (λ (i : ℕ). take (get_or copies (stretch w * i + 5) 0) (drop (stretch w * i) copies)) p
        ∙ ap (λ (i : ℕ). take i (drop (stretch w * j) copies)) (copy_total j (load start) (omega arith))
        ∙ made_copy j (load start) (omega arith) in
        (ap (loadable (bounds_in w)) e ∙ saved_loads (bounds_in w) G f, ap load e ∙ saved_same (bounds_in w) G f)

    ends : (j : ℕ) → j < length gs → stretch w * j + stretch w ≤ length copies
    ends j h = omega (arith, mul-suc (stretch w) j, mul-le-mul_left {m = suc j} {n = length gs} (stretch w) (omega arith), c.room, copies_length)

    pub can_reload : (k : ℕ) → k ≤ length gs → CanReload start copies (stretch w) k vertices edges
    can_reload k h = record {
      loads = record { bounds = bounds_in w; sized = z; sound = (words_are k h).0 };
      total = λ n. at_total k h n;
      room = λ n. at_room k h n;
    }
      where
        at_total : (k : ℕ) → k ≤ length gs → k ≢ 0 → stretch w * (k - 1) + 5 < length copies
        at_total zero h n = absurd (n refl)
        at_total (suc j) h n = let p : suc j - 1 ≡ j = omega arith in rw p (omega (arith, ends j (omega arith)))

        at_room : (k : ℕ) → k ≤ length gs → k ≢ 0 → stretch w * (k - 1) + get_or copies (stretch w * (k - 1) + 5) 0 ≤ length copies
        at_room zero h n = absurd (n refl)
        at_room (suc j) h n =
            let p : suc j - 1 ≡ j = omega arith in
            rw p (omega (arith, ends j (omega arith), copy_total j (load start) (omega arith), small w (get_or gs j (load start)) (all_get w gs j (load start) c.formed (omega arith))))

    pub reloaded : (k : ℕ) → k ≤ length gs → load (copy_words start copies (stretch w) k) ≡ copy_of (load start) gs k
    reloaded k h = (words_are k h).1

  -- one more
  pub copied_more : (g : Graph) → well_formed (bounds_in w) g ≡ true → stretch w * n + stretch w ≤ length copies → Copied w lent (sets copies (stretch w * n) (save g)) (gs ++ (g ∷ [])) (n + 1)
  copied_more g f r =
      let e = c.count in
      let l : length (gs ++ (g ∷ [])) ≡ length gs + 1 = length-append gs (g ∷ []) in
      record {
        count = omega (arith, l);
        formed = all_append gs c.formed;
        room = subst (λ (k : ℕ). stretch w * k ≤ length lent) (sym l)
            (subst (λ (k : ℕ). stretch w * k ≤ length lent) (let q : suc (length gs) ≡ length gs + 1 = omega arith in q) (rw mul-suc (rw (← e) (omega (arith, copies_length)))));
        kept =
            ap (λ (k : ℕ). sets copies (stretch w * k) (save g)) (e ∙ (let q : length gs ≡ 0 + length gs = omega arith in q))
            ∙ ap (λ (l : List ℕ). sets l (stretch w * (0 + length gs)) (save g)) c.kept
            ∙ sym (recorded_more (stretch w) 0 gs g lent);
      }
    where
      all_append : (gs : List Graph) → All (λ (g : Graph). well_formed (bounds_in w) g ≡ true) gs → All (λ (g : Graph). well_formed (bounds_in w) g ≡ true) (gs ++ (g ∷ []))
      all_append [] done = more f done
      all_append (h ∷ hs) (more s a) = more s (all_append hs a)

-- ---- the part that is lent to `save`

pub saved_small : (s : State) (g : Graph) (size : ℕ) → CanSave s size → Holds s g → length (save g) ≤ size
saved_small s g size c h =
    let f = from_facts c.bounds c.graph c.holds.sound c.within in
    let e : g ≡ c.graph = holds_one s g c.graph h c.holds in
    rw e (omega (arith, image_length_lem c.bounds c.graph f, c.holds.core.vertices, c.holds.core.edges, c.room))
