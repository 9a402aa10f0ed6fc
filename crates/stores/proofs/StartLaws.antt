-- The start images, one after another: what a loop over them has before each.
use Rattle.std.specs.Prelude.{◌==◌}
use Prim.Native.Nat.{ℕ, zero, suc, ◌+◌, ◌-◌, min, ◌≤◌, ◌<◌}
use mathlib.Core.Path.{◌≡◌, refl, sym, ap, ◌∙◌}
use mathlib.Core.Bool.{Bool, true, false, ◌||◌}
use mathlib.Core.List.{List}
use native.Mathlib.Omega.{arith}
use native.Mathlib.Numerals.{add-one}
use lib.Dec.{ltb}
use lib.ListN.{length, take, drop, length-take, length-drop, drop_of_length-le}
use lib.Seq.{take_all, take-length, drop-length, drop-drop, get_or-take}
use borrow.Author.Tests.{ltb-true, ltb-false, eq-eqb, ne_eqb}
use Rattle.lists.specs.Choice.{◌⇒◌else◌}
use Rattle.graph.specs.WellFormed.{Bounds}
use Rattle.image_check.specs.Checks.{Verdict, code_of, offset_of, load_code, load_offset}
use Rattle.machine.specs.Run.{number_beside}
use Rattle.stores.specs.Refusals.{number_at}
use Rattle.image.proofs.Headers.{header_words}
use Rattle.image_check.proofs.LoadCodes.{code_loads}
use Rattle.image.proofs.Loads.{loaded}
use Rattle.machine.specs.StoreRun.{stated_length, images_from, starts_code, starts_offset, image_at}
use Rattle.std.specs.Prelude.{Ok, Err}
use Rattle.image_check.specs.declared.BadImage.TheVariants.{Header, Record, Incidence}

take_min : (n : ℕ) (ws : List ℕ) → take (min n (length ws)) ws ≡ take n ws
take_min n ws = go (ltb (length ws) n) refl
  where
    go : (t : Bool) → ltb (length ws) n ≡ t → take (min n (length ws)) ws ≡ take n ws
    go true e =
        let f = ltb-true (length ws) n e in
        let m : min n (length ws) ≡ length ws = omega (arith, f) in
        ap (λ (k : ℕ). take k ws) m ∙ take-length ws ∙ sym (take_all n ws (omega (arith, f)))
    go false e =
        let f = ltb-false (length ws) n e in
        let m : min n (length ws) ≡ n = omega (arith, f) in
        ap (λ (k : ℕ). take k ws) m

drop_min : (n : ℕ) (ws : List ℕ) → drop (min n (length ws)) ws ≡ drop n ws
drop_min n ws = go (ltb (length ws) n) refl
  where
    go : (t : Bool) → ltb (length ws) n ≡ t → drop (min n (length ws)) ws ≡ drop n ws
    go true e =
        let f = ltb-true (length ws) n e in
        let m : min n (length ws) ≡ length ws = omega (arith, f) in
        let g : length ws ≤ n = omega (arith, f) in
        ap (λ (k : ℕ). drop k ws) m ∙ drop-length ws ∙ sym (drop_of_length-le ws {i = n} g)
    go false e =
        let f = ltb-false (length ws) n e in
        let m : min n (length ws) ≡ n = omega (arith, f) in
        ap (λ (k : ℕ). drop k ws) m

next_images : (i : ℕ) (ws : List ℕ) → images_from (suc i) ws ≡ drop (stated_length (images_from i ws)) (images_from i ws)
next_images zero ws = refl
next_images (suc i) ws = next_images i (drop (stated_length ws) ws)

-- the rest of the words, as `&words[at..]` lends it
pub first_is : (ws : List ℕ) (at n : ℕ) → at ≤ length ws → n ≡ min (stated_length (take (length ws - at) (drop at ws))) (length (take (length ws - at) (drop at ws)))
    → n ≡ min (stated_length (drop at ws)) (length (drop at ws))
first_is ws at n h e =
    let t : take (length ws - at) (drop at ws) ≡ drop at ws = take_all (length ws - at) (drop at ws) (omega (arith, length-drop at ws)) in
    e ∙ ap (λ (l : List ℕ). min (stated_length l) (length l)) t

module _ (ws : List ℕ) (at n : ℕ) (is : n ≡ min (stated_length (drop at ws)) (length (drop at ws))) where
  abbrev rest : List ℕ
  rest = drop at ws

  pub image_is : take (at + n - at) rest ≡ take (stated_length rest) rest
  image_is = let e : at + n - at ≡ n = omega arith in ap (λ (k : ℕ). take k rest) (e ∙ is) ∙ take_min (stated_length rest) rest

  rest_is : drop (at + n) ws ≡ drop (stated_length rest) rest
  rest_is = sym (drop-drop n at ws) ∙ ap (λ (k : ℕ). drop k rest) is ∙ drop_min (stated_length rest) rest

  module _ (i : ℕ) (e : rest ≡ images_from i ws) where
    pub image_at_lem : take (at + n - at) rest ≡ image_at i ws
    image_at_lem = image_is ∙ ap (λ (l : List ℕ). take (stated_length l) l) e

    pub images_on : drop (at + n) ws ≡ images_from (i + 1) ws
    images_on = rest_is ∙ ap (λ (l : List ℕ). drop (stated_length l) l) e ∙ sym (next_images i ws) ∙ ap (λ (k : ℕ). images_from k ws) (sym (add-one i))

  module _ (b : Bounds) where
    module _ (good : load_code b (take (at + n - at) rest) ≡ 0) where
      loads : load_code b (take (stated_length rest) rest) ≡ 0
      loads = ap (load_code b) (sym image_is) ∙ good

      -- an image that loads is there as long as it says
      whole : n ≡ stated_length rest
      whole =
          let T = take (stated_length rest) rest in
          let h = header_words T (loaded b T ((code_loads b T).0 loads)).header in
          let long = length-take (stated_length rest) rest in
          let six : 5 < stated_length rest = omega (arith, h.long, long) in
          let five = get_or-take (stated_length rest) rest 5 0 six in
          omega (arith, is, long, five, h.total, h.long)

      module _ (stores k : ℕ) (more : k < stores) where
        one_more : stores - k ≡ suc (stores - (k + 1))
        one_more = omega arith

        pub code_on : starts_code b (stores - k) rest ≡ starts_code b (stores - (k + 1)) (drop (at + n) ws)
        unfolding starts_code
        code_on =
            let j = stores - (k + 1) in
            ap (λ (i : ℕ). starts_code b i rest) one_more
            ∙ ap (λ (t : Bool). t ⇒ starts_code b j (drop (stated_length rest) rest) else load_code b (take (stated_length rest) rest)) (eq-eqb (load_code b (take (stated_length rest) rest)) 0 loads)
            ∙ ap (starts_code b j) (sym rest_is)

        pub offset_on : starts_offset b at (stores - k) rest ≡ starts_offset b (at + n) (stores - (k + 1)) (drop (at + n) ws)
        unfolding starts_offset
        offset_on =
            let j = stores - (k + 1) in
            let w = whole in
            ap (λ (i : ℕ). starts_offset b at i rest) one_more
            ∙ ap (λ (t : Bool). t ⇒ starts_offset b (at + stated_length rest) j (drop (stated_length rest) rest) else (at + load_offset b (take (stated_length rest) rest)))
            (eq-eqb (load_code b (take (stated_length rest) rest)) 0 loads)
            ∙ (λ i. starts_offset b (at + sym w i) j (sym rest_is i))

    module _ (bad : load_code b (take (at + n - at) rest) ≡ 0 → ⊥) (stores k : ℕ) (more : k < stores) where
      fails : (load_code b (take (stated_length rest) rest) == 0) ≡ false
      fails = ne_eqb (load_code b (take (stated_length rest) rest)) 0 (λ e. bad (ap (load_code b) image_is ∙ e))

      this_more : stores - k ≡ suc (stores - (k + 1))
      this_more = omega arith

      pub code_here : starts_code b (stores - k) rest ≡ load_code b (take (at + n - at) rest)
      unfolding starts_code
      code_here =
          let j = stores - (k + 1) in
          ap (λ (i : ℕ). starts_code b i rest) this_more
          ∙ ap (λ (t : Bool). t ⇒ starts_code b j (drop (stated_length rest) rest) else load_code b (take (stated_length rest) rest)) fails
          ∙ ap (load_code b) (sym image_is)

      pub offset_here : starts_offset b at (stores - k) rest ≡ at + load_offset b (take (at + n - at) rest)
      unfolding starts_offset
      offset_here =
          let j = stores - (k + 1) in
          ap (λ (i : ℕ). starts_offset b at i rest) this_more
          ∙ ap (λ (t : Bool). t ⇒ starts_offset b (at + stated_length rest) j (drop (stated_length rest) rest) else (at + load_offset b (take (stated_length rest) rest))) fails
          ∙ ap (λ (l : List ℕ). at + load_offset b l) (sym image_is)

-- ---- past the last

pub code_end : (b : Bounds) (n at : ℕ) (ws : List ℕ) → n ≡ 0 → length ws ≤ at → starts_code b n (drop at ws) ≡ 0
unfolding starts_code
code_end b n at ws z h = ap (λ (k : ℕ). starts_code b k (drop at ws)) z ∙ ap (λ (t : Bool). t ⇒ 0 else 105) (eq-eqb (length (drop at ws)) 0 (omega (arith, length-drop at ws)))

pub code_over : (b : Bounds) (n at : ℕ) (ws : List ℕ) → n ≡ 0 → at < length ws → starts_code b n (drop at ws) ≡ 105
unfolding starts_code
code_over b n at ws z h = ap (λ (k : ℕ). starts_code b k (drop at ws)) z ∙ ap (λ (t : Bool). t ⇒ 0 else 105) (ne_eqb (length (drop at ws)) 0 (λ e. absurd (omega (arith, length-drop at ws))))

pub offset_end : (b : Bounds) (n at : ℕ) (ws : List ℕ) → n ≡ 0 → starts_offset b at n ws ≡ 0
unfolding starts_offset
offset_end b n at ws z = ap (λ (k : ℕ). starts_offset b at k ws) z

pub beside_none : (c : ℕ) → 0 ≡ number_beside c 0
beside_none c = go ((c == 108) || (c == 109))
  where
    go : (t : Bool) → ◌≡◌ {A = ℕ} 0 (t ⇒ 0 else 0)
    go true = refl
    go false = refl

pub number_is : (at : ℕ) (v : Verdict) → number_at at v ≡ number_beside (code_of v) (at + offset_of v)
number_is at (Ok tt) = refl
number_is at (Err Header) = refl
number_is at (Err (Record offset)) = refl
number_is at (Err (Incidence offset)) = refl
