-- The end images of several stores: each graph is well formed, its image has room in its part and stands at its front.
use Rattle.std.specs.Prelude.{◌==◌}
use Prim.Native.Nat.{ℕ, zero, suc, ◌+◌, ◌*◌, ◌≤◌, ◌<◌}
use mathlib.Core.Path.{◌≡◌, refl, sym, ap, subst, ◌∙◌}
use mathlib.Core.Bool.{Bool, true, false}
use mathlib.Core.List.{List, [], ◌∷◌, ◌++◌, map, append_assoc}
use native.Mathlib.Omega.{arith}
use lib.ListN.{length, take, drop, length-drop}
use lib.Seq.{length-take-le, take-append_seam, drop-append-add}
use Rattle.lists.specs.Lists.{range, overwritten, All, done, more}
use Rattle.history.specs.Machine.{Machine}
use Rattle.image.proofs.WordSize.{Word}
use Rattle.commands.specs.Fits.{WordsFit}
use Rattle.machine.specs.Calls.{Parameters}
use Rattle.machine.specs.Posed.{Posed, roomed, step_at}
use Rattle.machine.specs.Stores.{Stores, StoreCall, store_calls_of, is_store, found, step_in, last_in}
use Rattle.machine.specs.StoreRun.{over_parts}
use Rattle.machine.proofs.Graphs.{AllFormed, step_formed}
use Rattle.machine.proofs.Whole.{over_length}
use Rattle.machine.proofs.StoreLaws.{stays_store, own_step, others_stay}
use Rattle.machine.proofs.StoreStarts.{map_first}

-- ---- the graphs

-- calls of words that have 32 bits
pub store_calls_fit : {ws : List ℕ} → All Word ws → All (λ (x : StoreCall). WordsFit x.call) (store_calls_of ws)
store_calls_fit (more s (more a (more b (more c (more d (more e r)))))) = more (record { b_fits = c; c_fits = d }) (store_calls_fit r)
store_calls_fit done = done
store_calls_fit (more s done) = done
store_calls_fit (more s (more a done)) = done
store_calls_fit (more s (more a (more b done))) = done
store_calls_fit (more s (more a (more b (more c done)))) = done
store_calls_fit (more s (more a (more b (more c (more d done))))) = done

-- the room is none of the bounds
formed_at : (w : Parameters) (m : Machine) (y : Posed) → WordsFit y.call → AllFormed w m → AllFormed w (step_at w m y)
formed_at w m y f a =
    let v = roomed w m y.room in
    let r = step_formed v m y.call f (record { start = a.start; steps = a.steps }) in
    record { start = r.start; steps = r.steps }

pub store_formed : (w : Parameters) (n : ℕ) (s : Stores) (xs : List StoreCall) → is_store s n ≡ true → All (λ (x : StoreCall). WordsFit x.call) xs →
    AllFormed w (s.machine n) → AllFormed w ((last_in w s xs).machine n)
unfolding last_in
store_formed w n s [] i done a = a
store_formed w n s (x ∷ xs) i (more f fs) a = store_formed w n (step_in w s x) xs (stays_store w s x n i) fs (go (x.store == n) refl)
  where
    go : (t : Bool) → (x.store == n) ≡ t → AllFormed w ((step_in w s x).machine n)
    go true e = subst (AllFormed w) (sym (own_step w s x n i e)) (formed_at w (s.machine n) (found s x) f a)
    go false e = subst (AllFormed w) (sym (others_stay w s x n e)) a

-- ---- the parts

module _ (n : ℕ) where
  pub image_placed : (k : ℕ) (f : ℕ → List ℕ) (ws : List ℕ) → ((i : ℕ) → i < k → length (f i) ≤ n) → k * n ≤ length ws → (i : ℕ) → i < k →
      take (length (f i)) (drop (i * n) (over_parts n (map f (range k)) ws)) ≡ f i
  image_placed zero f ws h r i l = absurd (omega arith)
  image_placed (suc k) f ws h r zero l =
      let z : 0 * n ≡ 0 = omega arith in
      let T = take n ws in
      let R = over_parts n (map (λ (i : ℕ). f (suc i)) (range k)) (drop n ws) in
      rw (map_first f k, z)
      (ap (take (length (f 0))) (append_assoc (f 0) (drop (length (f 0)) T) R) ∙ take-append_seam (f 0) (drop (length (f 0)) T ++ R))
  image_placed (suc k) f ws h r (suc i) l =
      let Y = overwritten (f 0) (take n ws) in
      let R = over_parts n (map (λ (i : ℕ). f (suc i)) (range k)) (drop n ws) in
      let small : n ≤ length ws = omega (arith, r) in
      let t = length-take-le n ws small in
      let y : length Y ≡ n = over_length (f 0) (take n ws) (omega (arith, h 0 (omega arith), t)) ∙ t in
      let s : suc i * n ≡ length Y + i * n = omega (arith, y) in
      rw (map_first f k)
      (ap (λ (j : ℕ). take (length (f (suc i))) (drop j (Y ++ R))) s
      ∙ ap (take (length (f (suc i)))) (drop-append-add Y R (i * n))
      ∙ image_placed k (λ (j : ℕ). f (suc j)) (drop n ws) (λ j q. h (suc j) (omega (arith, q))) (omega (arith, r, length-drop n ws)) i (omega (arith, l)))
