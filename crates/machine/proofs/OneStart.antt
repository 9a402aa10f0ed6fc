-- One start image by itself and with words behind it, as the run of one store reads it and as that of K = 1 does.
use Rattle.std.specs.Prelude.{◌==◌}
use Prim.Native.Nat.{ℕ, ◌+◌, ◌≤◌, ◌<◌}
use mathlib.Core.Path.{◌≡◌, refl, sym, ◌∙◌}
use mathlib.Core.Logic.{inl, inr}
use mathlib.Core.Bool.{Bool, true, false, ◌&&◌}
use mathlib.Core.List.{List, []}
use native.Mathlib.Omega.{arith}
use lib.ListN.{length, take, drop, length-take, length-drop, drop_of_length-le}
use lib.Seq.{take_all}
use borrow.Author.Tests.{ne_eqb}
use Rattle.lists.specs.Choice.{◌⇒◌else◌}
use Rattle.graph.specs.WellFormed.{Bounds}
use Rattle.image.specs.Image.{vertex_count, edge_count, sound_header}
use Rattle.image_check.specs.Checks.{sound_counts, verdict, code_of, offset_of, load_code, load_offset}
use Rattle.image.proofs.Headers.{header_words, sound_length}
use Rattle.image_check.proofs.HeaderCode.{header_code}
use Rattle.image_check.proofs.LoadCodes.{no_offset}
use Rattle.machine.specs.StoreRun.{stated_length, starts_code, starts_offset, NoneBehind}
use Rattle.std.specs.Prelude.{Ok, Err}
use Rattle.image_check.specs.declared.BadImage.TheVariants.{Header, Record, Incidence}
use Rattle.image_check.specs.Checks.{Verdict}

-- under six words, or with a word behind it, an image has no sound header
module _ (b : Bounds) (ws : List ℕ) where
  pub stated : sound_header ws ≡ true → stated_length ws ≡ length ws
  stated h = let f = header_words ws h in f.total ∙ sym f.long

  headless : (sound_header ws ≡ true → ⊥) → load_code b ws ≡ 105
  headless n = (header_code b ws).1 (go (sound_header ws) refl)
    where
      go : (t : Bool) → sound_header ws ≡ t → (sound_header ws && sound_counts b.vertices b.edges (vertex_count ws) (edge_count ws)) ≡ false
      go true e = absurd (n e)
      go false e = rw e

  short : length ws < 6 → load_code b ws ≡ 105
  short h = headless (λ e. omega (arith, h, sound_length ws e))

  pub behind : stated_length ws < length ws → load_code b ws ≡ 105
  behind h = headless (λ e. omega (arith, h, stated e))

  pub no_number : load_code b ws ≡ 105 → load_offset b ws ≡ 0
  no_number e = no_offset b ws (λ f. omega (arith, e, f)) (λ f. omega (arith, e, f))

abbrev pub cut : List ℕ → List ℕ
cut ws = take (stated_length ws) ws

pub whole : (ws : List ℕ) → length ws ≤ stated_length ws → (cut ws ≡ ws) × (drop (stated_length ws) ws ≡ [])
whole ws h = (take_all (stated_length ws) ws h, drop_of_length-le ws {i = stated_length ws} h)

same_code : (v : Verdict) → ◌≡◌ {A = ℕ} ((code_of v == 0) ⇒ 0 else code_of v) (code_of v)
same_code (Ok tt) = refl
same_code (Err Header) = refl
same_code (Err (Record at)) = refl
same_code (Err (Incidence at)) = refl

same_offset : (v : Verdict) → ◌≡◌ {A = ℕ} ((code_of v == 0) ⇒ 0 else (0 + offset_of v)) (offset_of v)
same_offset (Ok tt) = refl
same_offset (Err Header) = refl
same_offset (Err (Record at)) = omega arith
same_offset (Err (Incidence at)) = omega arith

pub start_one : (b : Bounds) (ws : List ℕ) → NoneBehind ws → starts_code b 1 ws ≡ load_code b ws
unfolding starts_code
start_one b ws (inl h) = rw ((whole ws h).0, (whole ws h).1) (same_code (verdict b ws))
start_one b ws (inr h) = rw (short b (cut ws) (omega (arith, length-take (stated_length ws) ws))) (sym (short b ws h))

pub offset_one : (b : Bounds) (ws : List ℕ) → NoneBehind ws → starts_offset b 0 1 ws ≡ load_offset b ws
unfolding starts_offset
offset_one b ws (inl h) = rw (whole ws h).0 (same_offset (verdict b ws))
offset_one b ws (inr h) =
    let e = short b (cut ws) (omega (arith, length-take (stated_length ws) ws)) in
    rw (e, no_number b (cut ws) e) (sym (no_number b ws (short b ws h)))

-- what the words behind an image make of its verdict
unfoldable pub left : Verdict → ℕ
left (Ok tt) = 105
left (Err Header) = 105
left (Err (Record at)) = 108
left (Err (Incidence at)) = 109

module _ (b : Bounds) (ws : List ℕ) (h : stated_length ws < length ws) where
  pub left_code : starts_code b 1 ws ≡ left (verdict b (cut ws))
  unfolding starts_code left
  left_code =
      let e : (length (drop (stated_length ws) ws) == 0) ≡ false = ne_eqb (length (drop (stated_length ws) ws)) 0 (omega (arith, length-drop (stated_length ws) ws)) in
      rw e (go (verdict b (cut ws)))
    where
      go : (v : Verdict) → ◌≡◌ {A = ℕ} ((code_of v == 0) ⇒ 105 else code_of v) (left v)
      go (Ok tt) = refl
      go (Err Header) = refl
      go (Err (Record at)) = refl
      go (Err (Incidence at)) = refl

  pub left_offset : starts_offset b 0 1 ws ≡ offset_of (verdict b (cut ws))
  unfolding starts_offset
  left_offset = same_offset (verdict b (cut ws))
