-- What the code finds is the verdict.
use Rattle.std.specs.Prelude.{◌==◌}
use Prim.Native.Nat.{ℕ, ◌≤◌, ◌<◌}
use mathlib.Core.Path.{◌≡◌, refl, sym, ap, ◌∙◌, subst}
use mathlib.Core.List.{List}
use native.Mathlib.Omega.{arith}
use lib.ListN.{length}
use lib.Dec.{ltb}
use borrow.Author.Tests.{lt-ltb, le-ltb, eq-eqb, ne_eqb}
use Rattle.lists.specs.Choice.{◌⇒◌else◌}
use Rattle.text.specs.Reading.{Verdict, calls, unreadable, pieces, line_count, first_bad, words_in, read_text, call_words, verdict_of}
use Rattle.text.specs.declared.number.Number.TheVariants.{Empty}
use Rattle.std.specs.Prelude.{Ok, Err}
use Rattle.text.specs.declared.reading.Unreadable.{Unreadable}
use Rattle.text.specs.declared.line.Lines.{Lines}
use Rattle.text.specs.Scan.{scan, fresh_lines, byte_in, rest_in, words_from}
use Rattle.text.proofs.Pieces.{parts}
use Rattle.text.proofs.Scans.{Counted, lines_law, Good, good, words_law, words_count}

pub long : (bytes : List ℕ) → 60000 < length bytes → read_text bytes ≡ unreadable 0
unfolding read_text
long bytes h = rw (lt-ltb 60000 (length bytes) h)

-- the verdict of bytes that are not too many, by their lines
verdict : ℕ → ℕ → List ℕ → Verdict
verdict ended bad ws = ltb 1000 ended ⇒ unreadable 1001 else (bad == 0) ⇒ calls ws else unreadable bad

module _ (bytes : List ℕ) (s : Lines) (short : length bytes ≤ 60000) (e : s ≡ rest_in (scan byte_in fresh_lines bytes)) where
  by_lines : read_text bytes ≡ verdict s.ended s.bad (words_in (pieces 10 bytes))
  unfolding read_text verdict
  by_lines =
      let c = subst (λ (t : Lines). Counted t 0 0 (pieces 10 bytes)) (sym e) (lines_law bytes) in
      let n : s.ended ≡ line_count (pieces 10 bytes) = omega (arith, c.count) in
      let b : s.bad ≡ first_bad 1 (pieces 10 bytes) = c.found in
      rw (le-ltb 60000 (length bytes) short, n, b)

  pub many : 1000 < s.ended → read_text bytes ≡ unreadable 1001
  unfolding verdict
  many h = by_lines ∙ rw (lt-ltb 1000 s.ended h)

  pub bad_line : s.ended ≤ 1000 → (s.bad ≡ 0 → ⊥) → read_text bytes ≡ unreadable s.bad
  unfolding verdict
  bad_line h n = by_lines ∙ rw (le-ltb 1000 s.ended h, ne_eqb s.bad 0 n)

  all_good : s.bad ≡ 0 → Good bytes
  all_good z = good (parts 10 bytes) 1 (omega arith) (sym (subst (λ (t : Lines). Counted t 0 0 (pieces 10 bytes)) (sym e) (lines_law bytes)).found ∙ z)

  pub readable : s.ended ≤ 1000 → s.bad ≡ 0 → read_text bytes ≡ calls (words_from Empty bytes)
  unfolding verdict
  readable h z = by_lines ∙ rw (le-ltb 1000 s.ended h, eq-eqb s.bad 0 z, words_law (all_good z))

  pub room : s.ended ≤ 1000 → s.bad ≡ 0 → length (words_from Empty bytes) ≤ 5000
  room h z =
      let c = subst (λ (t : Lines). Counted t 0 0 (pieces 10 bytes)) (sym e) (lines_law bytes) in
      omega (arith, c.count, ap length (words_law (all_good z)), words_count (all_good z))

-- what an answer tells
pub told_calls : (v : Verdict) (n : ℕ) → Ok n ≡ verdict_of v → (v ≡ calls (call_words v)) × (n ≡ length (call_words v))
told_calls (calls ws) n e = (refl, cc)
told_calls (unreadable k) n e = cc

pub told_unreadable : (v : Verdict) (u : Unreadable) → Err u ≡ verdict_of v → v ≡ unreadable u.0
told_unreadable (calls ws) u e = cc
told_unreadable (unreadable k) u e = cc
