use Prim.Native.Nat.{ℕ, ◌<◌}
use mathlib.Core.Path.{◌≡◌, refl, sym, ap, ◌∙◌}
use mathlib.Core.List.{List}
use native.Mathlib.Omega.{arith}
use lib.ListN.{length}
use Rattle.std.specs.Prelude.{Some}
use Rattle.lists.specs.Lists.{overwritten}
use Rattle.decimal.proofs.Stores.{rest_all}
use Rattle.text.specs.Scan.{words_from}
use Rattle.text.specs.ImageLine.{other, read_image}
use Rattle.text.specs.declared.number.Number.TheVariants.{Empty}
use Rattle.text.proofs.ImageLines.{framed_is, unframed_other, no_words, unspaced_other, numbers_other, numbers_read, numbers_room}
use Rattle.text.proofs.image_line.read_image.Goals.{then-bytes-ne32-via-then-bytes-ne32, then-bytes-ne32-via-else-bytes-ne32+then-not-are_numbers}
use Rattle.text.proofs.image_line.read_image.Goals as goal

pub returns-then-not-is_framed : goal.returns-then-not-is_framed
returns-then-not-is_framed c =
    let e = unframed_other c.args.bytes.now (sym c.is_framed.ensures ∙ c.if-not-is_framed.true) in
    record { verdict = rw e refl; words = rw e refl }

pub overflow_sub-end : goal.overflow_sub-end
overflow_sub-end c =
    let f = framed_is c.args.bytes.now (sym c.is_framed.ensures ∙ c.if-not-is_framed.false) in
    omega (arith, f.least)

pub returns-then-end-eq5 : goal.returns-then-end-eq5
returns-then-end-eq5 c =
    let f = framed_is c.args.bytes.now (sym c.is_framed.ensures ∙ c.if-not-is_framed.false) in
    let e = no_words c.args.bytes.now f (omega (arith, f.least)) in
    record { verdict = rw e refl; words = rw e refl }

pub bounds-bytes-5 : goal.bounds-bytes-5
bounds-bytes-5 c =
    let f = framed_is c.args.bytes.now (sym c.is_framed.ensures ∙ c.if-not-is_framed.false) in
    omega (arith, f.least)

pub returns-then-bytes-ne32 : goal.returns-then-bytes-ne32
returns-then-bytes-ne32 c =
    let bytes = c.args.bytes.now in
    let f = framed_is bytes (sym c.is_framed.ensures ∙ c.if-not-is_framed.false) in
    let h : 6 < length bytes = omega (arith, f.least) in
    let e : read_image bytes ≡ other = elim c.then-bytes-ne32.branch [
      | then-bytes-ne32-via-then-bytes-ne32 w ↦ unspaced_other bytes f h w.if-bytes-ne32.true
      | then-bytes-ne32-via-else-bytes-ne32+then-not-are_numbers w ↦
          numbers_other bytes f h w.if-bytes-ne32.false (sym w.are_numbers.ensures ∙ w.if-not-are_numbers.true)
    ] in
    record { verdict = rw e refl; words = rw e refl }

pub words-requires : goal.words-requires
words-requires c =
    let bytes = c.args.bytes.now in
    let f = framed_is bytes (sym c.is_framed.ensures ∙ c.if-not-is_framed.false) in
    let h : 6 < length bytes = omega (arith, f.least) in
    let k = numbers_room bytes f h c.if-bytes-ne32.false (sym c.are_numbers.ensures ∙ c.if-not-are_numbers.false) in
    omega (arith, k, ap (λ (l : List ℕ). length (words_from Empty l)) (rest_all bytes 6))

pub returns : goal.returns
returns c =
    let bytes = c.args.bytes.now in
    let f = framed_is bytes (sym c.is_framed.ensures ∙ c.if-not-is_framed.false) in
    let h : 6 < length bytes = omega (arith, f.least) in
    let e = numbers_read bytes f h c.if-bytes-ne32.false (sym c.are_numbers.ensures ∙ c.if-not-are_numbers.false) in
    let w = c.words in
    record {
      verdict = rw e (ap Some (w.ensures.count ∙ ap (λ (l : List ℕ). length (words_from Empty l)) (rest_all bytes 6)));
      words = rw e (w.ensures.calls_after ∙ ap (λ (l : List ℕ). overwritten (words_from Empty l) c.args.out.now) (rest_all bytes 6));
    }
