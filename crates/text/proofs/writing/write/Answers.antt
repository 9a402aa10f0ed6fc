use Rattle.decimal.proofs.Stores.{written_as}
use Rattle.text.proofs.Texts.{written_none, bounded_answers, bounded_image, bounded_whole}
use Rattle.text.proofs.writing.write.Goals.{then-codes-gt-MOST_CODES-via-then-codes-gt-MOST_CODES, then-codes-gt-MOST_CODES-via-else-codes-gt-MOST_CODES+then-image-gt-MOST_IMAGE}
use Rattle.text.proofs.writing.write.Goals as goal

pub returns-then-codes-gt-MOST_CODES : goal.returns-then-codes-gt-MOST_CODES
returns-then-codes-gt-MOST_CODES c = let a = c.args in elim c.then-codes-gt-MOST_CODES.branch [
  | then-codes-gt-MOST_CODES-via-then-codes-gt-MOST_CODES w ↦ written_none (bounded_answers a.codes.now a.image.now w.if-codes-gt-MOST_CODES.true)
  | then-codes-gt-MOST_CODES-via-else-codes-gt-MOST_CODES+then-image-gt-MOST_IMAGE w ↦
      written_none (bounded_image a.codes.now a.image.now w.if-codes-gt-MOST_CODES.false w.if-image-gt-MOST_IMAGE.true)
]

pub returns : goal.returns
returns c =
    let a = c.args in
    written_as _ _ c.lines.result _ _ (bounded_whole a.codes.now a.image.now c.if-codes-gt-MOST_CODES.false c.if-image-gt-MOST_IMAGE.false) c.lines.ensures
