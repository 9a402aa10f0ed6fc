-- `type_rows::chain_over` meets its contract.
use native.Mathlib.Omega.{arith}
use Rattle.type_rows.proofs.RowLaws.{good_facts}
use Rattle.type_rows.proofs.Closing.{chain_word, chain_start, chain_turn, chain_end}
use Rattle.type_rows.proofs.chain_over.Goals as goal

pub bounds-words-k : goal.bounds-words-k
bounds-words-k c = omega (arith, (good_facts _ c.requires.rows_value).few)

pub loop-s-init : goal.loop-s-init
loop-s-init c =
    let a = c.args in
    let p = c.requires in
    let few = (good_facts _ p.rows_value).few in
    (few, chain_word a.rows.now a.k a.words.now p.words_value (omega arith), chain_start a.rows.now a.k a.words.now p.words_value)

pub loop-s-preserved : goal.loop-s-preserved
loop-s-preserved c =
    let l = c.loop-s in (
      l.invariant.0,
      l.invariant.1,
      chain_turn c.args.rows.now c.args.k l.words _ l.s _ c.requires.k_in_bounds (omega arith) l.invariant.1 c.chained.ensures l.invariant.2,
    )

pub returns : goal.returns
returns c = chain_end c.args.rows.now _ _ _ (omega arith) c.loop-s.invariant.2
