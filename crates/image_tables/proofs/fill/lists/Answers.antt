use mathlib.Core.Path.{sym, ◌∙◌, subst}
use mathlib.Core.List.{List, [], ◌∷◌}
use native.Mathlib.Omega.{arith}
use Rattle.std.proofs.Common.{rules}
use Rattle.lists.specs.Lists.{concat_map}
use Rattle.graph.specs.Graph.{Vertex}
use Rattle.image.specs.Image.{incidences_of, load}
use Rattle.graph_tables.specs.Tables.{state_of}
use Rattle.graph_tables.specs.Holds.{Core}
use Rattle.image_tables.proofs.Walks.{each_one}
use Rattle.image_tables.proofs.Parts.{given}
use Rattle.image_tables.proofs.Fills.{fill_start, fill_turn, fill_end}
use Rattle.image_tables.proofs.FillLists.{WCore, filled_all, turn_can, turn_next}
use Rattle.image_tables.proofs.fill.lists.Goals as goal

pub loop-w-init : goal.loop-w-init
loop-w-init c =
    let a = c.args in (
      search rules,
      fill_start (λ x. x ∷ []) (WCore (load a.words.now)) (concat_map incidences_of (load a.words.now).vseq) _ _
          (c.part-w-items.ensures.0 ∙ (given a.words.now _ _ c.requires.can).lists ∙ sym (each_one _)) c.requires.core,
    )

pub word-requires : goal.word-requires
word-requires c =
    let a = c.args in
    let l = c.loop-w in (
      a.head,
      turn_can a.words.now _ _ c.requires.can _ _ _
          (fill_turn (λ x. x ∷ []) (WCore (load a.words.now)) (concat_map incidences_of (load a.words.now).vseq) _ _ _ l.invariant.1 c.loop-w-test.true),
    )

pub loop-w-preserved : goal.loop-w-preserved
loop-w-preserved c =
    let a = c.args in
    let l = c.loop-w in (
      search rules,
      turn_next a.words.now _ _ c.requires.can _ _ _
          (fill_turn (λ x. x ∷ []) (WCore (load a.words.now)) (concat_map incidences_of (load a.words.now).vseq) _ _ _ l.invariant.1 c.loop-w-test.true) _ (c.word.ensures.added a.head),
    )

pub returns-clause-core : goal.returns-clause-core
returns-clause-core c =
    let a = c.args in
    let l = c.loop-w in
    let g = load a.words.now in
    subst (λ (vs : List Vertex). Core (state_of a.head l.tables) vs g.eseq)
    (filled_all g (given a.words.now _ _ c.requires.can).formed)
    (fill_end (λ x. x ∷ []) (WCore g) (concat_map incidences_of g.vseq) _ _ _ (λ x. omega arith) l.invariant.1 c.loop-w-test.false)
