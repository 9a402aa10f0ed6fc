use mathlib.Core.Path.{sym, ap, ◌∙◌}
use Prim.Native.Nat.{ℕ}
use mathlib.Core.List.{List}
use native.Mathlib.Omega.{arith}
use lib.ListN.{length}
use lib.Seq.{take_all}
use Rattle.image.specs.Image.{load}
use Rattle.reduction.proofs.ReductionLaws.{searching}
use Rattle.reduction.specs.Trials.{last_code, calls_at}
use Rattle.reduction.proofs.TrialLaws.{ready_again, front_numbered, Stepped, search_state, search_step, search_starts, search_left}
use Rattle.reduction.proofs.search.Goals.{After-next_search-s}
use Rattle.reduction.proofs.search.Goals as goal

stepped : (c : After-next_search-s) → Stepped c.args.calls.now c.next_search-s.new.kept c.loop-s.s c.next_search-s.result
stepped c =
    let d = c.next_search-s in
    search_state _ _ _ _ _ c.args.wanted c.trial-code.result c.loop-s.invariant.numbered c.loop-s-test.true d.auto.kept d.ensures.dropped
    d.ensures.needed

pub loop-s-init : goal.loop-s-init
loop-s-init c =
    let kept = c.args.kept.now in
    let few = c.requires.numbered.few in record {
      inside = omega arith;
      fewer = omega arith;
      numbered = c.requires.numbered;
      runs = omega arith;
      searched = λ w h e.
          ap (λ (l : List ℕ). searching (last_code w (load c.args.start.now)) c.args.wanted 0 (calls_at c.args.calls.now l) 1) (take_all (length kept) kept (omega arith))
          ∙ search_starts (last_code w (load c.args.start.now)) _ _ e;
    }

pub trial-code-requires : goal.trial-code-requires
trial-code-requires c =
    let p = c.requires.can_try in
    let l = c.loop-s in record {
      can_try = (p.0, ready_again p.0 _ _ _ _ _ _ p.1 _ _ _ l.auto.vertices l.auto.edges l.auto.journal);
      numbered = front_numbered _ _ _ l.invariant.numbered;
    }

pub overflow_add-runs : goal.overflow_add-runs
overflow_add-runs c = omega (arith, (stepped (goal.at.overflow_add-runs c).After-next_search-s).less, c.loop-s.invariant.runs)

pub loop-s-smaller : goal.loop-s-smaller
loop-s-smaller c = omega (arith, (stepped (goal.at.loop-s-smaller c).After-next_search-s).less)

pub loop-s-preserved : goal.loop-s-preserved
loop-s-preserved c =
    let l = c.loop-s in
    let a = c.args in
    let d = c.next_search-s in
    let t = c.trial-code in
    let g = stepped (goal.at.loop-s-preserved c).After-next_search-s in record {
      inside = g.inside;
      fewer = omega (arith, g.fewer, l.invariant.fewer);
      numbered = g.numbered;
      runs = omega (arith, g.less, l.invariant.runs);
      searched = λ w h e.
          sym (search_step a.calls.now l.kept d.new.kept l.s d.result a.wanted t.result l.invariant.numbered
          c.loop-s-test.true d.auto.kept d.ensures.dropped d.ensures.needed
          (last_code w (load a.start.now)) l.runs (t.ensures w (ready_again w _ _ _ _ _ _ h _ _ _ l.auto.vertices l.auto.edges l.auto.journal)))
          ∙ l.invariant.searched w h e;
    }

pub returns : goal.returns
returns c =
    let l = c.loop-s in
    let a = c.args in
    λ w h e. search_left (last_code w (load a.start.now)) a.wanted a.calls.now l.kept l.s _ l.runs _ l.invariant.numbered l.invariant.fewer l.invariant.inside
    (omega (arith, c.loop-s-test.false)) (l.invariant.searched w h e)

pub overflow_add-s : goal.overflow_add-s
overflow_add-s c = omega (arith, c.loop-s.invariant.inside, c.loop-s.invariant.numbered.few)
