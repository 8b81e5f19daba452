use Rattle.std.proofs.Common.{sym}
use Rattle.std.proofs.lemmas.Bool.{eqb-false}
use Rattle.area_certify.specs.Lines.{text_lines}
use Rattle.area_certify.proofs.ToldLemmas.{lines_left, next_none, next_right, next_wrong}
use Rattle.area_certify.proofs.certifying.compare.Goals as goal
use Rattle.area_certify.proofs.certifying.compare.Goals.{in-NoArea, in-Right}

pub returns-in-Wrong : goal.returns-in-Wrong
returns-in-Wrong c =
    next_wrong c.args.ids c.args.store.now (text_lines c.args.text.now) c.args.candidates.now
    c.loop-candidate.candidate-index c.loop-candidate.right c.loop-candidate.rest
    c.loop-candidate.invariant.1 _ c.loop-candidate-test.true _ c.in_ok-tell.ensures c.outcome_exists.ensures c.has_area_exactly.ensures c.in-Wrong.is

pub loop-candidate-preserved : goal.loop-candidate-preserved
loop-candidate-preserved c =
    elim c.match-branch-2.branch [
      | in-NoArea w ↦
          next_none c.args.ids c.args.store.now (text_lines c.args.text.now) c.args.candidates.now
          c.loop-candidate.candidate-index c.loop-candidate.right c.loop-candidate.rest
          c.loop-candidate.invariant.1 _ c.loop-candidate-test.true _ c.in_ok-tell.ensures c.match-branch-2.rest c.match-branch-2.right w.rest-is w.right-is
          c.loop-candidate.invariant.0 w.in-NoArea.is
      | in-Right w ↦
          next_right c.args.ids c.args.store.now (text_lines c.args.text.now) c.args.candidates.now
          c.loop-candidate.candidate-index c.loop-candidate.right c.loop-candidate.rest
          c.loop-candidate.invariant.1 _ c.loop-candidate-test.true _ c.in_ok-tell.ensures
          c.match-branch-2.rest w.in-Right.left c.match-branch-2.right w.rest-is w.right-is
          c.loop-candidate.invariant.0 w.in-Right.is
    ]

pub returns-else-is_empty : goal.returns-else-is_empty
returns-else-is_empty c =
    lines_left c.args.ids c.args.store.now (text_lines c.args.text.now) c.args.candidates.now
    c.loop-candidate.candidate-index c.loop-candidate.right c.loop-candidate.rest
    c.loop-candidate.invariant.1 c.loop-candidate-test.false (eqb-false _ _ (sym c.if-is_empty.ensures))
