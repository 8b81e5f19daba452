use Rattle.std.proofs.Common.{sym}
use Rattle.std.proofs.lemmas.Bool.{eqb-false}
use Rattle.area_certify.proofs.LineCuts.{cut_first, cut_left}
use Rattle.area_certify.proofs.lines.first_line.Goals as goal

pub returns-in-Some : goal.returns-in-Some
returns-in-Some c =
    cut_first c.args.text.now c.split_at.result.0.now c.split_at.result.1.now c.in-Some.end
    c.in-Some.ensures.0 c.in-Some.ensures.1 c.split_at.ensures.front c.split_at.ensures.back

pub returns-in-None : goal.returns-in-None
returns-in-None c =
    cut_left c.args.text.now c.split_at-in-None.result.0.now c.split_at-in-None.result.1.now (eqb-false _ _ (sym c.if-is_empty.ensures)) c.in-None.ensures
    c.split_at-in-None.ensures.front c.split_at-in-None.ensures.back
