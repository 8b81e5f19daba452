-- By the candidate's area, or by that it has none.
use Rattle.std.proofs.Common.{IsSome, List, Option, ap, is_some, subst}
use Rattle.osm_area.specs.Outcome.{IsAreaOf}
use Rattle.osm_nest.specs.declared.polygon.Polygon.{Polygon}
use Rattle.area_certify.specs.Lines.{text_lines}
use Rattle.area_certify.proofs.ToldLemmas.{told_wrong}
use Rattle.area_certify.proofs.telling.tell.Goals as goal

pub returns : goal.returns
returns c =
    let area = subst (λ (o : Option (List Polygon)). IsAreaOf c.args.store.now c.args.candidate o) c.in-Some.is c.in_ok-polygons.ensures.outcome in
    let sound = c.in_ok-polygons.ensures.sound.0 (ap is_some c.in-Some.is) in
    told_wrong c.args.ids c.args.store.now c.args.counter c.args.candidate c.in-Some.polygons sound area (text_lines c.args.text.now) c.outcome_is_one.ensures
    c.in-Some-first_line.line.now c.in-Some-first_line.rest c.in-Some-first_line.ensures
    (let is = c.in_ok-is_feature.ensures in let no = c.if-branch.false in cc)
