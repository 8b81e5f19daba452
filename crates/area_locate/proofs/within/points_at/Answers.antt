-- One more point.
use Rattle.std.proofs.Common.{ap, arith, length, map, ◌∙◌}
use Rattle.std.specs.Prelude.{slice_index_or}
use Rattle.std.proofs.lemmas.List.{length_push, take_all}
use Rattle.area_locate.proofs.WithinPoints.{one_point_more}
use Rattle.area_locate.proofs.within.points_at.Goals as goal

pub loop-place-preserved : goal.loop-place-preserved
loop-place-preserved c =
    let points = c.args.points.now in let places = c.args.places.now in let k = c.loop-place.place-index in let old = c.loop-place.there.items in
    let long = ap length c.in_ok-push.ensures.items ∙ length_push old c.index-points-place.result in let was = c.loop-place.invariant.0 in (
      omega (arith, long, was),
      λ d. one_point_more points places k d old c.push.new.self.items c.index-points-place.result c.loop-place-test.true (c.requires k 0 c.loop-place-test.true) (c.loop-place.invariant.1 d) c.in_ok-push.ensures.items c.index-points-place.is,
    )

pub returns-clause-are : goal.returns-clause-are
returns-clause-are c d = c.loop-place.invariant.1 d ∙ ap (map (λ i. slice_index_or c.args.points.now i d)) (take_all c.loop-place.place-index c.args.places.now c.loop-place-test.false)
