-- The first place at which the point is left.
use Rattle.std.proofs.Common.{length, ◌≡◌, ◌∙◌, arith, sym}
use Rattle.osm_rings.proofs.ApartEdges.{first-found, none-found, none-more}
use Rattle.osm_rings.proofs.few.walks.place_leaving.Goals as goal

pub loop-place-init : goal.loop-place-init
loop-place-init c = λ i d below. absurd (omega arith)

pub returns-then-is_same_point : goal.returns-then-is_same_point
returns-then-is_same_point c = first-found c.args.edges.now c.loop-place.place c.index-edges-place.result c.loop-place-test.true c.index-edges-place.is c.args.p.now (sym c.is_same_point.ensures ∙ c.if-is_same_point.true) c.loop-place.invariant

pub loop-place-preserved : goal.loop-place-preserved
loop-place-preserved c = none-more c.args.edges.now c.loop-place.place c.index-edges-place.result c.loop-place-test.true c.index-edges-place.is c.args.p.now (sym c.is_same_point.ensures ∙ c.if-is_same_point.false) c.loop-place.invariant

pub returns : goal.returns
returns c = none-found c.args.edges.now c.args.p.now c.loop-place.place (let whole : c.loop-place.place ≡ length c.args.edges.now = omega arith in whole) c.loop-place.invariant
