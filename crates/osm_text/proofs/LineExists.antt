-- Every problem has a line, since segments that cross have a point in common.
use Rattle.std.proofs.Common.{refl}
use Rattle.osm_lattice.specs.declared.conflicts.Kind.TheVariants.{Crossing, Overlap}
use Rattle.osm_lattice.specs.Frac.{rounded}
use Rattle.osm_lattice.specs.MeetingLaws.{CrossingSegmentsMeet}
use Rattle.osm_objects.specs.declared.problem.Problem.TheVariants.{MissingWay, MissingNode, Nothing, Conflict, Odd}
use Rattle.osm_text.specs.Report.{IsMeetingText, ProblemLineExists}
use Rattle.osm_notation.specs.Coordinates.{xy_text}

pub line_exists : CrossingSegmentsMeet → ProblemLineExists
line_exists meet of (MissingWay id) h = (_, (_, refl, refl))
line_exists meet of (MissingNode id) h = (_, (_, refl, refl))
line_exists meet of Nothing h = (_, (_, refl, refl))
line_exists meet of (Conflict Crossing s t) h =
    let point = meet s t h in
    let text = xy_text (rounded point.x.num point.x.den) (rounded point.y.num point.y.den) in
    let is : IsMeetingText s t text = record { x = point.x; y = point.y; on_first = point.on_first; on_second = point.on_second; text_is = refl } in
    (_, (_, (text, is, refl), refl))
line_exists meet of (Conflict Overlap s t) h = (_, (_, refl, refl))
line_exists meet of (Odd at) h = (_, (_, refl, refl))
