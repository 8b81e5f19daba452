-- All that is told of a coastline has a line, since segments that cross have a point in common.
use Rattle.std.proofs.Common.{refl}
use Rattle.osm_lattice.specs.declared.conflicts.Kind.TheVariants.{Crossing, Overlap}
use Rattle.osm_lattice.specs.Frac.{rounded}
use Rattle.osm_lattice.specs.MeetingLaws.{CrossingSegmentsMeet}
use Rattle.osm_notation.specs.Coordinates.{xy_text}
use Rattle.osm_text.specs.Report.{IsMeetingText}
use Rattle.osm_text.specs.Coast.{CoastLineExists}
use Rattle.osm_text.specs.declared.coast.CoastLine.TheVariants.{Missing, Short, Antarctica, Gap, Unclosed, Cut, LeftOut, Conflict, Repeated, WrongWay, Large, Vanished}

pub coast_line_there : CrossingSegmentsMeet → CoastLineExists
coast_line_there meet (Missing way node) h = (_, (_, refl, refl))
coast_line_there meet (Short way) h = (_, (_, refl, refl))
coast_line_there meet (Antarctica chain) h = (_, (_, refl, refl))
coast_line_there meet (Gap end_at start_at) h = (_, (_, refl, refl))
coast_line_there meet (Unclosed chain start_at end_at) h = (_, (_, refl, refl))
coast_line_there meet (Cut ring from to) h = (_, (_, refl, refl))
coast_line_there meet (LeftOut ring) h = (_, (_, refl, refl))
coast_line_there meet (Conflict Crossing s t) h =
    let point = meet s t h in
    let text = xy_text (rounded point.x.num point.x.den) (rounded point.y.num point.y.den) in
    let is : IsMeetingText s t text = record { x = point.x; y = point.y; on_first = point.on_first; on_second = point.on_second; text_is = refl } in
    (_, (_, (text, is, refl), refl))
coast_line_there meet (Conflict Overlap s t) h = (_, (_, refl, refl))
coast_line_there meet (Repeated seg times) h = (_, (_, refl, refl))
coast_line_there meet (WrongWay ring) h = (_, (_, refl, refl))
coast_line_there meet (Large points) h = (_, (_, refl, refl))
coast_line_there meet (Vanished at) h = (_, (_, refl, refl))
