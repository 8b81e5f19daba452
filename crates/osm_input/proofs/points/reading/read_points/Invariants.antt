use Rattle.std.specs.Option.{option_copied}
use Rattle.osm_input.specs.PointLines.LineSteps.{len_left}
use Rattle.osm_input.proofs.PointLines.ReadLines.{ReadTo}
use Rattle.osm_input.proofs.points.reading.read_points.Given as goal

abbrev pub invariant-loop-left : goal.invariant-loop-left
invariant-loop-left l = ReadTo l.text l.left l.number l.points.items

abbrev pub decreases-loop-left : goal.decreases-loop-left
decreases-loop-left l = len_left (option_copied l.left)
