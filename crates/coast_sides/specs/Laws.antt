-- Laws of closed lines, as statements.
use Rattle.std.specs.Prelude.{List}
use Rattle.osm_lattice.specs.declared.seg.Seg.{Seg}
use Rattle.osm_segments.specs.Counts.{AreSurvivors}
use Rattle.osm_segments.specs.Counts.{HasEvenNodes}
use Rattle.coast_rings.specs.declared.ring.CoastRing.{CoastRing}
use Rattle.coast_sides.specs.Segments.{all_segments}

-- what is left of the segments of rings is even at each location
abbrev pub CancellingKeepsEven : Type 0
CancellingKeepsEven = (rings : List CoastRing) (survivors : List Seg) → AreSurvivors (all_segments rings) survivors → HasEvenNodes survivors
