-- The sides of the world by name.
use Rattle.std.specs.Prelude.{Bool}
use Rattle.osm_lattice.specs.declared.loc.Loc.{Loc}
use Rattle.coast_rings.specs.Corners.{south_east, south_west}
use Rattle.coast_sides.specs.declared.side_nodes.WorldSide.{WorldSide}
use Rattle.coast_sides.specs.declared.side_nodes.WorldSide.TheVariants.{East, North, South, West}
use Rattle.coast_sides.specs.Water.{is_east, is_north, is_south, is_west, north_east, north_west}

-- a location is on the side
abbrev pub on_side : WorldSide → Loc → Bool
on_side South p = is_south p
on_side East p = is_east p
on_side North p = is_north p
on_side West p = is_west p

-- the lesser corner of the side, and the greater one
abbrev pub lesser_corner : WorldSide → Loc
lesser_corner South = south_west
lesser_corner East = south_east
lesser_corner North = north_west
lesser_corner West = south_west

abbrev pub greater_corner : WorldSide → Loc
greater_corner South = south_east
greater_corner East = north_east
greater_corner North = north_east
greater_corner West = north_west
