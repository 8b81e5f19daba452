-- The segments of a candidate.
use Rattle.std.specs.Prelude.{List, [], ℤ, drop}
use Rattle.std.specs.List.{filter_map, flat_map, zip}
use Rattle.std.specs.Option.{option_map_or}
use Rattle.osm_lattice.specs.declared.loc.Loc.{Loc}
use Rattle.osm_lattice.specs.declared.seg.Seg.{Seg}
use Rattle.osm_lattice.specs.Seg.{segment_between}
use Rattle.osm_elements.specs.declared.object.ObjectRef.{ObjectRef}
use Rattle.osm_elements.specs.declared.object.Object.{Object}
use Rattle.osm_objects.specs.Objects.{way_of, place_of}
use Rattle.osm_area.specs.MemberWays.{member_ways}

-- each location of a line with the next
abbrev pub neighbours : List Loc → List (Loc × Loc)
neighbours path = zip path (drop 1 path)

-- the segments that a line passes
abbrev pub segments_along : List Loc → List Seg
segments_along path = filter_map (λ step. segment_between step.0 step.1) (neighbours path)

-- the locations of a way's references, in order
abbrev pub path_of : List Object → ℤ → List Loc
path_of objects way = option_map_or (λ w. filter_map (place_of objects) w.refs) (way_of objects way) []

-- the segments of a way: the pairs of neighbouring different locations
unfoldable pub way_segments : List Object → ℤ → List Seg
way_segments objects way = segments_along (path_of objects way)

-- the segments of the member ways, one way after the other
abbrev pub candidate_segments : List Object → ObjectRef → List Seg
candidate_segments objects candidate = flat_map (way_segments objects) (member_ways objects candidate)
