-- Rounded rings as the functions that find them see them. No public contract cites it.
use Rattle.std.specs.Prelude.{Option, Some, None, if◌then◌else◌}
use Rattle.osm_lattice.specs.declared.loc.Loc.{Loc}
use Rattle.osm_geom.specs.declared.edge.Edge.{Edge}
use Rattle.osm_text.specs.Rounded.{is_same, location_near, start_near}

-- the location next to the point that an edge enters
abbrev pub end_near : Edge → Loc
end_near edge = location_near edge.to edge.to_in

-- where an edge leaves one location for another
abbrev pub location_left : Edge → Option Loc
location_left edge = if is_same (start_near edge) (end_near edge) then None else Some (start_near edge)
