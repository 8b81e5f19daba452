-- A piece of land or of water, a line of a coastline output: its points are rounded, and rings that vanish so are left out.
use Rattle.std.specs.Prelude.{ℕ, not, List, ◌∷◌, ◌++◌, Option, Some, None, codes, filter, if◌then◌else◌, map}
use Rattle.std.specs.List.{filter_map}
use Rattle.osm_lattice.specs.declared.loc.Loc.{Loc}
use Rattle.osm_geom.specs.declared.edge.Edge.{Edge}
use Rattle.osm_nest.specs.declared.polygon.Polygon.{Polygon}
use Rattle.osm_nest.specs.Polygons.{rings_in}
use Rattle.osm_text.specs.declared.piece.PieceKind.{PieceKind}
use Rattle.osm_text.specs.declared.piece.PieceKind.TheVariants.{Land, Water}
use Rattle.osm_text.specs.Rounded.{has_vanished, rounded_ring, vanished_at}
use Rattle.osm_text.specs.Wkt.{polygon_wkt}

abbrev pub piece_kind_text : PieceKind → List ℕ
piece_kind_text Land = codes "land "
piece_kind_text Water = codes "water "

-- the line of these rings, the outer one first
abbrev pub piece_line : PieceKind → List (List Loc) → List ℕ
piece_line kind rings = piece_kind_text kind ++ codes "POLYGON" ++ polygon_wkt rings ++ codes "\n"

-- the inner rings that haven't vanished, rounded
abbrev pub holes_left : List (List Edge) → List (List Loc)
holes_left inners = map rounded_ring (filter (λ (ring : List Edge). not (has_vanished ring)) inners)

-- the line of a polygon; none where its outer ring has vanished
abbrev pub piece_text : PieceKind → Polygon → Option (List ℕ)
piece_text kind polygon =
    if has_vanished polygon.outer then None
    else Some (piece_line kind (rounded_ring polygon.outer ∷ holes_left polygon.inners))

-- where rings have vanished, the outer one first
abbrev pub vanished_in : Polygon → List Loc
vanished_in polygon = filter_map vanished_at (rings_in polygon)
