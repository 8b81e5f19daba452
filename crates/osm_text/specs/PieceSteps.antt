-- Pieces as the functions that print them see them. No public contract cites it.
use Rattle.std.specs.Prelude.{ℕ, List, [], ◌∷◌, if◌then◌else◌}
use Rattle.osm_geom.specs.declared.edge.Edge.{Edge}
use Rattle.osm_text.specs.Rounded.{has_vanished, rounded_ring}
use Rattle.osm_text.specs.Wkt.{ring_wkt}

-- a hole behind a comma, unless it has vanished
abbrev pub hole_text : List Edge → List ℕ
hole_text ring = if has_vanished ring then [] else 44 ∷ ring_wkt (rounded_ring ring)
