-- Conflicts, as the places of their segments.
use Rattle.std.specs.Prelude.{◌≡◌, List, Option, Some, map}
use Rattle.std.specs.List.{slice_get}
use Rattle.std.specs.Option.{option_and_then}
use Rattle.osm_lattice.specs.declared.seg.Seg.{Seg}
use Rattle.osm_segments.specs.declared.pairs.Pair.{Pair}
use Rattle.osm_segments.specs.declared.places.Places.{Places}
use Rattle.osm_segments.specs.Pairs.{conflicts_of, pair_of}

-- the two segments at these places, if both are there and conflict
unfoldable pub pair_at : List Seg → Places → Option Pair
pair_at segs places = option_and_then (λ s. option_and_then (pair_of s) (slice_get segs places.second)) (slice_get segs places.first)

-- these are the places of all conflicts of a list, in order
abbrev pub AreConflictPlaces : List Seg → List Places → Type 0
AreConflictPlaces segs places = map (pair_at segs) places ≡ map Some (conflicts_of segs)
