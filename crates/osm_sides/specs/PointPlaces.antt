-- Where a location lies relative to the segments that bound an area.
use Rattle.std.specs.Prelude.{Bool, List, false, length, nat_lt, not, slice_index_or, true, ℕ, ◌%◌, ◌<◌, ◌==◌, ◌≡◌, ◌≤◌}
use Rattle.std.specs.List.{count_by}
use lib.Signed.{lt_z}
use Rattle.plane.specs.RayCrossing.{is_off}
use Rattle.osm_lattice.specs.declared.loc.Loc.{Loc}
use Rattle.osm_lattice.specs.declared.seg.Seg.{Seg}
use Rattle.osm_lattice.specs.Loc.{vector_of}
use Rattle.osm_lattice.specs.Seg.{edge_of}
use Rattle.osm_sides.specs.SideTests.{left_count}
use Rattle.osm_sides.specs.declared.places.Place.{Place}
use Rattle.osm_sides.specs.declared.places.Place.TheVariants.{Off, In, On}

-- p lies on s, at an end of it or between its ends
unfoldable pub lies_on : Loc → Seg → Bool
lies_on p s = not (is_off (vector_of p) (edge_of s))

-- how many of the segments have p on them
abbrev pub on_count : Loc → List Seg → ℕ
on_count p segs = count_by (lies_on p) segs

-- by whether a segment has the location on it, and whether the number of segments right of it is odd
abbrev pub place_by_parity : Bool → Bool → Place
place_by_parity true odd = On
place_by_parity false true = In
place_by_parity false false = Off

abbrev pub place_among : Loc → List Seg → Place
place_among p segs = place_by_parity (nat_lt 0 (on_count p segs)) (left_count p segs % 2 == 1)

-- none of the locations lies below an earlier one
abbrev pub HeightsNeverFall : List Loc → Type 0
HeightsNeverFall points = (i j : ℕ) (d : Loc) → i ≤ j → j < length points → lt_z (slice_index_or points j d).y (slice_index_or points i d).y ≡ false
