-- The locations so far have their places, and the sweep stands at no height above the next one.
use Rattle.std.proofs.Common.{false, length, map, take, ◌<◌, ◌≡◌}
use Rattle.std.specs.Prelude.{slice_index_or}
use lib.Signed.{lt_z}
use Rattle.osm_lattice.specs.declared.loc.Loc.{Loc}
use Rattle.osm_sides.specs.PointPlaces.{place_among}
use Rattle.osm_sides.specs.Sweep.{IsSweptFrom}
use Rattle.osm_sides.proofs.places.places_along.Given as goal

abbrev pub invariant-loop-p : goal.invariant-loop-p
invariant-loop-p l =
    ((swept : IsSweptFrom l.segs l.ends l.progress.begun l.progress.left l.status)
    × ((d : Loc) → l.p-index < length l.points → lt_z (slice_index_or l.points l.p-index d).y swept.height.y ≡ false))
    × (l.places.items ≡ map (λ p. place_among p l.segs) (take l.p-index l.points))
