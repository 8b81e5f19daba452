-- Of an outcome: the parity of its rings.
use Rattle.std.proofs.Common.{All}
use Rattle.std.specs.Prelude.{List}
use Rattle.osm_elements.specs.declared.object.Object.{Object}
use Rattle.osm_elements.specs.declared.object.ObjectRef.{ObjectRef}
use Rattle.osm_geom.specs.WholeSegment.{IsWholeSegment}
use Rattle.osm_nest.specs.Polygons.{rings_of}
use Rattle.osm_area.specs.declared.outcome.Outcome.{Outcome}
use Rattle.osm_area.specs.declared.outcome.Outcome.TheVariants as outcome
use Rattle.osm_area.specs.Outcome.{IsOutcome, KeepsParity, polygons_in}
use Rattle.osm_area.proofs.AreaLemmas.{area_parity}
use Rattle.osm_area.proofs.WholeRings.{rings_lattice}

pub keeps_parity : (objects : List Object) (candidate : ObjectRef) (o : Outcome) → IsOutcome objects candidate o → All (All IsWholeSegment) (rings_of (polygons_in o)) → KeepsParity objects candidate o
keeps_parity objects candidate (outcome.Problems list notes) is whole = tt
keeps_parity objects candidate (outcome.Area polygons notes) is whole =
    let among = is.1 in (among.0, (among.1.0, area_parity among.0 polygons (rings_lattice (rings_of polygons) whole) among.1.1))
