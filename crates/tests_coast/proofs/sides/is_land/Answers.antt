-- The segments are those of the rings that are kept.
use Rattle.std.proofs.Common.{List, subst, sym}
use Rattle.coast_rings.specs.declared.ring.CoastRing.{CoastRing}
use Rattle.coast_sides.specs.KeptSegments.{AreKeptSegments}
use Rattle.tests_coast.proofs.sides.is_land.Goals as goal

pub land-requires-clause-segments : goal.land-requires-clause-segments
land-requires-clause-segments c = subst (λ (kept : List CoastRing). AreKeptSegments kept c.in_ok-sorted.segs) (sym c.as_slice-2.ensures) c.in_ok-sorted.ensures.segments
