-- The ends of whole segments are lattice points.
use Rattle.std.proofs.Common.{◌≡◌, Bool, true, false, cond, refl, sym, subst}
use Rattle.osm_geom.specs.declared.edge.Edge.{Edge}
use Rattle.osm_lattice.specs.declared.loc.Loc.{Loc}
use Rattle.osm_geom.specs.declared.point.Point.{Point}
use Rattle.osm_geom.specs.declared.point.Point.TheVariants.{Lattice}
use Rattle.osm_geom.specs.WholeSegment.{IsWholeSegment}

abbrev pub IsLattice : Point → Type 0
IsLattice p = (q : Loc) × (p ≡ Lattice q)

lattice-by : (f : Bool) (a b : Loc) → IsLattice (cond f (Lattice a) (Lattice b))
lattice-by true a b = (a, refl)
lattice-by false a b = (b, refl)

pub from-lattice : (e : Edge) → IsWholeSegment e → IsLattice e.from
from-lattice e w = subst IsLattice (sym w.from) (lattice-by w.forward w.segment.a w.segment.b)

pub to-lattice : (e : Edge) → IsWholeSegment e → IsLattice e.to
to-lattice e w = subst IsLattice (sym w.to) (lattice-by w.forward w.segment.b w.segment.a)
