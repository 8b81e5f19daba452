-- Edges along whole segments, packed. No public contract cites them.
use Rattle.std.specs.Prelude.{List, get_or, if◌then◌else◌, length, ℕ, ◌<◌, ◌≡◌}
use Rattle.osm_geom.specs.declared.edge.Carrier.TheVariants.{OfSeg}
use Rattle.osm_geom.specs.declared.edge.Edge.{Edge}
use Rattle.osm_geom.specs.declared.point.Point.TheVariants.{Lattice}
use Rattle.osm_rings.specs.declared.packed.Packed.{Packed}

-- e runs along the packed segment, from the end that is told
pub record IsPackedAs (e : Edge) (p : Packed) : Type 0 where
  pub carrier : e.carrier ≡ OfSeg p.seg
  pub from : e.from ≡ (if p.forward then Lattice p.seg.a else Lattice p.seg.b)
  pub to : e.to ≡ (if p.forward then Lattice p.seg.b else Lattice p.seg.a)

-- the first n edges of a list are packed
pub record AreFirstPacked (n : ℕ) (es : List Edge) (ps : List Packed) : Type 0 where
  pub long : length ps ≡ n
  pub each : (k : ℕ) (e : Edge) (p : Packed) → k < n → IsPackedAs (get_or es k e) (get_or ps k p)

-- all of them are
abbrev pub ArePacked : List Edge → List Packed → Type 0
ArePacked es ps = AreFirstPacked (length es) es ps
