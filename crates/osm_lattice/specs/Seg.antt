-- Segments: their order, the edges of the plane that they are, and the one between two locations.
use Rattle.std.specs.Prelude.{◌≡◌, refl, Option, Some, None}
use Rattle.std.specs.declared.cmp.Ordering.{Ordering}
use Rattle.std.specs.declared.cmp.Ordering.TheVariants.{Less}
use Rattle.std.specs.Ordering.{on, then_cmp}
use Rattle.plane.specs.Edge.{Edge}
use Rattle.osm_lattice.specs.declared.loc.Loc.{Loc}
use Rattle.osm_lattice.specs.declared.seg.Seg.{Seg}
use Rattle.osm_lattice.specs.Loc.{loc_cmp, vector_of}

-- the order of segments: by a, then by b
abbrev pub seg_cmp : Seg → Seg → Ordering
seg_cmp = then_cmp (on (λ s. s.a) loc_cmp) (on (λ s. s.b) loc_cmp)

-- the edge of the plane that s is, from its lesser end to its greater one
abbrev pub edge_of : Seg → Edge
edge_of s = record { from = vector_of s.a; to = vector_of s.b }

-- p comes before q or after it, and the lesser comes first; none if they are one
abbrev pub segment_by : (p q : Loc) (forth back : Ordering) → loc_cmp p q ≡ forth → loc_cmp q p ≡ back → Option Seg
segment_by p q Less back before after = Some (record { a = p; b = q; rising = before })
segment_by p q forth Less before after = Some (record { a = q; b = p; rising = after })
segment_by p q forth back before after = None

-- the segment between two locations
unfoldable pub segment_between : Loc → Loc → Option Seg
segment_between p q = segment_by p q (loc_cmp p q) (loc_cmp q p) refl refl
