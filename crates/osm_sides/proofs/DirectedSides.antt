-- What the odd side gives is sided, and counts the parity.
use Rattle.std.proofs.Common.{List, [], pos, ◌≡◌, ◌∙◌, ap, sym, subst}
use Rattle.plane.specs.Scale.{scaled_point}
use Rattle.plane.specs.Vector.{east}
use Rattle.plane.proofs.PlaneKit.{point-once}
use Rattle.plane_lists.specs.Lists.EdgeList.{winding_number}
use Rattle.plane_lists.specs.Lists.OddSide.{directed}
use Rattle.plane_lists.specs.Lists.ScaledEdges.{scaled_edges}
use Rattle.plane_lists.specs.Lists.Sided as winding
use Rattle.plane_lists.proofs.WindingKit.{rational_count, directed_sided}
use Rattle.osm_geom.specs.declared.edge.Edge.{Edge}
use Rattle.osm_lattice.specs.declared.seg.Seg.{Seg}
use Rattle.osm_lattice.specs.Seg.{seg_cmp}
use Rattle.lists.specs.Rising.{IsRising}
use Rattle.osm_segments.specs.Pairs.{conflicts_of}
use Rattle.osm_geom.specs.InPlane.Multiple.{whole_edges}
use Rattle.osm_geom.specs.InPlane.Sided.{IsSided}
use Rattle.osm_geom.specs.InPlane.SidedLaws.{IsLattice}
use Rattle.osm_geom.proofs.EdgesKit.{common-lattice, lattice_whole}
use Rattle.osm_sides.specs.Directions.{AreDirected, CountsParity}
use Rattle.osm_segments.specs.Counts.{HasEvenNodes}
use Rattle.osm_sides.specs.Survivors.{plane_edges_of}
use Rattle.osm_sides.proofs.PlaneEdges.{lattice_edges, plane_edges}
use Rattle.osm_sides.proofs.Survivors.{conflict_free, even_points}

module _ (ss : List Seg) (es : List Edge) (rising : IsRising seg_cmp ss) (clear : conflicts_of ss ≡ []) (even : HasEvenNodes ss) (d : AreDirected ss es) where
  lattice : IsLattice es
  lattice = lattice_edges ss ss es d.firsts d.lasts

  plane_is : whole_edges es ≡ directed (plane_edges_of ss)
  plane_is = lattice_whole es lattice ∙ plane_edges ss ss es d.firsts d.lasts

  pub directed_is_sided : IsSided es
  directed_is_sided = subst winding.IsSided (sym plane_is) (directed_sided (plane_edges_of ss) (conflict_free ss rising clear) (even_points ss even))

  pub directed_counts : CountsParity ss es
  directed_counts q some p =
      ap (λ k. winding_number east (scaled_point (pos k) p) (scaled_edges q (whole_edges es))) (common-lattice es lattice)
      ∙ ap (λ v. winding_number east v (scaled_edges q (whole_edges es))) (point-once p)
      ∙ ap (λ xs. winding_number east p (scaled_edges q xs)) plane_is
      ∙ rational_count q some p (plane_edges_of ss) (conflict_free ss rising clear) (even_points ss even)
