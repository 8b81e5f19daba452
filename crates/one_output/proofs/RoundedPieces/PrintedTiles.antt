-- What is printed of leaves.
use Rattle.std.proofs.Common.{subst}
use Rattle.lists.specs.Member.{In}
use Rattle.lists.proofs.ListsKit.{all-in, in-all, in-map}
use Rattle.coast_split.specs.declared.leaves.Leaf.{Leaf}
use Rattle.job_coastline.specs.Pieces.{IsTile, Tile}
use Rattle.osm_nest.specs.Laws.{NestedCoverAsRings, RingsCountAsEdges, RingsMayBeNested}
use Rattle.osm_geom.specs.InPlane.Sided.{IsSided}
use Rattle.osm_nest.specs.ValidPolygons.Laws.{NestedPolygonsAreValid}
use Rattle.one_output.specs.RoundedPieces.Laws.{IsTilePrintedRight, LeavesArePrintedRight}
use Rattle.one_output.proofs.RoundedPieces.PrintedPolygons.{printed-all}

module _ (fit : RingsMayBeNested) (cover : NestedCoverAsRings) (counts : RingsCountAsEdges) (are-valid : NestedPolygonsAreValid) where
  tile-right : (tile : Tile) → IsSided tile.leaf.edges → IsTile tile → IsTilePrintedRight tile
  tile-right tile sided is = printed-all fit cover counts are-valid tile.leaf.edges sided is.rings is.cut tile.polygons is.nested

  pub tiles-right : LeavesArePrintedRight
  tiles-right leaves sided tiles are =
      all-in IsTilePrintedRight tiles (λ tile i.
      tile-right tile
      (in-all (λ (leaf : Leaf). IsSided leaf.edges) leaves tile.leaf sided (subst (In tile.leaf) are.of_leaves (in-map (λ (t : Tile). t.leaf) tiles tile i)))
      (in-all IsTile tiles tile are.made i))
